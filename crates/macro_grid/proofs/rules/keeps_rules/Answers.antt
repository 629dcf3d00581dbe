use Rattle.std.proofs.Common.{rules}
use Rattle.macro_grid.proofs.rules.keeps_rules.Goals as goal
use Rattle.lane_core.proofs.Lookup.{columns_apart}

pub returns : goal.returns
returns c = (
  λ yes. record {
    size = search rules;
    instrs = search rules;
    apart = columns_apart _;
    ins = search rules;
    outs = search rules;
    nets = search rules;
    tape = search rules;
  },
  λ h. (let tape = h.tape in search rules),
)
