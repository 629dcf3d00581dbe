use Rattle.std.proofs.Common.{◌∙◌, ap}
use Rattle.gate_laws.specs.Drawings.{in_at}
use Rattle.gate_library.specs.Lawful.{own_cell}
use Rattle.gate_library.proofs.Tested.{kept_apart}
use Rattle.gate_library.proofs.testing.keeps_apart.Goals as goal

pub returns : goal.returns
returns c = λ t.
    let first = ap own_cell (c.in_at-first.ensures ∙ ap (λ ins. in_at ins 0) c.as_slice-ins.ensures) in
    let second = ap own_cell (c.in_at-second.ensures ∙ ap (λ ins. in_at ins 1) c.as_slice-ins.ensures) in
    kept_apart c.args.d.now c.as_slice-cells.result.now (own_cell c.in_at-first.result) (own_cell c.in_at-second.result) c.as_slice-outs.result.now c.as_slice-cells.ensures first second c.as_slice-outs.ensures (c.keeps_crossing_law.ensures t)
