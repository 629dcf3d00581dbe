use Rattle.std.proofs.Common.{◌∙◌, ap}
use Rattle.lane_core.specs.Starts.{is_start_at}
use Rattle.lane_core.proofs.Naming.{searched}
use Rattle.lane_core.proofs.starts.Starts.has.Goals as goal

pub returns : goal.returns
returns c =
    c.is_ok.ensures.value
    ∙ searched c.as_slice.result.now c.args.x c.args.y c.binary_search.result (rw c.as_slice.ensures c.args.self.now.in_order) c.binary_search.ensures.bound c.binary_search.ensures.position
    ∙ ap (λ names. is_start_at names c.args.x c.args.y) c.as_slice.ensures
