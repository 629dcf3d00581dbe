use Rattle.std.proofs.Common.{◌≡◌, subst, length, ◌<◌, arith}
use Rattle.netlist_core.specs.declared.model.Model.{Model}
use Rattle.std.proofs.Common.{ap}
use Rattle.model_index.specs.Numbers.{subckts_of}
use Rattle.model_index.proofs.Naming.{line_within, lines_at}
use Rattle.model_circles.proofs.ranking.never_rises_at.Goals as goal

pub returns : goal.returns
returns c _ k inner e =
    let lines : subckts_of c.args.models.now c.args.n ≡ c.index-models-n.result.subckts = lines_at c.args.models.now c.args.n c.index-models-n.result c.requires.model c.index-models-n.is in
    let within : k < length c.index-models-n.result.subckts = subst (λ v. k < length v) lines (line_within c.args.models.now c.args.n k inner e) in
    let end = c.len-line-end.ensures in
    let same = ap (λ (m : Model). length m.subckts) c.index-models-n.is in
    c.loop-line.invariant k inner (omega (arith, end, same)) e
