use Rattle.std.proofs.Common.{◌≡◌, ◌∙◌, ap, cond, List, [], ◌∷◌, ◌++◌, length, is_ok}
use Rattle.cell_core.specs.declared.cells.Cell.{Cell}
use Rattle.cell_core.proofs.Order.{Keeps, keeps}
use Rattle.cell_core.proofs.list.CellList.push.Goals as goal

pub invariant_of-self : goal.invariant_of-self
invariant_of-self c =
    let old = c.args.self.now in
    let was : c.into_vec-cells.result.items ≡ old.cells = c.into_vec-cells.ensures ∙ c.replace.ensures.value in
    let is : c.of-2.result ≡ cond (is_ok c.push-pushed.result) (old.cells ++ c.args.cell ∷ []) old.cells =
    c.of-2.ensures ∙ c.push-pushed.ensures.items ∙ ap (λ (l : List Cell). cond (is_ok c.push-pushed.result) (l ++ c.args.cell ∷ []) l) was in
    let k : Keeps old.inputs (length old.starts) old.cells c.of-2.result = keeps old.inputs (length old.starts) old.cells c.of-2.result c.args.cell _ is old.in_order c.requires in
    record {
      in_order = k.in_order;
      outs_there = k.there old.outs old.outs_there;
      latches_there = k.there old.latches old.latches_there;
      nets_there = k.there old.nets old.nets_there;
      starts_fit = old.starts_fit;
    }
