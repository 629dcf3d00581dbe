use Rattle.std.proofs.Common.{◌≡◌, ◌∙◌, subst₂, ℕ, ◌<◌, length, map}
use Rattle.cell_meaning.specs.Same.{cell_over}
use Rattle.routed_circuits.specs.Runs.{src_at}
use Rattle.list_matching.specs.Matched.{StandsForCell, made_at, stand_in}
use Rattle.list_matching.proofs.matched.are_stand_ins.Goals as goal

pub returns : goal.returns
returns c = λ nets.
    let to = stand_in c.args.cells.now c.args.latches.now in
    record {
      inputs = c.if-found-wanted.false;
      all_cells = c.if-cells-len.false ∙ c.len.ensures;
      all_latches = c.if-latches-len.false ∙ c.len-else-cells-len.ensures;
      cells_stand = subst₂ (λ found wanted. (n : ℕ) → n < length found → StandsForCell wanted (src_at c.args.cells.now n) (cell_over to (made_at found n)))
          c.as_slice.ensures c.as_slice-2.ensures (c.cells_stand.ensures c.if-not-cells_stand.false);
      latches_stand = c.latches_stand.ensures c.if-not-latches_stand.false;
      outs_stand = subst₂ (λ first others. map to first ≡ others) c.as_slice-3.ensures c.as_slice-4.ensures (c.all_stand.ensures c.if-not-all_stand.false);
      nets_stand = subst₂ (λ first others. map to first ≡ others) c.as_slice-5.ensures c.as_slice-6.ensures (c.all_stand-2.ensures nets);
    }
