use Rattle.std.proofs.Common.{◌+◌, ◌<◌, ◌≡◌, refl, ap, sym, subst, ◌∙◌, length, slice_set, arith}
use Rattle.std.proofs.lemmas.List.{length-set, with_items_is}
use Rattle.lane_kernel.specs.PlaneRows.{place}
use Rattle.band_rows.proofs.HeadPlaced.{word_within}
use Rattle.band_rows.proofs.PutCells.{word_put}
use Rattle.band_rows.proofs.field.Field.put_word.Goals as goal

pub put_bits-requires : goal.put_bits-requires
put_bits-requires c =
    let self = c.args.self.now in
    let q = c.requires in
    let is = q.closed.is in
    let at = place self.stride c.args.c (c.args.k + 1) in
    let within = word_within self c.args.c c.args.k is q.column q.row in
    record {
      heads = subst (λ l. at < length l) (sym c.deref_mut.ensures.value) (within self.heads.items is.long_heads);
      tails = subst (λ l. at < length l) (sym c.deref_mut-2.ensures.value) (within self.tails.items is.long_tails);
      cells = subst (λ l. at < length l) (sym c.deref_mut-3.ensures.value) (within self.cells.items is.long_cells);
    }

pub returns : goal.returns
returns c =
    let self = c.args.self.now in
    let q = c.requires in
    let at = place self.stride c.args.c (c.args.k + 1) in
    let bits = c.of_cells-bits.result in
    let put = c.put_bits.ensures in
    let set_heads : c.put_bits.new.heads ≡ slice_set self.heads.items at bits.heads = put.heads ∙ ap (λ l. slice_set l at bits.heads) c.deref_mut.ensures.value in
    let set_tails : c.put_bits.new.tails ≡ slice_set self.tails.items at bits.tails = put.tails ∙ ap (λ l. slice_set l at bits.tails) c.deref_mut-2.ensures.value in
    let set_cells : c.put_bits.new.cells ≡ slice_set self.cells.items at bits.cells = put.cells ∙ ap (λ l. slice_set l at bits.cells) c.deref_mut-3.ensures.value in
    let long_heads = ap length set_heads ∙ length-set self.heads.items at bits.heads in
    let long_tails = ap length set_tails ∙ length-set self.tails.items at bits.tails in
    let long_cells = ap length set_cells ∙ length-set self.cells.items at bits.cells in
    word_put self c.args.c c.args.k q.closed q.unlisted q.column q.row bits c.of_cells-bits.ensures.on_cells
    c.args.cells.now c.of_cells-bits.ensures.states _
    (record { columns = refl; rows = refl; stride = refl })
    (with_items_is self.heads c.put_bits.new.heads (omega (arith, long_heads)) ∙ set_heads)
    (with_items_is self.tails c.put_bits.new.tails (omega (arith, long_tails)) ∙ set_tails)
    (with_items_is self.cells c.put_bits.new.cells (omega (arith, long_cells)) ∙ set_cells)
    refl refl
