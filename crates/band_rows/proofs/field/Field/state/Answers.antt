use Rattle.std.proofs.Common.{◌+◌, ◌<◌, ◌/◌, ◌%◌, sym, ap, ap₂, subst, ◌∙◌, length, get_or, arith}
use Rattle.lists.specs.Bits.{has_bit}
use Rattle.lane_kernel.specs.Rows.{state_of}
use Rattle.lane_kernel.specs.PlaneRows.{place}
use Rattle.band_rows.proofs.PlaceCells.{row_set}
use Rattle.band_rows.proofs.HeadPlaced.{word_within}
use Rattle.band_rows.proofs.field.Field.state.Goals as goal

pub has_bit-head-requires : goal.has_bit-head-requires
has_bit-head-requires c =
    let self = c.args.self.now in
    record {
      within = subst (λ l. place self.stride (c.args.x / 64) (c.args.k + 1) < length l) (sym c.deref.ensures.value) (word_within self (c.args.x / 64) c.args.k c.requires.is c.requires.column c.requires.row self.heads.items c.requires.is.long_heads);
      bit = omega arith;
    }

pub has_bit-tail-requires : goal.has_bit-tail-requires
has_bit-tail-requires c =
    let self = c.args.self.now in
    record {
      within = subst (λ l. place self.stride (c.args.x / 64) (c.args.k + 1) < length l) (sym c.deref-2.ensures.value) (word_within self (c.args.x / 64) c.args.k c.requires.is c.requires.column c.requires.row self.tails.items c.requires.is.long_tails);
      bit = omega arith;
    }

pub has_bit-cell-requires : goal.has_bit-cell-requires
has_bit-cell-requires c =
    let self = c.args.self.now in
    record {
      within = subst (λ l. place self.stride (c.args.x / 64) (c.args.k + 1) < length l) (sym c.deref-3.ensures.value) (word_within self (c.args.x / 64) c.args.k c.requires.is c.requires.column c.requires.row self.cells.items c.requires.is.long_cells);
      bit = omega arith;
    }

pub returns : goal.returns
returns c =
    let self = c.args.self.now in
    let x = c.args.x in
    let r = c.args.k + 1 in
    let i = place self.stride (x / 64) r in
    let h = c.has_bit-head.ensures ∙ ap (λ l. has_bit (get_or l i 0) (x % 64)) c.deref.ensures.value ∙ sym (row_set self.columns self.stride self.heads.items r x c.requires.column) in
    let t = c.has_bit-tail.ensures ∙ ap (λ l. has_bit (get_or l i 0) (x % 64)) c.deref-2.ensures.value ∙ sym (row_set self.columns self.stride self.tails.items r x c.requires.column) in
    let w = c.has_bit-cell.ensures ∙ ap (λ l. has_bit (get_or l i 0) (x % 64)) c.deref-3.ensures.value ∙ sym (row_set self.columns self.stride self.cells.items r x c.requires.column) in
    c.state_of.ensures ∙ ap₂ (λ f w. f w) (ap₂ state_of h t) w
