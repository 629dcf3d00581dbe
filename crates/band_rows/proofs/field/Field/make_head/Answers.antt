use Rattle.std.proofs.Common.{ℕ, ◌+◌, ◌*◌, ◌/◌, ◌%◌, ◌^◌, ◌<◌, ◌≡◌, refl, sym, ap, subst, ◌∙◌, length, get_or, arith}
use Rattle.std.proofs.lemmas.List.{get_or-set_same, with_items_is, length-set}
use Rattle.std.specs.Int.RustNames.{bit_or}
use Rattle.std.specs.Vec.{with_items}
use Rattle.lane_kernel.specs.Around.{IsFramed, IsInner}
use Rattle.lane_kernel.specs.PlaneRows.{place, plane_size}
use Rattle.band_rows.specs.declared.field.Field.{Field}
use Rattle.band_rows.proofs.FieldSteps.{framed_of, same_marked}
use Rattle.band_rows.proofs.HeadPut.{head_marked, told_of}
use Rattle.band_rows.proofs.HeadPlaced.{with_bit, head_cells, head_closed, in_rows, inner, within}
use Rattle.band_rows.proofs.field.Field.make_head.Goals as goal
use Rattle.band_rows.proofs.field.Field.make_head.Goals.{After-set_bits}

-- the place of the word, and the head's bit
abbrev at : After-set_bits → ℕ
at c = place c.args.self.now.stride (c.args.x / 64) (c.args.k + 1)

abbrev bit : After-set_bits → ℕ
bit c = 1 * 2 ^ (c.args.x % 64) % 2 ^ 64

-- the planes with the bit
heads : (c : After-set_bits) → (with_items c.args.self.now.heads c.set_bits.new.heads).items ≡ with_bit c.args.self.now.heads.items (at c) (bit c)
heads c =
    let old = c.args.self.now.heads in
    let set : c.set_bits.new.heads ≡ with_bit old.items (at c) (bit c) = c.set_bits.ensures.heads ∙ ap (λ l. with_bit l (at c) (bit c)) c.deref_mut.ensures.value in
    let long = ap length set ∙ length-set old.items (at c) (bit_or (get_or old.items (at c) 0) (bit c)) in
    with_items_is old c.set_bits.new.heads (omega (arith, long)) ∙ set

cells : (c : After-set_bits) → (with_items c.args.self.now.cells c.set_bits.new.cells).items ≡ with_bit c.args.self.now.cells.items (at c) (bit c)
cells c =
    let old = c.args.self.now.cells in
    let set : c.set_bits.new.cells ≡ with_bit old.items (at c) (bit c) = c.set_bits.ensures.cells ∙ ap (λ l. with_bit l (at c) (bit c)) c.deref_mut-2.ensures.value in
    let long = ap length set ∙ length-set old.items (at c) (bit_or (get_or old.items (at c) 0) (bit c)) in
    with_items_is old c.set_bits.new.cells (omega (arith, long)) ∙ set

long_put : (c : After-set_bits) → length (with_bit c.args.self.now.cells.items (at c) (bit c)) ≡ plane_size c.args.self.now.columns c.args.self.now.rows
long_put c =
    let old = c.args.self.now.cells.items in
    length-set old (at c) (bit_or (get_or old (at c) 0) (bit c)) ∙ c.requires.closed.is.long_cells

framed : (c : After-set_bits) → IsFramed c.args.self.now.stride (with_bit c.args.self.now.cells.items (at c) (bit c))
framed c =
    let self = c.args.self.now in
    let q = c.requires in
    framed_of self.columns self.rows self.stride (with_bit self.cells.items (at c) (bit c)) q.closed.is.stride (long_put c) (in_rows self c.args.x c.args.k q.closed q.column q.row)

pub invariant_of-free : goal.invariant_of-free
invariant_of-free c =
    let k = (goal.at.invariant_of-free c).After-set_bits in
    let self = c.args.self.now in
    let here = c.deref-2.ensures.value ∙ cells k in
    record {
      long = ap length c.deref.ensures.value ∙ (c.requires.closed.is.long_tails ∙ sym (ap length here ∙ long_put k));
      framed = subst (λ l. IsFramed self.stride l) (sym here) (framed k);
    }

pub mark_head-requires-clause-inner : goal.mark_head-requires-clause-inner
mark_head-requires-clause-inner c =
    let k = (goal.at.mark_head-requires-clause-inner c).After-set_bits in
    let self = c.args.self.now in
    let q = c.requires in
    subst (λ l. IsInner self.stride (length l) (at k)) (sym (c.deref-2.ensures.value ∙ cells k))
    (inner self c.args.x c.args.k q.closed q.column q.row (with_bit self.cells.items (at k) (bit k)) (long_put k))

pub returns-then-self-len-clause-closed : goal.returns-then-self-len-clause-closed
returns-then-self-len-clause-closed c =
    let k = (goal.at.returns-then-self-len-clause-closed c).After-set_bits in
    let q = c.requires in
    let is = q.closed.is in
    head_closed c.args.self.now c.args.x c.args.k q.closed q.column q.row _
    (record { columns = refl; rows = refl; stride = refl; heads = heads k; cells = cells k; tails = refl })
    is.long_marks is.long_spare is.cleared is.listed
    (λ room. let full = c.if-self-len.true in let n = c.len.ensures in absurd (omega (arith, room, full, n)))

pub returns-then-self-len-clause-cells : goal.returns-then-self-len-clause-cells
returns-then-self-len-clause-cells c =
    let k = (goal.at.returns-then-self-len-clause-cells c).After-set_bits in
    let self = c.args.self.now in
    let q = c.requires in
    let new : Field = record self { heads = with_items self.heads c.set_bits.new.heads; cells = with_items self.cells c.set_bits.new.cells } in
    head_cells self c.args.x c.args.k q.closed q.column q.row new (record { columns = refl; rows = refl; stride = refl; heads = heads k; cells = cells k; tails = refl })

pub returns-clause-closed : goal.returns-clause-closed
returns-clause-closed c =
    let k = (goal.at.returns-clause-closed c).After-set_bits in
    let self = c.args.self.now in
    let q = c.requires in
    let is = q.closed.is in
    let e = c.mark_head.ensures in
    let not_full = c.if-self-len.false in
    let n = c.len.ensures in
    let le = is.listed.within in
    let head = bit_or (get_or self.heads.items (at k) 0) (bit k) in
    let in_heads = within self c.args.x c.args.k q.closed q.column q.row self.heads.items is.long_heads in
    let in_cells = within self c.args.x c.args.k q.closed q.column q.row self.cells.items is.long_cells in
    let word = ap (λ l. get_or l (at k) 0) (c.deref-3.ensures.value ∙ heads k) ∙ get_or-set_same self.heads.items (at k) head 0 in_heads in
    head_closed self c.args.x c.args.k q.closed q.column q.row _
    (record { columns = refl; rows = refl; stride = refl; heads = heads k; cells = cells k; tails = refl })
    (e.long ∙ is.long_marks) is.long_spare is.cleared e.listed
    (λ room. same_marked self.stride (heads k) refl (cells k) refl
    (head_marked self.stride self.heads.items self.tails.items self.cells.items self.marks.bytes.items (at k) head (bit_or (get_or self.cells.items (at k) 0) (bit k)) c.mark_head.new.now.bytes.items
    in_heads in_cells (framed k) (is.marked (omega (arith, not_full, n, le))) e.more e.here
    (told_of self.stride (at k) c.mark_head.new.now.bytes.items word c.deref.ensures.value (c.deref-2.ensures.value ∙ cells k) e.told)))

pub returns-clause-cells : goal.returns-clause-cells
returns-clause-cells c =
    let k = (goal.at.returns-clause-cells c).After-set_bits in
    let self = c.args.self.now in
    let q = c.requires in
    let new : Field = record self { heads = with_items self.heads c.set_bits.new.heads; cells = with_items self.cells c.set_bits.new.cells; marks = c.mark_head.new.now } in
    head_cells self c.args.x c.args.k q.closed q.column q.row new (record { columns = refl; rows = refl; stride = refl; heads = heads k; cells = cells k; tails = refl })

pub overflow_mul-i : goal.overflow_mul-i
overflow_mul-i c =
    let self = c.args.self.now in
    let q = c.requires in
    let at = within self c.args.x c.args.k q.closed q.column q.row self.heads.items q.closed.is.long_heads in
    let ok = self.heads.ok.0 in
    omega (arith, at, ok)

pub overflow_add-i-2 : goal.overflow_add-i-2
overflow_add-i-2 c =
    let self = c.args.self.now in
    let q = c.requires in
    let at = within self c.args.x c.args.k q.closed q.column q.row self.heads.items q.closed.is.long_heads in
    let ok = self.heads.ok.0 in
    omega (arith, at, ok)

pub overflow_add-i-4 : goal.overflow_add-i-4
overflow_add-i-4 c =
    let self = c.args.self.now in
    let q = c.requires in
    let at = within self c.args.x c.args.k q.closed q.column q.row self.heads.items q.closed.is.long_heads in
    let ok = self.heads.ok.0 in
    omega (arith, at, ok)

pub set_bits-requires : goal.set_bits-requires
set_bits-requires c =
    let self = c.args.self.now in
    let q = c.requires in
    let is = q.closed.is in
    let at = place self.stride (c.args.x / 64) (c.args.k + 1) in
    record {
      heads = subst (λ l. at < length l) (sym c.deref_mut.ensures.value) (within self c.args.x c.args.k q.closed q.column q.row self.heads.items is.long_heads);
      cells = subst (λ l. at < length l) (sym c.deref_mut-2.ensures.value) (within self c.args.x c.args.k q.closed q.column q.row self.cells.items is.long_cells);
      bit = omega arith;
    }
