-- A list with complements, of one that is mapped from a netlist.
use Rattle.std.proofs.Common.{◌≡◌, refl, sym, ◌∙◌, ap, ap₂, ℕ, ◌+◌, ◌*◌, ◌≤◌, Bool, true, false, true≢false, cond, not, ◌&&◌, List, [], ◌∷◌, length, arith}
use Rattle.std.specs.Prelude.{sum_by, count_by}
use Rattle.std.specs.List.{list_any}
use Rattle.std.proofs.lemmas.Bool.{or_parts, false_from_ne_true}
use Rattle.std.proofs.lemmas.List.{length-append}
use Rattle.std.proofs.lemmas.List.Sums.{sum_by-cons}
use Rattle.cell_core.specs.declared.cells.Cell.{Cell}
use Rattle.cell_core.specs.declared.cells.Cell.TheVariants.{Or, Xor, AndNot}
use Rattle.cell_core.specs.declared.list.CellList.{CellList}
use Rattle.cell_polarity.specs.Laws.{ComplementsAreMapped, ComplementsHaveBits, ComplementsSpareOne}
use Rattle.cell_polarity.specs.Zero.{zero_bit, cells_for}
use Rattle.cell_polarity.specs.Needed.{needed}
use Rattle.cell_polarity.proofs.Zeros.{needs_one}
use Rattle.cell_meaning.proofs.Mapping.{mapped_keeps}

pub complements_are_mapped : ComplementsAreMapped
complements_are_mapped flat old new kept still sound with complements few =
    mapped_keeps flat old new kept still sound with complements.keeps few (λ e. with.mapped.one (needs_one old kept (complements.one e)))

pub complements_have_bits : ComplementsHaveBits
complements_have_bits flat old new kept still inputs state bits complements has =
    let m = complements.keeps.moves in
    record { outs = m.outs inputs state ∙ has.outs; latches = m.latches inputs state ∙ has.latches; nets = m.nets inputs state ∙ has.nets }

-- ---- where no needed source is 1 at zero
one_or_two : (b : Bool) → cond b 2 1 ≤ 2
one_or_two true = omega arith
one_or_two false = omega arith

for_cell : (old : CellList) (cell : Cell) → cells_for old cell ≤ 2
for_cell old (Or a b) = one_or_two (zero_bit old a && zero_bit old b)
for_cell old (Xor a b) = omega arith
for_cell old (AndNot a b) = one_or_two (not (zero_bit old a) && zero_bit old b)

for_cells : (old : CellList) (cells : List Cell) → sum_by (cells_for old) cells ≤ 2 * length cells
for_cells old [] = omega arith
for_cells old (cell ∷ cells) =
    let e = sum_by-cons (cells_for old) cell cells in
    let here = for_cell old cell in
    let rest = for_cells old cells in
    omega (arith, e, here, rest)

none_counted : {X : Type 0} (p : X → Bool) (xs : List X) → list_any p xs ≡ false → count_by p xs ≡ 0
none_counted p [] e = refl
none_counted p (x ∷ xs) e =
    let parts = or_parts (p x) (list_any p xs) e in
    sum_by-cons (λ y. cond {A = ℕ} (p y) 1 0) x xs ∙ ap₂ (λ m n. m + n) (ap (λ b. cond {A = ℕ} b 1 0) parts.0) (none_counted p xs parts.1)

pub complements_spare_one : ComplementsSpareOne
complements_spare_one old new kept still complements none = (
  false_from_ne_true _ (λ e. true≢false (sym (complements.one e) ∙ none)),
  let long : length new.cells ≡ length complements.low + length complements.high = ap (λ (cells : List Cell). length cells) complements.cells ∙ length-append complements.low complements.high in
      let low = complements.few_low in
      let high = complements.few_high in
      let doubled = for_cells old old.cells in
      let no_high = none_counted (zero_bit old) (needed old kept) none in
      omega (arith, long, low, high, doubled, no_high),
)
