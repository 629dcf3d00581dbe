-- Bits at zero: where constant 1 is not named, and under a turn.
use Rattle.std.proofs.Common.{◌≡◌, refl, sym, ◌∙◌, ap, ap₂, ℕ, zero, suc, Bool, true, false, true≢false, ◌&&◌, ◌||◌, not, List, [], ◌∷◌, ◌++◌, get_or, inl, inr, ⊎_elim, flat_map, slice_get, Option, Some, None}
use Rattle.std.specs.List.{list_any}
use Rattle.std.specs.Option.{option_map_or}
use Rattle.std.proofs.lemmas.Bool.{or_parts, or_cases, or_left, or_right, false_from_ne_true}
use Rattle.lists.proofs.Members.{In, in_parts, in_flattened, in_got}
use Rattle.cell_core.specs.declared.cells.Src.{Src}
use Rattle.cell_core.specs.declared.cells.Src.TheVariants.{Input, Latch, One, Zero, Cell as Made}
use Rattle.cell_core.specs.declared.cells.Cell.{Cell}
use Rattle.cell_core.specs.declared.cells.Cell.TheVariants.{Or, Xor, AndNot}
use Rattle.cell_core.specs.declared.list.CellList.{CellList}
use Rattle.cell_core.specs.Sources.{is_one, reads_one, read_one}
use Rattle.cell_core.specs.Loops.{names_one}
use Rattle.cell_core.specs.Meaning.{source_bit, cell_bit, bits_from}
use Rattle.cell_polarity.specs.Zero.{zero_bit, complement_if, NothingIsOneAtZero}
use Rattle.cell_polarity.specs.Needed.{cell_operands, with_operands, ports_and_nets, needed}

pub complement_twice : (p b : Bool) → complement_if p (complement_if p b) ≡ b
complement_twice true true = refl
complement_twice true false = refl
complement_twice false b = refl

pub nothing_there : (i : ℕ) → get_or [] i false ≡ false
nothing_there zero = refl
nothing_there (suc i) = refl

-- ---- members of lists
pub any_in : {X : Type 0} (p : X → Bool) (xs : List X) → list_any p xs ≡ true → (x : X) × In x xs × (p x ≡ true)
any_in p [] e = absurd (true≢false (sym e))
any_in p (x ∷ xs) e =
    ⊎_elim (λ (h : p x ≡ true). (x, inl refl, h)) (λ (h : list_any p xs ≡ true). let r = any_in p xs h in (r.0, inr r.1, r.2)) (or_cases (p x) (list_any p xs) e)

pub in_any : {X : Type 0} (p : X → Bool) (xs : List X) (x : X) → In x xs → p x ≡ true → list_any p xs ≡ true
in_any p [] x at e = absurd at
in_any p (y ∷ ys) x (inl is) e = or_left (p y) (list_any p ys) (sym (ap p is) ∙ e)
in_any p (y ∷ ys) x (inr at) e = or_right (p y) (list_any p ys) (in_any p ys x at e)

pub none_in : {X : Type 0} (p : X → Bool) (xs : List X) (x : X) → list_any p xs ≡ false → In x xs → p x ≡ false
none_in p xs x e at = false_from_ne_true (p x) (λ h. true≢false (sym (in_any p xs x at h) ∙ e))

-- ---- lists that do not name constant 1
abbrev AllZero : List Bool → Type 0
AllZero made = (i : ℕ) → get_or made i false ≡ false

one_more : (made : List Bool) (b : Bool) → AllZero made → b ≡ false → AllZero (made ++ b ∷ [])
one_more [] b all e zero = e
one_more [] b all e (suc i) = nothing_there i
one_more (x ∷ xs) b all e zero = all zero
one_more (x ∷ xs) b all e (suc i) = one_more xs b (λ j. all (suc j)) e i

source_zero : (made : List Bool) (src : Src) → AllZero made → is_one src ≡ false → source_bit [] [] made src ≡ false
source_zero made (Input i) all e = nothing_there i
source_zero made (Latch i) all e = nothing_there i
source_zero made One all e = e
source_zero made Zero all e = refl
source_zero made (Made i) all e = all i

cell_zero : (made : List Bool) (cell : Cell) → AllZero made → reads_one cell ≡ false → cell_bit [] [] made cell ≡ false
cell_zero made (Or a b) all e =
    let parts : (is_one a ≡ false) × (is_one b ≡ false) = or_parts (is_one a) (is_one b) e in
    ap₂ (λ x y. x || y) (source_zero made a all parts.0) (source_zero made b all parts.1)
cell_zero made (Xor a b) all e =
    let parts : (is_one a ≡ false) × (is_one b ≡ false) = or_parts (is_one a) (is_one b) e in
    ap₂ (λ x y. (x || y) && not (x && y)) (source_zero made a all parts.0) (source_zero made b all parts.1)
cell_zero made (AndNot a b) all e =
    let parts : (is_one a ≡ false) × (is_one b ≡ false) = or_parts (is_one a) (is_one b) e in
    ap (λ x. x && not (source_bit [] [] made b)) (source_zero made a all parts.0)

all_zero : (made : List Bool) (cells : List Cell) → AllZero made → read_one cells ≡ false → AllZero (bits_from [] [] made cells)
all_zero made [] all e = all
all_zero made (cell ∷ cells) all e =
    let parts : (reads_one cell ≡ false) × (read_one cells ≡ false) = or_parts (reads_one cell) (read_one cells) e in
    all_zero (made ++ cell_bit [] [] made cell ∷ []) cells (one_more made (cell_bit [] [] made cell) all (cell_zero made cell all parts.0)) parts.1

pub record NamesNone (list : CellList) : Type 0 where
  pub cells : read_one list.cells ≡ false
  pub outs : list_any is_one list.outs ≡ false
  pub latches : list_any is_one list.latches ≡ false
  pub nets : list_any is_one list.nets ≡ false

pub names_none : (list : CellList) → names_one list ≡ false → NamesNone list
names_none list e =
    let first = or_parts ((read_one list.cells || list_any is_one list.outs) || list_any is_one list.latches) (list_any is_one list.nets) e in
    let then = or_parts (read_one list.cells || list_any is_one list.outs) (list_any is_one list.latches) first.0 in
    let last = or_parts (read_one list.cells) (list_any is_one list.outs) then.0 in
    record { cells = last.0; outs = last.1; latches = then.1; nets = first.1 }

pub nothing_is_one_at_zero : NothingIsOneAtZero
nothing_is_one_at_zero cells src none other =
    source_zero (bits_from [] [] [] cells) src (all_zero [] cells nothing_there none) other

-- ---- what is needed of such a list
operand_of : (cell : Cell) (src : Src) → In src (cell_operands cell) → reads_one cell ≡ false → is_one src ≡ false
operand_of (Or a b) src at e = none_in is_one (a ∷ b ∷ []) src (ap₂ (λ x y. x || (y || false)) (or_parts (is_one a) (is_one b) e).0 (or_parts (is_one a) (is_one b) e).1) at
operand_of (Xor a b) src at e = none_in is_one (a ∷ b ∷ []) src (ap₂ (λ x y. x || (y || false)) (or_parts (is_one a) (is_one b) e).0 (or_parts (is_one a) (is_one b) e).1) at
operand_of (AndNot a b) src at e = none_in is_one (a ∷ b ∷ []) src (ap₂ (λ x y. x || (y || false)) (or_parts (is_one a) (is_one b) e).0 (or_parts (is_one a) (is_one b) e).1) at

read_by : (cells : List Cell) (o : Option Cell) (i : ℕ) (src : Src) → slice_get cells i ≡ o → read_one cells ≡ false → In src (option_map_or (λ cell. Made i ∷ cell_operands cell) o []) → is_one src ≡ false
read_by cells None i src e none at = absurd at
read_by cells (Some cell) i src e none (inl is) = ap is_one is
read_by cells (Some cell) i src e none (inr at) = operand_of cell src at (none_in reads_one cells cell none (in_got cells i cell e))

with_read : (cells : List Cell) (kept src : Src) → read_one cells ≡ false → In src (with_operands cells kept) → is_one src ≡ false
with_read cells (Input i) src none at = absurd at
with_read cells (Latch i) src none at = absurd at
with_read cells One src none at = absurd at
with_read cells Zero src none at = absurd at
with_read cells (Made i) src none at = read_by cells (slice_get cells i) i src refl none at

pub needed_other : (list : CellList) (kept : List Src) (src : Src) → names_one list ≡ false → In src (needed list kept) → is_one src ≡ false
needed_other list kept src e at =
    let none = names_none list e in
    ⊎_elim
    (λ (h : In src (ports_and_nets list)). ⊎_elim (none_in is_one list.outs src none.outs)
    (λ (g : In src (list.latches ++ list.nets)). ⊎_elim (none_in is_one list.latches src none.latches) (none_in is_one list.nets src none.nets) (in_parts list.latches list.nets src g))
    (in_parts list.outs (list.latches ++ list.nets) src h))
    (λ (h : In src (flat_map (with_operands list.cells) kept)). let r = in_flattened (with_operands list.cells) kept src h in with_read list.cells r.0 src none.cells r.2)
    (in_parts (ports_and_nets list) (flat_map (with_operands list.cells) kept) src at)

-- where a needed source is 1 at zero, the list names constant 1
pub needs_one : (list : CellList) (kept : List Src) → list_any (zero_bit list) (needed list kept) ≡ true → names_one list ≡ true
needs_one list kept some = by (names_one list) refl
  where
    by : (b : Bool) → names_one list ≡ b → b ≡ true
    by true e = refl
    by false e =
        let found = any_in (zero_bit list) (needed list kept) some in
        absurd (true≢false (sym found.2 ∙ nothing_is_one_at_zero list.cells found.0 (names_none list e).cells (needed_other list kept found.0 e found.1)))
