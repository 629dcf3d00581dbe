-- Nets are found at entries and at exits.
use Rattle.std.proofs.Common.{◌≡◌, refl, sym, ◌∙◌, ap, subst, ℕ, zero, suc, ◌+◌, ◌<◌, ◌||◌, Bool, true, false, true≢false, cond, ⊎_elim, List, [], ◌∷◌, length, get_or, map, Option, Some, None, option_map, slice_get, arith}
use Rattle.std.specs.Prelude.{◌==◌, Contains}
use Rattle.std.proofs.lemmas.Bool.{cases_lt, eq-eqb}
use Rattle.std.proofs.lemmas.List.{length-map, map-append, get_or-map, get_or_past, get_or_append_left}
use Rattle.std.proofs.lemmas.List.Sorted.{Contains-permutation}
use Rattle.std.proofs.lemmas.Option.{none-some, same_Some, slice_get_within, get_or_from_slice_get}
use Rattle.cell_core.specs.declared.cells.Src.{Src}
use Rattle.cell_core.specs.declared.cells.Src.TheVariants.{Input, Latch, One, Zero, Cell as Made}
use Rattle.cell_core.specs.declared.cells.Cell.{Cell}
use Rattle.cell_core.specs.declared.cells.Cell.TheVariants.{Or, Xor, AndNot}
use Rattle.cell_core.specs.declared.list.CellList.{CellList}
use Rattle.cell_meaning.specs.Origins.{cell_instr, maker_on}
use Rattle.lane_core.specs.declared.instr.Instr.{Instr}
use Rattle.lane_core.specs.declared.instr.Column.{Column}
use Rattle.lane_core.specs.declared.plan.NetPlace.{NetPlace}
use Rattle.lane_core.specs.Instrs.{lane_of, is_on}
use Rattle.column_packer.specs.Numbers.{column_numbers, column_instrs, numbered}
use Rattle.column_packer.specs.Packing.{IsPacked, instrs_in}
use Rattle.column_packer.proofs.Numbers.{numbers_long}
use Rattle.latch_loops.specs.Closed.{IsPadded}
use Rattle.latch_loops.specs.Places.{closed_place, column_of_place}
use Rattle.latch_loops.proofs.Uses.{places_are_last_uses}
use Rattle.row_placer.specs.Entries.{IsEntryOf, AreAtEntries, AreAtCells}
use Rattle.row_placer.specs.Told.{instr_at}
use Rattle.cell_plans.specs.Exits.{IsExitOf, AreAtExits}

-- ---- an instruction stands in its column
contains_next : {X : Type 0} (xs : List X) (y x : X) → Contains xs x → Contains (y ∷ xs) x
contains_next xs y x h = (suc h.0, omega (arith, h.1), h.2)

stands : (numbers : List ℕ) (instrs : List Instr) (n : ℕ) (instr : Instr) → slice_get instrs n ≡ Some instr → n < length numbers → Contains (numbered (get_or numbers n 0) numbers instrs) instr
stands [] instrs n instr got low = absurd (omega (arith, low))
stands (m ∷ numbers) [] n instr got low = absurd (let w = slice_get_within [] n instr got in omega (arith, w))
stands (m ∷ numbers) (i ∷ rest) zero instr got low =
    let here : numbered m (m ∷ numbers) (i ∷ rest) ≡ i ∷ numbered m numbers rest = ap (λ b. cond b (i ∷ numbered m numbers rest) (numbered m numbers rest)) (eq-eqb m m refl) in
    subst (λ xs. Contains xs instr) (sym here) (0, omega arith, same_Some _ _ got)
stands (m ∷ numbers) (i ∷ rest) (suc n) instr got low =
    let c : ℕ = get_or numbers n 0 in
    by c (m == c) (stands numbers rest n instr got (omega (arith, low)))
  where
    by : (c : ℕ) (b : Bool) → Contains (numbered c numbers rest) instr → Contains (cond b (i ∷ numbered c numbers rest) (numbered c numbers rest)) instr
    by c true h = contains_next (numbered c numbers rest) i instr h
    by c false h = h

in_column : (instrs : List Instr) (columns : List Column) (n : ℕ) (instr : Instr) → IsPacked instrs columns → slice_get instrs n ≡ Some instr → Contains (instrs_in columns (get_or (column_numbers instrs) n 0)) instr
in_column instrs columns n instr p got =
    let low : n < length (column_numbers instrs) = (let w = slice_get_within instrs n instr got in let l = numbers_long instrs in omega (arith, w, l)) in
    Contains-permutation (column_instrs instrs (get_or (column_numbers instrs) n 0)) (instrs_in columns (get_or (column_numbers instrs) n 0)) instr
    (p.each (get_or (column_numbers instrs) n 0)) (stands (column_numbers instrs) instrs n instr got low)

-- and where columns were added
pub in_padded : (size : ℕ) (columns padded : List Column) (c : ℕ) (instr : Instr) → IsPadded size columns padded → Contains (instrs_in columns c) instr → Contains (instrs_in padded c) instr
in_padded size columns padded c instr p h =
    ⊎_elim
    (λ low. (let same : instrs_in padded c ≡ instrs_in columns c =
    ap (λ (cs : List Column). get_or (map (λ (column : Column). column.instrs) cs) c []) p.is
    ∙ ap (λ (is : List (List Instr)). get_or is c []) (map-append (λ (column : Column). column.instrs) columns p.more)
    ∙ get_or_append_left (map (λ (column : Column). column.instrs) columns) (map (λ (column : Column). column.instrs) p.more) [] c (let l = length-map columns (λ (column : Column). column.instrs) in omega (arith, low, l)) in
    subst (λ is. Contains is instr) (sym same) h))
    (λ past. (let none : instrs_in columns c ≡ [] = get_or_past (map (λ (column : Column). column.instrs) columns) c [] (let l = length-map columns (λ (column : Column). column.instrs) in omega (arith, past, l)) in
    let w : h.0 < length (instrs_in columns c) = h.1 in
    let e : length (instrs_in columns c) ≡ 0 = ap length none in absurd (omega (arith, w, e))))
    (cases_lt c (length columns))

-- ---- the last use of its lane up to there
lane_is : (lane : ℕ) (cell : Cell) → lane_of (cell_instr lane cell) ≡ lane
lane_is lane (Or a b) = refl
lane_is lane (Xor a b) = refl
lane_is lane (AndNot a b) = refl

maker_lane : (cells : List Cell) (lane : ℕ) (src : Src) (instr : Instr) → maker_on cells lane src ≡ Some instr → lane_of instr ≡ lane
maker_lane cells lane (Input i) instr e = absurd (none-some instr e)
maker_lane cells lane (Latch i) instr e = absurd (none-some instr e)
maker_lane cells lane One instr e = absurd (none-some instr e)
maker_lane cells lane Zero instr e = absurd (none-some instr e)
maker_lane cells lane (Made i) instr e = by (slice_get cells i) e
  where
    by : (o : Option Cell) → option_map (cell_instr lane) o ≡ Some instr → lane_of instr ≡ lane
    by None e = absurd (none-some instr e)
    by (Some cell) e = ap lane_of (sym (same_Some _ _ e)) ∙ lane_is lane cell

last_here : (instrs : List Instr) (lane n : ℕ) (instr : Instr) → slice_get instrs n ≡ Some instr → lane_of instr ≡ lane → column_of_place instrs lane (Some n) ≡ Some (get_or (column_numbers instrs) n 0)
last_here instrs lane n instr got at =
    let on : is_on lane (get_or instrs n instr) ≡ true =
    ap (is_on lane) (get_or_from_slice_get instrs n instr instr got) ∙ ap (λ b. b || (lane_of instr + 1 == lane)) (eq-eqb (lane_of instr) lane at) in
    ⊎_elim
    (λ u. ⊎_elim
    (λ low. absurd (true≢false (sym on ∙ u.1.later n low (omega arith))))
    (λ high. (let before = u.1.before in let same : u.0 ≡ n = omega (arith, high, before) in u.2 ∙ ap (λ m. Some (get_or (column_numbers instrs) m 0)) same))
    (cases_lt u.0 n))
    (λ none. absurd (true≢false (sym on ∙ none.0 n (omega arith))))
    (places_are_last_uses instrs lane n instr (slice_get_within instrs n instr got))

-- the exit of a net that is found after its cell's instruction
exit_of : (size : ℕ) (instrs : List Instr) (columns padded : List Column) (lane : ℕ) (after : Option ℕ) (instr : Instr) → IsPacked instrs columns → IsPadded size columns padded
    → lane_of instr ≡ lane → instr_at instrs after ≡ Some instr → IsExitOf padded instr (column_of_place instrs lane after)
exit_of size instrs columns padded lane None instr packed p at got = absurd (none-some instr got)
exit_of size instrs columns padded lane (Some n) instr packed p at got =
    (get_or (column_numbers instrs) n 0, last_here instrs lane n instr got at, in_padded size columns padded (get_or (column_numbers instrs) n 0) instr p (in_column instrs columns n instr packed got))

pub at_exits : (list : CellList) (size : ℕ) (instrs : List Instr) (columns padded : List Column) (places nets : List NetPlace) → IsPacked instrs columns → IsPadded size columns padded
    → length places ≡ length list.nets → nets ≡ map (closed_place instrs) places → AreAtCells list instrs places → AreAtExits list padded nets
at_exits list size instrs columns padded places nets packed p long is at k src place instr below e =
    let same : get_or nets k place ≡ closed_place instrs (get_or places k place) = ap (λ ns. get_or ns k place) is ∙ get_or-map (closed_place instrs) places k place place (omega (arith, below, long)) in
    let made : maker_on list.cells (get_or places k place).lane (get_or list.nets k src) ≡ Some instr = ap (λ (q : NetPlace). maker_on list.cells q.lane (get_or list.nets k src)) (sym same) ∙ e in
    subst (λ (q : NetPlace). IsExitOf padded instr q.after) (sym same)
    (exit_of size instrs columns padded (get_or places k place).lane (get_or places k place).after instr packed p
    (maker_lane list.cells (get_or places k place).lane (get_or list.nets k src) instr made) (at k src place instr below made))

-- ---- entries stay entries
entry_closed : (list : CellList) (lanes : ℕ) (ins : List ℕ) (instrs : List Instr) (src : Src) (place : NetPlace) → IsEntryOf list lanes ins src place → IsEntryOf list lanes ins src (closed_place instrs place)
entry_closed list lanes ins instrs (Input i) place h = (h.0, ap (column_of_place instrs place.lane) h.1)
entry_closed list lanes ins instrs (Latch i) place h = (h.0, ap (column_of_place instrs place.lane) h.1)
entry_closed list lanes ins instrs One place h = (h.0, ap (column_of_place instrs place.lane) h.1)
entry_closed list lanes ins instrs Zero place h = ap (column_of_place instrs place.lane) h
entry_closed list lanes ins instrs (Made i) place h = tt

pub still_at_entries : (list : CellList) (lanes : ℕ) (ins : List ℕ) (instrs : List Instr) (places nets : List NetPlace) → nets ≡ map (closed_place instrs) places → AreAtEntries list lanes ins places → AreAtEntries list lanes ins nets
still_at_entries list lanes ins instrs places nets is at = record {
  long = ap length is ∙ length-map places (closed_place instrs) ∙ at.long;
  each = λ k src place below.
      subst (IsEntryOf list lanes ins (get_or list.nets k src))
      (sym (ap (λ ns. get_or ns k place) is ∙ get_or-map (closed_place instrs) places k place place (let l = at.long in omega (arith, below, l))))
      (entry_closed list lanes ins instrs (get_or list.nets k src) (get_or places k place) (at.each k src place below));
}
