-- Marks, set one after another.
use Rattle.std.proofs.Common.{◌≡◌, refl, sym, ◌∙◌, ap, ℕ, zero, suc, ◌+◌, ◌<◌, ◌≤◌, Bool, true, false, true≢false, cond, List, [], ◌∷◌, ◌++◌, length, get_or, take, replicate, slice_set, slice_get, None, map, subst, inl, ⊎_elim, arith}
use Rattle.std.specs.Prelude.{sum_by, count_by}
use Rattle.std.specs.Option.{option_map_or}
use Rattle.std.proofs.lemmas.Bool.{cases_eq, cases_lt, lt-ltb}
use Rattle.std.proofs.lemmas.List.{length-set, get_or-set_same, get_or-set_other, get_or_past, take_more, take_all, length-replicate, append-nil}
use Rattle.std.proofs.lemmas.List.Sums.{sum_by-append, sum_by-set}
use Rattle.lists.proofs.Members.{In, in_from, contains_from, in_left, in_right, in_parts}
use Rattle.lists.proofs.Fills.{same_throughout}
use Rattle.cell_core.specs.declared.cells.Src.{Src}
use Rattle.cell_core.specs.declared.cells.Src.TheVariants.{Input, Latch, One, Zero, Cell as Made}
use Rattle.cell_core.specs.declared.cells.Cell.{Cell}
use Rattle.cell_polarity.specs.Needed.{cell_operands, with_operands}
use Rattle.cell_polarity.specs.Low.{zero_in}
use Rattle.cell_polarity.specs.Marks.{marks_with, AreMarked}

-- a flag that is set is one of the flags
within : (flags : List Bool) (i : ℕ) → get_or flags i false ≡ true → i < length flags
within flags i e = ⊎_elim (λ (lt : i < length flags). lt) (λ (past : length flags ≤ i). absurd (true≢false (sym e ∙ get_or_past flags i false past))) (cases_lt i (length flags))

count_more : (p : Src → Bool) (sources : List Src) (src : Src) → count_by p (sources ++ src ∷ []) ≡ count_by p sources + cond (p src) 1 0
count_more p sources src = sum_by-append (λ s. cond (p s) 1 0) sources (src ∷ []) ∙ (let e : sum_by (λ s. cond {A = ℕ} (p s) 1 0) (src ∷ []) ≡ cond (p src) 1 0 = one (cond (p src) 1 0) in ap (λ n. sum_by (λ s. cond {A = ℕ} (p s) 1 0) sources + n) e)
  where
    one : (n : ℕ) → 0 + n ≡ n
    one n = omega arith

number_of : Src → ℕ
number_of (Input i) = 0
number_of (Latch i) = 0
number_of One = 0
number_of Zero = 0
number_of (Made i) = i

same_number : (i j : ℕ) → Made i ≡ Made j → i ≡ j
unfolding number_of
same_number i j e = ap number_of e

-- ---- a source that sets no mark
unmarked : (flags : List Bool) (sources : List Src) (marks : List Bool) (src : Src) → AreMarked flags sources marks
    → ((i : ℕ) → src ≡ Made i → get_or flags i false ≡ true → ⊥) → AreMarked flags (sources ++ src ∷ []) marks
unmarked flags sources marks src are none =
    record {
      long = are.long;
      onto = λ i among flag. ⊎_elim
          (λ (h : In (Made i) sources). are.onto i (contains_from sources (Made i) h) flag)
          (λ (h : In (Made i) (src ∷ [])). ⊎_elim (λ (e : Made i ≡ src). absurd (none i (sym e) flag)) (λ (never : ⊥). absurd never) h)
          (in_parts sources (src ∷ []) (Made i) (in_from (sources ++ src ∷ []) (Made i) among));
      from = λ i mark. let was = are.from i mark in (contains_from (sources ++ src ∷ []) (Made i) (in_left sources (src ∷ []) (Made i) (in_from sources (Made i) was.0)), was.1);
      few = let e = count_more (zero_in flags) sources src in omega (arith, e, are.few);
    }

-- ---- a cell with a flag
newly : (flags : List Bool) (sources : List Src) (marks : List Bool) (j : ℕ) → AreMarked flags sources marks → get_or flags j false ≡ true
    → AreMarked flags (sources ++ Made j ∷ []) (slice_set marks j true)
newly flags sources marks j are flag =
    let inside : j < length marks = let lt = within flags j flag in omega (arith, lt, are.long) in
    record {
      long = length-set marks j true ∙ are.long;
      onto = λ i among flagged. ⊎_elim
          (λ (e : i ≡ j). ap (λ k. get_or (slice_set marks j true) k false) e ∙ get_or-set_same marks j true false inside)
          (λ (ne : i ≡ j → ⊥). get_or-set_other marks j i true false ne ∙ ⊎_elim
          (λ (h : In (Made i) sources). are.onto i (contains_from sources (Made i) h) flagged)
          (λ (h : In (Made i) (Made j ∷ [])). ⊎_elim (λ (e : Made i ≡ Made j). absurd (ne (same_number i j e))) (λ (never : ⊥). absurd never) h)
          (in_parts sources (Made j ∷ []) (Made i) (in_from (sources ++ Made j ∷ []) (Made i) among)))
          (cases_eq i j);
      from = λ i mark. ⊎_elim
          (λ (e : i ≡ j). (contains_from (sources ++ Made j ∷ []) (Made i) (in_right sources (Made j ∷ []) (Made i) (inl (ap Made e))), ap (λ k. get_or flags k false) e ∙ flag))
          (λ (ne : i ≡ j → ⊥). let was = are.from i (sym (get_or-set_other marks j i true false ne) ∙ mark) in
          (contains_from (sources ++ Made j ∷ []) (Made i) (in_left sources (Made j ∷ []) (Made i) (in_from sources (Made i) was.0)), was.1))
          (cases_eq i j);
      few =
          let f : Bool → ℕ = λ m. cond m 1 0 in
          let split : sum_by f (slice_set marks j true) + f (get_or marks j false) ≡ sum_by f marks + f true = sum_by-set f marks j true false inside in
          let more : count_by (zero_in flags) (sources ++ Made j ∷ []) ≡ count_by (zero_in flags) sources + cond (zero_in flags (Made j)) 1 0 = count_more (zero_in flags) sources (Made j) in
          let one : cond {A = ℕ} (zero_in flags (Made j)) 1 0 ≡ 1 = ap (λ b. cond {A = ℕ} b 1 0) flag in
          omega (arith, split, more, one, are.few);
    }

-- ---- one source more
is_made : Src → Bool
is_made (Input k) = false
is_made (Latch k) = false
is_made One = false
is_made Zero = false
is_made (Made k) = true

no_cell : (src : Src) (i : ℕ) → is_made src ≡ false → src ≡ Made i → ⊥
unfolding is_made
no_cell src i e is = true≢false (sym (ap is_made is) ∙ e)

set_mark : (flags : List Bool) (sources : List Src) (marks : List Bool) (src : Src) → zero_in flags src ≡ true → AreMarked flags sources marks → AreMarked flags (sources ++ src ∷ []) (marks_with marks src)
unfolding is_made
set_mark flags sources marks (Input i) e are = unmarked flags sources marks (Input i) are (λ j is flag. no_cell (Input i) j refl is)
set_mark flags sources marks (Latch i) e are = unmarked flags sources marks (Latch i) are (λ j is flag. no_cell (Latch i) j refl is)
set_mark flags sources marks One e are = unmarked flags sources marks One are (λ j is flag. no_cell One j refl is)
set_mark flags sources marks Zero e are = unmarked flags sources marks Zero are (λ j is flag. no_cell Zero j refl is)
set_mark flags sources marks (Made i) e are =
    let inside : i < length marks = let lt = within flags i e in omega (arith, lt, are.long) in
    subst (λ (m : List Bool). AreMarked flags (sources ++ Made i ∷ []) m) (sym (ap (λ b. cond b (slice_set marks i true) marks) (lt-ltb i (length marks) inside))) (newly flags sources marks i are e)

one_mark : (flags : List Bool) (sources : List Src) (marks : List Bool) (src : Src) (b : Bool) → zero_in flags src ≡ b → AreMarked flags sources marks
    → AreMarked flags (sources ++ src ∷ []) (cond b (marks_with marks src) marks)
one_mark flags sources marks src true e are = set_mark flags sources marks src e are
one_mark flags sources marks src false e are = unmarked flags sources marks src are (λ j is flag. true≢false (sym flag ∙ ap (zero_in flags) (sym is) ∙ e))

pub marks_more : (flags : List Bool) (sources : List Src) (i : ℕ) (d : Src) (marks new : List Bool) → i < length sources → AreMarked flags (take i sources) marks
    → new ≡ cond (zero_in flags (get_or sources i d)) (marks_with marks (get_or sources i d)) marks → AreMarked flags (take (i + 1) sources) new
marks_more flags sources i d marks new lt are is =
    subst (λ (m : List Bool). AreMarked flags (take (i + 1) sources) m) (sym is)
    (subst (λ (l : List Src). AreMarked flags l (cond (zero_in flags (get_or sources i d)) (marks_with marks (get_or sources i d)) marks)) (sym (take_more sources i d lt))
    (one_mark flags (take i sources) marks (get_or sources i d) (zero_in flags (get_or sources i d)) refl are))

none_counted : (n : ℕ) → count_by (λ (mark : Bool). mark) (replicate n false) ≡ 0
none_counted zero = refl
none_counted (suc n) = none_counted n

pub no_marks : (flags : List Bool) (sources : List Src) (marks : List Bool) (n : ℕ) → marks ≡ replicate n false → n ≡ length flags → AreMarked flags (take 0 sources) marks
no_marks flags sources marks n is many =
    record {
      long = ap length is ∙ length-replicate n false ∙ many;
      onto = λ i among flag. absurd (in_from [] (Made i) among);
      from = λ i mark. absurd (true≢false (sym mark ∙ ap (λ (m : List Bool). get_or m i false) is ∙ same_throughout n i false));
      few = let e : count_by (λ (mark : Bool). mark) marks ≡ 0 = ap (count_by (λ (mark : Bool). mark)) is ∙ none_counted n in omega (arith, e);
    }

pub all_marked : (flags : List Bool) (sources : List Src) (i : ℕ) (marks : List Bool) → length sources ≤ i → AreMarked flags (take i sources) marks → AreMarked flags sources marks
all_marked flags sources i marks le are = subst (λ (l : List Src). AreMarked flags l marks) (take_all i sources le) are

-- a number past the cells names none
pub nothing_read : (found : List Src) (cells : List Cell) (src : Src) (i : ℕ) → src ≡ Made i → slice_get cells i ≡ None → found ≡ found ++ with_operands cells src
nothing_read found cells src i is none =
    sym (append-nil found) ∙ ap (λ (l : List Src). found ++ l) (sym (ap (with_operands cells) is ∙ ap (λ o. option_map_or (λ cell. Made i ∷ cell_operands cell) o []) none))

-- flags that are all set
pub all_true : (zeros flags : List Bool) (n : ℕ) → flags ≡ replicate n true → n ≡ length zeros → flags ≡ map (λ (zero : Bool). true) zeros
all_true zeros flags n is many = is ∙ ap (λ k. replicate k true) many ∙ by zeros
  where
    by : (zs : List Bool) → replicate (length zs) true ≡ map (λ (zero : Bool). true) zs
    by [] = refl
    by (z ∷ zs) = ap (λ (l : List Bool). true ∷ l) (by zs)

-- the same flags and marks, in slices
pub same_marked : (of_flags : List Bool → List Bool) (flags flags' : List Bool) (sources : List Src) (marks marks' : List Bool) → flags ≡ flags' → marks' ≡ marks → AreMarked (of_flags flags) sources marks
    → AreMarked (of_flags flags') sources marks'
same_marked of_flags flags flags' sources marks marks' is same are =
    subst (λ (m : List Bool). AreMarked (of_flags flags') sources m) (sym same) (subst (λ (f : List Bool). AreMarked (of_flags f) sources marks) is are)
