-- Products of columns.
use Rattle.std.proofs.Common.{◌≡◌, ◌≢◌, refl, sym, ◌∙◌, ap, ap₂, subst, ℕ, suc, zero, ◌+◌, ◌*◌, ◌<◌, ◌≤◌, ◌==◌, min, Bool, true, false, cond, ◌&&◌, ◌||◌, not, List, [], ◌∷◌, take, length, get_or, ◌⊎◌, inl, inr, ⊎_elim, arith, zip}
use Rattle.std.specs.List.{list_all}
use Rattle.std.proofs.lemmas.Bool.{lt-ltb, le-ltb, cases_lt, ne_eqb, and_parts}
use Rattle.std.proofs.lemmas.List.{get_or-map, get_or-take, get_or_default, take_all, length-map, length-take}
use Rattle.std.proofs.lemmas.List.Sums.{sum_by_more, sum_by-take-le}
use Rattle.std.proofs.lemmas.List.Folds.{list_all_more, list_any_at, list_any_none}
use Rattle.std.proofs.lemmas.Slice.Zip.{length-zip, get_or-zip}
use Rattle.std.proofs.Math.Bool.{and-true, and_assoc}
use Rattle.netlist_core.specs.OwnWeight.{literals}
use Rattle.netlist_meaning.specs.CoverValue.{fits, product_holds}
use Rattle.cell_core.specs.declared.cells.Src.{Src}
use Rattle.cell_core.specs.declared.cells.Src.TheVariants.{Input, One}
use Rattle.cell_core.specs.declared.list.CellList.{CellList}
use Rattle.cell_core.specs.Sources.{is_there, is_one}
use Rattle.cell_core.specs.Meaning.{bit_in}
use Rattle.cell_sharing.specs.Grown.{HasSource, HasSources, bits_of, Answers}
use Rattle.cover_cells.specs.Covers.{start_of, RowNeedsOne, AnswersRow}
use Rattle.cell_meaning.specs.Needs.{has_no_positive}
use Rattle.cell_sharing.proofs.Growing.{grows, grows_refl, answers, bit_after}

-- the product of the first so many columns
abbrev pub so_far : ℕ → List ℕ → List Bool → Bool
so_far i row bits = list_all (λ column. fits column.0 column.1) (take i (zip row bits))

-- what a product has, as far as it has come from its start
abbrev pub ComesTo : CellList → CellList → List Src → List ℕ → Src → ℕ → Src → Type 0
ComesTo old new sources row start i product =
    Answers old new (2 * literals (take i row)) (RowNeedsOne sources row) product (λ inputs state. bit_in old.cells inputs state start && so_far i row (bits_of old sources inputs state))

-- ---- sources by place
pub source_there : (inputs latches made : ℕ) (sources : List Src) (i : ℕ) (d : Src) → i < length sources → list_all (is_there inputs latches made) sources ≡ true → is_there inputs latches made (get_or sources i d) ≡ true
source_there inputs latches made [] i d within there = absurd (omega arith)
source_there inputs latches made (src ∷ sources) zero d within there = (and_parts _ _ there).0
source_there inputs latches made (src ∷ sources) (suc i) d within there = source_there inputs latches made sources i d (omega arith) (and_parts _ _ there).1

pub bit_at : (list : CellList) (sources : List Src) (inputs state : List Bool) (i : ℕ) → i < length sources
    → get_or (bits_of list sources inputs state) i false ≡ bit_in list.cells inputs state (get_or sources i (Input 0))
bit_at list sources inputs state i within = get_or-map (bit_in list.cells inputs state) sources i (Input 0) false within

-- ---- one column more
pub so_far_more : (i : ℕ) (row : List ℕ) (bits : List Bool) → i < length row → i < length bits → so_far (i + 1) row bits ≡ (so_far i row bits && fits (get_or row i 0) (get_or bits i false))
so_far_more i row bits in_row in_bits =
    list_all_more (λ (column : ℕ × Bool). fits column.0 column.1) (zip row bits) i (0, false) (let e : length (zip row bits) ≡ min (length row) (length bits) = length-zip row bits in omega arith)
    ∙ ap (λ (column : ℕ × Bool). so_far i row bits && fits column.0 column.1) (get_or-zip row bits i (0, false) in_row in_bits)

pub literals_more : (row : List ℕ) (i : ℕ) → i < length row → literals (take (i + 1) row) ≡ literals (take i row) + literals (get_or row i 0 ∷ [])
literals_more row i within =
    let e : literals (take (i + 1) row) ≡ literals (take i row) + cond ((get_or row i 0 == 48) || (get_or row i 0 == 49)) 1 0 = sum_by_more (λ c. cond ((c == 48) || (c == 49)) 1 0) row i 0 within in
    omega arith

pub column_added : (l l' l'' : CellList) (sources : List Src) (row : List ℕ) (start product new : Src) (i : ℕ) → i < length row → i < length sources → HasSources l sources
    → ComesTo l l' sources row start i product
    → Answers l' l'' (2 * literals (get_or row i 0 ∷ [])) ((is_one product ≡ true) ⊎ (is_one (get_or sources i (Input 0)) ≡ true)) new (λ inputs state. bit_in l'.cells inputs state product && fits (get_or row i 0) (bit_in l'.cells inputs state (get_or sources i (Input 0))))
    → ComesTo l l'' sources row start (i + 1) new
column_added l l' l'' sources row start product new i in_row in_sources there first then =
    let source : HasSource l (get_or sources i (Input 0)) = source_there _ _ _ sources i (Input 0) in_sources there in
    answers l l' l'' _ _ _ _ _ _ new _ first.grows then (λ p. p)
    (λ q. ⊎_elim first.one (λ e. inl (list_any_at is_one sources i (Input 0) in_sources e)) q)
    (let e : literals (take (i + 1) row) ≡ literals (take i row) + literals (get_or row i 0 ∷ []) = literals_more row i in_row in omega arith)
    _ (λ inputs state.
    let bits : List Bool = bits_of l sources inputs state in
    ap₂ (λ a b. a && fits (get_or row i 0) b) (first.bit inputs state) (bit_after l l' _ _ first.grows (get_or sources i (Input 0)) source inputs state ∙ sym (bit_at l sources inputs state i in_sources))
    ∙ and_assoc (bit_in l.cells inputs state start) (so_far i row bits) (fits (get_or row i 0) (get_or bits i false))
    ∙ ap (λ b. bit_in l.cells inputs state start && b) (sym (so_far_more i row bits in_row (let e : length bits ≡ length sources = length-map sources (bit_in l.cells inputs state) in omega arith))))

-- ---- the column of the start needs no cell
takes_one : (c : ℕ) (bit : Bool) → c ≡ 49 → fits c bit ≡ bit
takes_one c true is = ap (λ n. fits n true) is
takes_one c false is = ap (λ n. fits n false) is

idle : (a b c : Bool) → c ≡ a → (a && b) ≡ (a && (b && c))
idle true true c e = sym e
idle true false c e = refl
idle false b c e = refl

pub column_skipped : (l l' : CellList) (sources : List Src) (row : List ℕ) (start product : Src) (i : ℕ) → i < length row → i < length sources
    → get_or row i 0 ≡ 49 → start ≡ get_or sources i (Input 0) → ComesTo l l' sources row start i product → ComesTo l l' sources row start (i + 1) product
column_skipped l l' sources row start product i in_row in_sources positive starts first =
    record {
      grows = grows l l' l' _ 0 _ _ _ _ first.grows (grows_refl l' (RowNeedsOne sources row)) (λ p. p) (λ p. p)
          (let e : literals (take (i + 1) row) ≡ literals (take i row) + literals (get_or row i 0 ∷ []) = literals_more row i in_row in omega arith);
      there = first.there;
      one = first.one;
      bit = λ inputs state. first.bit inputs state
          ∙ idle (bit_in l.cells inputs state start) (so_far i row (bits_of l sources inputs state)) (fits (get_or row i 0) (get_or (bits_of l sources inputs state) i false))
          (takes_one (get_or row i 0) (get_or (bits_of l sources inputs state) i false) positive ∙ bit_at l sources inputs state i in_sources ∙ ap (bit_in l.cells inputs state) (sym starts))
          ∙ ap (λ b. bit_in l.cells inputs state start && b)
          (sym (so_far_more i row (bits_of l sources inputs state) in_row (let e : length (bits_of l sources inputs state) ≡ length sources = length-map sources (bit_in l.cells inputs state) in omega arith)));
    }

-- ---- the start
pub start_is : (sources : List Src) (first width : ℕ) → first < width → first < length sources → start_of sources first width ≡ get_or sources first (Input 0)
start_is sources first width lt within = ap (λ b. cond b (get_or sources first One) One) (lt-ltb first width lt) ∙ get_or_default sources first One (Input 0) within

pub start_one : (sources : List Src) (first width : ℕ) → width ≤ first → start_of sources first width ≡ One
start_one sources first width le = ap (λ b. cond b (get_or sources first One) One) (le-ltb first width le)

-- what is known of the first positive literal
pub record IsFirst (row : List ℕ) (first : ℕ) : Type 0 where
  pub within : first ≤ length row
  pub before : (k : ℕ) → k < first → get_or row k 0 ≢ 49
  pub found : first < length row → get_or row first 0 ≡ 49

none_positive : (sources : List Src) (row : List ℕ) (first : ℕ) → IsFirst row first → min (length row) (length sources) ≤ first → has_no_positive (length sources) row ≡ true
none_positive sources row first is le =
    let e : length (take (length sources) row) ≡ min (length sources) (length row) = length-take (length sources) row in
    ap not (list_any_none (λ c. c == 49) (take (length sources) row) (λ k d within.
    ne_eqb _ _ (λ same. is.before k (omega arith) (get_or_default row k 0 d (omega arith) ∙ sym (get_or-take (length sources) row k d (omega arith)) ∙ same))))

pub comes_from_start : (l : CellList) (sources : List Src) (row : List ℕ) (first : ℕ) → IsFirst row first → HasSources l sources
    → ComesTo l l sources row (start_of sources first (min (length row) (length sources))) 0 (start_of sources first (min (length row) (length sources)))
comes_from_start l sources row first is there =
    record {
      grows = grows_refl l (RowNeedsOne sources row);
      there = ⊎_elim (λ lt. subst (λ s. HasSource l s) (sym (start_is sources first (min (length row) (length sources)) lt (omega arith))) (source_there _ _ _ sources first (Input 0) (omega arith) there)) (λ le. ap (λ s. is_there l.inputs (length l.starts) (length l.cells) s) (start_one sources first (min (length row) (length sources)) le)) (cases_lt first (min (length row) (length sources)));
      one = λ e. ⊎_elim (λ lt. inl (list_any_at is_one sources first (Input 0) (omega arith) (ap is_one (sym (start_is sources first (min (length row) (length sources)) lt (omega arith))) ∙ e))) (λ le. inr (none_positive sources row first is le)) (cases_lt first (min (length row) (length sources)));
      bit = λ inputs state. sym (and-true (bit_in l.cells inputs state (start_of sources first (min (length row) (length sources)))));
    }

-- ---- all columns
held : (row : List ℕ) (bits : List Bool) (i : ℕ) → i < length row → i < length bits → get_or row i 0 ≡ 49 → product_holds row bits ≡ true → get_or bits i false ≡ true
held [] bits i in_row in_bits positive holds = absurd (omega arith)
held (c ∷ row) [] i in_row in_bits positive holds = absurd (omega arith)
held (c ∷ row) (bit ∷ bits) zero in_row in_bits positive holds = sym (takes_one c bit positive) ∙ (and_parts _ _ holds).0
held (c ∷ row) (bit ∷ bits) (suc i) in_row in_bits positive holds = held row bits i (omega arith) (omega arith) positive (and_parts _ _ holds).1

absorbed : (a b : Bool) → (b ≡ true → a ≡ true) → (a && b) ≡ b
absorbed a true h = ap (λ t. t && true) (h refl)
absorbed true false h = refl
absorbed false false h = refl

pub comes_to_row : (l l' : CellList) (sources : List Src) (row : List ℕ) (first : ℕ) (product : Src) → IsFirst row first
    → ComesTo l l' sources row (start_of sources first (min (length row) (length sources))) (min (length row) (length sources)) product → AnswersRow l l' sources row product
comes_to_row l l' sources row first product is h =
    record {
      grows = grows l l' l' _ 0 _ _ _ _ h.grows (grows_refl l' (RowNeedsOne sources row)) (λ p. p) (λ p. p) (let e : literals (take (min (length row) (length sources)) row) ≤ literals row = sum_by-take-le _ row (min (length row) (length sources)) in omega arith);
      there = h.there;
      one = h.one;
      bit = λ inputs state. h.bit inputs state ∙ whole inputs state;
    }
  where
    long : (inputs state : List Bool) → length (bits_of l sources inputs state) ≡ length sources
    long inputs state = length-map sources (bit_in l.cells inputs state)

    start_held : (inputs state : List Bool) → product_holds row (bits_of l sources inputs state) ≡ true → bit_in l.cells inputs state (start_of sources first (min (length row) (length sources))) ≡ true
    start_held inputs state holds =
        ⊎_elim
        (λ lt.
        ap (bit_in l.cells inputs state) (start_is sources first (min (length row) (length sources)) lt (omega arith)) ∙ sym (bit_at l sources inputs state first (omega arith))
        ∙ held row (bits_of l sources inputs state) first (omega arith) (omega (arith, long inputs state)) (is.found (omega arith)) holds)
        (λ le. ap (bit_in l.cells inputs state) (start_one sources first (min (length row) (length sources)) le))
        (cases_lt first (min (length row) (length sources)))

    whole : (inputs state : List Bool) → (bit_in l.cells inputs state (start_of sources first (min (length row) (length sources))) && so_far (min (length row) (length sources)) row (bits_of l sources inputs state)) ≡ product_holds row (bits_of l sources inputs state)
    whole inputs state =
        let e : length (zip row (bits_of l sources inputs state)) ≡ min (length row) (length (bits_of l sources inputs state)) = length-zip row (bits_of l sources inputs state) in
        ap (λ z. bit_in l.cells inputs state (start_of sources first (min (length row) (length sources))) && list_all (λ (column : ℕ × Bool). fits column.0 column.1) z) (take_all (min (length row) (length sources)) (zip row (bits_of l sources inputs state)) (omega (arith, long inputs state)))
        ∙ absorbed _ _ (start_held inputs state)
