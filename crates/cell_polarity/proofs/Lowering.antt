-- Low cells, made one after another.
use Rattle.std.proofs.Common.{◌≡◌, refl, sym, ◌∙◌, ap, ap₂, ℕ, zero, suc, replicate, ◌+◌, ◌<◌, ◌≤◌, Bool, true, false, true≢false, ◌&&◌, ◌||◌, not, cond, List, [], ◌∷◌, ◌++◌, length, get_or, take, subst, ⊎_elim, ◌⊎◌, arith}
use Rattle.std.specs.Prelude.{sum_by}
use Rattle.std.specs.List.{list_any}
use Rattle.std.proofs.lemmas.Bool.{and_parts, or_cases, ltb-true, false_from_ne_true}
use Rattle.std.proofs.lemmas.List.{length_push, length-append, get_or_append_left, get_or_push}
use Rattle.std.proofs.lemmas.List.Folds.{list_any-append}
use Rattle.std.proofs.lemmas.List.Sums.{sum_by_more}
use Rattle.lists.proofs.Numbers.{less_or_last}
use Rattle.cell_core.specs.declared.cells.Src.{Src}
use Rattle.cell_core.specs.declared.cells.Src.TheVariants.{Input, Latch, One, Zero, Cell as Made}
use Rattle.cell_core.specs.declared.cells.Cell.{Cell}
use Rattle.cell_core.specs.declared.cells.Cell.TheVariants.{Or, Xor, AndNot}
use Rattle.cell_core.specs.declared.list.CellList.{CellList}
use Rattle.cell_core.specs.Sources.{is_there, are_there, reads_there, is_one, reads_one, read_one}
use Rattle.cell_core.specs.Meaning.{cell_bit, cell_bits, bit_of}
use Rattle.cell_core.proofs.OwnBits.{cell_in_order, bit_of_cell}
use Rattle.cell_sharing.specs.Grown.{HasSource, Grows, Answers}
use Rattle.cell_sharing.proofs.Growing.{there_after, bit_after}
use Rattle.cell_polarity.specs.Zero.{zero_bit, complement_if, cells_for}
use Rattle.cell_polarity.specs.Low.{low_of, zero_in, IsLowSource, ReadLow, own_bit, low_bit, xor_bit, cells_in, AnswersLow, IsLow, AreLow}
use Rattle.cell_polarity.proofs.Zeros.{complement_twice, nothing_there}

-- ---- an answer that needs no constant 1
pub lower : (l l' : CellList) (n k : ℕ) (P : Type 0) (src : Src) (wanted meant : List Bool → List Bool → Bool) → (P → ⊥) → n ≤ k
    → ((inputs state : List Bool) → wanted inputs state ≡ meant inputs state) → Answers l l' n P src wanted → AnswersLow l l' k src meant
lower l l' n k P src wanted meant never fits same a =
    record {
      grows = record { more = a.grows.more; adds = a.grows.adds; few = omega (arith, a.grows.few, fits); ones = λ e. never (a.grows.ones e) };
      there = a.there;
      one = λ e. never (a.one e);
      bit = λ inputs state. a.bit inputs state ∙ same inputs state;
    }

pub neither : (a b : Src) → is_one a ≡ false → is_one b ≡ false → (is_one a ≡ true) ⊎ (is_one b ≡ true) → ⊥
neither a b p q = λ h. ⊎_elim (λ (e : is_one a ≡ true). true≢false (sym e ∙ p)) (λ (e : is_one b ≡ true). true≢false (sym e ∙ q)) h

pub not_either : (a b : Src) → is_one a ≡ false → is_one b ≡ false → (is_one a || is_one b) ≡ true → ⊥
not_either a b p q e = neither a b p q (or_cases (is_one a) (is_one b) e)

-- ---- what an operation is of complements
pub or_second : (x y : Bool) → (y && not x) ≡ not (x || not y)
or_second true true = refl
or_second true false = refl
or_second false true = refl
or_second false false = refl

pub or_first : (x y : Bool) → (x && not y) ≡ not (not x || y)
or_first true true = refl
or_first true false = refl
or_first false true = refl
or_first false false = refl

pub or_both : (x y : Bool) → (x && y) ≡ not (not x || not y)
or_both true true = refl
or_both true false = refl
or_both false true = refl
or_both false false = refl

pub not_second : (x y : Bool) → (x && y) ≡ (x && not (not y))
not_second true true = refl
not_second true false = refl
not_second false y = refl

pub not_first : (x y : Bool) → (x || y) ≡ not (not x && not y)
not_first true y = refl
not_first false true = refl
not_first false false = refl

pub not_both : (x y : Bool) → (y && not x) ≡ (not x && not (not y))
not_both true true = refl
not_both true false = refl
not_both false true = refl
not_both false false = refl

pub xor_complement : (p q x y : Bool) → xor_bit x y ≡ complement_if (xor_bit p q) (xor_bit (complement_if p x) (complement_if q y))
xor_complement false false x y = refl
xor_complement true false true true = refl
xor_complement true false true false = refl
xor_complement true false false true = refl
xor_complement true false false false = refl
xor_complement false true true true = refl
xor_complement false true true false = refl
xor_complement false true false true = refl
xor_complement false true false false = refl
xor_complement true true true true = refl
xor_complement true true true false = refl
xor_complement true true false true = refl
xor_complement true true false false = refl

-- ---- what stands for a source
module _ (old : CellList) (count : ℕ) (zeros : List Bool) (now : CellList) (lows : List Src) (are : AreLow old count zeros now lows) where
  pub zero_at : (src : Src) → is_there old.inputs (length old.starts) count src ≡ true → zero_in zeros src ≡ zero_bit old src
  zero_at (Input i) there = refl
  zero_at (Latch i) there = refl
  zero_at One there = refl
  zero_at Zero there = refl
  zero_at (Made i) there = are.zero_bits i (ltb-true i count there)

  pub low_at : (src : Src) → is_there old.inputs (length old.starts) count src ≡ true → IsLow old now src (low_of lows src)
  low_at (Input i) there = record { stands = record { there = there; bit = λ inputs state. ap (λ z. complement_if z (get_or inputs i false)) (sym (nothing_there i)) }; other = refl }
  low_at (Latch i) there = record { stands = record { there = there; bit = λ inputs state. ap (λ z. complement_if z (get_or state i false)) (sym (nothing_there i)) }; other = refl }
  low_at One there = record { stands = record { there = refl; bit = λ inputs state. refl }; other = refl }
  low_at Zero there = record { stands = record { there = refl; bit = λ inputs state. refl }; other = refl }
  low_at (Made i) there = are.each i (ltb-true i count there)

  next_reads : (d : Cell) → count < length old.cells → reads_there old.inputs (length old.starts) count (get_or old.cells count d) ≡ true
  next_reads d within =
      let e : count ≡ 0 + count = omega arith in
      ap (λ n. reads_there old.inputs (length old.starts) n (get_or old.cells count d)) e ∙ cell_in_order old.inputs (length old.starts) 0 old.cells count d within old.in_order

  low_source : (src : Src) → is_there old.inputs (length old.starts) count src ≡ true → IsLowSource now (low_of lows src)
  low_source src there =
      let low = low_at src there in
      (ap₂ (λ (i : ℕ) (s : List Bool). is_there i (length s) (length now.cells) (low_of lows src)) are.inputs are.starts ∙ low.stands.there, low.other)

  read_low : (cell : Cell) → reads_there old.inputs (length old.starts) count cell ≡ true → ReadLow now lows cell
  read_low (Or a b) there = (low_source a (and_parts _ _ there).0, low_source b (and_parts _ _ there).1)
  read_low (Xor a b) there = (low_source a (and_parts _ _ there).0, low_source b (and_parts _ _ there).1)
  read_low (AndNot a b) there = (low_source a (and_parts _ _ there).0, low_source b (and_parts _ _ there).1)

  pub read_next : (d : Cell) → count < length old.cells → ReadLow now lows (get_or old.cells count d)
  read_next d within = read_low (get_or old.cells count d) (next_reads d within)

  own_at : (src : Src) → is_there old.inputs (length old.starts) count src ≡ true → (inputs state : List Bool)
      → own_bit (zero_in zeros src) (low_of lows src) now.cells inputs state ≡ bit_of old inputs state src
  own_at src there inputs state =
      ap (λ z. own_bit z (low_of lows src) now.cells inputs state) (zero_at src there)
      ∙ ap (complement_if (zero_bit old src)) ((low_at src there).stands.bit inputs state)
      ∙ complement_twice (zero_bit old src) (bit_of old inputs state src)

  -- a cell at zero, and the wanted bits of its low source
  zero_of : (cell : Cell) → reads_there old.inputs (length old.starts) count cell ≡ true → cell_bit [] [] zeros cell ≡ cell_bit [] [] (cell_bits [] [] old.cells) cell
  zero_of (Or a b) there = ap₂ (λ x y. x || y) (zero_at a (and_parts _ _ there).0) (zero_at b (and_parts _ _ there).1)
  zero_of (Xor a b) there = ap₂ xor_bit (zero_at a (and_parts _ _ there).0) (zero_at b (and_parts _ _ there).1)
  zero_of (AndNot a b) there = ap₂ (λ x y. x && not y) (zero_at a (and_parts _ _ there).0) (zero_at b (and_parts _ _ there).1)

  bit_of_low : (cell : Cell) → reads_there old.inputs (length old.starts) count cell ≡ true → (inputs state : List Bool)
      → low_bit zeros lows cell now.cells inputs state ≡ complement_if (cell_bit [] [] (cell_bits [] [] old.cells) cell) (cell_bit inputs state (cell_bits inputs state old.cells) cell)
  bit_of_low (Or a b) there inputs state =
      ap₂ complement_if (ap₂ (λ x y. x || y) (zero_at a (and_parts _ _ there).0) (zero_at b (and_parts _ _ there).1))
      (ap₂ (λ x y. x || y) (own_at a (and_parts _ _ there).0 inputs state) (own_at b (and_parts _ _ there).1 inputs state))
  bit_of_low (Xor a b) there inputs state =
      ap₂ complement_if (ap₂ xor_bit (zero_at a (and_parts _ _ there).0) (zero_at b (and_parts _ _ there).1))
      (ap₂ xor_bit (own_at a (and_parts _ _ there).0 inputs state) (own_at b (and_parts _ _ there).1 inputs state))
  bit_of_low (AndNot a b) there inputs state =
      ap₂ complement_if (ap₂ (λ x y. x && not y) (zero_at a (and_parts _ _ there).0) (zero_at b (and_parts _ _ there).1))
      (ap₂ (λ x y. x && not y) (own_at a (and_parts _ _ there).0 inputs state) (own_at b (and_parts _ _ there).1 inputs state))

  cells_same : (cell : Cell) → reads_there old.inputs (length old.starts) count cell ≡ true → cells_in zeros cell ≡ cells_for old cell
  cells_same (Or a b) there = ap₂ (λ p q. cond {A = ℕ} (p && q) 2 1) (zero_at a (and_parts _ _ there).0) (zero_at b (and_parts _ _ there).1)
  cells_same (Xor a b) there = refl
  cells_same (AndNot a b) there = ap₂ (λ p q. cond {A = ℕ} (not p && q) 2 1) (zero_at a (and_parts _ _ there).0) (zero_at b (and_parts _ _ there).1)

  -- ---- one more cell
  module _ (l' : CellList) (cell d : Cell) (src : Src) (zero : Bool) (zeros' : List Bool) (lows' : List Src) (within : count < length old.cells) (is : get_or old.cells count d ≡ cell)
      (answers : AnswersLow now l' (cells_in zeros cell) src (low_bit zeros lows cell now.cells)) (zero_is : zero ≡ cell_bit [] [] zeros cell)
      (zeros_are : zeros' ≡ zeros ++ zero ∷ []) (lows_are : lows' ≡ lows ++ src ∷ []) where
    reads : reads_there old.inputs (length old.starts) count cell ≡ true
    reads = ap (reads_there old.inputs (length old.starts) count) (sym is) ∙ next_reads d within

    own : (inputs state : List Bool) → bit_of old inputs state (Made count) ≡ cell_bit inputs state (cell_bits inputs state old.cells) cell
    own inputs state = bit_of_cell old count d inputs state within ∙ ap (cell_bit inputs state (cell_bits inputs state old.cells)) is

    grows : Grows now l' (cells_in zeros cell) ⊥
    grows = answers.grows

    still : (i : ℕ) → i < count → IsLow old l' (Made i) (get_or lows' i Zero)
    still i lt =
        let before : IsLow old now (Made i) (get_or lows i Zero) = are.each i lt in
        let same : get_or lows' i Zero ≡ get_or lows i Zero = ap (λ (s : List Src). get_or s i Zero) lows_are ∙ get_or_append_left lows (src ∷ []) Zero i (omega (arith, lt, are.long)) in
        let here : HasSource now (get_or lows i Zero) = ap₂ (λ (n : ℕ) (s : List Bool). is_there n (length s) (length now.cells) (get_or lows i Zero)) are.inputs are.starts ∙ before.stands.there in
        subst (IsLow old l' (Made i)) (sym same)
        (record {
          stands = record {
            there = ap₂ (λ (n : ℕ) (s : List Bool). is_there n (length s) (length l'.cells) (get_or lows i Zero)) (sym (grows.adds.inputs ∙ are.inputs)) (sym (grows.adds.starts ∙ are.starts))
                ∙ there_after now l' _ _ grows (get_or lows i Zero) here;
            bit = λ inputs state. bit_after now l' _ _ grows (get_or lows i Zero) here inputs state ∙ before.stands.bit inputs state;
          };
          other = before.other;
        })

    last : IsLow old l' (Made count) (get_or lows' count Zero)
    last =
        let same : get_or lows' count Zero ≡ src = ap (λ (s : List Src). get_or s count Zero) lows_are ∙ get_or_push lows src Zero count are.long in
        subst (IsLow old l' (Made count)) (sym same)
        (record {
          stands = record {
            there = ap₂ (λ (n : ℕ) (s : List Bool). is_there n (length s) (length l'.cells) src) (sym (grows.adds.inputs ∙ are.inputs)) (sym (grows.adds.starts ∙ are.starts)) ∙ answers.there;
            bit = λ inputs state. answers.bit inputs state ∙ bit_of_low cell reads inputs state
                ∙ ap₂ complement_if (sym (own [] [])) (sym (own inputs state));
          };
          other = false_from_ne_true (is_one src) (λ e. answers.one e);
        })

    zero_still : (i : ℕ) → i < count → get_or zeros' i false ≡ zero_bit old (Made i)
    zero_still i lt = ap (λ (z : List Bool). get_or z i false) zeros_are ∙ get_or_append_left zeros (zero ∷ []) false i (omega (arith, lt, are.zeros_long)) ∙ are.zero_bits i lt

    zero_last : get_or zeros' count false ≡ zero_bit old (Made count)
    zero_last = ap (λ (z : List Bool). get_or z count false) zeros_are ∙ get_or_push zeros zero false count are.zeros_long ∙ zero_is ∙ zero_of cell reads ∙ sym (own [] [])

    no_one : read_one l'.cells ≡ false
    no_one =
        ap (λ (c : List Cell). list_any reads_one c) grows.adds.cells ∙ list_any-append reads_one now.cells grows.more
        ∙ ap₂ (λ x y. x || y) are.without_one (false_from_ne_true (list_any reads_one grows.more) (λ e. grows.ones e))

    pub low_more : AreLow old (count + 1) zeros' l' lows'
    low_more =
        let many : length l'.cells ≡ length now.cells + length grows.more = ap length grows.adds.cells ∙ length-append now.cells grows.more in
        let sum : sum_by (cells_for old) (take (count + 1) old.cells) ≡ sum_by (cells_for old) (take count old.cells) + cells_for old (get_or old.cells count d) = sum_by_more (cells_for old) old.cells count d within in
        let cost : cells_in zeros cell ≡ cells_for old (get_or old.cells count d) = cells_same cell reads ∙ ap (cells_for old) (sym is) in
        record {
          zeros_long = ap length zeros_are ∙ length_push zeros zero ∙ ap (λ n. n + 1) are.zeros_long;
          long = ap length lows_are ∙ length_push lows src ∙ ap (λ n. n + 1) are.long;
          inputs = grows.adds.inputs ∙ are.inputs;
          starts = grows.adds.starts ∙ are.starts;
          zero_bits = λ i lt. ⊎_elim (zero_still i) (λ (e : i ≡ count). subst (λ j. get_or zeros' j false ≡ zero_bit old (Made j)) (sym e) zero_last) (less_or_last i count lt);
          each = λ i lt. ⊎_elim (still i) (λ (e : i ≡ count). subst (λ j. IsLow old l' (Made j) (get_or lows' j Zero)) (sym e) last) (less_or_last i count lt);
          without_one = no_one;
          few = omega (arith, many, sum, cost, are.few, grows.few);
        }

-- ---- before the first
pub none_low : (old now : CellList) → now.inputs ≡ old.inputs → now.starts ≡ old.starts → now.cells ≡ [] → (zeros : List Bool) (lows : List Src) → zeros ≡ [] → lows ≡ [] → AreLow old 0 zeros now lows
none_low old now inputs starts none zeros lows no_zeros no_lows =
    record {
      zeros_long = ap length no_zeros;
      long = ap length no_lows;
      inputs = inputs;
      starts = starts;
      zero_bits = λ i lt. absurd (omega (arith, lt));
      each = λ i lt. absurd (omega (arith, lt));
      without_one = ap (λ (c : List Cell). list_any reads_one c) none;
      few = let e : length now.cells ≡ 0 = ap length none in omega (arith, e);
    }

pub zeros_there : (inputs latches cells n : ℕ) → are_there inputs latches cells (replicate n Zero) ≡ true
zeros_there inputs latches cells zero = refl
zeros_there inputs latches cells (suc n) = zeros_there inputs latches cells n
