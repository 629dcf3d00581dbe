-- What is written is in order.
use Rattle.std.proofs.Common.{◌≡◌, ◌≢◌, refl, sym, ◌∙◌, ap, ℕ, zero, suc, ◌+◌, ◌≤◌, ◌<◌, ◌^◌, Bool, true, false, cond, List, [], ◌∷◌, ◌++◌, length, map, flat_map, get_or, arith}
use Rattle.std.specs.Prelude.{AllPairs}
use Rattle.std.specs.List.{AllByRecursion, range_with_len}
use Rattle.std.specs.Str.{bytes_eq}
use Rattle.std.proofs.lemmas.List.FromFn.{length-map-range_with_len, get_or-map-range_with_len}
use Rattle.std.proofs.lemmas.List.Folds.{list_any_at}
use Rattle.lists.proofs.Names.{bytes_eq-same}
use Rattle.vcd_write.specs.Reading.{VcdVar, VcdValue, VcdBlock, ReadsAsVcd, last_time_after, IsWord, AreRising, BeginsAtZero, has_id, IsInOrder}
use Rattle.vcd_write.specs.Writing.{Waves, vcd_id, var_of, is_written, value_of, block_of, last_block, vcd_form, vcd_text}
use Rattle.vcd_write.specs.Laws.{TextsSayWaves}
use Rattle.vcd_write.proofs.OneForm.{reads_as_one_form}
use Rattle.vcd_write.proofs.Ids.{ids_are_distinct, digits_are_words}
use Rattle.vcd_write.proofs.Values.{bit_is}

word_at : (words : List (List ℕ)) (k : ℕ) → AllByRecursion IsWord words → k < length words → IsWord (get_or words k [])
word_at [] k all within = absurd (omega arith)
word_at (word ∷ words) zero all within = all.0
word_at (word ∷ words) (suc k) all within = word_at words k all.1 (omega (arith, within))

-- what holds of each number of a range holds of the list that is made of them
all_of_range : {X : Type 0} (P : X → Type 0) (f : ℕ → X) (a many : ℕ) → ((k : ℕ) → a ≤ k → k < a + many → P (f k)) → AllByRecursion P (map f (range_with_len a many))
all_of_range P f a zero each = tt
all_of_range P f a (suc many) each = (each a (omega arith) (omega arith), all_of_range P f (a + 1) many (λ k from to. each k (omega (arith, from)) (omega (arith, to))))

all_and_last : {X : Type 0} (P : X → Type 0) (xs : List X) (x : X) → AllByRecursion P xs → P x → AllByRecursion P (xs ++ x ∷ [])
all_and_last P [] x all last = (last, tt)
all_and_last P (y ∷ ys) x all last = (all.0, all_and_last P ys x all.1 last)

all_joined : {X : Type 0} (P : X → Type 0) (xs ys : List X) → AllByRecursion P xs → AllByRecursion P ys → AllByRecursion P (xs ++ ys)
all_joined P [] ys all more = more
all_joined P (x ∷ xs) ys all more = (all.0, all_joined P xs ys all.1 more)

module _ (w : Waves) where
  abbrev many : ℕ
  many = length w.references

  abbrev vars : List VcdVar
  vars = map (var_of w) (range_with_len 0 (length w.references))

  var_at : (n : ℕ) (d : VcdVar) → n < many → get_or vars n d ≡ var_of w n
  var_at n d within = get_or-map-range_with_len (var_of w) 0 many n n d within (omega arith)

  count : length vars ≡ many
  count = length-map-range_with_len (var_of w) 0 many

  distinct : AllPairs (λ a b. a.id ≢ b.id) vars
  distinct i j d lt within e =
      let j_low : j < many = omega (arith, within, count) in
      let same = ids_are_distinct i j (sym (ap (λ v. v.id) (var_at i d (omega (arith, lt, j_low)))) ∙ e ∙ ap (λ v. v.id) (var_at j d j_low)) in
      omega (arith, lt, same)

  rising : (least a n : ℕ) → least ≤ a → a + n ≡ w.cycles → AreRising least (map (block_of w) (range_with_len a n) ++ last_block w ∷ [])
  rising least a zero low end = (omega (arith, low, end), tt)
  rising least a (suc n) low end = (low, rising (suc a) (a + 1) n (omega arith) (omega (arith, end)))

  from_zero : (n : ℕ) → w.cycles ≡ n → BeginsAtZero (map (block_of w) (range_with_len 0 n) ++ last_block w ∷ [])
  from_zero zero e = e
  from_zero (suc n) e = refl

  known_id : (n : ℕ) → n < many → has_id vars (vcd_id n) ≡ true
  known_id n within =
      list_any_at (λ var. bytes_eq var.id (vcd_id n)) vars n (var_of w n) (omega (arith, within, count))
      (ap (λ (v : VcdVar). bytes_eq v.id (vcd_id n)) (var_at n (var_of w n) within) ∙ bytes_eq-same (vcd_id n))

  known_values : (cycle a n : ℕ) → a + n ≤ many → AllByRecursion (λ (value : VcdValue). has_id vars value.id ≡ true) (flat_map (value_of w cycle) (range_with_len a n))
  known_values cycle a zero within = tt
  known_values cycle a (suc n) within =
      all_joined (λ (value : VcdValue). has_id vars value.id ≡ true) (value_of w cycle a) (flat_map (value_of w cycle) (range_with_len (a + 1) n)) (one (is_written w cycle a)) (known_values cycle (a + 1) n (omega (arith, within)))
    where
      one : (b : Bool) → AllByRecursion (λ (value : VcdValue). has_id vars value.id ≡ true) (cond b (record { id = vcd_id a; bit = w.bit a cycle } ∷ []) [])
      one true = (known_id a (omega (arith, within)), tt)
      one false = tt

  fit : (a n : ℕ) → a + n ≡ w.cycles → w.cycles < 2 ^ 64 → AllByRecursion (λ (block : VcdBlock). block.time < 2 ^ 64) (map (block_of w) (range_with_len a n) ++ last_block w ∷ [])
  fit a zero end small = (small, tt)
  fit a (suc n) end small = (omega (arith, end, small), fit (a + 1) n (omega (arith, end)) small)

  in_order : AllByRecursion IsWord w.references → w.cycles < 2 ^ 64 → IsInOrder (vcd_form w)
  in_order words small = record {
    words = all_of_range (λ (var : VcdVar). IsWord var.id × IsWord var.reference) (var_of w) 0 many (λ k from to. (digits_are_words k k, word_at w.references k words (omega (arith, to))));
    distinct = distinct;
    rising = rising 0 0 w.cycles (omega arith) (omega arith);
    from_zero = from_zero w.cycles refl;
    fit = fit 0 w.cycles (omega arith) small;
    known = all_and_last (λ (block : VcdBlock). AllByRecursion (λ (value : VcdValue). has_id vars value.id ≡ true) block.values) (map (block_of w) (range_with_len 0 w.cycles)) (last_block w)
        (all_of_range (λ (block : VcdBlock). AllByRecursion (λ (value : VcdValue). has_id vars value.id ≡ true) block.values) (block_of w) 0 w.cycles (λ k from to. known_values k 0 many (omega arith))) tt;
  }

-- the last block's time is the last
last_is : (before : ℕ) (blocks : List VcdBlock) (last : VcdBlock) → last_time_after before (blocks ++ last ∷ []) ≡ last.time
last_is before [] last = refl
last_is before (block ∷ blocks) last = last_is block.time blocks last

pub texts_say_waves : TextsSayWaves
texts_say_waves w words small =
    let reads : ReadsAsVcd (vcd_text w) (vcd_form w) = record { lines = refl; in_order = in_order w words small } in
    record {
      reads = reads;
      alone = λ form other. reads_as_one_form (vcd_text w) form (vcd_form w) other reads;
      ends = last_is 0 (map (block_of w) (range_with_len 0 w.cycles)) (last_block w);
      bits = λ n cycle within lt. bit_is w n cycle within lt;
    }
