-- The bits that words set, in a map, and the faults from one more word on.
use Rattle.std.proofs.Common.{◌≡◌, arith, refl, sym, ap, ap₂, ◌∙◌, ℕ, ◌==◌, ◌+◌, ◌<◌, Bool, true, false, cond, ◌||◌, ◌&&◌, List, [], ◌∷◌, ◌++◌, length, take, drop, map, get_or, true≢false}
use Rattle.std.specs.Prelude.{Option, Some, None}
use Rattle.std.specs.BTreeMap as tree
use Rattle.std.specs.Cmp.{tied_then}
use Rattle.std.specs.Ordering.{is_eq, nat_cmp}
use Rattle.std.proofs.lemmas.Bool.{and_parts, eqb-true}
use Rattle.std.proofs.lemmas.Bool.Decides.{nat_tests}
use Rattle.std.specs.List.{list_any, find}
use Rattle.std.specs.Option.{option_map, option_map_or, option_or, is_some}
use Rattle.std.proofs.lemmas.List.{map_more, drop_more}
use Rattle.std.proofs.lemmas.List.Folds.{find-append}
use Rattle.start_words.specs.declared.error.StartFaultKind.{StartFaultKind}
use Rattle.start_words.specs.declared.words.LatchStart.{LatchStart}
use Rattle.start_words.specs.Flats.{AreBitsSet, pair_cmp}
use Rattle.start_words.specs.Words.{Latches, bit_set, context_in, start_word_fault, first_fault_after, is_char_one, net_of_word, sets, start_fault}
use Rattle.streams.specs.Cuts.{bits_in}

-- a bit is set where a word sets it
pub any_sets : (latches : Latches) (context class : ℕ) (words : List (List ℕ)) → is_some (bit_set latches context class words) ≡ list_any (sets latches context class) words
any_sets latches context class [] = refl
any_sets latches context class (word ∷ words) = by (any_sets latches context class words) (sets latches context class word)
  where
    by : is_some (bit_set latches context class words) ≡ list_any (sets latches context class) words → (b : Bool) → is_some (option_map (λ word. is_char_one (bits_in word)) (cond b (Some word) (find (sets latches context class) words))) ≡ (b || list_any (sets latches context class) words)
    by later true = refl
    by later false = later

-- the bits after one more word
pub bits_more : (latches : Latches) (context class : ℕ) (words : List (List ℕ)) (word : List ℕ)
    → bit_set latches context class (words ++ word ∷ []) ≡ option_or (bit_set latches context class words) (cond (sets latches context class word) (Some (is_char_one (bits_in word))) None)
bits_more latches context class words word =
    ap (option_map bit) (find-append (sets latches context class) words (word ∷ [])) ∙ by (find (sets latches context class) words) (sets latches context class word)
  where
    bit : List ℕ → Bool
    bit word = is_char_one (bits_in word)

    by : (o : Option (List ℕ)) (b : Bool) → option_map bit (option_or o (cond b (Some word) None)) ≡ option_or (option_map bit o) (cond b (Some (bit word)) None)
    by (Some w) b = refl
    by None true = refl
    by None false = refl

-- a word that names a latch sets it in its own context
pub sets_own : (latches : Latches) (word : List ℕ) (context class other named : ℕ) → named ≡ context_in word → latches (net_of_word word) ≡ Some class
    → sets latches context other word ≡ ((named == context) && (class == other))
sets_own latches word context class other named is e =
    ap (λ (o : Option ℕ). context_in word == context && option_map_or (λ n. n == other) o false) e ∙ ap (λ n. n == context && class == other) (sym is)

-- the first fault is in this word, or later
pub fault_here : (latches : Latches) (contexts : ℕ) (before later : List (List ℕ)) (word : List ℕ) (kind : StartFaultKind) → start_word_fault latches contexts before word ≡ Some kind
    → first_fault_after latches contexts before (word ∷ later) ≡ Some (start_fault word kind)
fault_here latches contexts before later word kind e =
    ap (λ (o : Option StartFaultKind). option_or (option_map (start_fault word) o) (first_fault_after latches contexts (before ++ word ∷ []) later)) e

pub fault_later : (latches : Latches) (contexts : ℕ) (before later : List (List ℕ)) (word : List ℕ) → start_word_fault latches contexts before word ≡ None
    → first_fault_after latches contexts before (word ∷ later) ≡ first_fault_after latches contexts (before ++ word ∷ []) later
fault_later latches contexts before later word e =
    ap (λ (o : Option StartFaultKind). option_or (option_map (start_fault word) o) (first_fault_after latches contexts (before ++ word ∷ []) later)) e

-- the words up to the next one, and from it on
module _ {S : Type 0} where
  pub words_taken : (bytes : S → List ℕ) (words : List S) (i : ℕ) (word : S) (w : List ℕ) → i < length words → word ≡ get_or words i word → w ≡ bytes word → map bytes (take (i + 1) words) ≡ map bytes (take i words) ++ w ∷ []
  words_taken bytes words i word w within is read = map_more bytes words i word within ∙ ap (λ v. map bytes (take i words) ++ v ∷ []) (ap bytes (sym is) ∙ sym read)

  pub words_left : (bytes : S → List ℕ) (words : List S) (i : ℕ) (word : S) (w : List ℕ) → i < length words → word ≡ get_or words i word → w ≡ bytes word → map bytes (drop i words) ≡ w ∷ map bytes (drop (i + 1) words)
  words_left bytes words i word w within is read =
      ap (map bytes) (drop_more words i word within) ∙ ap (λ v. v ∷ map bytes (drop (i + 1) words)) (ap bytes (sym is) ∙ sym read)

-- pairs are told apart by their parts
pair_is : (a b : ℕ × ℕ) → is_eq (pair_cmp a b) ≡ (a.0 == b.0 && a.1 == b.1)
pair_is a b = sym (tied_then (nat_cmp a.0 b.0) (nat_cmp a.1 b.1)) ∙ ap₂ (λ (s t : Bool). s && t) (number_is a.0 b.0) (number_is a.1 b.1)
  where
    number_is : (m n : ℕ) → is_eq (nat_cmp m n) ≡ (m == n)
    number_is m n = grind (arith, nat_tests)

-- a map with one more word, which sets a bit that no earlier word sets
pub one_more : (latches : Latches) (old new : tree.BTreeMap (ℕ × ℕ) Bool) (words : List (List ℕ)) (word : List ℕ) (start : LatchStart) → start.context ≡ context_in word → latches (net_of_word word) ≡ Some start.class
    → start.bit ≡ is_char_one (bits_in word) → list_any (sets latches start.context start.class) words ≡ false → AreBitsSet latches old words
    → tree.UpdatesBy pair_cmp (pair_cmp (start.context, start.class)) old new (Some start.bit) → AreBitsSet latches new (words ++ word ∷ [])
one_more latches old new words word start is_context is_class is_bit fresh had updates context class =
    updates.0 (context, class)
    ∙ ap₂ (λ (b : Bool) (o : Option Bool). cond b (Some start.bit) o) (pair_is (start.context, start.class) (context, class)) (had context class)
    ∙ by (start.context == context && start.class == class) refl
    ∙ ap (λ (b : Bool). option_or (bit_set latches context class words) (cond b (Some (is_char_one (bits_in word))) None)) (sym (sets_own latches word context start.class class start.context is_context is_class))
    ∙ sym (bits_more latches context class words word)
  where
    unset : (c k : ℕ) → list_any (sets latches c k) words ≡ false → bit_set latches c k words ≡ None
    unset c k e = none (bit_set latches c k words) (any_sets latches c k words ∙ e)
      where
        none : (o : Option Bool) → is_some o ≡ false → o ≡ None
        none None e = refl
        none (Some b) e = absurd (true≢false e)

    rest : (o : Option Bool) → o ≡ option_or o None
    rest None = refl
    rest (Some b) = refl

    by : (b : Bool) → (start.context == context && start.class == class) ≡ b → cond b (Some start.bit) (bit_set latches context class words) ≡ option_or (bit_set latches context class words) (cond b (Some (is_char_one (bits_in word))) None)
    by true e =
        let parts = and_parts (start.context == context) (start.class == class) e in
        let nothing : bit_set latches context class words ≡ None = ap₂ (λ c k. bit_set latches c k words) (sym (eqb-true _ _ parts.0)) (sym (eqb-true _ _ parts.1)) ∙ unset start.context start.class fresh in
        ap (λ (b : Bool). Some b) is_bit ∙ sym (ap (λ (o : Option Bool). option_or o (Some (is_char_one (bits_in word)))) nothing)
    by false e = rest (bit_set latches context class words)
