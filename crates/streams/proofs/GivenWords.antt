-- What a set of names has after one more name, what a map of bits has after one more word, and the faults from there on.
use Rattle.std.proofs.Common.{◌≡◌, arith, refl, sym, ap, ap₂, ◌∙◌, ℕ, ◌==◌, ◌+◌, ◌<◌, Bool, true, false, cond, ◌||◌, ◌&&◌, List, [], ◌∷◌, ◌++◌, length, take, drop, map, get_or}
use Rattle.std.specs.Prelude.{Option, Some, None, slice_get}
use Rattle.std.specs.BTreeMap as tree
use Rattle.std.specs.BTreeSet as set
use Rattle.std.specs.Cmp.{tied_then}
use Rattle.std.specs.Cmp.Lexicographic.{slice_cmp}
use Rattle.std.specs.List.{list_any, find, cons_option}
use Rattle.std.specs.Option.{option_copied, option_map, option_or, is_some}
use Rattle.std.specs.Ordering.{is_eq, nat_cmp}
use Rattle.std.specs.Str.{bytes_eq}
use Rattle.std.proofs.lemmas.Bool.{and_parts, eqb-true}
use Rattle.std.proofs.lemmas.Bool.Decides.{nat_tests}
use Rattle.std.proofs.lemmas.List.{map_more, drop_more}
use Rattle.std.proofs.lemmas.List.Folds.{list_any_more, find-append}
use Rattle.std.proofs.lemmas.Map.Text.{is_eq-slice_cmp}
use Rattle.std.proofs.lemmas.Slice.Eq.{bytes_eq-Decides}
use denote.Ref.{Bor}
use Rattle.lists.specs.Names.{is_among}
use Rattle.lists.proofs.Names.{bytes_eq-turned}
use Rattle.lists.proofs.NameSets.{name_added}
use Rattle.streams.specs.Cuts.{is_equals_sign, name_in, bits_in, names_context}
use Rattle.streams.specs.declared.error.StreamFaultKind.{StreamFaultKind}
use Rattle.streams.specs.declared.words.StreamWord.{StreamWord}
use Rattle.streams.specs.Words.{context_of_word, input_of_word, is_word_for, fault_of_word}
use Rattle.streams.specs.Streams.{Input, bits_for, stream_fault, stream_faults_after}
use Rattle.streams.specs.GivenBits.{AreNamesOf, AreBitsOf, input_cmp}

-- one more name
pub name_more : (old new : set.BTreeSet (Bor (List ℕ))) (key : Bor (List ℕ)) (names : List (List ℕ)) (i : ℕ) (name : List ℕ) → i < length names → key.now ≡ get_or names i name → AreNamesOf old (take i names) → set.UpdatesBy (λ x y. slice_cmp nat_cmp x.now y.now) (λ k. slice_cmp nat_cmp key.now k.now) old new true → AreNamesOf new (take (i + 1) names)
name_more old new key names i name within is had updates asked =
    name_added old new key asked updates
    ∙ ap (λ b. b || bytes_eq key.now asked) (had asked)
    ∙ ap (λ b. is_among asked (take i names) || b) (bytes_eq-turned key.now asked ∙ ap (bytes_eq asked) is)
    ∙ sym (list_any_more (bytes_eq asked) names i name within)

-- the bits of an input after one more word, which is for an input that no earlier word is for
pub bits_more : (contexts : ℕ) (words : List (List ℕ)) (word : List ℕ) (input : Input) → (list_any is_equals_sign word && names_context contexts (name_in word)) ≡ true
    → list_any (is_word_for contexts (context_of_word contexts word) (input_of_word contexts word)) words ≡ false
    → bits_for contexts (words ++ word ∷ []) input ≡ cond (context_of_word contexts word == input.0 && bytes_eq (input_of_word contexts word) input.1) (Some (bits_in word)) (bits_for contexts words input)
bits_more contexts words word input has new =
    ap (option_map bits_in) (find-append is words (word ∷ []))
    ∙ ap (λ b. option_map bits_in (option_or (find is words) (cond (b && same) (Some word) None))) has
    ∙ by same refl
  where
    is : List ℕ → Bool
    is = is_word_for contexts input.0 input.1

    same : Bool
    same = context_of_word contexts word == input.0 && bytes_eq (input_of_word contexts word) input.1

    none : (words : List (List ℕ)) → list_any is words ≡ false → find is words ≡ None
    none [] e = refl
    none (w ∷ ws) e = at (is w) e (none ws)
      where
        at : (b : Bool) → (b || list_any is ws) ≡ false → (list_any is ws ≡ false → find is ws ≡ None) → cond b (Some w) (find is ws) ≡ None
        at true e later = cc
        at false e later = later e

    rest : (found : Option (List ℕ)) → option_map bits_in (option_or found None) ≡ option_map bits_in found
    rest None = refl
    rest (Some w) = refl

    by : (b : Bool) → same ≡ b → option_map bits_in (option_or (find is words) (cond b (Some word) None)) ≡ cond b (Some (bits_in word)) (bits_for contexts words input)
    by true h =
        let parts = and_parts (context_of_word contexts word == input.0) (bytes_eq (input_of_word contexts word) input.1) h in
        let context : context_of_word contexts word ≡ input.0 = eqb-true _ _ parts.0 in
        let name : input_of_word contexts word ≡ input.1 = (bytes_eq-Decides (input_of_word contexts word) input.1).0 parts.1 in
        ap (λ found. option_map bits_in (option_or found (Some word))) (none words (ap₂ (λ c n. list_any (is_word_for contexts c n) words) (sym context) (sym name) ∙ new))
    by false h = rest (find is words)

-- inputs are told apart by their contexts and their names
input_is : (a b : ℕ × Bor (List ℕ)) → is_eq (input_cmp a b) ≡ (a.0 == b.0 && bytes_eq a.1.now b.1.now)
input_is a b =
    sym (tied_then (nat_cmp a.0 b.0) (slice_cmp nat_cmp a.1.now b.1.now)) ∙ ap₂ (λ (s t : Bool). s && t) (number_is a.0 b.0) (is_eq-slice_cmp a.1.now b.1.now)
  where
    number_is : (m n : ℕ) → is_eq (nat_cmp m n) ≡ (m == n)
    number_is m n = grind (arith, nat_tests)

-- one more word
pub word_more : (contexts : ℕ) (old new : tree.BTreeMap (ℕ × Bor (List ℕ)) (Bor (List ℕ))) (words : List (List ℕ)) (word : List ℕ) (cut : StreamWord) → (list_any is_equals_sign word && names_context contexts (name_in word)) ≡ true
    → list_any (is_word_for contexts (context_of_word contexts word) (input_of_word contexts word)) words ≡ false → cut.context ≡ context_of_word contexts word → cut.name.now ≡ input_of_word contexts word → cut.bits.now ≡ bits_in word
    → AreBitsOf contexts old words → tree.UpdatesBy input_cmp (input_cmp (cut.context, cut.name)) old new (Some cut.bits) → AreBitsOf contexts new (words ++ word ∷ [])
word_more contexts old new words word cut has fresh is_context is_name is_bits had updates input =
    ap option_copied (updates.0 input)
    ∙ pushed (is_eq (input_cmp (cut.context, cut.name) input))
    ∙ ap₂ (λ (b : Bool) (o : Option (List ℕ)). cond b (Some cut.bits.now) o) (input_is (cut.context, cut.name) input) (had input)
    ∙ ap₂ (λ (c : ℕ) (n : List ℕ). cond (c == input.0 && bytes_eq n input.1.now) (Some cut.bits.now) before) is_context is_name
    ∙ ap (λ (bits : List ℕ). cond (context_of_word contexts word == input.0 && bytes_eq (input_of_word contexts word) input.1.now) (Some bits) before) is_bits
    ∙ sym (bits_more contexts words word (input.0, input.1.now) has fresh)
  where
    before : Option (List ℕ)
    before = bits_for contexts words (input.0, input.1.now)

    pushed : (b : Bool) → option_copied (cond b (Some cut.bits) (tree.get input_cmp old input)) ≡ cond b (Some cut.bits.now) (option_copied (tree.get input_cmp old input))
    pushed true = refl
    pushed false = refl

pub is_given : (found : Option (Bor (List ℕ))) → is_some found ≡ is_some (option_copied found)
is_given None = refl
is_given (Some bits) = refl

-- the words up to the next one, and from it on
module _ {S : Type 0} where
  pub words_taken : (bytes : S → List ℕ) (words : List S) (i : ℕ) (word : S) (w : List ℕ) → i < length words → word ≡ get_or words i word → w ≡ bytes word → map bytes (take (i + 1) words) ≡ map bytes (take i words) ++ w ∷ []
  words_taken bytes words i word w within is read = map_more bytes words i word within ∙ ap (λ v. map bytes (take i words) ++ v ∷ []) (ap bytes (sym is) ∙ sym read)

  pub words_left : (bytes : S → List ℕ) (words : List S) (i : ℕ) (word : S) (w : List ℕ) → i < length words → word ≡ get_or words i word → w ≡ bytes word → map bytes (drop i words) ≡ w ∷ map bytes (drop (i + 1) words)
  words_left bytes words i word w within is read =
      ap (map bytes) (drop_more words i word within) ∙ ap (λ v. v ∷ map bytes (drop (i + 1) words)) (ap bytes (sym is) ∙ sym read)

-- the first fault is the next word's, or it comes after
pub fault_here : (contexts : ℕ) (names : List (List ℕ)) (cycles : ℕ) (before later : List (List ℕ)) (word : List ℕ) (kind : StreamFaultKind) → fault_of_word contexts names cycles before word ≡ Some kind → slice_get (stream_faults_after contexts names cycles before (word ∷ later)) 0 ≡ Some (stream_fault word kind)
fault_here contexts names cycles before later word kind is =
    ap (λ found. slice_get (cons_option (option_map (stream_fault word) found) (stream_faults_after contexts names cycles (before ++ word ∷ []) later)) 0) is

pub fault_later : (contexts : ℕ) (names : List (List ℕ)) (cycles : ℕ) (before later : List (List ℕ)) (word : List ℕ) → fault_of_word contexts names cycles before word ≡ None → stream_faults_after contexts names cycles before (word ∷ later) ≡ stream_faults_after contexts names cycles (before ++ word ∷ []) later
fault_later contexts names cycles before later word none =
    ap (λ found. cons_option (option_map (stream_fault word) found) (stream_faults_after contexts names cycles (before ++ word ∷ []) later)) none
