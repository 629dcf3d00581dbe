-- The words that are for an input.
use Rattle.std.proofs.Common.{ℕ, ◌≡◌, ◌<◌, ◌+◌, ◌==◌, refl, sym, ap, ap₂, ◌∙◌, Bool, true, false, ◌||◌, not, cond, List, [], ◌∷◌, ◌++◌, length, take, drop, map, get_or, arith, zero, suc}
use Rattle.std.specs.Prelude.{Option, Some, None, unwrap_or, if◌then◌else◌, slice_get}
use Rattle.std.specs.List.{list_any, list_all, find, cons_option}
use Rattle.std.specs.Option.{option_map, is_some}
use Rattle.std.specs.Str.{bytes_eq}
use Rattle.std.proofs.lemmas.Bool.{eqb-true}
use Rattle.std.proofs.lemmas.List.{append_assoc, length-map, drop_more, map_more}
use Rattle.std.proofs.lemmas.Simd.{map-map}
use Rattle.streams.specs.Cuts.{is_equals_sign, name_in, bits_in, names_context}
use Rattle.streams.specs.declared.error.StreamFaultKind.TheVariants.{NoEquals, BadContext, UnknownInput, TwiceInput, BadBit, BadLength}
use Rattle.streams.specs.Words.{context_of_word, input_of_word, is_word_for, is_bit, fault_of_word}
use Rattle.streams.specs.Streams.{Input, stream_fault, stream_faults_after, bits_for, stream_in, streams_of, missing_fault, missing_inputs, inputs_of_context}

-- an input has bits exactly when a word is for it
pub any_bits : (contexts : ℕ) (words : List (List ℕ)) (input : Input) → is_some (bits_for contexts words input) ≡ list_any (is_word_for contexts input.0 input.1) words
any_bits contexts [] input = refl
any_bits contexts (word ∷ words) input =
    let is = is_word_for contexts input.0 input.1 in
    elim (is word) as (λ b. is_some (option_map bits_in (cond b (Some word) (find is words))) ≡ (b || list_any is words)) [
      | true ↦ refl
      | false ↦ any_bits contexts words input
    ]

pub missing_at : (contexts : ℕ) (words : List (List ℕ)) (inputs : List Input) (input : Input) → bits_for contexts words input ≡ None → missing_inputs contexts words (input ∷ inputs) ≡ input ∷ missing_inputs contexts words inputs
missing_at contexts words inputs input e =
    ap (λ b. cond (not b) (input ∷ missing_inputs contexts words inputs) (missing_inputs contexts words inputs)) (sym (any_bits contexts words input) ∙ ap is_some e)

pub found_at : (contexts : ℕ) (words : List (List ℕ)) (inputs : List Input) (input : Input) (bits : List ℕ) → bits_for contexts words input ≡ Some bits → missing_inputs contexts words (input ∷ inputs) ≡ missing_inputs contexts words inputs
found_at contexts words inputs input bits e =
    ap (λ b. cond (not b) (input ∷ missing_inputs contexts words inputs) (missing_inputs contexts words inputs)) (sym (any_bits contexts words input) ∙ ap is_some e)

-- the same at the first of the names that are left
left : (context : ℕ) (names : List (List ℕ)) (i : ℕ) (name : List ℕ) → i < length names → name ≡ get_or names i name → inputs_of_context context (drop i names) ≡ (context, name) ∷ inputs_of_context context (drop (i + 1) names)
left context names i name lt at = ap (inputs_of_context context) (drop_more names i name lt ∙ ap (λ n. n ∷ drop (i + 1) names) (sym at))

pub found_more : (contexts context : ℕ) (words names : List (List ℕ)) (i : ℕ) (name bits : List ℕ) → i < length names → name ≡ get_or names i name → bits_for contexts words (context, name) ≡ Some bits
    → missing_inputs contexts words (inputs_of_context context (drop (i + 1) names)) ≡ missing_inputs contexts words (inputs_of_context context (drop i names))
found_more contexts context words names i name bits lt at e =
    sym (ap (missing_inputs contexts words) (left context names i name lt at) ∙ found_at contexts words (inputs_of_context context (drop (i + 1) names)) (context, name) bits e)

pub missing_more : (contexts context : ℕ) (words names : List (List ℕ)) (i : ℕ) (name : List ℕ) → i < length names → name ≡ get_or names i name → bits_for contexts words (context, name) ≡ None
    → missing_inputs contexts words (inputs_of_context context (drop i names)) ≡ (context, name) ∷ missing_inputs contexts words (inputs_of_context context (drop (i + 1) names))
missing_more contexts context words names i name lt at e =
    ap (missing_inputs contexts words) (left context names i name lt at) ∙ missing_at contexts words (inputs_of_context context (drop (i + 1) names)) (context, name) e

-- and the streams up to it
pub streams_more : (contexts context : ℕ) (words names : List (List ℕ)) (i : ℕ) (name bits : List ℕ) → i < length names → name ≡ get_or names i name → bits_for contexts words (context, name) ≡ Some bits
    → (first before : List (List Bool)) (stream : List Bool) → before ≡ first ++ streams_of contexts words (inputs_of_context context (take i names)) → stream ≡ stream_in bits
    → {after : List (List Bool)} → after ≡ before ++ stream ∷ [] → after ≡ first ++ streams_of contexts words (inputs_of_context context (take (i + 1) names))
streams_more contexts context words names i name bits lt at e first before stream had is pushed =
    let own = λ (name : List ℕ). stream_in (unwrap_or (bits_for contexts words (context, name)) []) in
    let so_far = λ (i : ℕ). streams_of contexts words (inputs_of_context context (take i names)) in
    let new : stream ≡ own (get_or names i name) = is ∙ ap (λ (o : Option (List ℕ)). stream_in (unwrap_or o [])) (sym e) ∙ ap own at in
    let by_name : (names : List (List ℕ)) → streams_of contexts words (inputs_of_context context names) ≡ map own names = map-map _ (λ name. (context, name)) in
    let more : so_far (i + 1) ≡ so_far i ++ own (get_or names i name) ∷ [] =
    by_name (take (i + 1) names) ∙ map_more own names i name lt ∙ ap (λ (streams : List (List Bool)). streams ++ own (get_or names i name) ∷ []) (sym (by_name (take i names))) in
    pushed
    ∙ ap₂ (λ (streams : List (List Bool)) (s : List Bool). streams ++ s ∷ []) had new
    ∙ append_assoc first (so_far i) (own (get_or names i name) ∷ [])
    ∙ ap (λ (streams : List (List Bool)). first ++ streams) (sym more)

-- a missing input is answered as such
pub is_missing : (contexts : ℕ) (words : List (List ℕ)) (inputs rest : List Input) (input : Input) → missing_inputs contexts words inputs ≡ input ∷ rest → slice_get (map (missing_fault contexts) (missing_inputs contexts words inputs)) 0 ≡ Some (missing_fault contexts input)
is_missing contexts words inputs rest input e = ap (λ (inputs : List Input). slice_get (map (missing_fault contexts) inputs) 0) e

-- a word without fault has as many bits as there are cycles
last_holds : (a b c d e f : Bool) → (if a then Some NoEquals else if b then Some BadContext else if c then Some UnknownInput else if d then Some TwiceInput else if e then Some BadBit else if not f then Some BadLength else None) ≡ None → f ≡ true
last_holds true b c d e f h = cc
last_holds false true c d e f h = cc
last_holds false false true d e f h = cc
last_holds false false false true e f h = cc
last_holds false false false false true f h = cc
last_holds false false false false false true h = refl
last_holds false false false false false false h = cc

has_all_bits : (contexts : ℕ) (names : List (List ℕ)) (cycles : ℕ) (before : List (List ℕ)) (word : List ℕ) → fault_of_word contexts names cycles before word ≡ None → length (bits_in word) ≡ cycles
has_all_bits contexts names cycles before word h =
    eqb-true (length (bits_in word)) cycles
    (last_holds (not (list_any is_equals_sign word)) (not (names_context contexts (name_in word))) (not (list_any (bytes_eq (input_of_word contexts word)) names))
    (list_any (is_word_for contexts (context_of_word contexts word) (input_of_word contexts word)) before) (not (list_all is_bit (bits_in word))) (length (bits_in word) == cycles) h)

-- where no word is at fault, each input's bits are as many
pub bits_long : (contexts : ℕ) (names : List (List ℕ)) (cycles : ℕ) (before words : List (List ℕ)) → stream_faults_after contexts names cycles before words ≡ [] → (input : Input) (bits : List ℕ) → bits_for contexts words input ≡ Some bits → length bits ≡ cycles
bits_long contexts names cycles before [] h input bits e = cc
bits_long contexts names cycles before (word ∷ words) h input bits e =
    elim (fault_of_word contexts names cycles before word) as (λ f. fault_of_word contexts names cycles before word ≡ f → cons_option (option_map (stream_fault word) f) (stream_faults_after contexts names cycles (before ++ word ∷ []) words) ≡ [] → length bits ≡ cycles) [
      | Some kind ↦ λ is h. cc
      | None ↦ λ is h.
          elim (is_word_for contexts input.0 input.1 word) as (λ b. option_map bits_in (cond b (Some word) (find (is_word_for contexts input.0 input.1) words)) ≡ Some bits → length bits ≡ cycles) [
            | true ↦ λ e. let same : bits_in word ≡ bits = cc in sym (ap length same) ∙ has_all_bits contexts names cycles before word is
            | false ↦ λ e. bits_long contexts names cycles (before ++ word ∷ []) words h input bits e
          ] e
    ] refl h

-- and so are the streams, where no input is missing
first_long : (cycles : ℕ) (bits : List ℕ) (rest : List (List Bool)) (k : ℕ) (d : List Bool) → length bits ≡ cycles → ((j : ℕ) → j < length rest → length (get_or rest j d) ≡ cycles) → k < length (stream_in bits ∷ rest) → length (get_or (stream_in bits ∷ rest) k d) ≡ cycles
first_long cycles bits rest zero d long others lt = length-map bits (λ b. b == 49) ∙ long
first_long cycles bits rest (suc k) d long others lt = others k (omega arith)

pub streams_long : (contexts : ℕ) (words : List (List ℕ)) (inputs : List Input) (cycles : ℕ) → ((input : Input) (bits : List ℕ) → bits_for contexts words input ≡ Some bits → length bits ≡ cycles) → missing_inputs contexts words inputs ≡ []
    → (k : ℕ) (d : List Bool) → k < length (streams_of contexts words inputs) → length (get_or (streams_of contexts words inputs) k d) ≡ cycles
streams_long contexts words [] cycles long none k d lt = absurd (omega arith)
streams_long contexts words (input ∷ inputs) cycles long none k d lt =
    elim (bits_for contexts words input) as (λ o. bits_for contexts words input ≡ o → k < length (stream_in (unwrap_or o []) ∷ streams_of contexts words inputs) → length (get_or (stream_in (unwrap_or o []) ∷ streams_of contexts words inputs) k d) ≡ cycles) [
      | None ↦ λ e lt. cc (missing_at contexts words inputs input e)
      | Some bits ↦ λ e lt. first_long cycles bits (streams_of contexts words inputs) k d (long input bits e) (λ j lt. streams_long contexts words inputs cycles long (sym (found_at contexts words inputs input bits e) ∙ none) j d lt) lt
    ] refl lt
