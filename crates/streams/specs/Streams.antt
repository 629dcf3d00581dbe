-- The streams that words give to the inputs of these names in so many contexts, or the words' first
-- fault.
use Rattle.std.specs.Prelude.{◌≡◌, ◌==◌, ℕ, not, Bool, List, [], ◌∷◌, ◌++◌, map, flat_map, filter, slice_get, unwrap_or, Some, ⊤}
use Rattle.std.specs.List.{list_any, cons_option, find, range_with_len}
use Rattle.std.specs.Option.{option_map}
use Rattle.std.specs.declared.option.Option.{Option}
use Rattle.std.specs.Str.{byte}
use Rattle.streams.specs.Cuts.{bits_in, with_context}
use Rattle.streams.specs.declared.error.StreamFault.{StreamFault}
use Rattle.streams.specs.declared.error.StreamFaultKind.{StreamFaultKind}
use Rattle.streams.specs.declared.error.StreamFaultKind.TheVariants.{MissingInput}
use Rattle.streams.specs.declared.error.StreamError.{StreamError}
use Rattle.streams.specs.declared.error.StreamError.TheVariants.{NoMemory, Fault}
use Rattle.streams.specs.Words.{is_word_for, fault_of_word}

abbrev pub stream_fault : List ℕ → StreamFaultKind → StreamFault
stream_fault word kind = record { kind = kind; word = word }

-- the faults of the later words, in order, if the words `before` stand before them
abbrev pub stream_faults_after : (contexts : ℕ) → (names : List (List ℕ)) → (cycles : ℕ)
    → (before later : List (List ℕ)) → List StreamFault
stream_faults_after contexts names cycles before [] = []
stream_faults_after contexts names cycles before (word ∷ words) =
    cons_option (option_map (stream_fault word) (fault_of_word contexts names cycles before word))
    (stream_faults_after contexts names cycles (before ++ word ∷ []) words)

-- an input: the number of its context, and its name
abbrev pub Input : Type 0
Input = ℕ × List ℕ

-- the inputs of a context, in the order of their names
abbrev pub inputs_of_context : (context : ℕ) → (names : List (List ℕ)) → List Input
inputs_of_context context names = map (λ name. (context, name)) names

-- the inputs of all contexts, one context after the other
abbrev pub inputs_of_contexts : (contexts : ℕ) → (names : List (List ℕ)) → List Input
inputs_of_contexts contexts names =
    flat_map (λ context. inputs_of_context context names) (range_with_len 0 contexts)

-- the inputs without a word, in order
abbrev pub missing_inputs : (contexts : ℕ) → List (List ℕ) → List Input → List Input
missing_inputs contexts words inputs =
    filter (λ input. not (list_any (is_word_for contexts input.0 input.1) words)) inputs

-- the fault of an input without a word
abbrev pub missing_fault : (contexts : ℕ) → Input → StreamFault
missing_fault contexts input = stream_fault (with_context contexts input.0 input.1) MissingInput

-- the faults of the words, from left to right, and then those of the missing inputs
abbrev pub stream_faults : (contexts : ℕ) → (words names : List (List ℕ)) → (cycles : ℕ)
    → List StreamFault
stream_faults contexts words names cycles =
    stream_faults_after contexts names cycles [] words
    ++ map (missing_fault contexts) (missing_inputs contexts words
    (inputs_of_contexts contexts names))

-- This is the first fault of the words.
abbrev pub HasStreamFault : (contexts : ℕ) → (words names : List (List ℕ)) → (cycles : ℕ)
    → StreamFault → Type 0
HasStreamFault contexts words names cycles fault =
    slice_get (stream_faults contexts words names cycles) 0 ≡ Some fault

-- the bits that the words give to an input, if one of them is for it
abbrev pub bits_for : (contexts : ℕ) → List (List ℕ) → Input → Option (List ℕ)
bits_for contexts words input =
    option_map bits_in (find (is_word_for contexts input.0 input.1) words)

-- the stream that bits spell: `1` is 1
abbrev pub stream_in : List ℕ → List Bool
stream_in bits = map (λ b. b == byte "1") bits

-- the streams of inputs, in order
abbrev pub streams_of : (contexts : ℕ) → List (List ℕ) → List Input → List (List Bool)
streams_of contexts words inputs =
    map (λ input. stream_in (unwrap_or (bits_for contexts words input) [])) inputs

-- The words have no fault, and these are their streams: with n names, list k n + i is that of input
-- i in context k.
pub record HasStreams (contexts : ℕ) (words names : List (List ℕ)) (cycles : ℕ)
    (bits : List (List Bool)) : Type 0 where
  pub no_fault : stream_faults contexts words names cycles ≡ []
  pub bits_is : bits ≡ streams_of contexts words (inputs_of_contexts contexts names)

-- why the words give no streams: their first fault, or lack of memory
abbrev pub HasStreamCause : (contexts : ℕ) → (words names : List (List ℕ)) → (cycles : ℕ)
    → StreamError → Type 0
HasStreamCause contexts words names cycles NoMemory = ⊤
HasStreamCause contexts words names cycles (Fault fault) =
    HasStreamFault contexts words names cycles fault

-- why some of these inputs have no streams: the first input without a word, or lack of memory
abbrev pub IsMissing : (contexts : ℕ) → List (List ℕ) → List Input → StreamError → Type 0
IsMissing contexts words inputs NoMemory = ⊤
IsMissing contexts words inputs (Fault fault) =
    slice_get (map (missing_fault contexts) (missing_inputs contexts words inputs)) 0 ≡ Some fault

-- why words with these faults give no bits: the first fault, or lack of memory
abbrev pub HasWordFault : List StreamFault → StreamError → Type 0
HasWordFault faults NoMemory = ⊤
HasWordFault faults (Fault fault) = slice_get faults 0 ≡ Some fault
