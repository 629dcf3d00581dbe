-- One stream word, as `a=0110`, or with several contexts as `1:a=0110`: the name of an input and
-- its bits, or the word's fault.
use Rattle.std.specs.Prelude.{ℕ, ◌==◌, ◌&&◌, ◌||◌, not, if◌then◌else◌, Bool, List, length, Some, None}
use Rattle.std.specs.declared.option.Option.{Option}
use Rattle.std.specs.List.{list_any, list_all}
use Rattle.std.specs.Str.{byte, bytes_eq}
use Rattle.streams.specs.Cuts.{is_equals_sign, name_in, bits_in, names_context, context_named, without_context}
use Rattle.streams.specs.declared.error.StreamFaultKind.{StreamFaultKind}
use Rattle.streams.specs.declared.error.StreamFaultKind.TheVariants.{NoEquals, BadContext, UnknownInput, TwiceInput, BadBit, BadLength}

-- a word is cut at its last `=`; before it stand the number of a context, if there are several, and
-- the name of an input
abbrev pub context_of_word : (contexts : ℕ) → List ℕ → ℕ
context_of_word contexts word = context_named contexts (name_in word)

abbrev pub input_of_word : (contexts : ℕ) → List ℕ → List ℕ
input_of_word contexts word = without_context contexts (name_in word)

-- the word is for the input of that name in that context
abbrev pub is_word_for : (contexts context : ℕ) → List ℕ → List ℕ → Bool
is_word_for contexts context name word =
    (list_any is_equals_sign word && names_context contexts (name_in word))
    && (context_of_word contexts word == context && bytes_eq (input_of_word contexts word) name)

abbrev pub is_bit : ℕ → Bool
is_bit b = b == byte "0" || b == byte "1"

-- The fault of a word that stands after these others, if there are so many contexts: the first of
-- these rules that it breaks.
abbrev pub fault_of_word : (contexts : ℕ) → (names : List (List ℕ)) → (cycles : ℕ)
    → (before : List (List ℕ)) → List ℕ → Option StreamFaultKind
fault_of_word contexts names cycles before word =
    if not (list_any is_equals_sign word) then Some NoEquals
    else if not (names_context contexts (name_in word)) then Some BadContext
    else if not (list_any (bytes_eq (input_of_word contexts word)) names) then Some UnknownInput
    else if list_any (is_word_for contexts (context_of_word contexts word)
    (input_of_word contexts word)) before then Some TwiceInput
    else if not (list_all is_bit (bits_in word)) then Some BadBit
    else if not (length (bits_in word) == cycles) then Some BadLength
    else None
