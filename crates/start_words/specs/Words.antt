-- Start words, as `1:q=0`: the number of a context, a net of the main model, and the bit with which
-- the latch that drives this net starts in that context. Their meaning depends on `latches`, which
-- give for each name of the main model the class of its net, if that net is joined with a latch's
-- output.
use Rattle.std.specs.Prelude.{ℕ, ◌≡◌, ◌==◌, ◌&&◌, ◌||◌, ◌++◌, not, if◌then◌else◌, Bool, false, List, [], ◌∷◌, Some, None, ⊤, codes}
use Rattle.std.specs.declared.option.Option.{Option}
use Rattle.std.specs.List.{list_any, find}
use Rattle.std.specs.Option.{is_some, option_map, option_map_or, option_or}
use Rattle.std.specs.Str.{bytes_eq}
use Rattle.netlist_core.specs.Names.{Name}
use Rattle.streams.specs.Cuts.{is_equals_sign, name_in, bits_in, has_context, context_of, name_after}
use Rattle.start_words.specs.declared.error.StartFault.{StartFault}
use Rattle.start_words.specs.declared.error.StartFaultKind.{StartFaultKind}
use Rattle.start_words.specs.declared.error.StartFaultKind.TheVariants.{NoEquals, BadContext, NoSuchLatch, TwiceLatch, BadBit}
use Rattle.start_words.specs.declared.error.StartError.{StartError}
use Rattle.start_words.specs.declared.error.StartError.TheVariants.{NoMemory, Fault}

-- for a name of the main model the class of its net, if a latch's output is of that class
abbrev pub Latches : Type 0
Latches = Name → Option ℕ

-- what stands before the last `=` of a word is cut at its first `:`, into the number of a context
-- and a name
abbrev pub context_in : List ℕ → ℕ
context_in word = context_of (name_in word)

abbrev pub net_of_word : List ℕ → Name
net_of_word word = name_after (name_in word)

-- a word's bits are the one character `1`; and below, they are one character, `0` or `1`
abbrev pub is_char_one : List ℕ → Bool
is_char_one bits = bytes_eq bits (codes "1")

abbrev pub is_one_bit : List ℕ → Bool
is_one_bit bits = is_char_one bits || bytes_eq bits (codes "0")

-- the word sets the latch whose output is of this class in this context
abbrev pub sets : Latches → ℕ → ℕ → List ℕ → Bool
sets latches context class word =
    context_in word == context && option_map_or (λ named. named == class)
    (latches (net_of_word word)) false

-- one of these words sets the latch of this name in this context
abbrev pub is_latch_set : Latches → ℕ → Name → List (List ℕ) → Bool
is_latch_set latches context name words =
    option_map_or (λ class. list_any (sets latches context class) words) (latches name) false

-- The fault of a word that stands after these others, if there are so many contexts: the first of
-- these rules that it breaks.
abbrev pub start_word_fault : Latches → (contexts : ℕ) → (before : List (List ℕ)) → List ℕ
    → Option StartFaultKind
start_word_fault latches contexts before word =
    if not (list_any is_equals_sign word) then Some NoEquals
    else if not (has_context contexts (name_in word)) then Some BadContext
    else if not (is_some (latches (net_of_word word))) then Some NoSuchLatch
    else if is_latch_set latches (context_in word) (net_of_word word) before then Some TwiceLatch
    else if not (is_one_bit (bits_in word)) then Some BadBit
    else None

abbrev pub start_fault : List ℕ → StartFaultKind → StartFault
start_fault word kind = record { kind = kind; word = word }

-- the first fault among the later words, if the words `before` stand before them
abbrev pub first_fault_after : Latches → (contexts : ℕ) → (before later : List (List ℕ))
    → Option StartFault
first_fault_after latches contexts before [] = None
first_fault_after latches contexts before (word ∷ words) =
    option_or (option_map (start_fault word) (start_word_fault latches contexts before word))
    (first_fault_after latches contexts (before ++ word ∷ []) words)

-- the first fault of the words, from left to right
abbrev pub first_fault : Latches → (contexts : ℕ) → List (List ℕ) → Option StartFault
first_fault latches contexts words = first_fault_after latches contexts [] words

-- why words are refused: their first fault, or lack of memory
abbrev pub HasStartCause : Latches → (contexts : ℕ) → List (List ℕ) → StartError → Type 0
HasStartCause latches contexts words NoMemory = ⊤
HasStartCause latches contexts words (Fault fault) = first_fault latches contexts words ≡ Some fault

-- the bit that the words give to the latch whose output is of this class, in this context, if one
-- of them does
abbrev pub bit_set : Latches → (context class : ℕ) → List (List ℕ) → Option Bool
bit_set latches context class words =
    option_map (λ word. is_char_one (bits_in word)) (find (sets latches context class) words)
