-- Stream words whose reading is known, for inputs a and b, or one input `a=b`, and two cycles, in
-- one context or in two.
use Rattle.std.specs.Prelude.{ℕ, true, false, List, [], ◌∷◌, codes}
use Rattle.streams.specs.declared.error.StreamFaultKind.{StreamFaultKind}
use Rattle.streams.specs.declared.error.StreamFaultKind.TheVariants.{NoEquals, BadContext, UnknownInput, TwiceInput, BadBit, BadLength, MissingInput}
use Rattle.streams.specs.Streams.{HasStreams, HasStreamFault, stream_fault}

-- words, their fault, and the word at fault or the missing input
pub record FaultExample : Type 0 where
  pub words : List (List ℕ)
  pub kind : StreamFaultKind
  pub at : List ℕ

abbrev pub said : List (List ℕ) → StreamFaultKind → List ℕ → FaultExample
said words kind at = record { words = words; kind = kind; at = at }

abbrev pub SaysStreamFault : (contexts : ℕ) → FaultExample → Type 0
SaysStreamFault contexts e =
    HasStreamFault contexts e.words (codes "a" ∷ codes "b" ∷ []) 2 (stream_fault e.at e.kind)

abbrev pub fault_examples : List FaultExample
fault_examples =
    said (codes "a=01" ∷ codes "b=0" ∷ []) BadLength (codes "b=0")
    ∷ said (codes "a=01" ∷ []) MissingInput (codes "b")
    ∷ said [] MissingInput (codes "a")
    ∷ said (codes "a=01" ∷ codes "a=01" ∷ codes "b=01" ∷ []) TwiceInput (codes "a=01")
    ∷ said (codes "a01" ∷ []) NoEquals (codes "a01")
    ∷ said (codes "c=01" ∷ []) UnknownInput (codes "c=01")
    ∷ said (codes "a=012" ∷ codes "b=01" ∷ []) BadBit (codes "a=012")
    -- the first rule that a word breaks counts, and the first word at fault
    ∷ said (codes "c=2" ∷ []) UnknownInput (codes "c=2")
    ∷ said (codes "a=01" ∷ codes "a=2" ∷ []) TwiceInput (codes "a=2")
    ∷ said (codes "a=0" ∷ codes "b" ∷ []) BadLength (codes "a=0")
    -- a word is cut at its last `=`
    ∷ said (codes "a=1=01" ∷ []) UnknownInput (codes "a=1=01")
    -- with one context a `:` is part of the name
    ∷ said (codes "0:a=01" ∷ []) UnknownInput (codes "0:a=01")
    ∷ []

abbrev pub fault_examples_in_contexts : List FaultExample
fault_examples_in_contexts =
    -- words without a number, with a number of no context, with leading zeros, and with something
    -- else before the `:`
    said (codes "a=01" ∷ []) BadContext (codes "a=01")
    ∷ said (codes "2:a=01" ∷ []) BadContext (codes "2:a=01")
    ∷ said (codes "18446744073709551617:a=01" ∷ []) BadContext (codes "18446744073709551617:a=01")
    ∷ said (codes "01:a=01" ∷ []) BadContext (codes "01:a=01")
    ∷ said (codes "00:a=01" ∷ []) BadContext (codes "00:a=01")
    ∷ said (codes ":a=01" ∷ []) BadContext (codes ":a=01")
    ∷ said (codes "+1:a=01" ∷ []) BadContext (codes "+1:a=01")
    ∷ said (codes " 1:a=01" ∷ []) BadContext (codes " 1:a=01")
    ∷ said (codes "1:a" ∷ []) NoEquals (codes "1:a")
    ∷ said (codes "1:c=01" ∷ []) UnknownInput (codes "1:c=01")
    ∷ said (codes "1:=01" ∷ []) UnknownInput (codes "1:=01")
    ∷ said (codes "1:a=01" ∷ codes "0:a=01" ∷ codes "1:a=11" ∷ []) TwiceInput (codes "1:a=11")
    ∷ said (codes "1:a=2" ∷ []) BadBit (codes "1:a=2")
    ∷ said (codes "1:a=0" ∷ []) BadLength (codes "1:a=0")
    ∷ said (codes "1:a=" ∷ []) BadLength (codes "1:a=")
    -- the lowest context comes first, and in it the first input
    ∷ said (codes "1:b=01" ∷ codes "0:a=01" ∷ []) MissingInput (codes "0:b")
    ∷ said (codes "0:b=01" ∷ codes "0:a=01" ∷ []) MissingInput (codes "1:a")
    ∷ []

-- the words may stand in any order
abbrev pub HasStreamsInAnyOrder : Type 0
HasStreamsInAnyOrder =
    HasStreams 1 (codes "b=11" ∷ codes "a=01" ∷ []) (codes "a" ∷ codes "b" ∷ []) 2
    ((false ∷ true ∷ []) ∷ (true ∷ true ∷ []) ∷ [])

-- a name may have a `=`
abbrev pub HasStreamOfNameWithEquals : Type 0
HasStreamOfNameWithEquals =
    HasStreams 1 (codes "a=b=10" ∷ []) (codes "a=b" ∷ []) 2 ((true ∷ false ∷ []) ∷ [])

-- in two contexts all inputs of context 0 come first, and a name may have a `:`
abbrev pub HasStreamsInContexts : Type 0
HasStreamsInContexts =
    HasStreams 2 (codes "1:a=11" ∷ codes "0::=10" ∷ codes "1::=00" ∷ codes "0:a=01" ∷ [])
    (codes "a" ∷ codes ":" ∷ []) 2
    ((false ∷ true ∷ []) ∷ (true ∷ false ∷ []) ∷ (true ∷ true ∷ []) ∷ (false ∷ false ∷ []) ∷ [])
