-- Laws of the definitions: what the first fault is, that there is at most one, and that a text is a
-- design or has a fault by a rule on lines or models.
use Rattle.std.specs.Prelude.{◌≡◌, ◌≢◌, ℕ, ◌<◌, ◌⊎◌, ◌↔◌, List, [], ◌∷◌, ◌++◌, reverse, length, get_or, ◌-◌, map, bytes_eq, ◌+◌, true, false, ⊤, ◌≤◌, Some, None}
use Rattle.std.specs.List.{AllByRecursion, list_any, list_all, IsDistinct}
use Rattle.std.specs.Str.Lines.{lines}
use Rattle.netlist_core.specs.declared.model.Model.{Model}
use Rattle.netlist_core.specs.declared.model.Design.{Design}
use Rattle.blif_text.specs.declared.logical.Logical.{Logical}
use Rattle.netlist_rules.specs.declared.fault.Fault.{Fault}
use Rattle.netlist_rules.specs.declared.fault.FaultKind.{FaultKind}
use Rattle.netlist_rules.specs.declared.fault.FaultKind.TheVariants.{Recursive}
use Rattle.netlist_rules.specs.FaultNames.{number_of}
use Rattle.blif_text.specs.LogicalLines.{logical_lines, physical_lines, is_newline, is_hash, is_space, words_of, JoinedLine, joined_line, joined_lines, without_comment, before_backslash}
use Rattle.blif_text.specs.Models.{models_of}
use Rattle.blif_text.specs.LineFaults.{word_at_fault, line_fault}
use Rattle.blif_text.specs.Faults.{HasModels, HasFault, IsDesignOf}

-- the line breaks no rule, given the lines before it, the nearest first
abbrev pub BreaksNone : List Logical → Logical → Type 0
BreaksNone before line = (kind : FaultKind) → word_at_fault kind before line ≡ None

-- The fault is that of a line which, given the lines before it, breaks this rule and none of a
-- lower number; and none of the lines before it breaks a rule.
pub record IsFirstLineFault (lines : List Logical) (fault : Fault) : Type 0 where
  pub before : List Logical
  pub line : Logical
  pub after : List Logical
  pub are_lines : lines ≡ before ++ line ∷ after
  pub at_its_line : fault.line ≡ line.line
  pub breaks : word_at_fault fault.kind (reverse before) line ≡ Some fault.word
  pub is_lowest : (kind : FaultKind) → number_of kind < number_of fault.kind
      → word_at_fault kind (reverse before) line ≡ None
  pub is_earliest : (front : List Logical) (earlier : Logical) (back : List Logical)
      → before ≡ front ++ earlier ∷ back → BreaksNone (reverse front) earlier

-- The fault of lines by a rule on lines is exactly that of the earliest line that breaks one, given
-- the lines before it, by the rule of the lowest number.
abbrev pub LineFaultIsFirst : Type 0
LineFaultIsFirst =
    (lines : List Logical) (fault : Fault) → (line_fault lines ≡ Some fault)
    ↔ IsFirstLineFault lines fault

-- Lines have no fault by a rule on lines exactly if each line breaks no rule, given the lines
-- before it.
abbrev pub NoLineFault : Type 0
NoLineFault =
    (lines : List Logical) → (line_fault lines ≡ None)
    ↔ ((before : List Logical) (line : Logical) (after : List Logical)
    → lines ≡ before ++ line ∷ after → BreaksNone (reverse before) line)

-- Two faults of the same lines have one kind and one line, and are the same unless their kind is
-- `Recursive`: one line may lie on several circles.
pub record AreSameFault (f g : Fault) : Type 0 where
  pub kind : f.kind ≡ g.kind
  pub line : f.line ≡ g.line
  pub whole : f.kind ≢ Recursive → f ≡ g

abbrev pub OneFault : Type 0
OneFault =
    (lines : List Logical) (f g : Fault) → HasFault lines f → HasFault lines g → AreSameFault f g

abbrev pub OneDesign : Type 0
OneDesign = (text : List ℕ) (d e : Design) → IsDesignOf text d → IsDesignOf text e → d ≡ e

abbrev pub NeverBoth : Type 0
NeverBoth =
    (text : List ℕ) (d : Design) (f : Fault) → IsDesignOf text d
    → ¬ (HasFault (logical_lines text) f)

-- Lines that break no rule on lines have no model only if there are no lines.
abbrev pub NoModelNoLine : Type 0
NoModelNoLine = (lines : List Logical) → HasModels lines [] → lines ≡ []

-- A text is a design, or has a fault by a rule on lines or models.
abbrev pub DesignOrFault : Type 0
DesignOrFault =
    (text : List ℕ) → IsDesignOf text (record { models = models_of (logical_lines text) })
    ⊎ ((f : Fault) × HasFault (logical_lines text) f)

-- The physical lines are those of Rust's `lines`.
abbrev pub LinesAreKnown : Type 0
LinesAreKnown = (text : List ℕ) → physical_lines text ≡ lines text

-- A physical line ends with byte 10, or with bytes 13 and 10; a comment is cut; what stands before
-- a last `\` is joined to the next line.
pub record LinesAreJoined : Type 0 where
  pub of_nothing : physical_lines [] ≡ []
  pub at_the_end : (line : List ℕ) → line ≢ [] → list_any is_newline line ≡ false
      → physical_lines line ≡ line ∷ []
  pub before_newline : (line rest : List ℕ) → list_any is_newline line ≡ false
      → get_or line (length line - 1) 0 ≢ 13
      → physical_lines (line ++ 10 ∷ rest) ≡ line ∷ physical_lines rest
  pub before_return : (line rest : List ℕ) → list_any is_newline line ≡ false
      → physical_lines (line ++ 13 ∷ 10 ∷ rest) ≡ line ∷ physical_lines rest
  pub before_comment : (front comment : List ℕ) → list_any is_hash front ≡ false
      → without_comment (front ++ 35 ∷ comment) ≡ front
  pub no_comment : (line : List ℕ) → list_any is_hash line ≡ false → without_comment line ≡ line
  pub continued : (front blanks : List ℕ) → list_all is_space blanks ≡ true
      → before_backslash (front ++ 92 ∷ blanks) ≡ Some front
  pub ended : (front : List ℕ) (byte : ℕ) (blanks : List ℕ) → byte ≢ 92 → is_space byte ≡ false
      → list_all is_space blanks ≡ true → before_backslash (front ++ byte ∷ blanks) ≡ None
  pub blank : (blanks : List ℕ) → list_all is_space blanks ≡ true → before_backslash blanks ≡ None
  pub alone : (n : ℕ) (line : List ℕ) (later : List (List ℕ))
      → before_backslash (without_comment line) ≡ None
      → joined_lines n (line ∷ later) ≡ joined_line n (without_comment line)
      ∷ joined_lines (n + 1) later
  pub joined : (n : ℕ) (line front next : List ℕ) (later : List (List ℕ)) (m : ℕ) (bytes : List ℕ)
      (others : List JoinedLine) → before_backslash (without_comment line) ≡ Some front
      → joined_lines (n + 1) (next ∷ later) ≡ joined_line m bytes ∷ others
      → joined_lines n (line ∷ next ∷ later) ≡ joined_line n (front ++ bytes) ∷ others
  pub joined_to_nothing : (n : ℕ) (line front : List ℕ)
      → before_backslash (without_comment line) ≡ Some front
      → joined_lines n (line ∷ []) ≡ joined_line n front ∷ []

-- Each logical line has a word, and each word has a byte and no blank.
abbrev pub HasWords : Logical → Type 0
HasWords l =
    (l.words ≢ []) × AllByRecursion (λ (word : List ℕ). (word ≢ [])
    × (list_any is_space word ≡ false)) l.words

-- The numbers of the lines rise, and the first is at least this one.
abbrev pub Rises : ℕ → List Logical → Type 0
Rises least [] = ⊤
Rises least (l ∷ lines) = (least ≤ l.line) × Rises (l.line + 1) lines

-- The number of a logical line is at most the number of physical lines.
abbrev pub NumbersAreBounded : Type 0
NumbersAreBounded =
    (text : List ℕ) → AllByRecursion (λ (l : Logical). l.line ≤ length (physical_lines text))
    (logical_lines text)

-- Each logical line has a word, each word has a byte and no blank, and the numbers of the lines
-- rise from 1 on.
abbrev pub LinesHaveWords : Type 0
LinesHaveWords =
    (text : List ℕ) → AllByRecursion HasWords (logical_lines text) × Rises 1 (logical_lines text)

-- Words are the longest runs of bytes that are no blanks: a run before a blank, or at the end, is
-- one word, and a blank belongs to none.
pub record WordsAreRuns : Type 0 where
  pub before_blank : (word : List ℕ) (blank : ℕ) (rest : List ℕ) → word ≢ []
      → list_any is_space word ≡ false → is_space blank ≡ true
      → words_of (word ++ blank ∷ rest) ≡ word ∷ words_of rest
  pub at_the_end : (word : List ℕ) → word ≢ [] → list_any is_space word ≡ false
      → words_of word ≡ word ∷ []
  pub after_blank : (blank : ℕ) (rest : List ℕ) → is_space blank ≡ true
      → words_of (blank ∷ rest) ≡ words_of rest
  pub of_nothing : words_of [] ≡ []

-- The models of a design have distinct names.
abbrev pub ModelsAreDistinct : Type 0
ModelsAreDistinct =
    (text : List ℕ) (design : Design) → IsDesignOf text design
    → IsDistinct bytes_eq (map (λ (m : Model). m.name) design.models)
