-- What is kept of the lines so far, the nearest first.
use Rattle.std.specs.Prelude.{◌≡◌, ℕ, Bool, false, cond, not, ◌&&◌, List, Option, Some, None, codes, bytes_eq, find, option_map}
use Rattle.std.specs.Bool.{then_some}
use Rattle.std.specs.List.{list_any}
use Rattle.std.specs.Option.{option_copied, option_map_or, option_or}
use Rattle.std.specs.BTreeSet.{BTreeSet}
use denote.Ref.{Bor}
use Rattle.lists.specs.Names.{holds_name}
use Rattle.blif_text.specs.declared.logical.Logical.{Logical}
use Rattle.netlist_rules.specs.declared.fault.Fault.{Fault}
use Rattle.netlist_rules.specs.declared.fault.FaultKind.TheVariants.{UnknownDirective, Unsupported, BadCount, RowOutside, BadRow, MixedCover, BadLatch, BadPin, DuplicateModel}
use Rattle.blif_text.specs.Models.{begins_model, first_operand, first_word, has_directive, is_directive, is_row, operands, pin_words}
use Rattle.netlist_rules.specs.FaultNames.{fault_on}
use Rattle.blif_text.specs.LineFaults.{is_end_or_model, last_directive, first_row, unknown_directive, unsupported, has_bad_count, is_row_of, number_of_inputs, differs_from, is_latch, is_bad_pin}
use Rattle.blif_reader.specs.declared.before.Before.{Before}
use Rattle.blif_reader.specs.declared.faults.Broken.{Broken}

-- whether a line begins the model of this name
abbrev pub is_model_of : List ℕ → Logical → Bool
is_model_of name l = begins_model l && bytes_eq (first_operand l) name

-- The set has the names of the models that these lines begin, and no others.
abbrev pub KnowsNames : BTreeSet (Bor (List ℕ)) → List Logical → Type 0
KnowsNames names before =
    (name : List ℕ) → holds_name names name ≡ list_any (is_model_of name) before

-- how each line changes what is kept
abbrev pub ended_after : Logical → Bool → Bool
ended_after l ended = cond (is_end_or_model l) (has_directive (codes ".end") l) ended

abbrev pub directive_after : Logical → Option Logical → Option Logical
directive_after l directive = cond (is_directive l) (Some l) directive

abbrev pub first_or : Logical → Option Logical → Option Logical
first_or l None = Some l
first_or l (Some row) = Some row

abbrev pub first_row_after : Logical → Option Logical → Option Logical
first_row_after l row = cond (is_directive l) None (first_or l row)

-- The state is what is kept of these lines.
pub record HasRead (state : Before) (before : List Logical) : Type 0 where
  pub model : state.has_model ≡ list_any begins_model before
  pub ended : state.has_ended ≡ option_map_or (has_directive (codes ".end"))
      (find is_end_or_model before) false
  pub directive : option_copied state.directive ≡ last_directive before
  pub row : option_copied state.row ≡ first_row before
  pub names : KnowsNames state.names before

-- The words at fault inside a model, given the last directive and the first row after it.
abbrev pub is_cover : Option Logical → Bool
is_cover directive = option_map_or (has_directive (codes ".names")) directive false

abbrev pub count_word : Logical → Option (List ℕ)
count_word l = then_some (has_bad_count l) (first_word l)

abbrev pub outside_word : Option Logical → Logical → Option (List ℕ)
outside_word directive l = then_some (is_row l && not (is_cover directive)) (first_word l)

abbrev pub inputs_of_cover : Option Logical → ℕ
inputs_of_cover directive = option_map_or number_of_inputs directive 0

abbrev pub bad_row_word : Option Logical → Logical → Option (List ℕ)
bad_row_word directive l =
    then_some (is_row l && is_cover directive
    && not (is_row_of (inputs_of_cover directive) l.words)) (first_word l)

abbrev pub differs_from_first : Option Logical → Logical → Bool
differs_from_first row l = option_map_or (differs_from l) row false

abbrev pub mixed_word : Option Logical → Option Logical → Logical → Option (List ℕ)
mixed_word directive row l =
    then_some (is_row l && is_cover directive && differs_from_first row l) (first_word l)

abbrev pub latch_word : Logical → Option (List ℕ)
latch_word l =
    then_some (has_directive (codes ".latch") l && not (is_latch (operands l))) (first_word l)

abbrev pub pin_word : Logical → Option (List ℕ)
pin_word l = cond (has_directive (codes ".subckt") l) (find is_bad_pin (pin_words l)) None

abbrev pub name_word : Bool → Logical → Option (List ℕ)
name_word is_named l = then_some (begins_model l && is_named) (first_operand l)

-- the fault by the first of these rules that the line breaks
abbrev pub inside_fault : Option Logical → Option Logical → Bool → Logical → Option Fault
inside_fault directive row is_named l =
    option_or (option_map (fault_on UnknownDirective l.line) (unknown_directive l))
    (option_or (option_map (fault_on Unsupported l.line) (unsupported l))
    (option_or (option_map (fault_on BadCount l.line) (count_word l))
    (option_or (option_map (fault_on RowOutside l.line) (outside_word directive l))
    (option_or (option_map (fault_on BadRow l.line) (bad_row_word directive l))
    (option_or (option_map (fault_on MixedCover l.line) (mixed_word directive row l))
    (option_or (option_map (fault_on BadLatch l.line) (latch_word l))
    (option_or (option_map (fault_on BadPin l.line) (pin_word l))
    (option_or (option_map (fault_on DuplicateModel l.line) (name_word is_named l)) None))))))))

-- the fault of a rule that is broken on a line of this number
abbrev pub broken_fault : ℕ → Broken → Fault
broken_fault line broken = fault_on broken.kind line broken.word.now
