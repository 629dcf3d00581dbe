-- The rules on lines, 1 to 11. Whether a line breaks one depends on it and on the lines before it,
-- which are listed nearest first.
use Rattle.netlist_rules.specs.FaultNames.{fault_on}
use Rattle.lists.specs.Names.{is_among}
use Rattle.std.specs.Prelude.{ℕ, Bool, true, false, not, cond, ◌-◌, ◌==◌, ◌&&◌, ◌||◌, List, [], ◌∷◌, length, codes, bytes_eq, Option, None, option_map, find, take_while, nat_eq}
use Rattle.std.specs.Bool.{then_some}
use Rattle.std.specs.Option.{option_or, option_map_or}
use Rattle.std.specs.List.{list_any, list_all, before_first, after_first, last_or, starts_with}
use Rattle.blif_text.specs.declared.logical.Logical.{Logical}
use Rattle.netlist_rules.specs.declared.fault.Fault.{Fault}
use Rattle.netlist_rules.specs.declared.fault.FaultKind.{FaultKind}
use Rattle.netlist_rules.specs.declared.fault.FaultKind.TheVariants.{NoModelYet, UnknownDirective, Unsupported, BadCount, RowOutside, BadRow, MixedCover, BadLatch, BadPin, AfterEnd, DuplicateModel}
use Rattle.blif_text.specs.Models.{first_word, operands, first_operand, is_directive, is_row, has_directive, begins_model, output_part, is_equals, pin_words}

-- the directives that say what a netlist is
abbrev pub netlist_directives : List (List ℕ)
netlist_directives =
    codes ".model" ∷ codes ".inputs" ∷ codes ".outputs" ∷ codes ".clock" ∷ codes ".names"
    ∷ codes ".latch" ∷ codes ".subckt" ∷ codes ".end" ∷ []

-- the directives that annotate a netlist and are skipped, as is each that begins with `.default_`
abbrev pub annotations : List (List ℕ)
annotations =
    codes ".area" ∷ codes ".delay" ∷ codes ".wire_load_slope" ∷ codes ".wire"
    ∷ codes ".input_arrival" ∷ codes ".output_required" ∷ codes ".input_drive"
    ∷ codes ".output_load" ∷ codes ".max_input_load" ∷ codes ".cname" ∷ codes ".attr"
    ∷ codes ".param" ∷ []

abbrev pub is_annotation : List ℕ → Bool
is_annotation word = is_among word annotations || starts_with nat_eq word (codes ".default_")

-- the unsupported directives and types of latch: they change what nets mean, or need another file
abbrev pub unsupported_directives : List (List ℕ)
unsupported_directives =
    codes ".gate" ∷ codes ".mlatch" ∷ codes ".exdc" ∷ codes ".search" ∷ codes ".start_kiss"
    ∷ codes ".end_kiss" ∷ codes ".conn" ∷ []

abbrev pub unsupported_types : List (List ℕ)
unsupported_types = codes "ah" ∷ codes "al" ∷ codes "as" ∷ []

abbrev pub latch_types : List (List ℕ)
latch_types = codes "re" ∷ codes "fe" ∷ codes "ah" ∷ codes "al" ∷ codes "as" ∷ []

abbrev pub latch_inits : List (List ℕ)
latch_inits = codes "0" ∷ codes "1" ∷ codes "2" ∷ codes "3" ∷ []

-- 1: a logical line stands before the first `.model`
abbrev pub is_before_models : List Logical → Logical → Bool
is_before_models before l = not (list_any begins_model (l ∷ before))

-- 2: the first word begins with `.` and is no directive that is known or unsupported
abbrev pub is_known : List ℕ → Bool
is_known word =
    is_among word netlist_directives || is_annotation word
    || is_among word unsupported_directives

abbrev pub unknown_directive : Logical → Option (List ℕ)
unknown_directive l = then_some (is_directive l && not (is_known (first_word l))) (first_word l)

-- 3: an unsupported directive, or a `.latch` of 4 or 5 operands with an unsupported type
abbrev pub type_if_unsupported : List ℕ → Option (List ℕ)
type_if_unsupported type = then_some (is_among type unsupported_types) type

abbrev pub unsupported_type : List (List ℕ) → Option (List ℕ)
unsupported_type (input ∷ output ∷ type ∷ control ∷ []) = type_if_unsupported type
unsupported_type (input ∷ output ∷ type ∷ control ∷ init ∷ []) = type_if_unsupported type
unsupported_type _ = None

abbrev pub unsupported : Logical → Option (List ℕ)
unsupported l =
    option_or (then_some (is_among (first_word l) unsupported_directives) (first_word l))
    (cond (has_directive (codes ".latch") l) (unsupported_type (operands l)) None)

-- 4: `.model` does not have one operand, `.end` has any, or `.names` or `.subckt` has none
abbrev pub has_bad_count : Logical → Bool
has_bad_count l =
    (begins_model l && not (length (operands l) == 1))
    || (has_directive (codes ".end") l && not (length (operands l) == 0))
    || ((has_directive (codes ".names") l || has_directive (codes ".subckt") l)
    && length (operands l) == 0)

-- 5: a row stands where the last directive is not `.names`
abbrev pub last_directive : List Logical → Option Logical
last_directive before = find is_directive before

abbrev pub is_in_cover : List Logical → Bool
is_in_cover before = option_map_or (has_directive (codes ".names")) (last_directive before) false

-- 6: a row of a cover with n inputs is not n characters `0`, `1`, `-` and then `0` or `1`, or for n
-- = 0 one `0` or `1`
abbrev pub is_literal : ℕ → Bool
is_literal b = b == 48 || b == 49 || b == 45

abbrev pub is_row_output : List ℕ → Bool
is_row_output word = bytes_eq word (codes "0") || bytes_eq word (codes "1")

abbrev pub is_row_of : ℕ → List (List ℕ) → Bool
is_row_of n (output ∷ []) = n == 0 && is_row_output output
is_row_of n (inputs ∷ output ∷ []) =
    not (n == 0) && length inputs == n && list_all is_literal inputs && is_row_output output
is_row_of n _ = false

abbrev pub number_of_inputs : Logical → ℕ
number_of_inputs names = length (operands names) - 1

abbrev pub cover_inputs : List Logical → ℕ
cover_inputs before = option_map_or number_of_inputs (last_directive before) 0

-- 7: a row's output differs from that of the cover's first row
abbrev pub first_row : List Logical → Option Logical
first_row before = last_or None (take_while is_row before)

abbrev pub differs_from : Logical → Logical → Bool
differs_from l row = not (bytes_eq (output_part row.words) (output_part l.words))

abbrev pub is_mixed : List Logical → Logical → Bool
is_mixed before l = option_map_or (differs_from l) (first_row before) false

-- 8: `.latch` does not have 2 to 5 operands, or has a type other than the five or an init other
-- than the four
abbrev pub is_latch : List (List ℕ) → Bool
is_latch (input ∷ output ∷ []) = true
is_latch (input ∷ output ∷ init ∷ []) = is_among init latch_inits
is_latch (input ∷ output ∷ type ∷ control ∷ []) = is_among type latch_types
is_latch (input ∷ output ∷ type ∷ control ∷ init ∷ []) =
    is_among type latch_types && is_among init latch_inits
is_latch _ = false

-- 9: a pin has no `=`, or nothing before or after its first `=`
abbrev pub is_empty : List ℕ → Bool
is_empty [] = true
is_empty (b ∷ bs) = false

abbrev pub is_bad_pin : List ℕ → Bool
is_bad_pin word = is_empty (before_first is_equals word) || is_empty (after_first is_equals word)

-- 10: a line other than `.model` follows `.end`
abbrev pub is_end_or_model : Logical → Bool
is_end_or_model l = has_directive (codes ".end") l || begins_model l

abbrev pub follows_end : List Logical → Logical → Bool
follows_end before l =
    not (begins_model l) && option_map_or (has_directive (codes ".end"))
    (find is_end_or_model before) false

-- 11: an earlier model has the name
abbrev pub names_same_model : Logical → Logical → Bool
names_same_model l earlier =
    begins_model earlier && bytes_eq (first_operand earlier) (first_operand l)

-- Before the first `.model` only rule 1 applies; after `.end`, up to the next `.model`, only rule
-- 10.
abbrev pub inside : List Logical → Logical → Option (List ℕ) → Option (List ℕ)
inside before l word = cond (is_before_models before l || follows_end before l) None word

-- the word that is at fault if the line breaks this rule, given the lines before it
abbrev pub word_at_fault : FaultKind → List Logical → Logical → Option (List ℕ)
word_at_fault NoModelYet before l = then_some (is_before_models before l) (first_word l)
word_at_fault UnknownDirective before l = inside before l (unknown_directive l)
word_at_fault Unsupported before l = inside before l (unsupported l)
word_at_fault BadCount before l = inside before l (then_some (has_bad_count l) (first_word l))
word_at_fault RowOutside before l =
    inside before l (then_some (is_row l && not (is_in_cover before)) (first_word l))
word_at_fault BadRow before l =
    inside before l (then_some (is_row l && is_in_cover before
    && not (is_row_of (cover_inputs before) l.words)) (first_word l))
word_at_fault MixedCover before l =
    inside before l (then_some (is_row l && is_in_cover before && is_mixed before l) (first_word l))
word_at_fault BadLatch before l =
    inside before l (then_some (has_directive (codes ".latch") l && not (is_latch (operands l)))
    (first_word l))
word_at_fault BadPin before l =
    inside before l (cond (has_directive (codes ".subckt") l) (find is_bad_pin (pin_words l)) None)
word_at_fault AfterEnd before l = then_some (follows_end before l) (first_word l)
word_at_fault DuplicateModel before l =
    inside before l (then_some (begins_model l && list_any (names_same_model l) before)
    (first_operand l))
word_at_fault _ before l = None

-- the rules on lines, in the order of their numbers
abbrev pub line_rules : List FaultKind
line_rules =
    NoModelYet ∷ UnknownDirective ∷ Unsupported ∷ BadCount ∷ RowOutside ∷ BadRow ∷ MixedCover
    ∷ BadLatch ∷ BadPin ∷ AfterEnd ∷ DuplicateModel ∷ []

-- the fault by the first of these rules that the line breaks
abbrev pub first_broken : List FaultKind → List Logical → Logical → Option Fault
first_broken [] before l = None
first_broken (kind ∷ kinds) before l =
    option_or (option_map (fault_on kind l.line) (word_at_fault kind before l))
    (first_broken kinds before l)

-- The fault of the earliest line that breaks a rule, given the lines before it, by the rule of the
-- lowest number.
abbrev pub fault_after : List Logical → List Logical → Option Fault
fault_after before [] = None
fault_after before (l ∷ later) =
    option_or (first_broken line_rules before l) (fault_after (l ∷ before) later)

abbrev pub line_fault : List Logical → Option Fault
line_fault lines = fault_after [] lines
