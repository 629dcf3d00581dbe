-- The models that a list of logical lines describes, by the BLIF report of Berkeley. If no line
-- breaks a rule on lines, these are what the lines say.
use Rattle.std.specs.Prelude.{ℕ, Bool, true, false, not, ◌-◌, ◌==◌, List, [], ◌∷◌, ◌++◌, map, length, take, drop, get_or, codes, bytes_eq, Option, None, filter_map, flat_map, take_while, cond}
use Rattle.std.specs.Bool.{then_some}
use Rattle.std.specs.List.{list_all, before_first, after_first}
use Rattle.netlist_core.specs.declared.model.Trigger.{Trigger}
use Rattle.netlist_core.specs.declared.model.Trigger.TheVariants.{Rise, Fall}
use Rattle.netlist_core.specs.declared.model.Port.{Port}
use Rattle.netlist_core.specs.declared.model.Pin.{Pin}
use Rattle.netlist_core.specs.declared.model.Cover.{Cover}
use Rattle.netlist_core.specs.declared.model.LatchRow.{LatchRow}
use Rattle.netlist_core.specs.declared.model.Subckt.{Subckt}
use Rattle.netlist_core.specs.declared.model.Model.{Model}
use Rattle.blif_text.specs.declared.logical.Logical.{Logical}

-- the first word of a line; the words after it; the first of those
abbrev pub first_word : Logical → List ℕ
first_word l = get_or l.words 0 []

abbrev pub operands : Logical → List (List ℕ)
operands l = drop 1 l.words

abbrev pub first_operand : Logical → List ℕ
first_operand l = get_or l.words 1 []

-- A directive begins with `.`; any other line is a row of a cover.
abbrev pub is_directive : Logical → Bool
is_directive l = get_or (first_word l) 0 0 == 46

abbrev pub is_row : Logical → Bool
is_row l = not (is_directive l)

-- whether the line's directive is this one
abbrev pub has_directive : List ℕ → Logical → Bool
has_directive name l = bytes_eq (first_word l) name

-- the lines of one directive
abbrev pub lines_with : List ℕ → List Logical → List Logical
lines_with name lines = filter_map (λ (l : Logical). then_some (has_directive name l) l) lines

-- `.model` begins a model
abbrev pub begins_model : Logical → Bool
begins_model l = has_directive (codes ".model") l

abbrev pub stays_in_model : Logical → Bool
stays_in_model l = not (begins_model l)

-- `.inputs`, `.outputs` and `.clock` take lists over any number of lines, which are joined in
-- order.
abbrev pub ports_on : Logical → List Port
ports_on l = map (λ (name : List ℕ). let port : Port = record { line = l.line; name = name } in port) (operands l)

abbrev pub ports_listed : List ℕ → List Logical → List Port
ports_listed name lines = flat_map ports_on (lines_with name lines)

-- the last of some words
abbrev pub last_word : List (List ℕ) → List ℕ
last_word words = get_or words (length words - 1) []

-- A row ends with the output's character; the word before that has the inputs' characters. A row of
-- a cover without inputs has the output's alone.
abbrev pub output_part : List (List ℕ) → List ℕ
output_part words = last_word words

abbrev pub input_part : List (List ℕ) → List ℕ
input_part [] = []
input_part (output ∷ []) = []
input_part (inputs ∷ output ∷ more) = inputs

abbrev pub turns_on : Logical → Bool
turns_on row = bytes_eq (output_part row.words) (codes "1")

-- `.names in1 .. inn out` and its rows, which end in `1`, or all in `0`
abbrev pub cover_of : Logical → List Logical → Cover
cover_of l rows = record {
  line = l.line;
  ins = take (length (operands l) - 1) (operands l);
  out = last_word (operands l);
  rows = map (λ (row : Logical). input_part row.words) rows;
  on = list_all turns_on rows;
}

-- A cover has the rows that directly follow its `.names`.
abbrev pub cover_at : Bool → Logical → List Logical → List Cover
cover_at true l later = cover_of l (take_while is_row later) ∷ []
cover_at false l later = []

abbrev pub covers_of : List Logical → List Cover
covers_of [] = []
covers_of (l ∷ later) = cover_at (has_directive (codes ".names") l) l later ++ covers_of later

-- the edge that a type of latch names: `re` or `fe`
abbrev pub trigger_of : List ℕ → Trigger
trigger_of type = cond (bytes_eq type (codes "re")) Rise Fall

-- `NIL` is no control
abbrev pub is_control : List ℕ → Bool
is_control word = not (bytes_eq word (codes "NIL"))

-- the number that one digit spells
abbrev pub digit : List ℕ → ℕ
digit word = get_or word 0 48 - 48

abbrev pub latch_row : ℕ → List ℕ → List ℕ → Option Trigger → Option (List ℕ) → ℕ → LatchRow
latch_row line input output kind control init =
    record {
      line = line;
      input = input;
      output = output;
      kind = kind;
      control = control;
      init = init;
    }

-- `.latch input output [type control] [init]`: an init that is left out is 3, and without a control
-- the type is ignored
abbrev pub latch_with : ℕ → List (List ℕ) → List LatchRow
latch_with line (input ∷ output ∷ []) = latch_row line input output None None 3 ∷ []
latch_with line (input ∷ output ∷ init ∷ []) =
    latch_row line input output None None (digit init) ∷ []
latch_with line (input ∷ output ∷ type ∷ control ∷ []) =
    latch_row line input output (then_some (is_control control) (trigger_of type))
    (then_some (is_control control) control) 3 ∷ []
latch_with line (input ∷ output ∷ type ∷ control ∷ init ∷ []) =
    latch_row line input output (then_some (is_control control) (trigger_of type))
    (then_some (is_control control) control) (digit init) ∷ []
latch_with line _ = []

abbrev pub latch_on : Logical → List LatchRow
latch_on l = latch_with l.line (operands l)

-- A pin is cut at its first `=`: `formal=actual`.
abbrev pub is_equals : ℕ → Bool
is_equals b = b == 61

abbrev pub pin_of : List ℕ → Pin
pin_of word = record { formal = before_first is_equals word; actual = after_first is_equals word }

-- the words of a `.subckt` line that are pins
abbrev pub pin_words : Logical → List (List ℕ)
pin_words l = drop 2 l.words

-- `.subckt model formal=actual ..`
abbrev pub subckt_of : Logical → Subckt
subckt_of l = record { line = l.line; model = first_operand l; pins = map pin_of (pin_words l) }

-- the model of a `.model` line and the lines after it, up to the next `.model`; annotations and
-- `.end` give nothing
abbrev pub model_of : Logical → List Logical → Model
model_of l lines = record {
  line = l.line;
  name = first_operand l;
  ins = ports_listed (codes ".inputs") lines;
  outs = ports_listed (codes ".outputs") lines;
  clocks = ports_listed (codes ".clock") lines;
  covers = covers_of lines;
  latches = flat_map latch_on (lines_with (codes ".latch") lines);
  subckts = map subckt_of (lines_with (codes ".subckt") lines);
}

abbrev pub model_if : Bool → Logical → List Logical → List Model
model_if true l later = model_of l (take_while stays_in_model later) ∷ []
model_if false l later = []

-- The models of a list of logical lines, which is cut before each `.model`. The first is the main
-- one.
abbrev pub models_of : List Logical → List Model
models_of [] = []
models_of (l ∷ later) = model_if (begins_model l) l later ++ models_of later
