-- What the definitions give at closed texts.
use Rattle.std.proofs.Common.{◌≡◌, refl, inl, ℕ, List, true}
use Rattle.std.specs.Prelude.{None}
use Rattle.netlist_core.specs.declared.model.Model.{Model}
use Rattle.blif_text.specs.LogicalLines.{logical_lines}
use Rattle.blif_text.specs.Models.{models_of}
use Rattle.blif_text.specs.LineFaults.{line_fault}
use Rattle.netlist_rules.specs.ModelFaults.{model_fault}
use Rattle.netlist_rules.proofs.CircleLemmas.{all_place_later, no_circle}
use Rattle.netlist_examples.specs.TextExamples.{LineExamples, LineFaultExamples, ModelFaultExamples, ModelExamples, FaultlessExamples, IsDesignWith}
use Rattle.blif_text.specs.Faults.HasFault.{of_no_line, of_line, of_models}

pub line_examples : LineExamples
line_examples = record {
  two_returns = refl;
  return_within = refl;
  hash_within = refl;
  two_backslashes = refl;
  only_backslash = refl;
  only_hash = refl;
  other_blanks = refl;
  lone_return = refl;
  comment = refl;
  continued = refl;
  comment_after_backslash = refl;
  backslash_in_comment = refl;
  backslash_at_the_end = refl;
  backslash_within = refl;
  carriage_returns = refl;
  skipped = refl;
  first_number = refl;
}

pub line_fault_examples : LineFaultExamples
line_fault_examples = record {
  end_before_model = of_line refl;
  row_before_model = of_line refl;
  annotation_before_model = of_line refl;
  capital_directive = of_line refl;
  bare_default = of_line refl;
  default_dash = of_line refl;
  active_high_of_none = of_line refl;
  latch_of_three_words = of_line refl;
  latch_alone = of_line refl;
  other_type_of_none = of_line refl;
  constant_of_two_words = of_line refl;
  output_of_two_digits = of_line refl;
  pin_before_model_of_it = of_line refl;
  row_after_end = of_line refl;
  annotation_after_end = of_line refl;
  no_text = of_no_line refl;
  only_comments = of_no_line refl;
  before_model = of_line refl;
  unknown_before_model = of_line refl;
  unknown_directive = of_line refl;
  lone_dot = of_line refl;
  gate = of_line refl;
  active_high = of_line refl;
  asynchronous = of_line refl;
  active_low = of_line refl;
  connection = of_line refl;
  two_names = of_line refl;
  no_name = of_line refl;
  end_with_operand = of_line refl;
  cover_of_nothing = of_line refl;
  place_of_nothing = of_line refl;
  row_after_ports = of_line refl;
  row_after_annotation = of_line refl;
  row_in_next_model = of_line refl;
  row_without_inputs = of_line refl;
  row_with_dash = of_line refl;
  row_too_long = of_line refl;
  row_of_three = of_line refl;
  row_with_two = of_line refl;
  output_dash = of_line refl;
  mixed_cover = of_line refl;
  mixed_constant = of_line refl;
  latch_of_one = of_line refl;
  latch_of_six = of_line refl;
  init_of_two_digits = of_line refl;
  init_four = of_line refl;
  latch_type = of_line refl;
  type_for_an_init = of_line refl;
  type_of_five = of_line refl;
  init_four_of_three = of_line refl;
  pin_alone = of_line refl;
  pin_without_actual = of_line refl;
  pin_without_formal = of_line refl;
  after_end = of_line refl;
  unknown_after_end = of_line refl;
  end_after_end = of_line refl;
  same_model = of_line refl;
  earliest_line = of_line refl;
  lines_before_models = of_line refl;
}

pub model_fault_examples : ModelFaultExamples
model_fault_examples = record {
  lowest_before_earliest = of_models (record { no_fault = refl; are_models = refl }) (inl refl);
  later_model_lower_rule = of_models (record { no_fault = refl; are_models = refl }) (inl refl);
  drivers_of_one_line = of_models (record { no_fault = refl; are_models = refl }) (inl refl);
  formals_of_one_line = of_models (record { no_fault = refl; are_models = refl }) (inl refl);
  missing_in_text_order = of_models (record { no_fault = refl; are_models = refl }) (inl refl);
  unknown_pin_is_read = of_models (record { no_fault = refl; are_models = refl }) (inl refl);
  no_model_before_circle = of_models (record { no_fault = refl; are_models = refl }) (inl refl);
  input_twice = of_models (record { no_fault = refl; are_models = refl }) (inl refl);
  input_twice_on_a_line = of_models (record { no_fault = refl; are_models = refl }) (inl refl);
  clock_twice = of_models (record { no_fault = refl; are_models = refl }) (inl refl);
  output_twice = of_models (record { no_fault = refl; are_models = refl }) (inl refl);
  input_and_output = of_models (record { no_fault = refl; are_models = refl }) (inl refl);
  output_and_clock = of_models (record { no_fault = refl; are_models = refl }) (inl refl);
  clock_and_output = of_models (record { no_fault = refl; are_models = refl }) (inl refl);
  doubled_both_ways = of_models (record { no_fault = refl; are_models = refl }) (inl refl);
  output_before_double = of_models (record { no_fault = refl; are_models = refl }) (inl refl);
  second_model = of_models (record { no_fault = refl; are_models = refl }) (inl refl);
  driven_input = of_models (record { no_fault = refl; are_models = refl }) (inl refl);
  input_driven_before = of_models (record { no_fault = refl; are_models = refl }) (inl refl);
  clocked_input_driven = of_models (record { no_fault = refl; are_models = refl }) (inl refl);
  two_covers = of_models (record { no_fault = refl; are_models = refl }) (inl refl);
  cover_and_latch = of_models (record { no_fault = refl; are_models = refl }) (inl refl);
  output_pin_twice = of_models (record { no_fault = refl; are_models = refl }) (inl refl);
  undriven_cover_input = of_models (record { no_fault = refl; are_models = refl }) (inl refl);
  undriven_output = of_models (record { no_fault = refl; are_models = refl }) (inl refl);
  undriven_control = of_models (record { no_fault = refl; are_models = refl }) (inl refl);
  undriven_latch = of_models (record { no_fault = refl; are_models = refl }) (inl refl);
  undriven_pin = of_models (record { no_fault = refl; are_models = refl }) (inl refl);
  undriven_first = of_models (record { no_fault = refl; are_models = refl }) (inl refl);
  no_such_model = of_models (record { no_fault = refl; are_models = refl }) (inl refl);
  no_such_pin = of_models (record { no_fault = refl; are_models = refl }) (inl refl);
  no_such_pin_drives = of_models (record { no_fault = refl; are_models = refl }) (inl refl);
  pin_twice = of_models (record { no_fault = refl; are_models = refl }) (inl refl);
  pin_missing = of_models (record { no_fault = refl; are_models = refl }) (inl refl);
  first_pin_missing = of_models (record { no_fault = refl; are_models = refl }) (inl refl);
}

-- a design, where each of these computes
design_by : (text : List ℕ) (models : List Model) → line_fault (logical_lines text) ≡ None → models ≡ models_of (logical_lines text) → model_fault models ≡ None → all_place_later models ≡ true → IsDesignWith text models
design_by text models a b c later = record { models = record { no_fault = a; are_models = b }; faultless = record { no_fault = c; no_circle = no_circle models later } }

pub model_examples : ModelExamples
model_examples = record {
  inverter = design_by _ _ refl refl refl refl;
  nand_gate = design_by _ _ refl refl refl refl;
  constant_one = design_by _ _ refl refl refl refl;
  constant_zero = design_by _ _ refl refl refl refl;
  register = design_by _ _ refl refl refl refl;
  two_outputs = design_by _ _ refl refl refl refl;
  own_input = design_by _ _ refl refl refl refl;
  nothing = design_by _ _ refl refl refl refl;
  made = design_by _ _ refl refl refl refl;
  or_gate = design_by _ _ refl refl refl refl;
  annotated = design_by _ _ refl refl refl refl;
  toggle = design_by _ _ refl refl refl refl;
  counter = design_by _ _ refl refl refl refl;
  adder = design_by _ _ refl refl refl refl;
  clocked = design_by _ _ refl refl refl refl;
  constants = design_by _ _ refl refl refl refl;
  latches = design_by _ _ refl refl refl refl;
  pins = design_by _ _ refl refl refl refl;
}

pub faultless_examples : FaultlessExamples
faultless_examples = record {
  clock_read = design_by _ _ refl refl refl refl;
  begun = design_by _ _ refl refl refl refl;
  default_directive = design_by _ _ refl refl refl refl;
  parameter = design_by _ _ refl refl refl refl;
  empty_lists = design_by _ _ refl refl refl refl;
  rising_latch = design_by _ _ refl refl refl refl;
  constant_row = design_by _ _ refl refl refl refl;
  rows_alike = design_by _ _ refl refl refl refl;
  covers_apart = design_by _ _ refl refl refl refl;
  model_after_end = design_by _ _ refl refl refl refl;
  no_end = design_by _ _ refl refl refl refl;
  input_and_clock = design_by _ _ refl refl refl refl;
  no_control = design_by _ _ refl refl refl refl;
  placed = design_by _ _ refl refl refl refl;
  open_output = design_by _ _ refl refl refl refl;
  same_net_twice = design_by _ _ refl refl refl refl;
}
