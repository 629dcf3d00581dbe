use Rattle.std.proofs.Common.{◌≡◌, take, flat_map}
use Rattle.netlist_rules.specs.ModelFaults.{earliest, duplicate_ports, second_drivers, undriven_readings}
use Rattle.model_words.specs.Words.{earliest_word}
use Rattle.net_faults.proofs.faults.earliest_words.Given as goal

abbrev pub invariant-loop-model : goal.invariant-loop-model
invariant-loop-model l = record {
  duplicate_port : earliest_word l.earliest.duplicate_port ≡ earliest (flat_map duplicate_ports (take l.model-index l.models));
  second_driver : earliest_word l.earliest.second_driver ≡ earliest (flat_map (second_drivers l.models) (take l.model-index l.models));
  undriven : earliest_word l.earliest.undriven ≡ earliest (flat_map (undriven_readings l.models) (take l.model-index l.models));
}
