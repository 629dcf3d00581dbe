use Rattle.std.proofs.Common.{◌<◌, ◌∙◌, ap, length, arith}
use Rattle.netlist_core.specs.declared.model.Model.{Model}
use Rattle.netlist_rules.specs.ModelFaults.{duplicate_ports, second_drivers, undriven_readings}
use Rattle.model_words.specs.Placed.{KnowsPlaced}
use Rattle.model_words.proofs.OfferedWords.{offered_more}
use Rattle.net_faults.proofs.faults.earliest_words.Goals as goal

pub loop-model-preserved : goal.loop-model-preserved
loop-model-preserved c =
    let models = c.args.models.now in
    let i = c.loop-model.model-index in
    let model = c.model-item.result in
    let offered = c.in_ok-offer_model.ensures in
    let was = c.loop-model.invariant in
    let within : i < length models = omega arith in
    let knows : KnowsPlaced c.args.placed.now models model = record { ports = c.requires; plain = λ plain. ap (λ (m : Model). length m.subckts) c.model-item.is ∙ plain i model within } in
    record {
      duplicate_port = offered_more duplicate_ports models i model _ _ (omega arith) c.model-item.is was.duplicate_port offered.duplicate_port;
      second_driver = offered_more (second_drivers models) models i model _ _ (omega arith) c.model-item.is was.second_driver (offered.second_driver models knows);
      undriven = offered_more (undriven_readings models) models i model _ _ (omega arith) c.model-item.is was.undriven (offered.undriven models knows);
    }
