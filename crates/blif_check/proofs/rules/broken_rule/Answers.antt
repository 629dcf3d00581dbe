use Rattle.std.proofs.Common.{sym, ◌∙◌, drop}
use Rattle.netlist_rules.specs.declared.fault.FaultKind.TheVariants.{DuplicatePort, MultipleDrivers, Undriven, NoSuchModel, NoSuchPin, PinTwice, PinMissing}
use Rattle.netlist_rules.specs.ModelFaults.{model_rules}
use Rattle.blif_check.proofs.RulesInOrder.{broken, passed, if_ok_last}
use Rattle.blif_check.proofs.rules.broken_rule.Goals as goal

pub returns-in-Some : goal.returns-in-Some
returns-in-Some c =
    let models = c.args.models.now in
    sym (
    broken DuplicatePort (drop 1 model_rules) models c.in_ok-duplicate_port.field-0.duplicate_port c.in-Some.fault c.in_ok-duplicate_port.ensures.duplicate_port c.in-Some.is)

pub returns-in-Some-second_driver : goal.returns-in-Some-second_driver
returns-in-Some-second_driver c =
    let models = c.args.models.now in
    sym (
    passed DuplicatePort (drop 1 model_rules) models c.in_ok-duplicate_port.field-0.duplicate_port c.in_ok-duplicate_port.ensures.duplicate_port c.in_default.is
    ∙ broken MultipleDrivers (drop 2 model_rules) models c.in_ok-duplicate_port.field-0.second_driver c.in-Some-second_driver.fault c.in_ok-duplicate_port.ensures.second_driver c.in-Some-second_driver.is)

pub returns-in-Some-undriven : goal.returns-in-Some-undriven
returns-in-Some-undriven c =
    let models = c.args.models.now in
    sym (
    passed DuplicatePort (drop 1 model_rules) models c.in_ok-duplicate_port.field-0.duplicate_port c.in_ok-duplicate_port.ensures.duplicate_port c.in_default.is
    ∙ passed MultipleDrivers (drop 2 model_rules) models c.in_ok-duplicate_port.field-0.second_driver c.in_ok-duplicate_port.ensures.second_driver c.in_default-second_driver.is
    ∙ broken Undriven (drop 3 model_rules) models c.in_ok-duplicate_port.field-0.undriven c.in-Some-undriven.fault c.in_ok-duplicate_port.ensures.undriven c.in-Some-undriven.is)

pub returns-in-Some-2 : goal.returns-in-Some-2
returns-in-Some-2 c =
    let models = c.args.models.now in
    sym (
    passed DuplicatePort (drop 1 model_rules) models c.in_ok-duplicate_port.field-0.duplicate_port c.in_ok-duplicate_port.ensures.duplicate_port c.in_default.is
    ∙ passed MultipleDrivers (drop 2 model_rules) models c.in_ok-duplicate_port.field-0.second_driver c.in_ok-duplicate_port.ensures.second_driver c.in_default-second_driver.is
    ∙ passed Undriven (drop 3 model_rules) models c.in_ok-duplicate_port.field-0.undriven c.in_ok-duplicate_port.ensures.undriven c.in_default-undriven.is
    ∙ broken NoSuchModel (drop 4 model_rules) models c.in_ok-fault.field-0 c.in-Some-2.fault c.in_ok-fault.ensures c.in-Some-2.is)

pub returns-in-Some-3 : goal.returns-in-Some-3
returns-in-Some-3 c =
    let models = c.args.models.now in
    sym (
    passed DuplicatePort (drop 1 model_rules) models c.in_ok-duplicate_port.field-0.duplicate_port c.in_ok-duplicate_port.ensures.duplicate_port c.in_default.is
    ∙ passed MultipleDrivers (drop 2 model_rules) models c.in_ok-duplicate_port.field-0.second_driver c.in_ok-duplicate_port.ensures.second_driver c.in_default-second_driver.is
    ∙ passed Undriven (drop 3 model_rules) models c.in_ok-duplicate_port.field-0.undriven c.in_ok-duplicate_port.ensures.undriven c.in_default-undriven.is
    ∙ passed NoSuchModel (drop 4 model_rules) models c.in_ok-fault.field-0 c.in_ok-fault.ensures c.in_default-2.is
    ∙ broken NoSuchPin (drop 5 model_rules) models c.in_ok-fault-2.field-0 c.in-Some-3.fault c.in_ok-fault-2.ensures c.in-Some-3.is)

pub returns-in-Some-4 : goal.returns-in-Some-4
returns-in-Some-4 c =
    let models = c.args.models.now in
    sym (
    passed DuplicatePort (drop 1 model_rules) models c.in_ok-duplicate_port.field-0.duplicate_port c.in_ok-duplicate_port.ensures.duplicate_port c.in_default.is
    ∙ passed MultipleDrivers (drop 2 model_rules) models c.in_ok-duplicate_port.field-0.second_driver c.in_ok-duplicate_port.ensures.second_driver c.in_default-second_driver.is
    ∙ passed Undriven (drop 3 model_rules) models c.in_ok-duplicate_port.field-0.undriven c.in_ok-duplicate_port.ensures.undriven c.in_default-undriven.is
    ∙ passed NoSuchModel (drop 4 model_rules) models c.in_ok-fault.field-0 c.in_ok-fault.ensures c.in_default-2.is
    ∙ passed NoSuchPin (drop 5 model_rules) models c.in_ok-fault-2.field-0 c.in_ok-fault-2.ensures c.in_default-3.is
    ∙ broken PinTwice (drop 6 model_rules) models c.in_ok-fault-3.field-0 c.in-Some-4.fault c.in_ok-fault-3.ensures c.in-Some-4.is)

pub returns : goal.returns
returns c =
    let models = c.args.models.now in
    if_ok_last PinMissing model_rules models c.pin_missing.result
    (passed DuplicatePort (drop 1 model_rules) models c.in_ok-duplicate_port.field-0.duplicate_port c.in_ok-duplicate_port.ensures.duplicate_port c.in_default.is
    ∙ passed MultipleDrivers (drop 2 model_rules) models c.in_ok-duplicate_port.field-0.second_driver c.in_ok-duplicate_port.ensures.second_driver c.in_default-second_driver.is
    ∙ passed Undriven (drop 3 model_rules) models c.in_ok-duplicate_port.field-0.undriven c.in_ok-duplicate_port.ensures.undriven c.in_default-undriven.is
    ∙ passed NoSuchModel (drop 4 model_rules) models c.in_ok-fault.field-0 c.in_ok-fault.ensures c.in_default-2.is
    ∙ passed NoSuchPin (drop 5 model_rules) models c.in_ok-fault-2.field-0 c.in_ok-fault-2.ensures c.in_default-3.is
    ∙ passed PinTwice (drop 6 model_rules) models c.in_ok-fault-3.field-0 c.in_ok-fault-3.ensures c.in_default-4.is)
    c.pin_missing.ensures
