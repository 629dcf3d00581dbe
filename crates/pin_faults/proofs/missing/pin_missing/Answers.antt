use Rattle.std.proofs.Common.{◌∙◌, ap, refl, arith}
use Rattle.std.specs.Prelude.{option_map, flat_map, take}
use Rattle.netlist_rules.specs.declared.fault.FaultKind.TheVariants.{PinMissing}
use Rattle.netlist_rules.specs.ModelFaults.{earliest, fault_of_port, missing_pin}
use Rattle.pin_faults.specs.SubcktLines.{lines_now}
use Rattle.pin_faults.proofs.OfferedWords.{lines_more, first_of_lines}
use Rattle.pin_faults.proofs.missing.pin_missing.Goals as goal

pub loop-line-preserved : goal.loop-line-preserved
loop-line-preserved c =
    let before = earliest (flat_map (missing_pin c.args.named.now) (lines_now (take c.loop-line.line-index c.deref-line-items.result.now))) in
    c.in_ok-first.ensures before c.loop-line.invariant
    ∙ ap (option_map (fault_of_port PinMissing)) (lines_more (missing_pin c.args.named.now) before _ c.deref-line-items.result.now c.loop-line.line-index c.line-item.result (omega arith) c.line-item.is refl refl)

pub returns : goal.returns
returns c =
    first_of_lines PinMissing missing_pin c.args.named.now c.args.models.now c.deref-line-items.result.now c.loop-line.line-index _ c.loop-line.first c.requires (ap lines_now c.deref-line-items.ensures.value ∙ c.in_ok-subckt_lines.ensures) (omega arith) refl c.loop-line.invariant
