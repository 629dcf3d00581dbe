use Rattle.std.proofs.Common.{◌∙◌, ap, arith, refl}
use Rattle.netlist_rules.specs.declared.fault.FaultKind.TheVariants.{NoSuchPin}
use Rattle.netlist_rules.specs.ModelFaults.{unknown_formals}
use Rattle.model_words.specs.Words.{earliest_word}
use Rattle.pin_faults.specs.SubcktLines.{lines_now}
use Rattle.pin_faults.proofs.OfferedWords.{lines_more, if_ok_first}
use Rattle.pin_faults.proofs.Ports.{placing}
use Rattle.pin_faults.proofs.formals.unknown_formal.Goals as goal

pub loop-line-preserved : goal.loop-line-preserved
loop-line-preserved c =
    lines_more (unknown_formals c.args.models.now) (earliest_word c.loop-line.earliest) (earliest_word c.offer_line.new.earliest) c.deref-line-items.result.now c.loop-line.line-index c.line-item.result (omega arith) c.line-item.is c.loop-line.invariant (c.offer_line.ensures c.args.models.now c.requires (placing c.args.models.now c.deref-line-items.result.now c.loop-line.line-index (omega arith) (ap lines_now c.deref-line-items.ensures.value ∙ c.in_ok-subckt_lines.ensures)))

pub returns : goal.returns
returns c =
    if_ok_first NoSuchPin unknown_formals c.args.models.now c.args.models.now c.deref-line-items.result.now c.loop-line.line-index (earliest_word c.loop-line.earliest) c.fault.result refl (ap lines_now c.deref-line-items.ensures.value ∙ c.in_ok-subckt_lines.ensures) (omega arith) c.loop-line.invariant c.fault.ensures
