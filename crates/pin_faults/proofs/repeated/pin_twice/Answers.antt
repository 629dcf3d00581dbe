use Rattle.std.proofs.Common.{◌∙◌, ap, arith}
use Rattle.std.proofs.Common.{List, refl}
use Rattle.netlist_core.specs.declared.model.Model.{Model}
use Rattle.netlist_core.specs.declared.model.Subckt.{Subckt}
use Rattle.netlist_rules.specs.declared.fault.FaultKind.TheVariants.{PinTwice}
use Rattle.netlist_rules.specs.Drivers.{repeats}
use Rattle.netlist_rules.specs.ModelFaults.{formals_of}
use Rattle.model_words.specs.Words.{earliest_word}
use Rattle.pin_faults.specs.SubcktLines.{lines_now}
use Rattle.pin_faults.proofs.OfferedWords.{lines_more, if_ok_first}
use Rattle.pin_faults.proofs.repeated.pin_twice.Goals as goal

pub loop-line-preserved : goal.loop-line-preserved
loop-line-preserved c =
    lines_more (λ (s : Subckt). repeats (formals_of s)) (earliest_word c.loop-line.earliest) (earliest_word c.offer_line.new.earliest) c.deref-line-items.result.now c.loop-line.line-index c.line-item.result (omega arith) c.line-item.is c.loop-line.invariant c.in_ok-offer_line.ensures

pub returns : goal.returns
returns c =
    if_ok_first PinTwice (λ (models : List Model) (s : Subckt). repeats (formals_of s)) c.args.models.now c.args.models.now c.deref-line-items.result.now c.loop-line.line-index (earliest_word c.loop-line.earliest) c.fault.result refl (ap lines_now c.deref-line-items.ensures.value ∙ c.in_ok-subckt_lines.ensures) (omega arith) c.loop-line.invariant c.fault.ensures
