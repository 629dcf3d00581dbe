use Rattle.std.proofs.Common.{◌∙◌, sym, ap, List}
use Rattle.netlist_core.specs.declared.model.Port.{Port}
use Rattle.netlist_core.specs.Names.{model_named}
use Rattle.model_words.specs.Words.{earliest_word, earliest_after}
use Rattle.pin_faults.specs.NotNamed.{ports_unless}
use Rattle.lists.specs.Names.{holds_name}
use Rattle.pin_faults.proofs.MissingPins.{first_unpinned, line_fault_is}
use Rattle.pin_faults.proofs.missing.line_fault.Goals as goal

pub returns : goal.returns
returns c =
    let named = ap (model_named c.args.named.now) (sym c.as_slice.ensures) ∙ sym c.in-Some.ensures in
    line_fault_is c.args.named.now c.args.line.now c.in-Some.placed.now (earliest_word c.offer_others-2.new.earliest) c.in_ok-found.found c.moved_to.result named
    (first_unpinned c.args.line.now c.in-Some.placed.now c.in_ok-formals.formals (earliest_word c.new-earliest.result) (earliest_word c.offer_others.new.earliest) (earliest_word c.offer_others-2.new.earliest) c.in_ok-formals.ensures c.new-earliest.ensures
    (c.offer_others.ensures ∙ ap (λ (ports : List Port). earliest_after (earliest_word c.new-earliest.result) (ports_unless (holds_name c.in_ok-formals.formals) ports)) c.as_slice-2.ensures)
    (c.offer_others-2.ensures ∙ ap (λ (ports : List Port). earliest_after (earliest_word c.offer_others.new.earliest) (ports_unless (holds_name c.in_ok-formals.formals) ports)) c.as_slice-3.ensures))
    c.in_ok-found.ensures c.moved_to.ensures
