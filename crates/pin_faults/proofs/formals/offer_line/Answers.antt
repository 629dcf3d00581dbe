use Rattle.std.proofs.Common.{ap, sym, subst}
use Rattle.std.specs.Option.{option_copied}
use Rattle.netlist_core.specs.Names.{model_named}
use Rattle.model_words.specs.Words.{earliest_word}
use Rattle.model_words.specs.Placed.{ArePlacedNames}
use Rattle.pin_faults.proofs.Ports.{unknown_at, unknown_without}
use Rattle.pin_faults.proofs.formals.offer_line.Goals as goal

pub returns-in-Some : goal.returns-in-Some
returns-in-Some c = λ models knows placing.
    let line = c.args.line.now in
    unknown_at models line c.in-Some.names.now (model_named models c.as_slice.result.now) (earliest_word c.args.earliest.now) (earliest_word c.offer_others.new.earliest) (ap (model_named models) (sym c.as_slice.ensures))
    (subst (λ o. ArePlacedNames (model_named models c.as_slice.result.now) (option_copied o)) c.in-Some.is (c.find.ensures models knows placing))
    c.offer_others.ensures

pub returns-in_default : goal.returns-in_default
returns-in_default c = λ models knows placing.
    unknown_without models c.args.line.now (model_named models c.as_slice.result.now) (earliest_word c.args.earliest.now) (ap (model_named models) (sym c.as_slice.ensures))
    (subst (λ o. ArePlacedNames (model_named models c.as_slice.result.now) (option_copied o)) c.in_default.is (c.find.ensures models knows placing))
