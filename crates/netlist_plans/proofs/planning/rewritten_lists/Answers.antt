use Rattle.std.proofs.Common.{get_or, sym, ◌∙◌, true≢false}
use Rattle.std.proofs.lemmas.Bool.{false_from_ne_true}
use Rattle.std.proofs.lemmas.Result.{IfOk-weaker}
use Rattle.cell_meaning.proofs.Mapping.{mapped_stays, bits_stay}
use Rattle.netlist_plans.proofs.planning.rewritten_lists.Goals as goal

pub returns-clause-computes : goal.returns-clause-computes
returns-clause-computes c =
    let flat = c.args.flat.now in
    let list = c.args.list.now in
    let kept = c.args.kept.now in
    IfOk-weaker c.rewritten.result _ _ (λ lists same i d lt.
    record {
      mapped = mapped_stays flat list (get_or lists.items i d) kept c.requires.sound c.requires.maps.mapped (same i d lt);
      bits = λ inputs state bits solves. bits_stay flat list (get_or lists.items i d) kept inputs state bits (same i d lt) (c.requires.maps.bits inputs state bits solves);
    }) c.rewritten.ensures.same

pub returns-clause-spares : goal.returns-clause-spares
returns-clause-spares c =
    IfOk-weaker c.rewritten.result _ _ (λ lists same none i d lt. false_from_ne_true _ (λ e. true≢false (sym ((same i d lt).one e) ∙ none))) c.rewritten.ensures.same
