use Rattle.std.proofs.Common.{◌∙◌, sym, ap, subst, map}
use Rattle.std.specs.Prelude.{◌≢◌, AllPairs}
use Rattle.loop_check.specs.Reasons.{IsOrderRefusal}
use Rattle.loop_check.specs.declared.ordering.OrderError.TheVariants.{Loop}
use Rattle.aiger_meaning.specs.Ids.{net_numbers}
use Rattle.aiger_meaning.specs.Laws.{literal_of_net}
use Rattle.aiger_meaning.specs.Loop.{IsAigLoop}
use Rattle.aiger_meaning.proofs.Loops.{loop_of_nets, literals_once}
use Rattle.aiger_meaning.proofs.lowering.refusal.Goals as goal

pub returns-in-Ok : goal.returns-in-Ok
returns-in-Ok c flat sound is within why =
    let aig = c.args.aig.now in
    let refused : IsOrderRefusal flat (Loop c.in-Loop.nets) = subst (IsOrderRefusal flat) c.in-Loop.is why in
    let lits = sym (c.in-Ok.ensures ∙ ap (λ ns. map (literal_of_net aig) (net_numbers ns)) c.as_slice.ensures) in (
      within,
      subst (IsAigLoop aig) lits (loop_of_nets aig flat sound is c.in-Loop.nets refused),
      subst (AllPairs (λ a b. a ≢ b)) lits (literals_once aig flat sound is c.in-Loop.nets refused),
    )
