use Rattle.std.proofs.Common.{subst}
use Rattle.model_circles.specs.Earliest.{IsNoLater}
use Rattle.model_circles.proofs.Naming.{no_later, is_fault, circle_numbered}
use Rattle.model_circles.proofs.Ordered.{none_lies}
use Rattle.model_circles.proofs.fault.circle_fault.Goals as goal

pub returns-in-Ok : goal.returns-in-Ok
returns-in-Ok c line names on = let b = circle_numbered c.args.models.now line names on in none_lies c.args.models.now c.in-Ok._order c.in-Ok.ensures.order b.n b.k b.within b.lies

pub returns-in-None : goal.returns-in-None
returns-in-None c line names on = subst (λ o. IsNoLater o line) c.in-None.is (no_later c.args.models.now c.in_ok-earliest.field-0 c.in_ok-earliest.ensures line names on)

pub returns-in_ok-fault_of-in-Some : goal.returns-in_ok-fault_of-in-Some
returns-in_ok-fault_of-in-Some c =
    is_fault c.args.models.now c.in_ok-earliest.field-0 c.in-Some.circle c.in_ok-fault_of-in-Some.field-0 c.in_ok-earliest.ensures c.in-Some.is c.in_ok-fault_of-in-Some.ensures
