use Rattle.std.proofs.Common.{sym, ◌∙◌}
use Rattle.std.specs.Cmp.{booleans_Decides}
use Rattle.std.proofs.lemmas.Bool.{not-false}
use Rattle.port_table.specs.Lent.{form_of}
use Rattle.port_table.proofs.Walking.{twice_or_none}
use Rattle.port_table.proofs.faults.fault_of_form.Goals as goal

pub returns-then-is_new-clause-fault : goal.returns-then-is_new-clause-fault
returns-then-is_new-clause-fault c = λ before h first.
    let placed = sym c.is_version.ensures ∙ (booleans_Decides _ _).0 (not-false _ c.if-is_version-is_first.false) ∙ first in
    let inside = sym c.is_outside.ensures ∙ c.if-is_outside.false in
    let new = sym c.if-is_new.true ∙ c.in_ok-is_new.ensures.added before h in
    rw c.in-Some.is (twice_or_none c.args.width c.args.height before (form_of c.in-Some.form) _ placed inside new)

pub returns-else-is_new-clause-fault : goal.returns-else-is_new-clause-fault
returns-else-is_new-clause-fault c = λ before h first.
    let placed = sym c.is_version.ensures ∙ (booleans_Decides _ _).0 (not-false _ c.if-is_version-is_first.false) ∙ first in
    let inside = sym c.is_outside.ensures ∙ c.if-is_outside.false in
    let new = sym c.if-is_new.false ∙ c.in_ok-is_new.ensures.added before h in
    rw c.in-Some.is (twice_or_none c.args.width c.args.height before (form_of c.in-Some.form) _ placed inside new)
