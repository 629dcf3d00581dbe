use Rattle.std.proofs.Common.{sym, ap, ◌∙◌, get_or}
use Rattle.std.specs.Prelude.{not}
use Rattle.std.specs.List.{find}
use Rattle.std.proofs.lemmas.List.{drop_all}
use Rattle.ww_rule.specs.declared.pattern.Injection.{Injection}
use Rattle.ww_rule.specs.Grid.{plane_of}
use Rattle.drive.specs.Misses.{misses}
use Rattle.drive.proofs.FirstMisses.{found_here, found_later, misses_at_zero}
use Rattle.drive.proofs.misses.first_on_pattern.Goals as goal

abbrev none : Injection
none = record { generation = 0; x = 0; y = 0 }

pub returns-then-not-is_conductor : goal.returns-then-not-is_conductor
returns-then-not-is_conductor c = λ due.
    let is = c.args.injections.now in
    let n = c.loop-injection.injection-index in
    let plane = plane_of c.args.pattern.now.rows in
    let lt = c.loop-injection-test.true in
    let here = misses_at_zero due plane (get_or is n none) (c.requires n none lt) ∙ ap not (sym c.is_conductor.ensures ∙ c.if-not-is_conductor.true) in
    sym (found_here (misses due plane) is n none lt here) ∙ c.loop-injection.invariant due

pub loop-injection-preserved : goal.loop-injection-preserved
loop-injection-preserved c = λ due.
    let is = c.args.injections.now in
    let n = c.loop-injection.injection-index in
    let plane = plane_of c.args.pattern.now.rows in
    let lt = c.loop-injection-test.true in
    let here = misses_at_zero due plane (get_or is n none) (c.requires n none lt) ∙ ap not (sym c.is_conductor.ensures ∙ c.if-not-is_conductor.false) in
    sym (found_later (misses due plane) is n none lt here) ∙ c.loop-injection.invariant due

pub returns : goal.returns
returns c = λ due.
    let is = c.args.injections.now in
    let n = c.loop-injection.injection-index in
    let p = misses due (plane_of c.args.pattern.now.rows) in
    sym (ap (find p) (drop_all n is c.loop-injection-test.false)) ∙ c.loop-injection.invariant due
