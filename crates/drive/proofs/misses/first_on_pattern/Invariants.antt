use Rattle.std.proofs.Common.{◌≡◌, drop}
use Rattle.std.specs.List.{find}
use Rattle.ww_rule.specs.Grid.{plane_of}
use Rattle.ww_rule.specs.Wireworld.{Due}
use Rattle.drive.specs.Misses.{misses}
use Rattle.drive.proofs.misses.first_on_pattern.Given as goal

abbrev pub invariant-loop-injection : goal.invariant-loop-injection
invariant-loop-injection l =
    (due : Due) → find (misses due (plane_of l.pattern.rows)) (drop l.injection-index l.injections) ≡ find (misses due (plane_of l.pattern.rows)) l.injections
