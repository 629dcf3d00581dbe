use Rattle.std.proofs.Common.{◌≡◌, drop}
use Rattle.std.specs.List.{find}
use Rattle.drive.specs.Runs.{injection_misses}
use Rattle.drive.proofs.run.Run.first_missed.Given as goal

abbrev pub invariant-loop-injection : goal.invariant-loop-injection
invariant-loop-injection l =
    find (injection_misses l.self.bands) (drop l.injection-index l.due) ≡ find (injection_misses l.self.bands) l.due
