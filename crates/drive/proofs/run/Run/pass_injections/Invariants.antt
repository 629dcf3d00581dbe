use Rattle.std.proofs.Common.{◌≡◌, ◌≤◌, ◌-◌}
use Rattle.drive.specs.Runs.{IsBandRun, first_miss_of, planes_of}
use Rattle.drive.proofs.run.Run.pass_injections.Given as goal

abbrev pub invariant-loop-self : goal.invariant-loop-self
invariant-loop-self l =
    record {
      run : IsBandRun l.self;
      planes : planes_of l.self ≡ planes_of l.fn.self;
      misses : first_miss_of l.self ≡ first_miss_of l.fn.self;
      order : l.self.generation ≤ l.generation;
    }

abbrev pub decreases-loop-self : goal.decreases-loop-self
decreases-loop-self l = l.generation - l.self.generation
