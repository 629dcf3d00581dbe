use Rattle.std.proofs.Common.{◌≡◌, ◌++◌, map, take, drop}
use Rattle.ww_rule.specs.Turns.{injection_turned}
use Rattle.drive.proofs.run.turn_each.Given as goal

abbrev pub invariant-loop-injection : goal.invariant-loop-injection
invariant-loop-injection l = l.injections ≡ map injection_turned (take l.injection-index l.fn.injections) ++ drop l.injection-index l.fn.injections
