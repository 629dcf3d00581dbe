use Rattle.std.proofs.Common.{◌≡◌, ◌==◌, map, take}
use Rattle.cover_mapper.proofs.start.starts_of.Given as goal

abbrev pub invariant-loop-latch : goal.invariant-loop-latch
invariant-loop-latch l = l.starts.items ≡ map (λ latch. latch.init == 1) (take l.latch-index l.latches)
