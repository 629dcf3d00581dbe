use Rattle.std.proofs.Common.{[]}
use Rattle.cover_mapper.specs.Sourced.{AreSourced, IsAmongFirst}
use Rattle.cover_mapper.proofs.start.source_inputs.Given as goal

abbrev pub invariant-loop-i : goal.invariant-loop-i
invariant-loop-i l = AreSourced l.flat (IsAmongFirst l.i 0 []) l.list l.sources
