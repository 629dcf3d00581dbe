use Rattle.std.proofs.Common.{[], length}
use Rattle.cover_mapper.specs.Sourced.{AreSourced, IsAmongFirst}
use Rattle.cover_mapper.proofs.start.source_latches.Given as goal

abbrev pub invariant-loop-i : goal.invariant-loop-i
invariant-loop-i l = AreSourced l.flat (IsAmongFirst (length l.flat.ins) l.i []) l.list l.sources
