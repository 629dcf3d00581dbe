use Rattle.std.proofs.Common.{ℕ, List, ◌++◌, drop}
use Rattle.ww_base.specs.Pages.{held}
use Rattle.ww_base.specs.Pieces.{joined_pieces}
use Rattle.ww_base.specs.Progress.{Wrote}
use Rattle.ww_base.proofs.pieces.put_pieces.Given as goal

abbrev pub invariant-loop-piece : goal.invariant-loop-piece
invariant-loop-piece g l = (rest : List ℕ) →
    Wrote (g.O.Sink.written l.initial.sink) (g.O.Sink.written l.sink) (g.O.Sink.faults l.initial.sink) (g.O.Sink.faults l.sink)
    (held l.initial.page ++ (joined_pieces l.pieces ++ rest)) (held l.page ++ (joined_pieces (drop l.piece-index l.pieces) ++ rest))
