use Rattle.std.proofs.Common.{◌+◌, ℕ, List, [], ◌++◌, drop}
use Rattle.lists.proofs.Results.{on_err}
use Rattle.ww_base.specs.Pages.{held}
use Rattle.ww_base.specs.Pieces.{joined_pieces}
use Rattle.ww_base.proofs.Steps.{wrote_then, wrote_broke, wrote_to}
use Rattle.ww_base.proofs.LeftPieces.{piece_next}
use Rattle.ww_base.proofs.pieces.put_pieces.Goals as goal

pub returns-in_err-put-clause-err : goal.returns-in_err-put-clause-err
returns-in_err-put-clause-err g c =
    let f = λ (rest : List ℕ).
    let next = piece_next (λ piece. piece.now) (held c.loop-piece.page) c.args.pieces.now c.loop-piece.piece-index (record { ref_ptr = (0, 0); now = [] }) rest c.loop-piece-test.true in
    wrote_broke (wrote_to next (c.loop-piece.invariant rest)) (c.in_err-put.ensures.err (joined_pieces (drop (c.loop-piece.piece-index + 1) c.args.pieces.now) ++ rest)) in
    on_err _ f

pub loop-piece-preserved : goal.loop-piece-preserved
loop-piece-preserved g c = λ rest.
    let next = piece_next (λ piece. piece.now) (held c.loop-piece.page) c.args.pieces.now c.loop-piece.piece-index (record { ref_ptr = (0, 0); now = [] }) rest c.loop-piece-test.true in
    wrote_then (wrote_to next (c.loop-piece.invariant rest)) (c.in_ok-put.ensures.ok (joined_pieces (drop (c.loop-piece.piece-index + 1) c.args.pieces.now) ++ rest))
