use Rattle.std.proofs.Common.{◌+◌, ℕ, List, ◌∷◌, ◌++◌, drop, arith}
use Rattle.lists.proofs.Results.{on_err}
use Rattle.ww_base.specs.Pages.{held}
use Rattle.ww_base.proofs.Steps.{wrote_then, wrote_broke, wrote_to}
use Rattle.ww_base.proofs.LeftPieces.{piece_next, pieces_none}
use Rattle.blif_write.specs.Words.{words_after_spaces, word_in}
use Rattle.blif_write.proofs.lines.write_words.Goals as goal

pub returns-in_err-write_after_space-clause-err : goal.returns-in_err-write_after_space-clause-err
returns-in_err-write_after_space-clause-err g c =
    let f = λ (rest : List ℕ).
    wrote_broke (wrote_to (piece_next (λ x. 32 ∷ word_in c.args.lift.now x) (held c.loop-word.page) c.args.words.now c.loop-word.word-index _ rest c.loop-word-test.true) (c.loop-word.invariant rest)) (c.in_err-write_after_space.ensures.err (words_after_spaces (word_in c.args.lift.now) (drop (c.loop-word.word-index + 1) c.args.words.now) ++ rest)) in
    on_err _ f

pub loop-word-preserved : goal.loop-word-preserved
loop-word-preserved g c = λ rest.
    wrote_then (wrote_to (piece_next (λ x. 32 ∷ word_in c.args.lift.now x) (held c.loop-word.page) c.args.words.now c.loop-word.word-index _ rest c.loop-word-test.true) (c.loop-word.invariant rest)) (c.in_ok-write_after_space.ensures.ok (words_after_spaces (word_in c.args.lift.now) (drop (c.loop-word.word-index + 1) c.args.words.now) ++ rest))

pub returns-clause-ok : goal.returns-clause-ok
returns-clause-ok g c = λ rest.
    wrote_to (pieces_none (λ x. 32 ∷ word_in c.args.lift.now x) (held c.loop-word.page) c.args.words.now c.loop-word.word-index rest (omega (arith, c.loop-word-test.false))) (c.loop-word.invariant rest)
