use Rattle.std.proofs.Common.{◌+◌, ℕ, List, ◌∷◌, ◌++◌, drop, ap, sym, ◌∙◌}
use Rattle.lists.proofs.Results.{on_err}
use Rattle.ww_base.specs.Pages.{held}
use Rattle.ww_base.proofs.Steps.{wrote_then, wrote_broke, wrote_to}
use Rattle.ww_base.proofs.LeftPieces.{piece_next}
use Rattle.blif_write.specs.Words.{words_after_spaces}
use Rattle.blif_write.proofs.lines.write_names.Goals as goal

abbrev word_after : List ℕ → List ℕ
word_after name = 32 ∷ name

pub returns-in_err-write_after_space-clause-err : goal.returns-in_err-write_after_space-clause-err
returns-in_err-write_after_space-clause-err g c =
    let f = λ (rest : List ℕ).
    let next = piece_next word_after (held c.loop-name.page) c.args.names.now c.loop-name.name-index c.name-item.result rest c.loop-name-test.true in
    let later : List ℕ = words_after_spaces (λ name. name) (drop (c.loop-name.name-index + 1) c.args.names.now) ++ rest in
    let here = ap (λ name. held c.loop-name.page ++ (32 ∷ (name ++ later))) (sym (c.as_slice.ensures ∙ c.name-item.is)) in
    wrote_broke (wrote_to (next ∙ here) (c.loop-name.invariant rest)) (c.in_err-write_after_space.ensures.err later) in
    on_err _ f

pub loop-name-preserved : goal.loop-name-preserved
loop-name-preserved g c = λ rest.
    let next = piece_next word_after (held c.loop-name.page) c.args.names.now c.loop-name.name-index c.name-item.result rest c.loop-name-test.true in
    let later : List ℕ = words_after_spaces (λ name. name) (drop (c.loop-name.name-index + 1) c.args.names.now) ++ rest in
    let here = ap (λ name. held c.loop-name.page ++ (32 ∷ (name ++ later))) (sym (c.as_slice.ensures ∙ c.name-item.is)) in
    wrote_then (wrote_to (next ∙ here) (c.loop-name.invariant rest)) (c.in_ok-write_after_space.ensures.ok later)
