use Rattle.std.proofs.Common.{ℕ, List, ◌∷◌, ◌++◌}
use Rattle.std.proofs.lemmas.Result.{on_ok_weaker, on_err_weaker}
use Rattle.lists.proofs.Results.{on_err}
use Rattle.ww_base.specs.Pages.{held}
use Rattle.ww_base.proofs.Steps.{wrote_then, wrote_broke, wrote_as, broke_as}
use Rattle.blif_text.specs.declared.logical.Logical.{Logical}
use Rattle.blif_write.specs.Text.{worded_text}
use Rattle.blif_write.specs.Words.{words_after_spaces, word_in}
use Rattle.blif_write.proofs.Pieces.{line_joined}
use Rattle.blif_write.proofs.lines.write_line.Goals as goal

pub returns-in_err-put-clause-err : goal.returns-in_err-put-clause-err
returns-in_err-put-clause-err g c =
    let f = λ (n : ℕ) (more : List Logical).
    broke_as (line_joined (word_in c.args.lift.now) (held c.args.page.now) n c.args.first.now c.args.words.now more) (c.in_err-put.ensures.err (words_after_spaces (word_in c.args.lift.now) c.args.words.now ++ (10 ∷ worded_text more))) in
    on_err _ f

pub returns-in_err-write_words-clause-err : goal.returns-in_err-write_words-clause-err
returns-in_err-write_words-clause-err g c =
    let f = λ (n : ℕ) (more : List Logical).
    broke_as (line_joined (word_in c.args.lift.now) (held c.args.page.now) n c.args.first.now c.args.words.now more)
    (wrote_broke (c.in_ok-put.ensures.ok (words_after_spaces (word_in c.args.lift.now) c.args.words.now ++ (10 ∷ worded_text more))) (c.in_err-write_words.ensures.err (10 ∷ worded_text more))) in
    on_err _ f

pub returns-clause-ok : goal.returns-clause-ok
returns-clause-ok g c =
    on_ok_weaker c.put-2.result (λ wrote n more.
    wrote_as (line_joined (word_in c.args.lift.now) (held c.args.page.now) n c.args.first.now c.args.words.now more)
    (wrote_then (wrote_then (c.in_ok-put.ensures.ok (words_after_spaces (word_in c.args.lift.now) c.args.words.now ++ (10 ∷ worded_text more))) (c.in_ok-write_words.ensures.ok (10 ∷ worded_text more))) (wrote (worded_text more))))
    c.put-2.ensures.ok

pub returns-clause-err : goal.returns-clause-err
returns-clause-err g c =
    on_err_weaker c.put-2.result (λ broke n more.
    broke_as (line_joined (word_in c.args.lift.now) (held c.args.page.now) n c.args.first.now c.args.words.now more)
    (wrote_broke (wrote_then (c.in_ok-put.ensures.ok (words_after_spaces (word_in c.args.lift.now) c.args.words.now ++ (10 ∷ worded_text more))) (c.in_ok-write_words.ensures.ok (10 ∷ worded_text more))) (broke (worded_text more))))
    c.put-2.ensures.err
