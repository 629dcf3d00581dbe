use Rattle.std.proofs.Common.{refl, sym, ◌∙◌, ℕ, List, ◌∷◌, ◌++◌, decimal}
use Rattle.std.proofs.lemmas.Result.{on_ok_weaker, on_err_weaker}
use Rattle.ww_base.specs.Pages.{held}
use Rattle.lists.proofs.Results.{on_err}
use Rattle.ww_base.proofs.Steps.{wrote_then, wrote_broke, wrote_as, broke_as}
use Rattle.blif_write.specs.Marks.{mark_after}
use Rattle.blif_write.proofs.Pieces.{numbered_joined}
use Rattle.blif_write.proofs.words.write_numbered.Goals as goal

pub returns-in_err-write_mark-clause-err : goal.returns-in_err-write_mark-clause-err
returns-in_err-write_mark-clause-err g c =
    let f = λ (rest : List ℕ).
    broke_as (numbered_joined (held c.args.page.now) (mark_after c.args.leading) c.args.letter refl rest) (c.in_err-write_mark.ensures.err (c.args.letter ∷ (decimal c.args.number ++ rest))) in
    on_err _ f

pub returns-in_err-put-clause-err : goal.returns-in_err-put-clause-err
returns-in_err-put-clause-err g c =
    let f = λ (rest : List ℕ).
    broke_as (numbered_joined (held c.args.page.now) (mark_after c.args.leading) c.args.letter refl rest)
    (wrote_broke (c.in_ok-write_mark.ensures.ok (c.args.letter ∷ (decimal c.args.number ++ rest))) (c.in_err-put.ensures.err (decimal c.args.number ++ rest))) in
    on_err _ f

pub returns-clause-ok : goal.returns-clause-ok
returns-clause-ok g c =
    let e = sym (c.as_bytes.ensures.value ∙ c.format-digits.ensures.text) in
    on_ok_weaker c.put-2.result (λ wrote rest.
    wrote_as (numbered_joined (held c.args.page.now) (mark_after c.args.leading) c.args.letter e rest)
    (wrote_then (wrote_then (c.in_ok-write_mark.ensures.ok (c.args.letter ∷ (c.as_bytes.result.now ++ rest))) (c.in_ok-put.ensures.ok (c.as_bytes.result.now ++ rest))) (wrote rest)))
    c.put-2.ensures.ok

pub returns-clause-err : goal.returns-clause-err
returns-clause-err g c =
    let e = sym (c.as_bytes.ensures.value ∙ c.format-digits.ensures.text) in
    on_err_weaker c.put-2.result (λ broke rest.
    broke_as (numbered_joined (held c.args.page.now) (mark_after c.args.leading) c.args.letter e rest)
    (wrote_broke (wrote_then (c.in_ok-write_mark.ensures.ok (c.args.letter ∷ (c.as_bytes.result.now ++ rest))) (c.in_ok-put.ensures.ok (c.as_bytes.result.now ++ rest))) (broke rest)))
    c.put-2.ensures.err
