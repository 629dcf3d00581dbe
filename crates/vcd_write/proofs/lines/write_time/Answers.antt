use Rattle.std.proofs.Common.{sym, ℕ, List, ◌∷◌, ◌++◌, codes, decimal, ap, ◌∙◌}
use Rattle.std.proofs.lemmas.Result.{on_ok_weaker, on_err_weaker}
use Rattle.ww_base.specs.Pages.{held}
use Rattle.lists.proofs.Results.{on_err}
use Rattle.ww_base.proofs.Steps.{wrote_then, wrote_broke, wrote_as, broke_as}
use Rattle.vcd_write.proofs.Texts.{time_joined}
use Rattle.vcd_write.proofs.lines.write_time.Goals as goal

pub returns-in_err-put-2-clause-err : goal.returns-in_err-put-2-clause-err
returns-in_err-put-2-clause-err g c =
    let e = sym (c.as_bytes.ensures.value ∙ c.format-digits.ensures.text) in
    let f = λ (rest : List ℕ).
    broke_as (time_joined (held c.args.page.now) (codes "#") (decimal c.args.time) (10 ∷ rest) ∙ ap (λ d. held c.args.page.now ++ (codes "#" ++ (d ++ (10 ∷ rest)))) e)
    (wrote_broke (c.in_ok-put.ensures.ok (c.as_bytes.result.now ++ (10 ∷ rest))) (c.in_err-put-2.ensures.err (10 ∷ rest))) in
    on_err _ f

pub returns-clause-ok : goal.returns-clause-ok
returns-clause-ok g c =
    let e = sym (c.as_bytes.ensures.value ∙ c.format-digits.ensures.text) in
    on_ok_weaker c.put-3.result (λ wrote rest.
    wrote_as (time_joined (held c.args.page.now) (codes "#") (decimal c.args.time) (10 ∷ rest) ∙ ap (λ d. held c.args.page.now ++ (codes "#" ++ (d ++ (10 ∷ rest)))) e)
    (wrote_then (wrote_then (c.in_ok-put.ensures.ok (c.as_bytes.result.now ++ (10 ∷ rest))) (c.in_ok-put-2.ensures.ok (10 ∷ rest))) (wrote rest)))
    c.put-3.ensures.ok

pub returns-clause-err : goal.returns-clause-err
returns-clause-err g c =
    let e = sym (c.as_bytes.ensures.value ∙ c.format-digits.ensures.text) in
    on_err_weaker c.put-3.result (λ broke rest.
    broke_as (time_joined (held c.args.page.now) (codes "#") (decimal c.args.time) (10 ∷ rest) ∙ ap (λ d. held c.args.page.now ++ (codes "#" ++ (d ++ (10 ∷ rest)))) e)
    (wrote_broke (wrote_then (c.in_ok-put.ensures.ok (c.as_bytes.result.now ++ (10 ∷ rest))) (c.in_ok-put-2.ensures.ok (10 ∷ rest))) (broke rest)))
    c.put-3.ensures.err
