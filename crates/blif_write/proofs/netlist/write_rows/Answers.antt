use Rattle.std.proofs.Common.{◌+◌, ℕ, List, ◌∷◌, ◌++◌, ap}
use Rattle.std.specs.Prelude.{codes}
use Rattle.std.proofs.lemmas.Result.{on_ok_weaker, on_err_weaker}
use Rattle.lists.proofs.Results.{on_err}
use Rattle.ww_base.specs.Pages.{held}
use Rattle.ww_base.proofs.Steps.{wrote_then, wrote_broke, wrote_as, broke_as}
use Rattle.blif_text.specs.declared.logical.Logical.{Logical}
use Rattle.lifted_designs.specs.Lines.{row, rows_then}
use Rattle.blif_write.specs.Text.{worded_text}
use Rattle.blif_write.proofs.netlist.write_rows.Goals as goal

pub returns-in_err-write_row-in-Or-clause-err : goal.returns-in_err-write_row-in-Or-clause-err
returns-in_err-write_row-in-Or-clause-err g c =
    let f = λ (n : ℕ) (more : List Logical). broke_as (ap (λ cell. held c.args.page.now ++ worded_text (rows_then n cell more)) c.in-Or.is) (c.in_err-write_row-in-Or.ensures.err (n + 1) (row (n + 1 + 1) (codes "-1") (codes "1") ∷ more)) in
    on_err _ f

pub returns-in_ok-write_row-in-Or-clause-ok : goal.returns-in_ok-write_row-in-Or-clause-ok
returns-in_ok-write_row-in-Or-clause-ok g c =
    on_ok_weaker c.write_row-in-Or.result (λ wrote n more. wrote_as (ap (λ cell. held c.args.page.now ++ worded_text (rows_then n cell more)) c.in-Or.is) (wrote_then (c.in_ok-write_row-in-Or.ensures.ok (n + 1) (row (n + 1 + 1) (codes "-1") (codes "1") ∷ more)) (wrote (n + 1 + 1) more)))
    c.write_row-in-Or.ensures.ok

pub returns-in_ok-write_row-in-Or-clause-err : goal.returns-in_ok-write_row-in-Or-clause-err
returns-in_ok-write_row-in-Or-clause-err g c =
    on_err_weaker c.write_row-in-Or.result (λ broke n more. broke_as (ap (λ cell. held c.args.page.now ++ worded_text (rows_then n cell more)) c.in-Or.is) (wrote_broke (c.in_ok-write_row-in-Or.ensures.ok (n + 1) (row (n + 1 + 1) (codes "-1") (codes "1") ∷ more)) (broke (n + 1 + 1) more)))
    c.write_row-in-Or.ensures.err

pub returns-in_err-write_row-in-Xor-clause-err : goal.returns-in_err-write_row-in-Xor-clause-err
returns-in_err-write_row-in-Xor-clause-err g c =
    let f = λ (n : ℕ) (more : List Logical). broke_as (ap (λ cell. held c.args.page.now ++ worded_text (rows_then n cell more)) c.in-Xor.is) (c.in_err-write_row-in-Xor.ensures.err (n + 1) (row (n + 1 + 1) (codes "01") (codes "1") ∷ more)) in
    on_err _ f

pub returns-in_ok-write_row-in-Xor-clause-ok : goal.returns-in_ok-write_row-in-Xor-clause-ok
returns-in_ok-write_row-in-Xor-clause-ok g c =
    on_ok_weaker c.write_row-in-Xor-2.result (λ wrote n more. wrote_as (ap (λ cell. held c.args.page.now ++ worded_text (rows_then n cell more)) c.in-Xor.is) (wrote_then (c.in_ok-write_row-in-Xor.ensures.ok (n + 1) (row (n + 1 + 1) (codes "01") (codes "1") ∷ more)) (wrote (n + 1 + 1) more)))
    c.write_row-in-Xor-2.ensures.ok

pub returns-in_ok-write_row-in-Xor-clause-err : goal.returns-in_ok-write_row-in-Xor-clause-err
returns-in_ok-write_row-in-Xor-clause-err g c =
    on_err_weaker c.write_row-in-Xor-2.result (λ broke n more. broke_as (ap (λ cell. held c.args.page.now ++ worded_text (rows_then n cell more)) c.in-Xor.is) (wrote_broke (c.in_ok-write_row-in-Xor.ensures.ok (n + 1) (row (n + 1 + 1) (codes "01") (codes "1") ∷ more)) (broke (n + 1 + 1) more)))
    c.write_row-in-Xor-2.ensures.err

pub returns-in-AndNot-clause-ok : goal.returns-in-AndNot-clause-ok
returns-in-AndNot-clause-ok g c = on_ok_weaker c.write_row-in-AndNot.result (λ wrote n more. wrote_as (ap (λ cell. held c.args.page.now ++ worded_text (rows_then n cell more)) c.in-AndNot.is) (wrote (n + 1) more)) c.write_row-in-AndNot.ensures.ok

pub returns-in-AndNot-clause-err : goal.returns-in-AndNot-clause-err
returns-in-AndNot-clause-err g c = on_err_weaker c.write_row-in-AndNot.result (λ broke n more. broke_as (ap (λ cell. held c.args.page.now ++ worded_text (rows_then n cell more)) c.in-AndNot.is) (broke (n + 1) more)) c.write_row-in-AndNot.ensures.err
