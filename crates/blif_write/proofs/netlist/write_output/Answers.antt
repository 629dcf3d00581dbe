use Rattle.std.proofs.Common.{ℕ, List, ◌∷◌}
use Rattle.std.specs.Prelude.{codes}
use Rattle.std.proofs.lemmas.Result.{on_ok_weaker, on_err_weaker}
use Rattle.lists.proofs.Results.{on_err}
use Rattle.ww_base.proofs.Steps.{wrote_then, wrote_broke}
use Rattle.blif_text.specs.declared.logical.Logical.{Logical}
use Rattle.lifted_designs.specs.Lines.{row}
use Rattle.blif_write.proofs.netlist.write_output.Goals as goal

pub returns-in_err-write_line-clause-err : goal.returns-in_err-write_line-clause-err
returns-in_err-write_line-clause-err g c =
    let f = λ (n : ℕ) (more : List Logical). c.in_err-write_line.ensures.err n (row n (codes "1") (codes "1") ∷ more) in
    on_err _ f

pub returns-clause-ok : goal.returns-clause-ok
returns-clause-ok g c =
    on_ok_weaker c.write_row.result (λ wrote n more. wrote_then (c.in_ok-write_line.ensures.ok n (row n (codes "1") (codes "1") ∷ more)) (wrote n more))
    c.write_row.ensures.ok

pub returns-clause-err : goal.returns-clause-err
returns-clause-err g c =
    on_err_weaker c.write_row.result (λ broke n more. wrote_broke (c.in_ok-write_line.ensures.ok n (row n (codes "1") (codes "1") ∷ more)) (broke n more))
    c.write_row.ensures.err
