use Rattle.std.proofs.Common.{ℕ, List}
use Rattle.std.proofs.lemmas.Result.{on_ok_weaker, on_err_weaker}
use Rattle.lists.proofs.Results.{on_err}
use Rattle.ww_base.specs.Pages.{held}
use Rattle.ww_base.proofs.Steps.{wrote_then, wrote_broke, wrote_as, broke_as}
use Rattle.blif_text.specs.declared.logical.Logical.{Logical}
use Rattle.lifted_designs.specs.Lines.{rows_then}
use Rattle.blif_write.specs.Words.{mark_in}
use Rattle.blif_write.proofs.Pieces as pieces
use Rattle.blif_write.proofs.netlist.write_gate.Goals as goal

pub returns-in_err-write_line-clause-err : goal.returns-in_err-write_line-clause-err
returns-in_err-write_line-clause-err g c =
    let f = λ (n : ℕ) (more : List Logical). broke_as (pieces.gate_line (mark_in c.args.lift.now) c.args.lift.now.ins (held c.args.page.now) n c.args.number c.args.cell more c.sources-a.ensures.first c.sources-a.ensures.second) (c.in_err-write_line.ensures.err n (rows_then n c.args.cell more)) in
    on_err _ f

pub returns-clause-ok : goal.returns-clause-ok
returns-clause-ok g c =
    on_ok_weaker c.write_rows.result (λ wrote n more. wrote_as (pieces.gate_line (mark_in c.args.lift.now) c.args.lift.now.ins (held c.args.page.now) n c.args.number c.args.cell more c.sources-a.ensures.first c.sources-a.ensures.second) (wrote_then (c.in_ok-write_line.ensures.ok n (rows_then n c.args.cell more)) (wrote n more)))
    c.write_rows.ensures.ok

pub returns-clause-err : goal.returns-clause-err
returns-clause-err g c =
    on_err_weaker c.write_rows.result (λ broke n more. broke_as (pieces.gate_line (mark_in c.args.lift.now) c.args.lift.now.ins (held c.args.page.now) n c.args.number c.args.cell more c.sources-a.ensures.first c.sources-a.ensures.second) (wrote_broke (c.in_ok-write_line.ensures.ok n (rows_then n c.args.cell more)) (broke n more)))
    c.write_rows.ensures.err
