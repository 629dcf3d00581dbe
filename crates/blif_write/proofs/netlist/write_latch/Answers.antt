use Rattle.std.proofs.Common.{[], ◌∷◌, ◌++◌, ap, sym}
use Rattle.std.specs.Prelude.{codes}
use Rattle.std.proofs.lemmas.Result.{on_ok_weaker, on_err_weaker}
use Rattle.ww_base.specs.Pages.{held}
use Rattle.ww_base.proofs.Steps.{wrote_as, broke_as}
use Rattle.lifted_designs.specs.Lines.{worded_line}
use Rattle.blif_write.specs.Text.{worded_text}
use Rattle.blif_write.specs.Words.{mark_in}
use Rattle.blif_write.proofs.netlist.write_latch.Goals as goal
use Rattle.lifted_designs.specs.Names.{loop_name, source_name}

pub returns-clause-ok : goal.returns-clause-ok
returns-clause-ok g c =
    on_ok_weaker c.write_line.result (λ wrote n more.
    wrote_as (ap (λ w. held c.args.page.now ++ worded_text (worded_line n (codes ".latch" ∷ source_name (mark_in c.args.lift.now) c.args.lift.now.ins c.args.source ∷ loop_name (mark_in c.args.lift.now) c.args.number ∷ w ∷ []) ∷ more)) (sym c.start_word.ensures)) (wrote n more))
    c.write_line.ensures.ok

pub returns-clause-err : goal.returns-clause-err
returns-clause-err g c =
    on_err_weaker c.write_line.result (λ broke n more.
    broke_as (ap (λ w. held c.args.page.now ++ worded_text (worded_line n (codes ".latch" ∷ source_name (mark_in c.args.lift.now) c.args.lift.now.ins c.args.source ∷ loop_name (mark_in c.args.lift.now) c.args.number ∷ w ∷ []) ∷ more)) (sym c.start_word.ensures)) (broke n more))
    c.write_line.ensures.err
