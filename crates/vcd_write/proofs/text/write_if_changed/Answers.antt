use Rattle.std.proofs.Common.{sym, ◌∙◌, ℕ, List}
use Rattle.std.proofs.lemmas.Result.{on_ok_weaker, on_err_weaker}
use Rattle.ww_base.specs.Pages.{held}
use Rattle.ww_base.proofs.Steps.{wrote_none, wrote_as, broke_as}
use Rattle.vcd_write.specs.Vcd.{waves_in}
use Rattle.vcd_write.proofs.Texts.{value_written, value_unwritten}
use Rattle.vcd_write.proofs.text.write_if_changed.Goals as goal

pub returns-then-not-is_written-clause-ok : goal.returns-then-not-is_written-clause-ok
returns-then-not-is_written-clause-ok g c = λ (rest : List ℕ).
    wrote_as (value_unwritten (held c.args.page.now) rest (waves_in c.args.vcd.now) c.args.cycle c.args.n (sym c.is_written.ensures ∙ c.if-not-is_written.true)) (wrote_none _ _ _)

pub returns-clause-ok : goal.returns-clause-ok
returns-clause-ok g c =
    on_ok_weaker c.write_value.result (λ wrote (rest : List ℕ).
    wrote_as (value_written (held c.args.page.now) rest (waves_in c.args.vcd.now) c.args.cycle c.args.n c.bit.result (sym c.is_written.ensures ∙ c.if-not-is_written.false) c.bit.ensures) (wrote rest))
    c.write_value.ensures.ok

pub returns-clause-err : goal.returns-clause-err
returns-clause-err g c =
    on_err_weaker c.write_value.result (λ broke (rest : List ℕ).
    broke_as (value_written (held c.args.page.now) rest (waves_in c.args.vcd.now) c.args.cycle c.args.n c.bit.result (sym c.is_written.ensures ∙ c.if-not-is_written.false) c.bit.ensures) (broke rest))
    c.write_value.ensures.err
