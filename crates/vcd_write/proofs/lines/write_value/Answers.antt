use Rattle.std.proofs.Common.{ℕ, List, ◌∷◌, ◌++◌}
use Rattle.std.proofs.lemmas.Result.{on_ok_weaker, on_err_weaker}
use Rattle.ww_base.specs.Pages.{held}
use Rattle.lists.proofs.Results.{on_err}
use Rattle.ww_base.proofs.Steps.{wrote_then, wrote_broke, wrote_as, broke_as}
use Rattle.vcd_write.specs.Writing.{vcd_id}
use Rattle.vcd_write.proofs.Texts.{value_begins}
use Rattle.vcd_write.proofs.lines.write_value.Goals as goal

pub returns-in_err-put-clause-err : goal.returns-in_err-put-clause-err
returns-in_err-put-clause-err g c =
    let f = λ (rest : List ℕ). broke_as (value_begins (held c.args.page.now) (vcd_id c.args.n) (10 ∷ rest) c.bit_digit.result _ c.bit_digit.ensures) (c.in_err-put.ensures.err (vcd_id c.args.n ++ (10 ∷ rest))) in
    on_err _ f

pub returns-in_err-write_id-clause-err : goal.returns-in_err-write_id-clause-err
returns-in_err-write_id-clause-err g c =
    let f = λ (rest : List ℕ). broke_as (value_begins (held c.args.page.now) (vcd_id c.args.n) (10 ∷ rest) c.bit_digit.result _ c.bit_digit.ensures)
    (wrote_broke (c.in_ok-put.ensures.ok (vcd_id c.args.n ++ (10 ∷ rest))) (c.in_err-write_id.ensures.err (10 ∷ rest))) in
    on_err _ f

pub returns-clause-ok : goal.returns-clause-ok
returns-clause-ok g c =
    on_ok_weaker c.put-2.result (λ wrote rest.
    wrote_as (value_begins (held c.args.page.now) (vcd_id c.args.n) (10 ∷ rest) c.bit_digit.result _ c.bit_digit.ensures)
    (wrote_then (wrote_then (c.in_ok-put.ensures.ok (vcd_id c.args.n ++ (10 ∷ rest))) (c.in_ok-write_id.ensures.ok (10 ∷ rest))) (wrote rest)))
    c.put-2.ensures.ok

pub returns-clause-err : goal.returns-clause-err
returns-clause-err g c =
    on_err_weaker c.put-2.result (λ broke rest.
    broke_as (value_begins (held c.args.page.now) (vcd_id c.args.n) (10 ∷ rest) c.bit_digit.result _ c.bit_digit.ensures)
    (wrote_broke (wrote_then (c.in_ok-put.ensures.ok (vcd_id c.args.n ++ (10 ∷ rest))) (c.in_ok-write_id.ensures.ok (10 ∷ rest))) (broke rest)))
    c.put-2.ensures.err
