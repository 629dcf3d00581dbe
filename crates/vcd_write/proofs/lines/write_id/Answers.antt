use Rattle.std.proofs.Common.{◌/◌, ℕ, List, ◌++◌}
use Rattle.ww_base.specs.Pages.{held}
use Rattle.lists.proofs.Results.{on_err}
use Rattle.ww_base.proofs.Steps.{wrote_none, wrote_then, wrote_broke, wrote_as, wrote_to, broke_as}
use Rattle.vcd_write.proofs.Texts.{rest_of, id_begins, rest_begins, rest_ends}
use Rattle.vcd_write.proofs.lines.write_id.Goals as goal

pub returns-in_err-put-clause-err : goal.returns-in_err-put-clause-err
returns-in_err-put-clause-err g c =
    let f = λ (rest : List ℕ). broke_as (id_begins (held c.args.page.now) rest c.args.n c.last_digit.result c.last_digit.ensures) (c.in_err-put.ensures.err (rest_of (c.args.n / 94) ++ rest)) in
    on_err _ f

pub digits-init : goal.digits-init
digits-init g c = λ rest. wrote_none _ _ _

pub returns-in_err-put-2-clause-err : goal.returns-in_err-put-2-clause-err
returns-in_err-put-2-clause-err g c =
    let left : ℕ = c.digits.left in
    let f = λ (rest : List ℕ).
    broke_as (id_begins (held c.args.page.now) rest c.args.n c.last_digit.result c.last_digit.ensures)
    (wrote_broke (wrote_then (c.in_ok-put.ensures.ok (rest_of (c.args.n / 94) ++ rest)) (wrote_to (rest_begins (held c.digits.page) rest left c.last_digit-in-digits.result c.digits-test.true c.last_digit-in-digits.ensures) (c.digits.invariant rest)))
    (c.in_err-put-2.ensures.err (rest_of (left / 94) ++ rest))) in
    on_err _ f

pub digits-preserved : goal.digits-preserved
digits-preserved g c = λ rest.
    wrote_then (wrote_to (rest_begins (held c.digits.page) rest c.digits.left c.last_digit-in-digits.result c.digits-test.true c.last_digit-in-digits.ensures) (c.digits.invariant rest))
    (c.in_ok-put-2.ensures.ok (rest_of (c.digits.left / 94) ++ rest))

pub returns-clause-ok : goal.returns-clause-ok
returns-clause-ok g c = λ rest.
    wrote_as (id_begins (held c.args.page.now) rest c.args.n c.last_digit.result c.last_digit.ensures)
    (wrote_then (c.in_ok-put.ensures.ok (rest_of (c.args.n / 94) ++ rest)) (wrote_to (rest_ends (held c.digits.page) rest c.digits.left c.digits-test.false) (c.digits.invariant rest)))
