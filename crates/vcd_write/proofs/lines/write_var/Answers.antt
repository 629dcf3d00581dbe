use Rattle.std.proofs.Common.{ℕ, List, ◌∷◌, ◌++◌, codes}
use Rattle.std.proofs.lemmas.Result.{on_ok_weaker, on_err_weaker}
use Rattle.ww_base.specs.Pages.{held}
use Rattle.lists.proofs.Results.{on_err}
use Rattle.ww_base.proofs.Steps.{wrote_then, wrote_broke, wrote_as, broke_as}
use Rattle.vcd_write.specs.Writing.{vcd_id}
use Rattle.vcd_write.proofs.Texts.{var_joined}
use Rattle.vcd_write.proofs.lines.write_var.Goals as goal

pub returns-in_err-put-clause-err : goal.returns-in_err-put-clause-err
returns-in_err-put-clause-err g c =
    let f = λ (rest : List ℕ).
    let third : List ℕ = c.args.reference.now ++ (codes " $end\n" ++ rest) in
    let second : List ℕ = codes " " ++ third in
    let first : List ℕ = vcd_id c.args.n ++ second in
    broke_as (var_joined (held c.args.page.now) (codes "$var wire 1 ") (vcd_id c.args.n) (codes " ") c.args.reference.now (codes " $end") (10 ∷ rest))
    (c.in_err-put.ensures.err first) in
    on_err _ f

pub returns-in_err-write_id-clause-err : goal.returns-in_err-write_id-clause-err
returns-in_err-write_id-clause-err g c =
    let f = λ (rest : List ℕ).
    let third : List ℕ = c.args.reference.now ++ (codes " $end\n" ++ rest) in
    let second : List ℕ = codes " " ++ third in
    let first : List ℕ = vcd_id c.args.n ++ second in
    broke_as (var_joined (held c.args.page.now) (codes "$var wire 1 ") (vcd_id c.args.n) (codes " ") c.args.reference.now (codes " $end") (10 ∷ rest))
    (wrote_broke (c.in_ok-put.ensures.ok first) (c.in_err-write_id.ensures.err second)) in
    on_err _ f

pub returns-in_err-put-2-clause-err : goal.returns-in_err-put-2-clause-err
returns-in_err-put-2-clause-err g c =
    let f = λ (rest : List ℕ).
    let third : List ℕ = c.args.reference.now ++ (codes " $end\n" ++ rest) in
    let second : List ℕ = codes " " ++ third in
    let first : List ℕ = vcd_id c.args.n ++ second in
    broke_as (var_joined (held c.args.page.now) (codes "$var wire 1 ") (vcd_id c.args.n) (codes " ") c.args.reference.now (codes " $end") (10 ∷ rest))
    (wrote_broke (wrote_then (c.in_ok-put.ensures.ok first) (c.in_ok-write_id.ensures.ok second)) (c.in_err-put-2.ensures.err third)) in
    on_err _ f

pub returns-in_err-put-3-clause-err : goal.returns-in_err-put-3-clause-err
returns-in_err-put-3-clause-err g c =
    let f = λ (rest : List ℕ).
    let third : List ℕ = c.args.reference.now ++ (codes " $end\n" ++ rest) in
    let second : List ℕ = codes " " ++ third in
    let first : List ℕ = vcd_id c.args.n ++ second in
    broke_as (var_joined (held c.args.page.now) (codes "$var wire 1 ") (vcd_id c.args.n) (codes " ") c.args.reference.now (codes " $end") (10 ∷ rest))
    (wrote_broke (wrote_then (wrote_then (c.in_ok-put.ensures.ok first) (c.in_ok-write_id.ensures.ok second)) (c.in_ok-put-2.ensures.ok third)) (c.in_err-put-3.ensures.err (codes " $end\n" ++ rest))) in
    on_err _ f

pub returns-clause-ok : goal.returns-clause-ok
returns-clause-ok g c =
    on_ok_weaker c.put-4.result (λ wrote rest.
    let third : List ℕ = c.args.reference.now ++ (codes " $end\n" ++ rest) in
    let second : List ℕ = codes " " ++ third in
    let first : List ℕ = vcd_id c.args.n ++ second in
    wrote_as (var_joined (held c.args.page.now) (codes "$var wire 1 ") (vcd_id c.args.n) (codes " ") c.args.reference.now (codes " $end") (10 ∷ rest)) (wrote_then (wrote_then (wrote_then (wrote_then (c.in_ok-put.ensures.ok first) (c.in_ok-write_id.ensures.ok second)) (c.in_ok-put-2.ensures.ok third)) (c.in_ok-put-3.ensures.ok (codes " $end\n" ++ rest))) (wrote rest)))
    c.put-4.ensures.ok

pub returns-clause-err : goal.returns-clause-err
returns-clause-err g c =
    on_err_weaker c.put-4.result (λ broke rest.
    let third : List ℕ = c.args.reference.now ++ (codes " $end\n" ++ rest) in
    let second : List ℕ = codes " " ++ third in
    let first : List ℕ = vcd_id c.args.n ++ second in
    broke_as (var_joined (held c.args.page.now) (codes "$var wire 1 ") (vcd_id c.args.n) (codes " ") c.args.reference.now (codes " $end") (10 ∷ rest)) (wrote_broke (wrote_then (wrote_then (wrote_then (c.in_ok-put.ensures.ok first) (c.in_ok-write_id.ensures.ok second)) (c.in_ok-put-2.ensures.ok third)) (c.in_ok-put-3.ensures.ok (codes " $end\n" ++ rest))) (broke rest)))
    c.put-4.ensures.err
