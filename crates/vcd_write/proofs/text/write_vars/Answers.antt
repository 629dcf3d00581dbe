use Rattle.std.proofs.Common.{◌≡◌, ◌+◌, ◌-◌, ℕ, List, ◌∷◌, ◌++◌, length, sym, ap, ◌∙◌, arith}
use Rattle.ww_base.specs.Pages.{held}
use Rattle.lists.proofs.Results.{on_err}
use Rattle.ww_base.proofs.Steps.{wrote_none, wrote_then, wrote_broke, wrote_to}
use Rattle.vcd_write.specs.Vcd.{waves_in, vars_text}
use Rattle.vcd_write.proofs.text.write_vars.Goals as goal
use Rattle.vcd_write.proofs.Texts.{vars_next, vars_none}
use Rattle.vcd_write.specs.Reading.{var_line}
use Rattle.vcd_write.specs.Writing.{vcd_id}

pub reference-requires : goal.reference-requires
reference-requires g c = omega (arith, c.loop-n-test.true, c.len-n-end.ensures)

pub returns-in_err-write_var-clause-err : goal.returns-in_err-write_var-clause-err
returns-in_err-write_var-clause-err g c =
    let n : ℕ = c.loop-n.n in
    let f = λ (rest : List ℕ).
    let later : List ℕ = vars_text (waves_in c.args.vcd.now) (n + 1) (length c.args.vcd.now.references - (n + 1)) ++ rest in
    let next = vars_next (waves_in c.args.vcd.now) (held c.loop-n.page) rest n (length c.args.vcd.now.references) (omega (arith, c.loop-n-test.true, c.len-n-end.ensures)) in
    let here = ap (λ reference. held c.loop-n.page ++ (var_line (record { id = vcd_id n; reference = reference }) ++ (10 ∷ later))) (sym c.reference.ensures) in
    wrote_broke (wrote_to (next ∙ here) (c.loop-n.invariant rest)) (c.in_err-write_var.ensures.err later) in
    on_err _ f

pub loop-n-init : goal.loop-n-init
loop-n-init g c = λ (rest : List ℕ).
    let all : length c.args.vcd.now.references ≡ length c.args.vcd.now.references - 0 = omega arith in
    wrote_to (ap (λ (many : ℕ). held c.args.page.now ++ (vars_text (waves_in c.args.vcd.now) 0 many ++ rest)) all) (wrote_none _ _ _)

pub loop-n-preserved : goal.loop-n-preserved
loop-n-preserved g c = λ rest.
    let n : ℕ = c.loop-n.n in
    let later : List ℕ = vars_text (waves_in c.args.vcd.now) (n + 1) (length c.args.vcd.now.references - (n + 1)) ++ rest in
    let next = vars_next (waves_in c.args.vcd.now) (held c.loop-n.page) rest n (length c.args.vcd.now.references) (omega (arith, c.loop-n-test.true, c.len-n-end.ensures)) in
    let here = ap (λ reference. held c.loop-n.page ++ (var_line (record { id = vcd_id n; reference = reference }) ++ (10 ∷ later))) (sym c.reference.ensures) in
    wrote_then (wrote_to (next ∙ here) (c.loop-n.invariant rest)) (c.in_ok-write_var.ensures.ok later)

pub returns-clause-ok : goal.returns-clause-ok
returns-clause-ok g c = λ rest.
    wrote_to (vars_none (waves_in c.args.vcd.now) (held c.loop-n.page) rest c.loop-n.n (length c.args.vcd.now.references) (omega (arith, c.loop-n-test.false, c.len-n-end.ensures))) (c.loop-n.invariant rest)
