use Rattle.std.proofs.Common.{◌+◌, ◌-◌, ℕ, List, ◌++◌, length, arith}
use Rattle.ww_base.specs.Pages.{held}
use Rattle.lists.proofs.Results.{on_err}
use Rattle.ww_base.proofs.Steps.{wrote_then, wrote_broke, wrote_to}
use Rattle.vcd_write.specs.Vcd.{waves_in, values_text}
use Rattle.vcd_write.proofs.text.write_values.Goals as goal
use Rattle.vcd_write.proofs.Texts.{values_next, values_none}

pub write_if_changed-requires : goal.write_if_changed-requires
write_if_changed-requires g c = record { cycle = c.requires; variable = omega (arith, c.loop-n-test.true, c.len-n-end.ensures) }

pub returns-in_err-write_if_changed-clause-err : goal.returns-in_err-write_if_changed-clause-err
returns-in_err-write_if_changed-clause-err g c =
    let n : ℕ = c.loop-n.n in
    let f = λ (rest : List ℕ).
    let later : List ℕ = values_text (waves_in c.args.vcd.now) c.args.cycle (n + 1) (length c.args.vcd.now.references - (n + 1)) ++ rest in
    let next = values_next (waves_in c.args.vcd.now) c.args.cycle (held c.loop-n.page) rest n (length c.args.vcd.now.references) (omega (arith, c.loop-n-test.true, c.len-n-end.ensures)) in
    wrote_broke (wrote_to next (c.loop-n.invariant rest)) (c.in_err-write_if_changed.ensures.err later) in
    on_err _ f

pub loop-n-preserved : goal.loop-n-preserved
loop-n-preserved g c = λ rest.
    let n : ℕ = c.loop-n.n in
    let later : List ℕ = values_text (waves_in c.args.vcd.now) c.args.cycle (n + 1) (length c.args.vcd.now.references - (n + 1)) ++ rest in
    let next = values_next (waves_in c.args.vcd.now) c.args.cycle (held c.loop-n.page) rest n (length c.args.vcd.now.references) (omega (arith, c.loop-n-test.true, c.len-n-end.ensures)) in
    wrote_then (wrote_to next (c.loop-n.invariant rest)) (c.in_ok-write_if_changed.ensures.ok later)

pub returns-clause-ok : goal.returns-clause-ok
returns-clause-ok g c = λ rest.
    wrote_to (values_none (waves_in c.args.vcd.now) c.args.cycle (held c.loop-n.page) rest c.loop-n.n (length c.args.vcd.now.references) (omega (arith, c.loop-n-test.false, c.len-n-end.ensures))) (c.loop-n.invariant rest)
