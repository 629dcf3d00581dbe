use Rattle.std.proofs.Common.{◌+◌, ◌-◌, ℕ, List, ◌++◌, length, arith}
use Rattle.ww_base.specs.Pages.{held}
use Rattle.lists.proofs.Results.{on_err}
use Rattle.ww_base.proofs.Steps.{wrote_then, wrote_broke, wrote_to}
use Rattle.vcd_write.specs.Vcd.{waves_in, values_text, blocks_text}
use Rattle.vcd_write.proofs.text.write_blocks.Goals as goal
use Rattle.vcd_write.proofs.Texts.{blocks_next, blocks_none}

pub returns-in_err-write_time-clause-err : goal.returns-in_err-write_time-clause-err
returns-in_err-write_time-clause-err g c =
    let f = λ (rest : List ℕ).
    let cycle : ℕ = c.loop-cycle.cycle in
    let later : List ℕ = blocks_text (waves_in c.args.vcd.now) (cycle + 1) (c.args.vcd.now.cycles - (cycle + 1)) ++ rest in
    let values : List ℕ = values_text (waves_in c.args.vcd.now) cycle 0 (length c.args.vcd.now.references) in
    let next = blocks_next (waves_in c.args.vcd.now) (held c.loop-cycle.page) rest cycle c.args.vcd.now.cycles (omega (arith, c.loop-cycle-test.true)) in
    wrote_broke (wrote_to next (c.loop-cycle.invariant rest)) (c.in_err-write_time.ensures.err (values ++ later)) in
    on_err _ f

pub returns-in_err-write_values-clause-err : goal.returns-in_err-write_values-clause-err
returns-in_err-write_values-clause-err g c =
    let f = λ (rest : List ℕ).
    let cycle : ℕ = c.loop-cycle.cycle in
    let later : List ℕ = blocks_text (waves_in c.args.vcd.now) (cycle + 1) (c.args.vcd.now.cycles - (cycle + 1)) ++ rest in
    let values : List ℕ = values_text (waves_in c.args.vcd.now) cycle 0 (length c.args.vcd.now.references) in
    let next = blocks_next (waves_in c.args.vcd.now) (held c.loop-cycle.page) rest cycle c.args.vcd.now.cycles (omega (arith, c.loop-cycle-test.true)) in
    wrote_broke (wrote_then (wrote_to next (c.loop-cycle.invariant rest)) (c.in_ok-write_time.ensures.ok (values ++ later))) (c.in_err-write_values.ensures.err later) in
    on_err _ f

pub loop-cycle-preserved : goal.loop-cycle-preserved
loop-cycle-preserved g c = λ rest.
    let cycle : ℕ = c.loop-cycle.cycle in
    let later : List ℕ = blocks_text (waves_in c.args.vcd.now) (cycle + 1) (c.args.vcd.now.cycles - (cycle + 1)) ++ rest in
    let values : List ℕ = values_text (waves_in c.args.vcd.now) cycle 0 (length c.args.vcd.now.references) in
    let next = blocks_next (waves_in c.args.vcd.now) (held c.loop-cycle.page) rest cycle c.args.vcd.now.cycles (omega (arith, c.loop-cycle-test.true)) in
    wrote_then (wrote_then (wrote_to next (c.loop-cycle.invariant rest)) (c.in_ok-write_time.ensures.ok (values ++ later))) (c.in_ok-write_values.ensures.ok later)

pub returns-clause-ok : goal.returns-clause-ok
returns-clause-ok g c = λ rest.
    wrote_to (blocks_none (waves_in c.args.vcd.now) (held c.loop-cycle.page) rest c.loop-cycle.cycle c.args.vcd.now.cycles (omega (arith, c.loop-cycle-test.false))) (c.loop-cycle.invariant rest)
