use Rattle.std.proofs.Common.{◌+◌, ℕ, List, drop, arith}
use Rattle.lists.proofs.Results.{on_err}
use Rattle.ww_base.specs.Pages.{held}
use Rattle.ww_base.proofs.Steps.{wrote_then, wrote_broke, wrote_to}
use Rattle.blif_text.specs.declared.logical.Logical.{Logical}
use Rattle.lifted_designs.specs.Lines.{latch_lines}
use Rattle.blif_write.specs.Words.{mark_in}
use Rattle.blif_write.proofs.Pieces as pieces
use Rattle.blif_write.proofs.netlist.write_latches.Goals as goal

pub returns-in_err-write_latch-clause-err : goal.returns-in_err-write_latch-clause-err
returns-in_err-write_latch-clause-err g c =
    let i : ℕ = c.loop-number.number in
    let f = λ (n : ℕ) (more : List Logical).
    wrote_broke (wrote_to (pieces.latches_next (mark_in c.args.lift.now) c.args.lift.now.ins (held c.loop-number.page) n i c.args.lift.now.list.latches c.args.lift.now.list.starts c.get-source.result.now c.get-start.result.now more c.get-source.ensures c.get-start.ensures) (c.loop-number.invariant n more)) (c.in_err-write_latch.ensures.err n (latch_lines (mark_in c.args.lift.now) c.args.lift.now.ins n (i + 1) (drop (i + 1) c.args.lift.now.list.latches) (drop (i + 1) c.args.lift.now.list.starts) more)) in
    on_err _ f

pub loop-number-preserved : goal.loop-number-preserved
loop-number-preserved g c = λ n more.
    let i : ℕ = c.loop-number.number in
    wrote_then (wrote_to (pieces.latches_next (mark_in c.args.lift.now) c.args.lift.now.ins (held c.loop-number.page) n i c.args.lift.now.list.latches c.args.lift.now.list.starts c.get-source.result.now c.get-start.result.now more c.get-source.ensures c.get-start.ensures) (c.loop-number.invariant n more)) (c.in_ok-write_latch.ensures.ok n (latch_lines (mark_in c.args.lift.now) c.args.lift.now.ins n (i + 1) (drop (i + 1) c.args.lift.now.list.latches) (drop (i + 1) c.args.lift.now.list.starts) more))

pub returns-clause-ok : goal.returns-clause-ok
returns-clause-ok g c = λ n more.
    wrote_to (pieces.latches_none (mark_in c.args.lift.now) c.args.lift.now.ins (held c.loop-number.page) n c.loop-number.number c.args.lift.now.list.latches c.args.lift.now.list.starts more (omega (arith, c.loop-number-test.false, c.len-number-end.ensures))) (c.loop-number.invariant n more)
