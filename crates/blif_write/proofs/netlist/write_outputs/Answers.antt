use Rattle.std.proofs.Common.{◌≤◌, ◌+◌, ℕ, [], drop, length, arith}
use Rattle.std.proofs.lemmas.Result.{on_ok_weaker, on_err_weaker}
use Rattle.lists.proofs.Results.{on_err}
use Rattle.ww_base.specs.Pages.{held}
use Rattle.ww_base.proofs.Steps.{wrote_then, wrote_broke, wrote_to}
use Rattle.lifted_designs.specs.Lines.{lines_of_outputs}
use Rattle.blif_write.specs.Words.{mark_in}
use Rattle.blif_write.proofs.Pieces as pieces
use Rattle.blif_write.proofs.netlist.write_outputs.Goals as goal

pub returns-in_err-write_output-clause-err : goal.returns-in_err-write_output-clause-err
returns-in_err-write_output-clause-err g c =
    let i : ℕ = c.loop-number.number in
    let named = pieces.same_at c.args.lift.now.outs i c.get.ensures c.as_slice-name.ensures in
    let f = λ (n : ℕ).
    let later = lines_of_outputs (mark_in c.args.lift.now) c.args.lift.now.ins n (drop (i + 1) c.args.lift.now.outs) (drop (i + 1) c.args.lift.now.list.outs) in
    let next = pieces.outputs_next (mark_in c.args.lift.now) c.args.lift.now.ins (held c.loop-number.page) n i c.args.lift.now.outs c.args.lift.now.list.outs c.as_slice-name.result.now c.get-source.result.now named c.get-source.ensures in
    wrote_broke (wrote_to next (c.loop-number.invariant n)) (c.in_err-write_output.ensures.err n later) in
    on_err _ f

pub loop-number-preserved : goal.loop-number-preserved
loop-number-preserved g c = λ n.
    let i : ℕ = c.loop-number.number in
    let named = pieces.same_at c.args.lift.now.outs i c.get.ensures c.as_slice-name.ensures in
    let later = lines_of_outputs (mark_in c.args.lift.now) c.args.lift.now.ins n (drop (i + 1) c.args.lift.now.outs) (drop (i + 1) c.args.lift.now.list.outs) in
    let next = pieces.outputs_next (mark_in c.args.lift.now) c.args.lift.now.ins (held c.loop-number.page) n i c.args.lift.now.outs c.args.lift.now.list.outs c.as_slice-name.result.now c.get-source.result.now named c.get-source.ensures in
    wrote_then (wrote_to next (c.loop-number.invariant n)) (c.in_ok-write_output.ensures.ok n later)

pub returns-clause-ok : goal.returns-clause-ok
returns-clause-ok g c =
    on_ok_weaker c.write_line.result (λ wrote n.
    let past : length c.args.lift.now.outs ≤ c.loop-number.number = omega (arith, c.loop-number-test.false, c.len-number-end.ensures, c.args.lift.now.outs_named) in
    wrote_then (wrote_to (pieces.outputs_none (mark_in c.args.lift.now) c.args.lift.now.ins (held c.loop-number.page) n c.loop-number.number c.args.lift.now.outs c.args.lift.now.list.outs past) (c.loop-number.invariant n)) (wrote n []))
    c.write_line.ensures.ok

pub returns-clause-err : goal.returns-clause-err
returns-clause-err g c =
    on_err_weaker c.write_line.result (λ broke n.
    let past : length c.args.lift.now.outs ≤ c.loop-number.number = omega (arith, c.loop-number-test.false, c.len-number-end.ensures, c.args.lift.now.outs_named) in
    wrote_broke (wrote_to (pieces.outputs_none (mark_in c.args.lift.now) c.args.lift.now.ins (held c.loop-number.page) n c.loop-number.number c.args.lift.now.outs c.args.lift.now.list.outs past) (c.loop-number.invariant n)) (broke n []))
    c.write_line.ensures.err
