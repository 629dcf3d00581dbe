use Rattle.std.proofs.Common.{◌+◌, [], length}
use Rattle.std.proofs.lemmas.Result.{on_ok_weaker, on_err_weaker}
use Rattle.lists.proofs.Results.{on_err}
use Rattle.ww_base.specs.Pages.{held}
use Rattle.ww_base.proofs.Steps.{wrote_then, wrote_broke, wrote_as, wrote_whole, broke_as, front_of, broke_cause, cause_of}
use Rattle.lifted_designs.specs.Lifted.{line_past_cells}
use Rattle.blif_write.proofs.Pieces.{output_lines, gate_lines, loop_lines, text_start}
use Rattle.blif_write.proofs.text.write.Goals as goal

pub returns-in_err-write_head-clause-front : goal.returns-in_err-write_head-clause-front
returns-in_err-write_head-clause-front g c = on_err _ (front_of (broke_as (text_start c.args.lift.now (held c.new-page.result) c.new-page.ensures.held) (c.in_err-write_head.ensures.err (loop_lines c.args.lift.now))))

pub returns-in_err-write_head-clause-cause : goal.returns-in_err-write_head-clause-cause
returns-in_err-write_head-clause-cause g c = broke_cause _ _ c.from_residual.ensures.1 (c.in_err-write_head.ensures.err (loop_lines c.args.lift.now))

pub returns-in_err-write_latches-clause-front : goal.returns-in_err-write_latches-clause-front
returns-in_err-write_latches-clause-front g c = on_err _ (front_of (broke_as (text_start c.args.lift.now (held c.new-page.result) c.new-page.ensures.held) (wrote_broke (c.in_ok-write_head.ensures.ok (loop_lines c.args.lift.now)) (c.in_err-write_latches.ensures.err 5 (gate_lines c.args.lift.now)))))

pub returns-in_err-write_latches-clause-cause : goal.returns-in_err-write_latches-clause-cause
returns-in_err-write_latches-clause-cause g c = broke_cause _ _ c.from_residual-in_err-write_latches.ensures.1 (wrote_broke (c.in_ok-write_head.ensures.ok (loop_lines c.args.lift.now)) (c.in_err-write_latches.ensures.err 5 (gate_lines c.args.lift.now)))

pub returns-in_err-write_gates-clause-front : goal.returns-in_err-write_gates-clause-front
returns-in_err-write_gates-clause-front g c = on_err _ (front_of (broke_as (text_start c.args.lift.now (held c.new-page.result) c.new-page.ensures.held) (wrote_broke (wrote_then (c.in_ok-write_head.ensures.ok (loop_lines c.args.lift.now)) (c.in_ok-write_latches.ensures.ok 5 (gate_lines c.args.lift.now))) (c.in_err-write_gates.ensures.err (5 + length c.args.lift.now.list.latches) (output_lines c.args.lift.now)))))

pub returns-in_err-write_gates-clause-cause : goal.returns-in_err-write_gates-clause-cause
returns-in_err-write_gates-clause-cause g c = broke_cause _ _ c.from_residual-in_err-write_gates.ensures.1 (wrote_broke (wrote_then (c.in_ok-write_head.ensures.ok (loop_lines c.args.lift.now)) (c.in_ok-write_latches.ensures.ok 5 (gate_lines c.args.lift.now))) (c.in_err-write_gates.ensures.err (5 + length c.args.lift.now.list.latches) (output_lines c.args.lift.now)))

pub returns-in_err-write_outputs-clause-front : goal.returns-in_err-write_outputs-clause-front
returns-in_err-write_outputs-clause-front g c = on_err _ (front_of (broke_as (text_start c.args.lift.now (held c.new-page.result) c.new-page.ensures.held) (wrote_broke (wrote_then (wrote_then (c.in_ok-write_head.ensures.ok (loop_lines c.args.lift.now)) (c.in_ok-write_latches.ensures.ok 5 (gate_lines c.args.lift.now))) (c.in_ok-write_gates.ensures.ok (5 + length c.args.lift.now.list.latches) (output_lines c.args.lift.now))) (c.in_err-write_outputs.ensures.err (line_past_cells (5 + length c.args.lift.now.list.latches) c.args.lift.now.list.cells)))))

pub returns-in_err-write_outputs-clause-cause : goal.returns-in_err-write_outputs-clause-cause
returns-in_err-write_outputs-clause-cause g c = broke_cause _ _ c.from_residual-in_err-write_outputs.ensures.1 (wrote_broke (wrote_then (wrote_then (c.in_ok-write_head.ensures.ok (loop_lines c.args.lift.now)) (c.in_ok-write_latches.ensures.ok 5 (gate_lines c.args.lift.now))) (c.in_ok-write_gates.ensures.ok (5 + length c.args.lift.now.list.latches) (output_lines c.args.lift.now))) (c.in_err-write_outputs.ensures.err (line_past_cells (5 + length c.args.lift.now.list.latches) c.args.lift.now.list.cells)))

pub returns-clause-ok : goal.returns-clause-ok
returns-clause-ok g c =
    on_ok_weaker c.flush.result (λ wrote. wrote_whole (wrote_as (text_start c.args.lift.now (held c.new-page.result) c.new-page.ensures.held) (wrote_then (wrote_then (wrote_then (wrote_then (c.in_ok-write_head.ensures.ok (loop_lines c.args.lift.now)) (c.in_ok-write_latches.ensures.ok 5 (gate_lines c.args.lift.now))) (c.in_ok-write_gates.ensures.ok (5 + length c.args.lift.now.list.latches) (output_lines c.args.lift.now))) (c.in_ok-write_outputs.ensures.ok (line_past_cells (5 + length c.args.lift.now.list.latches) c.args.lift.now.list.cells))) (wrote []))))
    c.flush.ensures.ok

pub returns-clause-front : goal.returns-clause-front
returns-clause-front g c =
    on_err_weaker c.flush.result (λ broke. front_of (broke_as (text_start c.args.lift.now (held c.new-page.result) c.new-page.ensures.held) (wrote_broke (wrote_then (wrote_then (wrote_then (c.in_ok-write_head.ensures.ok (loop_lines c.args.lift.now)) (c.in_ok-write_latches.ensures.ok 5 (gate_lines c.args.lift.now))) (c.in_ok-write_gates.ensures.ok (5 + length c.args.lift.now.list.latches) (output_lines c.args.lift.now))) (c.in_ok-write_outputs.ensures.ok (line_past_cells (5 + length c.args.lift.now.list.latches) c.args.lift.now.list.cells))) (broke []))))
    c.flush.ensures.err

pub returns-clause-cause : goal.returns-clause-cause
returns-clause-cause g c =
    cause_of c.flush.result (λ wrote. (wrote_then (wrote_then (wrote_then (wrote_then (c.in_ok-write_head.ensures.ok (loop_lines c.args.lift.now)) (c.in_ok-write_latches.ensures.ok 5 (gate_lines c.args.lift.now))) (c.in_ok-write_gates.ensures.ok (5 + length c.args.lift.now.list.latches) (output_lines c.args.lift.now))) (c.in_ok-write_outputs.ensures.ok (line_past_cells (5 + length c.args.lift.now.list.latches) c.args.lift.now.list.cells))) (wrote [])).kept) (λ broke. (wrote_broke (wrote_then (wrote_then (wrote_then (c.in_ok-write_head.ensures.ok (loop_lines c.args.lift.now)) (c.in_ok-write_latches.ensures.ok 5 (gate_lines c.args.lift.now))) (c.in_ok-write_gates.ensures.ok (5 + length c.args.lift.now.list.latches) (output_lines c.args.lift.now))) (c.in_ok-write_outputs.ensures.ok (line_past_cells (5 + length c.args.lift.now.list.latches) c.args.lift.now.list.cells))) (broke [])).rose) c.flush.ensures.ok c.flush.ensures.err
