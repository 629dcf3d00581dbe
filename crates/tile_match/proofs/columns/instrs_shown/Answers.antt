use Rattle.std.proofs.Common.{◌≡◌, sym, ◌∙◌, ap, ℕ, ◌+◌, ◌-◌, ◌++◌, cond, None, arith, append_assoc}
use Rattle.std.specs.Prelude.{option_to_list, is_some}
use Rattle.tile_match.specs.Blocks.{instrs_from, instr_in}
use Rattle.tile_match.proofs.Within.{one_lane}
use Rattle.tile_match.proofs.columns.instrs_shown.Goals as goal
use Rattle.tile_match.proofs.columns.instrs_shown.Goals.{then-taken, else-taken}

pub loop-lane-preserved : goal.loop-lane-preserved
loop-lane-preserved c =
    let shown = instr_in c.args.rows.now c.args.x in
    let lane : ℕ = c.loop-lane.lane in
    let next : ℕ = c.args.lanes - 1 - (c.loop-lane.lane + 1) in
    let items = c.loop-lane.instrs.items in
    let here : c.if-taken.shown ≡ cond c.loop-lane.taken None (instr_in c.args.rows.now c.args.x c.loop-lane.lane) =
    elim c.if-taken.branch [
      | then-taken w ↦ w.shown-is ∙ ap (λ b. cond b None (instr_in c.args.rows.now c.args.x c.loop-lane.lane)) (sym w.if-taken.true)
      | else-taken w ↦ w.shown-is ∙ w.instr_in-shown.ensures ∙ ap (λ b. cond b None (instr_in c.args.rows.now c.args.x c.loop-lane.lane)) (sym w.if-taken.false)
    ] in
    let left : c.args.lanes - 1 - c.loop-lane.lane ≡ c.args.lanes - 1 - (c.loop-lane.lane + 1) + 1 = omega (arith, c.saturating_sub-lane-end.ensures, c.loop-lane-test.true) in
    ap (λ l. l ++ instrs_from (instr_in c.args.rows.now c.args.x) (c.args.lanes - 1 - (c.loop-lane.lane + 1)) (c.loop-lane.lane + 1) c.is_some-taken.result) c.in_ok-push_shown.ensures
    ∙ append_assoc c.loop-lane.instrs.items (option_to_list c.if-taken.shown) (instrs_from (instr_in c.args.rows.now c.args.x) (c.args.lanes - 1 - (c.loop-lane.lane + 1)) (c.loop-lane.lane + 1) c.is_some-taken.result)
    ∙ ap (λ b. c.loop-lane.instrs.items ++ (option_to_list c.if-taken.shown ++ instrs_from (instr_in c.args.rows.now c.args.x) (c.args.lanes - 1 - (c.loop-lane.lane + 1)) (c.loop-lane.lane + 1) b)) c.is_some-taken.ensures
    ∙ ap (λ o. c.loop-lane.instrs.items ++ (option_to_list o ++ instrs_from (instr_in c.args.rows.now c.args.x) (c.args.lanes - 1 - (c.loop-lane.lane + 1)) (c.loop-lane.lane + 1) (is_some o))) here
    ∙ ap (λ l. c.loop-lane.instrs.items ++ l) (sym (one_lane (instr_in c.args.rows.now c.args.x) (c.args.lanes - 1 - c.loop-lane.lane) (c.args.lanes - 1 - (c.loop-lane.lane + 1)) c.loop-lane.lane c.loop-lane.taken left))
    ∙ c.loop-lane.invariant
