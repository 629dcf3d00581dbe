use Rattle.std.proofs.Common.{◌≡◌, ◌∙◌, ap, ◌+◌, ◌/◌, arith}
use Rattle.plan_layout.specs.Tape.{drawn_tiling}
use Rattle.rle_write.proofs.plan_rows.next_run.Goals as goal

pub returns-else-x-end-clause-slot : goal.returns-else-x-end-clause-slot
returns-else-x-end-clause-slot c = λ past ne.
    let q : c.args.x / 32 ≡ (c.args.x + c.run_in.result.1) / 32 = omega (arith, ne, c.run_in.ensures.in_block) in
    c.slot_from-slot.ensures ∙ ap (λ k. drawn_tiling c.args.plan.now k (c.args.y / 16)) q
