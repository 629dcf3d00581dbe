use Rattle.std.proofs.Common.{◌≡◌, ◌∙◌, ◌-◌, ℕ, sym, ap, map, [], arith}
use Rattle.std.proofs.lemmas.Option.{get_or_from_slice_get, slice_get-map}
use Rattle.std.specs.Prelude.{option_map}
use Rattle.lane_core.specs.declared.instr.Column.{Column}
use Rattle.lane_core.specs.Instrs.{instr_on}
use Rattle.plan_layout.specs.Layout.{body_slot, instrs_of, tiling_of}
use Rattle.plan_layout.proofs.Parts.{body_at}
use Rattle.rle_write.proofs.KnownLanes.{known_within}
use Rattle.rle_write.proofs.blocks.bare_block.Goals as goal

pub returns-then-lane-plan : goal.returns-then-lane-plan
returns-then-lane-plan c =
    let plan = c.args.plan.now in
    let k : ℕ = c.args.column - plan.latches in
    let column = c.get-instrs.result.now in
    let there : instrs_of plan k ≡ column.instrs =
    get_or_from_slice_get (map (λ (c : Column). c.instrs) plan.columns) k column.instrs []
    (slice_get-map (λ (c : Column). c.instrs) plan.columns k ∙ ap (option_map (λ (c : Column). c.instrs)) c.get-instrs.ensures) in
    known_within (λ l. body_slot l (instr_on column.instrs l)) (tiling_of plan c.args.column) c.args.lane plan.lanes _ _ _
    (λ l from to.
    ap (λ instrs. body_slot l (instr_on instrs l)) (sym there)
    ∙ sym (body_at plan c.args.column l (omega (arith, c.if-loops-column.true)) (omega (arith, c.if-column-end.true, c.len.ensures)) to))
    c.known_within.ensures (omega (arith, c.if-lane-plan.true)) c.body_block-slot.ensures
