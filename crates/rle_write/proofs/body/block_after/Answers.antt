use Rattle.std.proofs.Common.{sym, subst, Some, None, ℕ, List, arith}
use Rattle.tile_core.specs.declared.kind.Kind.{Kind}
use Rattle.lane_core.specs.declared.instr.Instr.{Instr}
use Rattle.lane_core.specs.Instrs.{lane_of, instr_on}
use Rattle.plan_layout.specs.Layout.{body_slot, kind_of}
use Rattle.rle_write.specs.Known.{StandsKnown}
use Rattle.rle_write.proofs.KnownLanes.{known_free, known_near}
use Rattle.rle_write.proofs.body.block_after.Goals as goal

pub returns-in-None : goal.returns-in-None
returns-in-None c =
    let is = c.as_slice-instrs.ensures in
    subst (λ (list : List Instr). StandsKnown (λ l. body_slot l (instr_on list l)) c.args.lane c.slot_by.result (record { above = c.args.above; until = 4294967295; next = None })) is
    (known_free c.as_slice-instrs.result.now c.args.above c.args.lane c.args.above 4294967295 c.slot_by.result (rw is c.args.column.now.sorted_apart)
    (c.are_above.ensures c.if-not-are_above.false) (omega (arith, c.in-None.ensures.lookup)) c.slot_by.ensures)

pub returns-in-Some-2 : goal.returns-in-Some-2
returns-in-Some-2 c =
    let is = c.as_slice-instrs.ensures in
    let instr = c.in-Some.instr.now in
    let found = c.in-Some.ensures.lookup in
    let known = known_near c.as_slice-instrs.result.now c.args.above c.args.lane c.args.above instr c.slot_near.result (rw is c.args.column.now.sorted_apart)
    (c.are_above.ensures c.if-not-are_above.false) found.3.0 found.3.1 (c.is_above.ensures.others c.if-is_above.false) c.slot_near.ensures in
    let stands = λ (list : List Instr) (until : ℕ) (kind : Kind).
    StandsKnown (λ l. body_slot l (instr_on list l)) c.args.lane c.slot_near.result (record { above = c.args.above; until = until; next = Some kind }) in
    subst (λ kind. stands c.args.column.now.instrs c.lane.result kind) (sym c.kind_of.ensures)
    (subst (λ until. stands c.args.column.now.instrs until (kind_of instr)) (sym c.lane.ensures)
    (subst (λ list. stands list (lane_of instr) (kind_of instr)) is known))
