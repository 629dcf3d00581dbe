use Rattle.std.proofs.Common.{◌≡◌, sym, subst, ◌+◌, ◌-◌, ◌++◌, ◌∷◌, [], length, arith}
use Rattle.std.specs.Prelude.{All, Some, is_ok, get_or, slice_get}
use Rattle.lane_core.specs.Places.{IsPlaceWithin}
use Rattle.row_placer.specs.Told.{MadeTold, MadeAt, gate_instr}
use Rattle.row_placer.proofs.Steps.{either, note_told, note_at, note_places}
use Rattle.row_placer.proofs.lanes.Lanes.note.Goals as goal

pub invariant_of-self : goal.invariant_of-self
invariant_of-self c =
    let s = c.args.self.now in
    let all : c.len.result ≡ length s.instrs.items = omega (arith, c.len.ensures, s.instrs.ok) in
    let n = c.len.result - 1 in
    let last : n + 1 ≡ length s.instrs.items = omega (arith, c.requires.some, all) in
    let more = s.made.items ++ record { lane = c.args.lane; after = Some n } ∷ [] in
    record {
      few = s.few;
      long = s.long;
      clocked = s.clocked;
      on_lanes = s.on_lanes;
      told = s.told;
      places = subst (All (IsPlaceWithin (length s.tags.items) (length s.instrs.items))) (sym c.push.ensures.items)
          (either (is_ok c.push.result) (All (IsPlaceWithin (length s.tags.items) (length s.instrs.items))) more s.made.items (note_places (length s.tags.items) (length s.instrs.items) s.made.items c.args.lane n c.requires.lane last s.places) s.places);
      made_at = subst (MadeAt s.job s.instrs.items) (sym c.push.ensures.items)
          (either (is_ok c.push.result) (MadeAt s.job s.instrs.items) more s.made.items
          (note_at s.job s.instrs.items s.made.items c.args.lane n
          (λ gate. subst (λ k. slice_get s.instrs.items (k - 1) ≡ Some (gate_instr (get_or s.job.gates (length s.made.items) gate).kind c.args.lane)) (sym all) (c.requires.last gate)) s.made_at) s.made_at);
      made_told = subst (MadeTold s.job s.instrs.items) (sym c.push.ensures.items)
          (either (is_ok c.push.result) (MadeTold s.job s.instrs.items) more s.made.items (note_told s.job s.tags.items s.instrs.items s.made.items c.args.lane n last c.requires.here s.told s.made_told) s.made_told);
    }
