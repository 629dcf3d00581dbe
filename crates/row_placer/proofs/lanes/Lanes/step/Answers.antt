use Rattle.std.proofs.Common.{◌≡◌, sym, ◌∙◌, subst, ◌+◌, ◌<◌, ◌++◌, ◌∷◌, [], length, set}
use Rattle.std.specs.Prelude.{All}
use Rattle.lane_core.specs.Instrs.{IsOnLanes, lane_of}
use Rattle.lane_core.specs.Places.{IsPlaceWithin}
use Rattle.row_placer.specs.Told.{Told, MadeTold, MadeAt}
use Rattle.row_placer.proofs.Steps.{length-two, step_told, step_made, step_at, step_places, step_on}
use Rattle.row_placer.proofs.lanes.Lanes.step.Goals as goal

pub invariant_of-self : goal.invariant_of-self
invariant_of-self c =
    let s = c.args.self.now in
    let e = c.in_err-push.ensures.items in
    record {
      few = s.few;
      long = s.long;
      clocked = s.clocked;
      on_lanes = subst (All (IsOnLanes (length s.tags.items))) (sym e) s.on_lanes;
      told = subst (Told s.job s.tags.items) (sym e) s.told;
      places = subst (λ is. All (IsPlaceWithin (length s.tags.items) (length is)) s.made.items) (sym e) s.places;
      made_told = subst (λ is. MadeTold s.job is s.made.items) (sym e) s.made_told;
      made_at = subst (λ is. MadeAt s.job is s.made.items) (sym e) s.made_at;
    }

pub invariant_of-self-2 : goal.invariant_of-self-2
invariant_of-self-2 c =
    let s = c.args.self.now in
    let e = c.in_ok-push.ensures.items in
    let i = c.args.instr in
    let at = c.lane-at.result in
    let same : at ≡ lane_of i = c.lane-at.ensures in
    let tags = set (set s.tags.items at c.args.upper) (at + 1) c.args.lower in
    let n : length tags ≡ length s.tags.items = length-two s.tags.items at (at + 1) c.args.upper c.args.lower in
    record {
      few = subst (λ k. k < 4294967296) (sym n) s.few;
      long = s.long ∙ sym n;
      clocked = length-two s.clocks.items at (at + 1) _ _ ∙ s.clocked ∙ sym n;
      on_lanes = subst (λ is. All (IsOnLanes (length tags)) is) (sym e) (subst (λ k. All (IsOnLanes k) (s.instrs.items ++ i ∷ [])) (sym n) (step_on (length s.tags.items) s.instrs.items i s.on_lanes c.requires.within));
      told = subst (Told s.job tags) (sym e) (subst (λ k. Told s.job (set (set s.tags.items k c.args.upper) (k + 1) c.args.lower) (s.instrs.items ++ i ∷ [])) (sym same) (step_told s.job s.tags.items s.instrs.items i c.args.upper c.args.lower c.requires.within s.long c.requires.answers s.told));
      places = subst (λ is. All (IsPlaceWithin (length tags) (length is)) s.made.items) (sym e) (subst (λ k. All (IsPlaceWithin k (length (s.instrs.items ++ i ∷ []))) s.made.items) (sym n) (step_places (length s.tags.items) s.instrs.items i s.made.items s.places));
      made_told = subst (λ is. MadeTold s.job is s.made.items) (sym e) (step_made s.job (length s.tags.items) s.instrs.items i s.made.items s.places s.made_told);
      made_at = subst (λ is. MadeAt s.job is s.made.items) (sym e) (step_at s.job s.instrs.items i s.made.items s.made_at);
    }
