use Rattle.std.proofs.Common.{◌≡◌, sym, ◌∙◌, subst, ◌<◌, length, set}
use Rattle.std.specs.Prelude.{All}
use Rattle.std.proofs.lemmas.List.{length-set}
use Rattle.lane_core.specs.Instrs.{IsOnLanes}
use Rattle.lane_core.specs.Places.{IsPlaceWithin}
use Rattle.row_placer.specs.Told.{free_tag}
use Rattle.row_placer.proofs.Steps.{free_told}
use Rattle.row_placer.proofs.lanes.Lanes.free.Goals as goal

pub invariant_of-self : goal.invariant_of-self
invariant_of-self c =
    let s = c.args.self.now in
    let n : length (set s.tags.items c.args.lane free_tag) ≡ length s.tags.items = length-set s.tags.items c.args.lane free_tag in
    record {
      few = subst (λ k. k < 4294967296) (sym n) s.few;
      long = s.long ∙ sym n;
      clocked = s.clocked ∙ sym n;
      on_lanes = subst (λ k. All (IsOnLanes k) s.instrs.items) (sym n) s.on_lanes;
      told = free_told s.job s.tags.items s.instrs.items c.args.lane c.requires s.told;
      places = subst (λ k. All (IsPlaceWithin k (length s.instrs.items)) s.made.items) (sym n) s.places;
      made_told = s.made_told;
      made_at = s.made_at;
    }
