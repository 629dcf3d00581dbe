use Rattle.std.proofs.Common.{◌≡◌, sym, ◌∙◌, ap, subst, ◌<◌, length, get_or, set}
use Rattle.std.specs.Prelude.{All}
use Rattle.std.proofs.lemmas.List.{length-set, get_or_default}
use Rattle.lane_core.specs.Instrs.{IsOnLanes}
use Rattle.lane_core.specs.Places.{IsPlaceWithin}
use Rattle.row_placer.specs.declared.roles.Tag.{Tag}
use Rattle.row_placer.specs.Told.{Told, tag, free_tag}
use Rattle.row_placer.proofs.Steps.{mark_told}
use Rattle.row_placer.proofs.lanes.Lanes.mark.Goals as goal

pub invariant_of-self : goal.invariant_of-self
invariant_of-self c =
    let s = c.args.self.now in
    let n : length (set s.tags.items c.args.lane (tag c.index.result.now.value c.args.role)) ≡ length s.tags.items = length-set s.tags.items c.args.lane (tag c.index.result.now.value c.args.role) in
    let value : c.index.result.now.value ≡ (get_or s.tags.items c.args.lane free_tag).value = ap (λ (t : Tag). t.value) (c.index.ensures ∙ get_or_default s.tags.items c.args.lane c.index.result.now free_tag c.requires.within) in
    record {
      few = subst (λ k. k < 4294967296) (sym n) s.few;
      long = s.long ∙ sym n;
      clocked = s.clocked ∙ sym n;
      on_lanes = subst (λ k. All (IsOnLanes k) s.instrs.items) (sym n) s.on_lanes;
      told = subst (λ v. Told s.job (set s.tags.items c.args.lane (tag v c.args.role)) s.instrs.items) (sym value) (mark_told s.job s.tags.items s.instrs.items c.args.lane c.args.role c.requires.within c.requires.some s.told);
      places = subst (λ k. All (IsPlaceWithin k (length s.instrs.items)) s.made.items) (sym n) s.places;
      made_told = s.made_told;
      made_at = s.made_at;
    }
