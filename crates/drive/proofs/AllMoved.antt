-- Bands that have all moved on by some generations.
use Rattle.std.proofs.Common.{ℕ, ◌+◌, ◌<◌, ◌≡◌, ◌^◌, sym, ap, ap₂, subst, ◌∙◌, inl, inr, length, arith}
use Rattle.std.proofs.lemmas.Bool.{cases_lt}
use Rattle.std.proofs.lemmas.List.{get_or-map, get_or_default, get_or_past, length-map}
use Rattle.ww_rule.specs.Due.{AreInOrderFrom}
use Rattle.ww_rule.specs.Grid.{Grid, IsGrid}
use Rattle.ww_rule.specs.Injections.{AreInside}
use Rattle.band_core.specs.Bands.{AreLevel, BandedPattern, IsBandedPattern, IsSamePattern, all_moved_on, bands_in, generation_of}
use Rattle.drive.specs.Runs.{AreAt}

-- bands at a generation are at one, and have room for more
module _ (g n : ℕ) (bands : BandedPattern) (at : AreAt g bands) where
  pub are_level : AreLevel bands
  are_level k d lt = get_or_default bands.generations k d 0 lt ∙ at k lt ∙ sym (at 0 (omega (arith, lt)))

  pub has_room : g + n < 2 ^ 64 → generation_of bands 0 + n < 2 ^ 64
  has_room room =
      elim (cases_lt 0 (length bands.generations)) [
        | inl lt ↦ let own = at 0 lt in omega (arith, own, room)
        | inr ge ↦ let own = get_or_past bands.generations 0 0 ge in omega (arith, own, room)
      ]

  -- and come to a later one
  pub at_moved : (new : BandedPattern) → new ≡ all_moved_on n bands → AreAt (g + n) new
  at_moved new e k lt =
      let add = λ (h : ℕ). h + n in
      let many = ap (λ (p : BandedPattern). length p.generations) e ∙ length-map bands.generations add in
      let inside : k < length bands.generations = omega (arith, lt, many) in
      ap (λ (p : BandedPattern). generation_of p k) e ∙ get_or-map add bands.generations k 0 0 inside ∙ ap add (at k inside)

pub same_moved : (n : ℕ) (old new : BandedPattern) → new ≡ all_moved_on n old → IsSamePattern old new
same_moved n old new e =
    record {
      grid = ap (λ (p : BandedPattern). p.grid) e;
      injections = ap (λ (p : BandedPattern). p.injections) e;
      height = ap (λ (p : BandedPattern). p.height) e;
      many = ap (λ (p : BandedPattern). length p.generations) e ∙ length-map old.generations (λ (h : ℕ). h + n);
    }

-- what holds of all bands does not depend on how far they have come
pub whole_too : (old now : BandedPattern) → IsSamePattern old now → IsBandedPattern old → IsBandedPattern now
whole_too old now same whole =
    record {
      grid = subst (λ (grid : Grid). IsGrid grid.width grid.height grid.rows) (sym same.grid) whole.grid;
      inside =
          subst (λ (grid : Grid). AreInside grid.width grid.height now.injections) (sym same.grid)
          (subst (AreInside old.grid.width old.grid.height) (sym same.injections) whole.inside);
      in_order = subst (AreInOrderFrom 0) (sym same.injections) whole.in_order;
      height = subst (λ (height : ℕ). 0 < height) (sym same.height) whole.height;
      many = same.many ∙ whole.many ∙ sym (ap₂ bands_in (ap (λ (grid : Grid). length grid.rows) same.grid) same.height);
    }
