-- A run whose bands have all moved on.
use Rattle.std.proofs.Common.{ℕ, ◌+◌, ◌≤◌, ◌<◌, ◌≡◌, sym, ap, ap₂, subst, ◌∙◌, true, List, length, drop}
use Rattle.std.specs.Option.{option_map}
use Rattle.std.proofs.Math.Path.{fun_ext}
use Rattle.ww_rule.specs.declared.pattern.Injection.{Injection}
use Rattle.ww_rule.specs.Due.{AreLeftAt}
use Rattle.ww_rule.specs.Grid.{Grid, plane_of}
use Rattle.ww_rule.specs.Injections.{due_of_list}
use Rattle.ww_rule.specs.Wireworld.{driven}
use Rattle.band_core.specs.Bands.{BandedPattern, IsSamePattern, IsUnlit, all_moved_on, generation_of}
use Rattle.drive.specs.declared.run.Orientation.{Orientation}
use Rattle.drive.specs.declared.run.Run.{Run}
use Rattle.drive.specs.Misses.{first_of_misses}
use Rattle.drive.specs.Runs.{IsBandRun, evolution, first_miss_in, first_miss_of, injection_laid, laid, planes_of}
use Rattle.drive.proofs.AllMoved.{at_moved, same_moved, whole_too}
use Rattle.drive.proofs.FirstMisses.{all_past, first_stays}
use Rattle.drive.proofs.Still.{stays_still}

-- the same pattern under the same injections has the same planes and misses
pub same_planes : (orientation : Orientation) (old new : BandedPattern) → IsSamePattern old new → laid orientation (evolution new) ≡ laid orientation (evolution old)
same_planes orientation old new same =
    ap₂ (λ (grid : Grid) (injections : List Injection). laid orientation (driven (due_of_list injections) (plane_of grid.rows))) same.grid same.injections

pub same_misses : (old new : BandedPattern) → IsSamePattern old new → (g : ℕ) → first_miss_in new g ≡ first_miss_in old g
same_misses old new same g = ap₂ (λ (grid : Grid) (injections : List Injection). first_of_misses injections (due_of_list injections) (plane_of grid.rows) g) same.grid same.injections

-- a run that has come to a generation
pub record HasCome (old new : Run) (n : ℕ) : Type 0 where
  pub bands : new.bands ≡ all_moved_on n old.bands
  pub generation : new.generation ≡ old.generation + n
  pub orientation : new.orientation ≡ old.orientation
  pub band_rows : new.band_rows ≡ old.band_rows
  pub width : new.width ≡ old.width
  pub rows : new.rows ≡ old.rows
  pub next : new.next_injection ≤ length old.bands.injections
  pub left : AreLeftAt (old.generation + n + 1) old.bands.injections (drop new.next_injection old.bands.injections)
  pub missed : new.missed ≡ first_miss_in old.bands (old.generation + n)
  pub past : new.is_still ≡ true → length old.bands.injections ≤ new.next_injection
  pub unlit : new.is_still ≡ true → IsUnlit new.bands

module _ (old new : Run) (n : ℕ) (run : IsBandRun old) (come : HasCome old new n) where
  same : IsSamePattern old.bands new.bands
  same = same_moved n old.bands new.bands come.bands

  pub its_planes : planes_of new ≡ planes_of old
  its_planes = ap (λ (o : Orientation). laid o (evolution new.bands)) come.orientation ∙ same_planes old.orientation old.bands new.bands same

  pub its_misses : first_miss_of new ≡ first_miss_of old
  its_misses =
      fun_ext (λ g. ap (λ (o : Orientation). option_map (injection_laid o) (first_miss_in new.bands g)) come.orientation ∙ ap (option_map (injection_laid old.orientation)) (same_misses old.bands new.bands same g))

  pub comes_as_run : IsBandRun new
  comes_as_run =
      let is = new.bands.injections in
      let g = new.generation in
      let here = come.generation in
      let at = subst (λ (g : ℕ). (k : ℕ) → k < length new.bands.generations → generation_of new.bands k ≡ g) (sym here) (at_moved old.generation n old.bands run.at new.bands come.bands) in
      let whole = whole_too old.bands new.bands same run.whole in
      let left : AreLeftAt (g + 1) is (drop new.next_injection is) =
      subst (λ (g : ℕ). AreLeftAt (g + 1) is (drop new.next_injection is)) (sym here)
      (subst (λ (is : List Injection). AreLeftAt (old.generation + n + 1) is (drop new.next_injection is)) (sym same.injections) come.left) in
      let past = λ (e : new.is_still ≡ true).
      all_past g new.next_injection is left (subst (λ (is : List Injection). length is ≤ new.next_injection) (sym same.injections) (come.past e)) in
      record {
        whole = whole;
        at = at;
        height = same.height ∙ run.height ∙ sym come.band_rows;
        width = come.width ∙ run.width ∙ sym (ap (λ (grid : Grid). grid.width) same.grid);
        rows = come.rows ∙ run.rows ∙ sym (ap (λ (grid : Grid). length grid.rows) same.grid);
        next = subst (λ (is : List Injection). new.next_injection ≤ length is) (sym same.injections) come.next;
        left = left;
        missed = come.missed ∙ ap (first_miss_in old.bands) (sym here) ∙ sym (same_misses old.bands new.bands same g);
        still = λ e h later. stays_still new.bands g whole at (come.unlit e) (past e) h later;
        no_more = λ e h later. first_stays (due_of_list is) (plane_of new.bands.grid.rows) g h is later (past e);
      }
