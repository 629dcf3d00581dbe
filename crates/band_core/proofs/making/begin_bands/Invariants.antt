use Rattle.std.proofs.Common.{ℕ, ◌≡◌, ◌<◌, ◌≤◌, ◌/◌, ◌*◌, ◌-◌, ◌==◌, min, [], length, get_or, filter}
use Rattle.std.proofs.Math.ListN.{replicate}
use Rattle.ww_rule.specs.Wireworld.{driven}
use Rattle.ww_rule.specs.Grid.{plane_of}
use Rattle.ww_rule.specs.Injections.{due_of_list}
use Rattle.band_core.specs.declared.band.Band.{Band}
use Rattle.band_core.specs.Band.{IsBand, ShowsBand, generations_of}
use Rattle.band_core.proofs.making.begin_bands.Given as goal

abbrev pub invariant-loop-b : goal.invariant-loop-b
invariant-loop-b l =
    record {
      parts : length l.shares.items ≡ l.count;
      left : (k : ℕ) → l.b ≤ k → k < l.count → get_or l.shares.items k [] ≡ filter (λ i. i.y / l.height == k) l.injections;
      many : length l.bands.items ≡ l.b;
      each : (k : ℕ) (d : Band) → k < length l.bands.items → IsBand l.columns (k * l.height) (min l.height (length l.rows - k * l.height)) (get_or l.bands.items k d);
      begun : generations_of l.bands.items ≡ replicate l.b 0;
      shows : (k : ℕ) (d : Band) → k < length l.bands.items → ShowsBand (driven (due_of_list l.injections) (plane_of l.rows)) (due_of_list l.injections) (k * l.height) (min l.height (length l.rows - k * l.height)) (get_or l.bands.items k d);
    }
