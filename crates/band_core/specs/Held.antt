-- What `Bands` hold, and what their callers see of it.
use Rattle.ww_rule.specs.Due.{AreInOrderFrom}
use Rattle.std.specs.Prelude.{◌*◌, ◌≤◌, ◌<◌, ◌^◌, All, length}
use Rattle.ww_rule.specs.Wireworld.{driven}
use Rattle.ww_rule.specs.Grid.{plane_of}
use Rattle.ww_rule.specs.Patterns.{grid_of}
use Rattle.ww_rule.specs.Injections.{due_of_list, AreInside}
use Rattle.band_core.specs.declared.bands.Bands.TheInside.{Inside}
use Rattle.band_core.specs.Bands.{BandedPattern}
use Rattle.band_core.specs.Band.{AreBands, AllShow, generations_of}

abbrev pub held_pattern : Inside → BandedPattern
held_pattern held =
    record {
      grid = grid_of held.pattern;
      injections = held.injections.items;
      height = held.height;
      generations = generations_of held.bands.items;
    }

pub record IsHeld (held : Inside) : Type 0 where
  pub inside : AreInside held.pattern.width held.pattern.height held.injections.items
  pub in_order : AreInOrderFrom 0 held.injections.items
  pub height : 0 < held.height
  pub few : held.columns ≤ 2 ^ 58
  pub wide : All (λ row. length row ≤ 64 * held.columns) held.pattern.rows
  pub bands : AreBands held.columns held.height (length held.pattern.rows) held.bands.items
  pub shows : AllShow (driven (due_of_list held.injections.items) (plane_of held.pattern.rows))
      (due_of_list held.injections.items) held.height (length held.pattern.rows) held.bands.items
