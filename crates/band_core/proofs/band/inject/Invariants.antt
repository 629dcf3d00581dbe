use Rattle.std.proofs.Common.{◌≡◌, pos, take}
use Rattle.ww_rule.specs.Wireworld.{Plane, injected}
use Rattle.ww_rule.specs.Injections.{has_cell}
use Rattle.band_rows.specs.Fields.{AreOfOneSize, IsClosedField, ShowsField}
use Rattle.band_core.specs.Band.{injected_cells}
use Rattle.band_core.proofs.band.inject.Given as goal

abbrev pub invariant-loop-injection : goal.invariant-loop-injection
invariant-loop-injection l =
    record {
      closed : IsClosedField l.field;
      size : AreOfOneSize l.fn.field l.field;
      tails : l.field.tails.items ≡ l.fn.field.tails.items;
      shows : (p : Plane) → ShowsField l.fn.field p (pos l.y) → ShowsField l.field (injected (has_cell (take l.injection-index (injected_cells l.due))) p) (pos l.y);
    }
