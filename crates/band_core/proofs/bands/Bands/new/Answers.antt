use Rattle.std.proofs.Common.{◌*◌, ◌≤◌, sym, subst, length, All}
use Rattle.ww_rule.specs.Wireworld.{driven}
use Rattle.ww_rule.specs.Grid.{plane_of}
use Rattle.ww_rule.specs.Injections.{due_of_list}
use Rattle.band_core.specs.Band.{AllShow, AreInRows}
use Rattle.band_core.proofs.Evolution.{drive_in_rows}
use Rattle.band_core.proofs.bands.Bands.new.Goals as goal

pub begin_bands-requires-clause-long : goal.begin_bands-requires-clause-long
begin_bands-requires-clause-long c =
    let p = c.args.pattern in c.columns_for-columns.ensures.wide p.width p.in_rows.long

pub begin_bands-requires-clause-inside : goal.begin_bands-requires-clause-inside
begin_bands-requires-clause-inside c =
    let p = c.args.pattern in
    let columns = c.columns_for-columns.result in
    let long : All (λ row. length row ≤ 64 * columns) p.rows = c.columns_for-columns.ensures.wide p.width p.in_rows.long in
    subst (λ injections. AreInRows columns 0 (length p.rows) injections) (sym c.deref.ensures.value) (drive_in_rows p.width p.height columns p.rows c.args.injections.items p.in_rows long c.requires.inside)

pub invariant_of-result : goal.invariant_of-result
invariant_of-result c =
    let p = c.args.pattern in
    let h = c.args.height in
    let made = c.in_ok-bands.ensures in
    let bands = c.in_ok-bands.bands.items in
    let injections = c.deref.ensures.value in
    record {
      inside = c.requires.inside;
      in_order = c.requires.in_order;
      height = c.requires.height;
      few = c.columns_for-columns.ensures.few;
      wide = c.columns_for-columns.ensures.wide p.width p.in_rows.long;
      bands = made.bands;
      shows = subst (λ injections. AllShow (driven (due_of_list injections) (plane_of p.rows)) (due_of_list injections) h (length p.rows) bands) injections made.shows;
    }
