use Rattle.std.proofs.Common.{◌≡◌, sym, subst, ◌∙◌, length, arith}
use Rattle.std.proofs.lemmas.List.{with_items_is}
use Rattle.ww_rule.specs.Wireworld.{driven}
use Rattle.ww_rule.specs.Grid.{plane_of}
use Rattle.ww_rule.specs.Injections.{due_of_list}
use Rattle.band_core.specs.Band.{AreBands, AllShow, IsEvolution}
use Rattle.band_core.proofs.Evolution.{evolution}
use Rattle.band_core.proofs.bands.Bands.advance.Goals as goal

pub invariant_of-self : goal.invariant_of-self
invariant_of-self c =
    let s = c.self.inside in
    let v = c.self.invariant in
    let e = c.move_band.ensures in
    let due = due_of_list s.injections.items in
    let plane = driven due (plane_of s.pattern.rows) in
    let rows = length s.pattern.rows in
    let new = c.move_band.new.bands in
    let many : c.len-rows.result ≡ rows = c.len-rows.ensures.count in
    let old : c.deref_mut.result.now ≡ s.bands.items = c.deref_mut.ensures.value in
    let are : AreBands s.columns s.height rows new = subst (λ r. AreBands s.columns s.height r new) many e.bands in
    let same : length new ≡ length s.bands.items = are.many ∙ sym v.bands.many in
    let bands_is = with_items_is s.bands new (omega (arith, same)) in
    let evo = evolution s.pattern.width s.pattern.height s.pattern.rows s.injections.items s.pattern.in_rows v.inside in
    let shows = e.shows plane due s.pattern.width (subst (IsEvolution plane due s.pattern.width) (sym many) evo) (subst (λ r. AllShow plane due s.height r c.deref_mut.result.now) (sym many) (subst (AllShow plane due s.height rows) (sym old) v.shows)) in
    record {
      inside = v.inside;
      in_order = v.in_order;
      height = v.height;
      few = v.few;
      wide = v.wide;
      bands = subst (AreBands s.columns s.height rows) (sym bands_is) are;
      shows = subst (AllShow plane due s.height rows) (sym bands_is) (subst (λ r. AllShow plane due s.height r new) many shows);
    }
