use Rattle.std.proofs.Common.{pos, ◌+ℤ◌, ◌-◌, ◌*◌, min, ◌<◌, ◌≡◌, sym, ap, subst, ◌∙◌, [], length, get_or, arith}
use Rattle.std.proofs.lemmas.Int.{ints}
use Rattle.std.proofs.lemmas.List.{get_or-map}
use Rattle.ww_rule.specs.Wireworld.{driven}
use Rattle.ww_rule.specs.Grid.{plane_of}
use Rattle.ww_rule.specs.Injections.{due_of_list}
use Rattle.band_core.specs.declared.band.Band.{Band}
use Rattle.band_core.specs.Bands.{IsCellOf, band_at}
use Rattle.band_core.specs.Band.{IsBand, ShowsBand, generations_of}
use Rattle.band_core.proofs.Evolution.{in_bands}
use Rattle.band_core.proofs.bands.Bands.cell.Goals as goal

pub state-requires : goal.state-requires
state-requires c =
    let s = c.self.inside in
    let v = c.self.invariant in
    let b = c.args.b in
    let q = subst (λ p. IsCellOf p b c.args.x c.args.y) (sym c.self.view_is) c.requires in
    let band = c.index-band.result.now in
    let total = length s.pattern.rows in
    let y = b * s.height in
    let column = q.column in
    let from = q.from in
    let below = q.below in
    let within = q.within in
    let i = in_bands b s.height c.args.y total v.height from within in
    let many = v.bands.many in
    let lb : b < length s.bands.items = omega (arith, i, many) in
    let is = subst (IsBand s.columns y (min s.height (total - y))) (sym c.index-band.ensures) (v.bands.each b band lb) in
    let across = is.wide in
    let high = is.high in
    let long = s.pattern.in_rows.long c.args.y [] within in
    let wide = v.wide c.args.y [] within in
    record {
      is = is.closed.is;
      column = omega (arith, column, long, wide, across);
      row = omega (arith, high, from, below, within);
    }

pub returns : goal.returns
returns c =
    let s = c.self.inside in
    let v = c.self.invariant in
    let b = c.args.b in
    let q = subst (λ p. IsCellOf p b c.args.x c.args.y) (sym c.self.view_is) c.requires in
    let band = c.index-band.result.now in
    let ib = c.index-band.ensures in
    let height = s.height in
    let total = length s.pattern.rows in
    let y = b * height in
    let m = min height (total - y) in
    let k = c.args.y - y in
    let plane = driven (due_of_list s.injections.items) (plane_of s.pattern.rows) in
    let from = q.from in
    let below = q.below in
    let within = q.within in
    let i = in_bands b height c.args.y total v.height from within in
    let many = v.bands.many in
    let lb : b < length s.bands.items = omega (arith, i, many) in
    let is = subst (IsBand s.columns y m) (sym ib) (v.bands.each b band lb) in
    let shows = subst (ShowsBand plane (due_of_list s.injections.items) y m) (sym ib) (v.shows b band lb) in
    let high = is.high in
    let lt : k < band.field.rows = omega (arith, high, from, below, within) in
    let place : pos y +ℤ pos k ≡ pos c.args.y = omega (arith, ints, from) in
    let gen : band.generation ≡ get_or (generations_of s.bands.items) b 0 = ap (λ (band : Band). band.generation) ib ∙ sym (get_or-map (λ (band : Band). band.generation) s.bands.items b band 0 lb) in
    subst (λ p. c.state.result ≡ band_at p b c.args.x c.args.y) c.self.view_is
    (c.state.ensures
    ∙ shows.cells k c.args.x lt
    ∙ ap (plane band.generation (pos c.args.x)) place
    ∙ ap (λ g. plane g (pos c.args.x) (pos c.args.y)) gen)
