use Rattle.std.proofs.Common.{pos, ℕ, ◌+◌, ◌*◌, ◌≡◌, sym, ap, subst, ◌∙◌, get_or, arith}
use Rattle.ww_rule.specs.Wireworld.{Plane, Due}
use Rattle.band_rows.specs.Facing.{words_in}
use Rattle.band_core.specs.declared.band.Band.{Band}
use Rattle.band_core.specs.Band.{AllShow, AreUnlit, IsBand, IsEvolution, IsQuiet, IsWaking, ShowsBand, generation_at, rows_in_band}
use Rattle.band_core.specs.Beside.{HaveRows, ShowRowsOf}
use Rattle.band_core.proofs.BandFields.{narrow_row}
use Rattle.band_core.proofs.MovedOn.{own_generation as its_generation}
use Rattle.band_core.proofs.OneBand.{AreSplit, have_rows, shows_rows, was}
use Rattle.band_rows.proofs.Parts.{parted}
use Rattle.band_core.proofs.Options.{if_some}
use Rattle.band_core.proofs.Resting.{is_quiet}
use Rattle.band_core.proofs.Waking.{lit_wakes, faced_wakes, due_wakes, none_wakes}
use Rattle.lists.proofs.Options.{none_where}
use Rattle.band_core.proofs.moving.awake_cell.Goals as goal
use Rattle.band_core.proofs.moving.awake_cell.Goals.{After-index-bands-b, After-split_at-2}

-- the band
is : (c : After-index-bands-b) → IsBand c.args.columns (c.args.b * c.args.height) (rows_in_band c.args.height c.args.rows c.args.b) c.index-bands-b.result
is c =
    let can = c.requires.can_move in
    subst (IsBand c.args.columns (c.args.b * c.args.height) (rows_in_band c.args.height c.args.rows c.args.b)) (sym c.index-bands-b.is) (can.are.each c.args.b c.index-bands-b.result can.inside)

-- what it shows, and what is said of its generation
module _ (c : After-index-bands-b) (e : ℕ → Plane) (due : Due) (width : ℕ) (evo : IsEvolution e due width c.args.rows) (shows : AllShow e due c.args.height c.args.rows c.args.bands.now) where
  shown : ShowsBand e due (c.args.b * c.args.height) (rows_in_band c.args.height c.args.rows c.args.b) c.index-bands-b.result
  shown =
      subst (ShowsBand e due (c.args.b * c.args.height) (rows_in_band c.args.height c.args.rows c.args.b)) (sym c.index-bands-b.is) (shows c.args.b c.index-bands-b.result c.requires.can_move.inside)

own : (c : After-index-bands-b) → c.index-bands-b.result.generation ≡ generation_at c.args.bands.now c.args.b
own c =
    let can = c.requires.can_move in
    ap (λ (band : Band). band.generation) c.index-bands-b.is ∙ its_generation c.args.bands.now c.args.b c.index-bands-b.result can.inside

-- the bands as they are split
split : (c : After-split_at-2) → AreSplit c.args.columns c.args.height c.args.rows c.args.bands.now c.split_at.result.0.now c.split_at-2.result.0.now c.split_at-2.result.1.now c.args.b
split c =
    let s = c.split_at in
    let t = c.split_at-2 in
    record {
      parts = parted c.args.bands.now s.result.0.now s.result.1.now t.result.0.now t.result.1.now c.args.b s.ensures.by_index.0 s.ensures.front_len t.ensures.by_index.0 t.ensures.front_len;
      inside = c.requires.can_move.inside;
      are = c.requires.can_move.are;
    }

same : (c : After-split_at-2) → get_or c.split_at-2.result.0.now 0 c.index-bands-b.result ≡ c.index-bands-b.result
same c = was (split c) c.index-bands-b.result ∙ sym c.index-bands-b.is

beside : (c : After-split_at-2) → HaveRows c.split_at.result.0.now c.split_at-2.result.1.now c.index-bands-b.result.generation c.index-bands-b.result.field.columns
beside c =
    subst (λ (band : Band). HaveRows c.split_at.result.0.now c.split_at-2.result.1.now band.generation band.field.columns) (same c) (have_rows (split c) c.index-bands-b.result)

faces : (c : After-split_at-2) (e : ℕ → Plane) (due : Due) (width : ℕ) → IsEvolution e due width c.args.rows → AllShow e due c.args.height c.args.rows c.args.bands.now → ShowRowsOf c.split_at.result.0.now c.split_at-2.result.1.now c.index-bands-b.result.generation (e c.index-bands-b.result.generation) (pos (c.args.b * c.args.height)) (rows_in_band c.args.height c.args.rows c.args.b)
faces c e due width evo shows =
    subst (λ (band : Band). ShowRowsOf c.split_at.result.0.now c.split_at-2.result.1.now band.generation (e band.generation) (pos (c.args.b * c.args.height)) (rows_in_band c.args.height c.args.rows c.args.b)) (same c)
    (shows_rows (split c) c.index-bands-b.result e due width evo shows c.requires.can_move.ready)

pub lit_cell-requires : goal.lit_cell-requires
lit_cell-requires c =
    let k = (goal.at.lit_cell-requires c).After-index-bands-b in
    let wide = (is k).wide in
    let few = c.requires.few in
    record { closed = (is k).closed; few = omega (arith, wide, few) }

pub row_above-above-requires : goal.row_above-above-requires
row_above-above-requires c = record { some = (beside (goal.at.row_above-above-requires c).After-split_at-2).some_above }

pub row_below-below-requires : goal.row_below-below-requires
row_below-below-requires c = record { some = (beside (goal.at.row_below-below-requires c).After-split_at-2).some_below }

pub faced_cell-requires : goal.faced_cell-requires
faced_cell-requires c =
    let k = (goal.at.faced_cell-requires c).After-split_at-2 in
    let i = (goal.at.faced_cell-requires c).After-index-bands-b in
    let wide = (is i).wide in
    let high = (is i).high in
    let some = (is i).some in
    let few = c.requires.few in
    let up = narrow_row c.row_above-above.result _ ((beside k).long_above _ c.row_above-above.ensures) in
    let down = narrow_row c.row_below-below.result _ ((beside k).long_below _ c.row_below-below.ensures) in
    record {
      few_above = omega (arith, up, wide, few);
      few_below = omega (arith, down, wide, few);
      room = omega (arith, high, some);
    }

pub returns-in-Some-clause-some : goal.returns-in-Some-clause-some
returns-in-Some-clause-some c e due width evo shows =
    let k = (goal.at.returns-in-Some-clause-some c).After-index-bands-b in
    let y = c.args.b * c.args.height in
    let many = rows_in_band c.args.height c.args.rows c.args.b in
    subst (λ g. IsWaking e due g y many c.in-Some.x (y + c.in-Some.k)) (own k)
    (lit_wakes e due c.args.columns y many c.index-bands-b.result (is k) (shown k e due width evo shows) c.in-Some.x c.in-Some.k c.in-Some.ensures.some)

pub returns-in-Some-faced_cell-clause-some : goal.returns-in-Some-faced_cell-clause-some
returns-in-Some-faced_cell-clause-some c e due width evo shows =
    let k = (goal.at.returns-in-Some-faced_cell-clause-some c).After-index-bands-b in
    let r = faces (goal.at.returns-in-Some-faced_cell-clause-some c).After-split_at-2 e due width evo shows in
    let y = c.args.b * c.args.height in
    let many = rows_in_band c.args.height c.args.rows c.args.b in
    let found = c.in-Some-faced_cell in
    subst (λ g. IsWaking e due g y many found.x found.z) (own k)
    (faced_wakes e due c.args.columns y many c.index-bands-b.result (is k) (shown k e due width evo shows) (words_in c.row_above-above.result) (words_in c.row_below-below.result) found.x found.z (r.above _ c.row_above-above.ensures) (r.below _ c.row_below-below.ensures) found.ensures.some)

pub returns-clause-some : goal.returns-clause-some
returns-clause-some c =
    let k = (goal.at.returns-clause-some c).After-index-bands-b in
    if_some _ _ c.due_cell.result
    (λ cell next e due width evo shows.
    let y = c.args.b * c.args.height in
    let many = rows_in_band c.args.height c.args.rows c.args.b in
    subst (λ g. IsWaking e due g y many cell.0 cell.1) (own k)
    (due_wakes e due c.args.columns y many c.index-bands-b.result (is k) (shown k e due width evo shows) cell.0 cell.1 next)) c.due_cell.ensures.some

pub returns-clause-quiet : goal.returns-clause-quiet
returns-clause-quiet c q e due width evo shows =
    let k = (goal.at.returns-clause-quiet c).After-index-bands-b in
    let r = faces (goal.at.returns-clause-quiet c).After-split_at-2 e due width evo shows in
    let y = c.args.b * c.args.height in
    let many = rows_in_band c.args.height c.args.rows c.args.b in
    let band = c.index-bands-b.result in
    let sh = shown k e due width evo shows in
    let up = words_in c.row_above-above.result in
    let down = words_in c.row_below-below.result in
    let unfaced = none_where c.faced_cell.result c.in_default-faced_cell.not-Some in
    let dark : AreUnlit band.field y up down =
    record {
      cells = c.lit_cell.ensures.none (none_where c.lit_cell.result c.in_default.not-Some);
      above = λ x lt. c.faced_cell.ensures.none_above unfaced lt x;
      below = c.faced_cell.ensures.none_below unfaced;
    } in
    subst (λ g. IsQuiet e due g y many) (own k)
    (is_quiet e due width c.args.rows c.args.columns y many band up down evo (is k) sh (r.above _ c.row_above-above.ensures) (r.below _ c.row_below-below.ensures)
    dark (none_wakes e due c.args.columns y many band (is k) sh (c.due_cell.ensures.none q)))
