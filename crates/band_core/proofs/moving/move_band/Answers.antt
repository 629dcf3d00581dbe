use Rattle.std.proofs.Common.{pos, ◌+◌, ◌*◌, sym, ap, subst, ◌∙◌, get_or, slice_set, arith}
use Rattle.std.proofs.lemmas.List.{length-set, map-set}
use Rattle.band_core.specs.declared.band.Band.{Band}
use Rattle.band_core.specs.Band.{AllShow, AreBands, IsBand, ShowsBand, generations_of, rows_in_band}
use Rattle.band_core.specs.Beside.{ShowRowsOf}
use Rattle.band_core.proofs.OneBand.{AreSplit, is_band, own_generation, put_back, have_rows, shows_band, shows_rows}
use Rattle.band_rows.proofs.Parts.{parted}
use Rattle.band_core.proofs.Putting.{put_one}
use Rattle.band_core.proofs.moving.move_band.Goals as goal
use Rattle.band_core.proofs.moving.move_band.Goals.{After-index-own-0}

-- the bands as they are split, and the band itself
split : (c : After-index-own-0) → AreSplit c.args.columns c.args.height c.args.rows c.args.bands.now c.split_at_mut-before.result.0.now c.split_at_mut-own.result.0.now c.split_at_mut-own.result.1.now c.args.b
split c =
    let s = c.split_at_mut-before in
    let t = c.split_at_mut-own in
    record {
      parts = parted c.args.bands.now s.result.0.now s.result.1.now t.result.0.now t.result.1.now c.args.b s.ensures.value s.ensures.front_len t.ensures.value t.ensures.front_len;
      inside = c.requires.inside;
      are = c.requires.are;
    }

own : (c : After-index-own-0) → IsBand c.args.columns (c.args.b * c.args.height) (rows_in_band c.args.height c.args.rows c.args.b) (get_or c.split_at_mut-own.result.0.now 0 c.index-own-0.result)
own c = is_band (split c) c.index-own-0.result

pub step_beside-requires : goal.step_beside-requires
step_beside-requires c =
    let k = (goal.at.step_beside-requires c).After-index-own-0 in
    let d = c.index-own-0.result in
    let y = c.args.b * c.args.height in
    let band = get_or c.split_at_mut-own.result.0.now 0 d in
    let generation = own_generation (split k) d in
    let room = c.requires.room in
    record {
      is = subst (λ columns. IsBand columns y band.field.rows band) (sym (own k).wide) (subst (λ n. IsBand c.args.columns y n band) (sym (own k).high) (own k));
      room = omega (arith, generation, room);
      rows = have_rows (split k) d;
    }

pub returns-clause-bands : goal.returns-clause-bands
returns-clause-bands c =
    let k = (goal.at.returns-clause-bands c).After-index-own-0 in
    let b = c.args.b in
    let bands = c.args.bands.now in
    let height = c.args.height in
    let rows = c.args.rows in
    let columns = c.args.columns in
    let y = b * height in
    let band = get_or c.split_at_mut-own.result.0.now 0 c.index-own-0.result in
    let next = c.step_beside.new.band in
    let after : IsBand columns y (rows_in_band height rows b) next =
    subst (λ columns. IsBand columns y (rows_in_band height rows b) next) (own k).wide (subst (λ n. IsBand band.field.columns y n next) (own k).high c.step_beside.ensures.is) in
    subst (AreBands columns height rows) (sym (put_back (split k) c.index-own-0.result next))
    (record {
      many = length-set bands b next ∙ c.requires.are.many;
      each = put_one (λ k band. IsBand columns (k * height) (rows_in_band height rows k) band) bands b next c.requires.inside after c.requires.are.each;
    })

pub returns-clause-generations : goal.returns-clause-generations
returns-clause-generations c =
    let k = (goal.at.returns-clause-generations c).After-index-own-0 in
    let b = c.args.b in
    let bands = c.args.bands.now in
    let d = c.index-own-0.result in
    let next = c.step_beside.new.band in
    ap generations_of (put_back (split k) d next) ∙ map-set (λ (band : Band). band.generation) bands b next
    ∙ ap (slice_set (generations_of bands) b) (c.step_beside.ensures.generation ∙ ap (λ n. n + 1) (own_generation (split k) d))

pub returns-clause-shows : goal.returns-clause-shows
returns-clause-shows c e due width evo shows =
    let k = (goal.at.returns-clause-shows c).After-index-own-0 in
    let d = c.index-own-0.result in
    let b = c.args.b in
    let bands = c.args.bands.now in
    let height = c.args.height in
    let rows = c.args.rows in
    let y = b * height in
    let band = get_or c.split_at_mut-own.result.0.now 0 d in
    let high = (own k).high in
    let next = c.step_beside.new.band in
    let front = c.split_at_mut-before.result.0.now in
    let back = c.split_at_mut-own.result.1.now in
    let here = shows_band (split k) d e due width evo shows in
    let beside = shows_rows (split k) d e due width evo shows c.requires.ready in
    let after = c.step_beside.ensures.shows e due width rows evo (subst (λ n. ShowsBand e due y n band) (sym high) here)
    (subst (ShowRowsOf front back band.generation (e band.generation) (pos y)) (sym high) beside) in
    subst (AllShow e due height rows) (sym (put_back (split k) d next))
    (put_one (λ k band. ShowsBand e due (k * height) (rows_in_band height rows k) band) bands b next c.requires.inside (subst (λ n. ShowsBand e due y n next) high after) shows)
