-- One band among others, and the rows that face it.
use Rattle.std.proofs.Common.{pos, ℕ, ◌+◌, ◌-◌, ◌*◌, ◌<◌, ◌≡◌, sym, ap, subst, ◌∙◌, None, List, ◌++◌, length, get_or, slice_set, arith}
use Rattle.std.proofs.lemmas.List.{get_or-map, length-map}
use Rattle.ww_rule.specs.Wireworld.{Plane, Due}
use Rattle.band_rows.proofs.Parts.{IsParted, at_own, at_before, at_after, put_together, many as parts_many}
use Rattle.band_core.specs.declared.band.Band.{Band}
use Rattle.band_core.specs.Band.{AllShow, AreBands, IsBand, IsEvolution, ShowsBand, generation_at, generations_of, rows_in_band}
use Rattle.band_core.specs.Beside.{HasRows, HaveRows, ShowRowsOf}
use Rattle.band_core.specs.Bands.{unready_neighbour}
use Rattle.band_core.proofs.Facing.{IsAtOrAfter, above_long, below_long, above_shows, below_shows, upper_ready, lower_ready, first_of, later_of, last_of, earlier_of}

-- bands of a height over so many rows, split before and after band b
pub record AreSplit (columns height rows : ℕ) (bands before own after : List Band) (b : ℕ) : Type 0 where
  pub parts : IsParted bands b before own after
  pub inside : b < length bands
  pub are : AreBands columns height rows bands

has_rows : (columns y many : ℕ) (band : Band) → IsBand columns y many band → HasRows band
has_rows columns y many band is =
    let high = is.high in
    let some = is.some in
    record { is = is.closed.is; some = omega (arith, high, some) }

module _ {columns height rows : ℕ} {bands before own after : List Band} {b : ℕ} (split : AreSplit columns height rows bands before own after b) (d : Band) where
  abbrev band : Band
  band = get_or own 0 d

  abbrev many : ℕ
  many = rows_in_band height rows b

  pub was : band ≡ get_or bands b d
  was = at_own bands before own after b split.parts d

  pub is_band : IsBand columns (b * height) many band
  is_band = subst (IsBand columns (b * height) many) (sym was) (split.are.each b d split.inside)

  pub own_generation : band.generation ≡ generation_at bands b
  own_generation = ap (λ (band : Band). band.generation) was ∙ sym (get_or-map (λ (band : Band). band.generation) bands b d 0 split.inside)

  pub put_back : (new : Band) → before ++ (slice_set own 0 new ++ after) ≡ slice_set bands b new
  put_back new = put_together bands before own after b split.parts new

  -- the bands before and after it have rows
  above_has : (d : Band) → 0 < length before → HasRows (get_or before (length before - 1) d)
  above_has d lt =
      let place = split.parts.place in
      let last : length before - 1 ≡ b - 1 = omega (arith, place) in
      let same = ap (λ k. get_or before k d) last ∙ at_before bands before own after b split.parts (b - 1) d (omega (arith, lt, place)) in
      let inside = split.inside in
      subst HasRows (sym same) (has_rows columns ((b - 1) * height) (rows_in_band height rows (b - 1)) (get_or bands (b - 1) d) (split.are.each (b - 1) d (omega (arith, inside))))

  below_has : (d : Band) → 0 < length after → HasRows (get_or after 0 d)
  below_has d lt =
      let all = parts_many bands before own after b split.parts in
      subst HasRows (sym (at_after bands before own after b split.parts d)) (has_rows columns ((b + 1) * height) (rows_in_band height rows (b + 1)) (get_or bands (b + 1) d) (split.are.each (b + 1) d (omega (arith, all, lt))))

  -- and are no longer than it is wide
  pub have_rows : HaveRows before after band.generation band.field.columns
  have_rows =
      let wide = is_band.wide in
      record {
        some_above = above_has;
        some_below = below_has;
        long_above = λ up is.
            let l = above_long columns height rows bands split.are b d split.inside band.generation up (first_of bands before own after b split.parts is.first) (later_of bands before own after b split.parts up band.generation is.later) in
            omega (arith, l, wide);
        long_below = λ down is.
            let l = below_long columns height rows bands split.are b d split.inside band.generation down (last_of bands before own after b split.parts is.last) (earlier_of bands before own after b split.parts down band.generation is.earlier) in
            omega (arith, l, wide);
      }

  -- and show the heads of an evolution that all bands show, where the neighbours are ready
  module _ (e : ℕ → Plane) (due : Due) (width : ℕ) (evo : IsEvolution e due width rows) (shows : AllShow e due height rows bands) where
    pub shows_band : ShowsBand e due (b * height) many band
    shows_band = subst (ShowsBand e due (b * height) many) (sym was) (shows b d split.inside)

    some : 0 < height
    some = let s = is_band.some in omega (arith, s)

    pub shows_rows : unready_neighbour (generations_of bands) b ≡ None → ShowRowsOf before after band.generation (e band.generation) (pos (b * height)) many
    shows_rows ready =
        record {
          above = λ up is.
              above_shows e due columns height rows width some evo bands split.are b d split.inside band.generation shows up
              (first_of bands before own after b split.parts is.first) (later_of bands before own after b split.parts up band.generation is.later)
              (λ lt. subst (λ g. IsAtOrAfter g (generation_at bands (b - 1))) (sym own_generation) (upper_ready (generations_of bands) b ready lt));
          below = λ down is.
              below_shows e due columns height rows width some evo bands split.are b d split.inside band.generation shows down
              (last_of bands before own after b split.parts is.last) (earlier_of bands before own after b split.parts down band.generation is.earlier)
              (λ lt. subst (λ g. IsAtOrAfter g (generation_at bands (b + 1))) (sym own_generation) (lower_ready (generations_of bands) b ready (let n = length-map bands (λ (band : Band). band.generation) in omega (arith, lt, n))));
        }
