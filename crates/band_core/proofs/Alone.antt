-- A band that stands alone, for some generations without injections.
use Rattle.std.proofs.Common.{pos, negsuc, ◌+ℤ◌, ◌-ℤ◌, ℕ, ◌+◌, ◌-◌, ◌*◌, ◌<◌, ◌≤◌, ◌≡◌, refl, sym, ap, subst, ◌∙◌, false, cond, List, [], length, get_or, slice_set, drop, arith}
use Rattle.std.specs.Prelude.{All}
use Rattle.std.proofs.lemmas.Int.{ints}
use Rattle.std.proofs.lemmas.List.{get_or-set_same, length-set}
use Rattle.ww_rule.specs.declared.pattern.State.TheVariants.{Head}
use Rattle.ww_rule.specs.Wireworld.{Plane, Due, next_plane}
use Rattle.ww_rule.proofs.Due.{from_earlier}
use Rattle.band_rows.specs.Fields.{GoOnAlone, ShowsField, TailsShow}
use Rattle.lane_kernel.specs.PlaneRows.{ShowsHeads}
use Rattle.band_core.specs.declared.band.Band.{Band}
use Rattle.band_core.specs.Band.{AreDueIn, AreInRows, IsBand, IsEvolution, ShowsBand, generation_at, rows_in_band}
use Rattle.band_core.specs.Together.{CanMoveOn, HasBandRun, HaveMovedOn, HasNoneDueFor}
use Rattle.band_core.proofs.Dark.{below, none_due}
use Rattle.band_core.proofs.Facing.{ends, nothing}
use Rattle.band_core.proofs.MovedOn.{calm_for, own_generation, still_left}
use Rattle.band_core.proofs.NextRows.{west}
use Rattle.band_core.proofs.Putting.{put_one}

ran_is : (columns y many n : ℕ) (old new : Band) → HasBandRun n old new → IsBand columns y many old → IsBand columns y many new
ran_is columns y many n old new r is =
    let done = is.done in
    let le = ap (λ v. length v.items) r.injections in
    let same = r.done in
    record {
      closed = r.field.closed;
      wide = r.field.size.columns ∙ is.wide;
      high = r.field.size.rows ∙ is.high;
      some = is.some;
      inside = subst (λ v. AreInRows columns y many v.items) (sym r.injections) is.inside;
      done = omega (arith, done, le, same);
    }

-- all rows of the evolution are in the band
module _ (e : ℕ → Plane) (due : Due) (width rows columns y many n : ℕ) (evo : IsEvolution e due width rows) (old : Band) (is : IsBand columns y many old) (shows : ShowsBand e due y many old) (first : y ≡ 0) (all : y + many ≡ rows) (calm : HasNoneDueFor n old) where
  abbrev g : ℕ
  g = old.generation

  none : (k x j : ℕ) → k < n → j < old.field.rows → due (g + k + 1) (pos x) (pos y +ℤ pos j) ≡ false
  none k x j lt l =
      let high = is.high in
      let own = old.injections.items in
      let left = shows.left in
      sym (shows.own (g + k + 1) x j (omega (arith, l, high)))
      ∙ none_due g (g + k + 1) own (drop old.done own) left (from_earlier (g + k + 1 + 1) (g + n + 1) (drop old.done own) (omega (arith, lt)) (calm left.in_order)) (omega arith) (pos x) (pos y +ℤ pos j)

  over : (h : ℕ) → ShowsHeads [] (e h) (pos y -ℤ pos 1)
  over h =
      let place : negsuc 0 ≡ pos y -ℤ pos 1 = omega (arith, ints, first) in
      subst (ShowsHeads [] (e h)) place (nothing (e h) (negsuc 0) (λ x. evo.empty h (pos x) (negsuc 0) refl))

  under : (h : ℕ) → ShowsHeads [] (e h) (pos y +ℤ pos old.field.rows)
  under h =
      let high = is.high in
      let place : pos rows ≡ pos y +ℤ pos old.field.rows = omega (arith, ints, all, high) in
      subst (ShowsHeads [] (e h)) place (nothing (e h) (pos rows) (λ x. evo.empty h (pos x) (pos rows) (below width rows x rows (omega arith))))

  goes_on : GoOnAlone (λ k. e (g + k)) (pos y) old.field.rows n
  goes_on =
      record {
        next = λ k x j lt l.
            let z = pos y +ℤ pos j in
            ap (λ h. e h (pos x) z) (let q : g + (k + 1) ≡ g + k + 1 = omega arith in q)
            ∙ ap (λ p. p (pos x) z) (evo.next (g + k))
            ∙ ap (λ t. cond t Head (next_plane (e (g + k)) (pos x) z)) (none k x j lt l);
        west = λ k lt. west e due width rows evo (g + k);
        above = λ k lt. over (g + k);
        below = λ k lt. under (g + k);
      }

  pub ran_shows : (new : Band) → 0 < n → HasBandRun n old new → ShowsBand e due y many new
  ran_shows new some r =
      let gen = r.generation in
      let start : ShowsField old.field (e (g + 0)) (pos y) = subst (λ h. ShowsField old.field (e h) (pos y)) (let q : g ≡ g + 0 = omega arith in q) shows.cells in
      record {
        cells = subst (λ h. ShowsField new.field (e h) (pos y)) (sym gen) (r.field.shows (λ k. e (g + k)) (pos y) goes_on start);
        before = λ h q.
            subst (λ h. TailsShow new.field (e h) (pos y)) (let s : g + (n - 1) ≡ h = omega (arith, q, gen, some) in s)
            (r.field.tails (λ k. e (g + k)) (pos y) (n - 1) (omega (arith, some)) goes_on start);
        own = subst (λ v. AreDueIn v.items due y many) (sym r.injections) shows.own;
        left = still_left n old new gen r.injections r.done calm shows.left;
      }

pub ran_moved_on : (n most columns height rows : ℕ) (old : List Band) (d new : Band) → length old ≡ 1 → 0 < n → n ≤ most → CanMoveOn most columns height rows old → All (HasNoneDueFor most) old → HasBandRun n (get_or old 0 d) new → HaveMovedOn n columns height rows old (slice_set old 0 new)
ran_moved_on n most columns height rows old d new one some few can calm run =
    let after = slice_set old 0 new in
    let long = length-set old 0 new in
    let there : 0 < length old = omega (arith, one) in
    let there_after : 0 < length after = omega (arith, one, long) in
    let is = can.are.each 0 d there in
    record {
      are = record {
        many = long ∙ can.are.many;
        each = put_one (λ k band. IsBand columns (k * height) (rows_in_band height rows k) band) old 0 new there (ran_is columns (0 * height) (rows_in_band height rows 0) n (get_or old 0 d) new run is) can.are.each;
      };
      at = λ g at b lt.
          let q : b ≡ 0 = omega (arith, lt, long, one) in
          ap (generation_at after) q
          ∙ sym (own_generation after 0 d there_after)
          ∙ ap (λ (band : Band). band.generation) (get_or-set_same old 0 new d there)
          ∙ run.generation
          ∙ ap (λ h. h + n) (own_generation old 0 d there ∙ at 0 there);
      shows = λ e due width evo shows.
          put_one (λ k band. ShowsBand e due (k * height) (rows_in_band height rows k) band) old 0 new there
          (ran_shows e due width rows columns (0 * height) (rows_in_band height rows 0) n evo (get_or old 0 d) is (shows 0 d there) (omega arith)
          (ends columns height rows old 0 d can.high can.are (omega (arith, one)))
          (calm_for most n (get_or old 0 d) few (calm 0 d there)) new some run) shows;
    }
