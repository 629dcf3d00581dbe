use Rattle.ww_rule.specs.Due.{due_count}
use Rattle.std.proofs.Common.{pos, ℕ, ◌+◌, ◌-◌, ◌/◌, ◌<◌, ◌≤◌, ◌≡◌, sym, ap, ap₂, subst, ◌∙◌, List, length, take, drop, arith}
use Rattle.std.proofs.lemmas.List.{drop-drop, take_all, length-drop}
use Rattle.std.proofs.lemmas.List.Elements.{All-take, All-drop}
use Rattle.ww_rule.specs.declared.pattern.Injection.{Injection}
use Rattle.ww_rule.specs.Wireworld.{next_plane}
use Rattle.band_rows.specs.Fields.{TailsShow}
use Rattle.ww_rule.proofs.Due.{left_after}
use Rattle.band_core.specs.Band.{AreDueIn, AreInRows}
use Rattle.band_core.proofs.BandFields.{tails_kept}
use Rattle.band_core.proofs.NextRows.{west, field_moves}
use Rattle.band_core.proofs.band.Band.step.Goals as goal

in_rows : (columns y many n d : ℕ) (own now : List Injection) → now ≡ own → AreInRows columns y many own → AreInRows columns y many (take n (drop d now))
in_rows columns y many n d own now e in_own =
    let P = λ (i : Injection). (y ≤ i.y) × (i.y < y + many) × (i.x / 64 < columns) in
    subst (λ own. AreInRows columns y many (take n (drop d own))) (sym e) (All-take P n (drop d own) (All-drop P d own in_own))

within : (k d : ℕ) (own now : List Injection) → now ≡ own → d ≤ length own → k ≤ length (take (length now - d) (drop d now)) → d + k ≤ length own
within k d own now e le few =
    let l = length-drop d now in
    let q = ap length e in
    let all : length (take (length now - d) (drop d now)) ≡ length (drop d now) = ap length (take_all (length now - d) (drop d now) (omega (arith, l))) in
    omega (arith, l, q, le, few, all)

pub step_between-requires-clause-closed : goal.step_between-requires-clause-closed
step_between-requires-clause-closed c = c.requires.is.closed

pub inject-requires-clause-inside : goal.inject-requires-clause-inside
inject-requires-clause-inside c =
    let band = c.args.self.now in
    let size = c.step_between.ensures.size in
    let k = c.due_count-count.result in
    let due = take (band.done + k - band.done) (drop band.done c.deref-2.result.now) in
    subst (λ columns. AreInRows columns c.args.y c.step_between.new.self.rows due) (sym size.columns)
    (subst (λ rows. AreInRows band.field.columns c.args.y rows due) (sym size.rows)
    (in_rows band.field.columns c.args.y band.field.rows (band.done + k - band.done) band.done band.injections.items c.deref-2.result.now c.deref-2.ensures.value c.requires.is.inside))

pub returns-clause-is : goal.returns-clause-is
returns-clause-is c =
    let band = c.args.self.now in
    let is = c.requires.is in
    let s = c.step_between.ensures in
    let i = c.inject.ensures in
    record {
      closed = i.closed;
      wide = i.size.columns ∙ s.size.columns;
      high = i.size.rows ∙ s.size.rows;
      some = is.some;
      inside = is.inside;
      done = within c.due_count-count.result band.done band.injections.items c.deref.result.now c.deref.ensures.value is.done c.due_count-count.ensures.within;
    }

pub returns-clause-shows : goal.returns-clause-shows
returns-clause-shows c e due width height evo shows beside =
    let band = c.args.self.now in
    let g = band.generation in
    let y = c.args.y in
    let own = band.injections.items in
    let left = drop band.done own in
    let k = c.due_count-count.result in
    let s = c.step_between.ensures in
    let i = c.inject.ensures in
    let between = c.step_between.new.self in
    let new = c.inject.new.field in
    let stepped = s.shows (e g) (pos y) (west e due width height evo g) beside.above shows.cells beside.below in
    let moved = i.shows (next_plane (e g)) stepped in
    let high : new.rows ≡ band.field.rows = i.size.rows ∙ s.size.rows in
    let dn = c.deref.result.now in
    let count2 : k ≡ due_count (g + 1) left = c.due_count-count.ensures.count ∙ ap (due_count (g + 1)) (take_all (length dn - band.done) (drop band.done dn) (let l = length-drop band.done dn in omega (arith, l))) ∙ ap (λ xs. due_count (g + 1) (drop band.done xs)) c.deref.ensures.value in
    let value2 = c.deref-2.ensures.value in
    let size : band.done + k - band.done ≡ due_count (g + 1) left = let z : band.done + k - band.done ≡ k = omega arith in z ∙ count2 in
    let front = ap₂ (λ n xs. take n (drop band.done xs)) size value2 in
    record {
      cells = field_moves e due width height evo g y own left _ new shows.left front (subst (AreDueIn own due y) (sym high) shows.own) moved;
      before = λ h q.
          let r : g ≡ h = omega (arith, q) in
          subst (λ g. TailsShow new (e g) (pos y)) r (tails_kept between new (e g) (pos y) i.size i.tails (s.tails (e g) (pos y) shows.cells));
      own = shows.own;
      left = left_after (g + 1) own left shows.left (drop (band.done + k) own) (sym (drop-drop k band.done own) ∙ ap (λ n. drop n left) count2);
    }
