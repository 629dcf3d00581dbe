use Rattle.std.proofs.Common.{◌≤◌, ◌<◌, ◌+◌, ◌*◌, sym, ap, subst, ◌∙◌, length, get_or, arith}
use Rattle.std.specs.Prelude.{All}
use Rattle.lane_kernel.specs.PlaneRows.{place}
use Rattle.band_rows.proofs.FacedFields.{same_states}
use Rattle.band_rows.proofs.Same.{same_items}
use Rattle.band_rows.proofs.field.Field.of_cells.Goals as goal

pub put_rows-requires : goal.put_rows-requires
put_rows-requires c =
    let b = c.in_ok-field.ensures in
    let rows = b.rows in
    let within = c.requires.within in
    record {
      closed = b.closed;
      unlisted = b.unlisted;
      few = c.requires.few;
      within = omega (arith, rows, within);
      wide = subst (λ n. All (λ row. length row ≤ 64 * n) c.args.cells.now) (sym b.columns) c.requires.wide;
      empty = λ u j lt. b.empty u j lt;
    }

pub returns-clause-shows : goal.returns-clause-shows
returns-clause-shows c k x low =
    let b = c.in_ok-field.ensures in
    let rows = b.rows in
    let p = c.put_rows.ensures in
    let more = p.size.rows in
    let m = c.mark_first.ensures in
    let lt : k < c.put_rows.new.self.rows = omega (arith, low, rows, more) in
    same_states c.put_rows.new.self c.mark_first.new.self m.size
    (λ j i le less. ap (λ l. get_or l (place c.put_rows.new.self.stride j (i + 1)) 0) (same_items m.heads))
    (λ j i le less. ap (λ l. get_or l (place c.put_rows.new.self.stride j (i + 1)) 0) (same_items m.tails))
    (same_items m.cells) x k lt
    ∙ p.shows x k (omega (arith, low, rows))
