-- Generations of a field that stands alone.
use Rattle.std.proofs.Common.{ℤ, pos, ◌-ℤ◌, ◌+ℤ◌, ℕ, ◌+◌, ◌-◌, ◌<◌, ◌≡◌, sym, ap, ap₂, subst, ◌∙◌, arith}
use Rattle.std.proofs.Math.Nat.{add-zero}
use Rattle.ww_rule.specs.Wireworld.{Plane}
use Rattle.lane_kernel.specs.PlaneRows.{row_in_plane, ShowsHeads}
use Rattle.lane_kernel.proofs.Places.{Fit, heads_of_row}
use Rattle.band_rows.specs.declared.field.Field.{Field}
use Rattle.band_rows.specs.Fields.{AreOfOneSize, GoOnAlone, HasRunAlone, IsClosedField, IsFieldStepped, ShowsField, TailsShow, field_heads, field_tails}
use Rattle.band_rows.proofs.ClosedFields.{dark_above, dark_below, dark_sides, fit_heads, none_shown, stepped_closed}
use Rattle.band_rows.proofs.FieldSteps.{field_shows}

pub same_size : {a b c : Field} → AreOfOneSize a b → AreOfOneSize b c → AreOfOneSize a c
same_size p q = record { columns = q.columns ∙ p.columns; rows = q.rows ∙ p.rows; stride = q.stride ∙ p.stride }

-- the tails of a field that has stepped are the heads that it had
pub tails_shown : (old new : Field) (p : Plane) (y : ℤ) → AreOfOneSize old new → new.tails.items ≡ old.heads.items → ShowsField old p y → TailsShow new p y
tails_shown old new p y size tails shown k low =
    let rows = size.rows in
    let e : field_tails new (k + 1) ≡ field_heads old (k + 1) = ap₂ (λ c s. row_in_plane c s new.tails.items (k + 1)) size.columns size.stride ∙ ap (λ l. row_in_plane old.columns old.stride l (k + 1)) tails in
    subst (λ l. ShowsHeads l p (y +ℤ pos k)) (sym e)
    (heads_of_row (field_heads old (k + 1)) (field_tails old (k + 1)) (row_in_plane old.columns old.stride old.cells.items (k + 1)) p (y +ℤ pos k) (λ x. shown k x (omega (arith, low, rows))))

-- one generation
pub gone_one : (old new : Field) → Fit old.cells.items → IsClosedField old → IsFieldStepped old new → HasRunAlone 1 old new
gone_one old new fits closed stepped =
    record {
      closed = stepped_closed old new closed stepped;
      size = stepped.size;
      shows = λ e y alone shown k x low.
          let rows = stepped.size.rows in
          let h = fit_heads old.cells.items old.heads.items fits closed.heads in
          field_shows old new closed.is closed.tails h stepped (e 0) y (alone.west 0 (omega arith)) (dark_sides old closed)
          (none_shown (field_heads old 0) (e 0) (y -ℤ pos 1) (dark_above old closed) (alone.above 0 (omega arith)))
          shown
          (none_shown (field_heads old (old.rows + 1)) (e 0) (y +ℤ pos old.rows) (dark_below old closed) (alone.below 0 (omega arith)))
          k x low
          ∙ sym (alone.next 0 x k (omega arith) (omega (arith, low, rows)));
      tails = λ e y g is alone shown.
          let z : 0 ≡ g = omega (arith, is) in
          subst (λ g. TailsShow new (e g) y) z (tails_shown old new (e 0) y stepped.size stepped.tails shown);
    }

-- some generations, and then more
module _ (e : ℕ → Plane) (y : ℤ) (rows n m : ℕ) (alone : GoOnAlone e y rows (n + m)) where
  first_part : GoOnAlone e y rows n
  first_part =
      record {
        next = λ g x k lt low. alone.next g x k (omega (arith, lt)) low;
        west = λ g lt. alone.west g (omega (arith, lt));
        above = λ g lt. alone.above g (omega (arith, lt));
        below = λ g lt. alone.below g (omega (arith, lt));
      }

  later_part : GoOnAlone (λ g. e (n + g)) y rows m
  later_part =
      record {
        next = λ g x k lt low.
            let assoc : n + (g + 1) ≡ (n + g) + 1 = omega arith in
            ap (λ g. e g (pos x) (y +ℤ pos k)) assoc ∙ alone.next (n + g) x k (omega (arith, lt)) low;
        west = λ g lt. alone.west (n + g) (omega (arith, lt));
        above = λ g lt. alone.above (n + g) (omega (arith, lt));
        below = λ g lt. alone.below (n + g) (omega (arith, lt));
      }

pub gone_further : (n m : ℕ) (old mid new : Field) → 0 < m → HasRunAlone n old mid → HasRunAlone m mid new → HasRunAlone (n + m) old new
gone_further n m old mid new some a b =
    record {
      closed = b.closed;
      size = same_size a.size b.size;
      shows = λ e y alone shown. b.shows (λ g. e (n + g)) y (later e y alone) (start e y alone shown);
      tails = λ e y g is alone shown.
          let last : m ≡ (m - 1) + 1 = omega (arith, some) in
          let at : n + (m - 1) ≡ g = omega (arith, some, is) in
          subst (λ g. TailsShow new (e g) y) at (b.tails (λ g. e (n + g)) y (m - 1) last (later e y alone) (start e y alone shown));
    }
  where
    later : (e : ℕ → Plane) (y : ℤ) → GoOnAlone e y old.rows (n + m) → GoOnAlone (λ g. e (n + g)) y mid.rows m
    later e y alone = subst (λ r. GoOnAlone (λ g. e (n + g)) y r m) (sym a.size.rows) (later_part e y old.rows n m alone)

    start : (e : ℕ → Plane) (y : ℤ) → GoOnAlone e y old.rows (n + m) → ShowsField old (e 0) y → ShowsField mid (e (n + 0)) y
    start e y alone shown = subst (λ g. ShowsField mid (e g) y) (sym (add-zero n)) (a.shows e y (first_part e y old.rows n m alone) shown)

-- as if it began in a field with the same cells
pub gone_same : (n : ℕ) (old mid new : Field) → AreOfOneSize old mid → ((p : Plane) (y : ℤ) → ShowsField old p y → ShowsField mid p y) → HasRunAlone n mid new → HasRunAlone n old new
gone_same n old mid new size same a =
    let rows = λ (e : ℕ → Plane) (y : ℤ) (alone : GoOnAlone e y old.rows n). subst (λ r. GoOnAlone e y r n) (sym size.rows) alone in
    record {
      closed = a.closed;
      size = same_size size a.size;
      shows = λ e y alone shown. a.shows e y (rows e y alone) (same (e 0) y shown);
      tails = λ e y g is alone shown. a.tails e y g is (rows e y alone) (same (e 0) y shown);
    }
