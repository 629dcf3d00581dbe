use Rattle.std.proofs.Common.{ℕ, ◌*◌, ◌<◌, ◌≤◌, ◌≡◌}
use Rattle.std.specs.Prelude.{◌≢◌}
use Rattle.ww_rule.specs.declared.pattern.State.TheVariants.{Empty}
use Rattle.ww_rule.specs.Grid.{row_cell}
use Rattle.band_rows.specs.Fields.{field_state, AreOfOneSize, IsClosedField, IsUnlisted}
use Rattle.band_rows.proofs.field.Field.put_row.Given as goal

abbrev pub invariant-loop-c : goal.invariant-loop-c
invariant-loop-c l =
    record {
      closed : IsClosedField l.self;
      unlisted : IsUnlisted l.self;
      size : AreOfOneSize l.fn.self l.self;
      done : (u : ℕ) → u < 64 * l.c → field_state l.self u l.k ≡ row_cell l.cells u;
      left : (u : ℕ) → 64 * l.c ≤ u → field_state l.self u l.k ≡ Empty;
      other : (u j : ℕ) → j < l.fn.self.rows → j ≢ l.k → field_state l.self u j ≡ field_state l.fn.self u j;
    }
