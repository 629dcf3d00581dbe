use Rattle.std.proofs.Common.{ℕ, ◌<◌, ◌≤◌, ◌≡◌, [], get_or, drop}
use Rattle.ww_rule.specs.declared.pattern.State.TheVariants.{Empty}
use Rattle.band_rows.specs.Fields.{field_state, AreOfOneSize, IsClosedField, IsUnlisted}
use Rattle.band_rows.proofs.field.Field.put_rows.Given as goal

abbrev pub invariant-loop-k : goal.invariant-loop-k
invariant-loop-k l =
    record {
      closed : IsClosedField l.self;
      unlisted : IsUnlisted l.self;
      size : AreOfOneSize l.fn.self l.self;
      done : (u j : ℕ) → j < l.k → field_state l.self u j ≡ get_or (get_or (drop l.y l.cells) j []) u Empty;
      left : (u j : ℕ) → l.k ≤ j → j < l.fn.self.rows → field_state l.self u j ≡ Empty;
    }
