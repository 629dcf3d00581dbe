use Rattle.std.proofs.Common.{◌≤◌}
use Rattle.band_rows.proofs.field.lit_words.Given as goal

abbrev pub invariant-loop-i : goal.invariant-loop-i
invariant-loop-i l = record { few : l.many ≤ l.i }
