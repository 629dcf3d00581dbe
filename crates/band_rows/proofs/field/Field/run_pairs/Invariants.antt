use Rattle.std.proofs.Common.{◌*◌, ◌-◌, ◌<◌, ◌≤◌}
use Rattle.band_rows.specs.Fields.{HasRunAlone}
use Rattle.band_rows.proofs.field.Field.run_pairs.Given as goal

abbrev pub invariant-loop-done : goal.invariant-loop-done
invariant-loop-done l = record { some : 0 < l.done; few : l.done ≤ l.pairs; gone : HasRunAlone (2 * l.done) l.fn.self l.self }

abbrev pub decreases-loop-done : goal.decreases-loop-done
decreases-loop-done l = l.pairs - l.done
