use Rattle.std.proofs.Common.{◌≡◌, drop}
use Rattle.std.specs.List.{list_all}
use Rattle.blif_text.specs.Models.{turns_on}
use Rattle.blif_reader.proofs.covers.all_turn_on.Given as goal

abbrev pub invariant-loop-row : goal.invariant-loop-row
invariant-loop-row l = list_all turns_on (drop l.row-index l.rows) ≡ list_all turns_on l.rows
