use Rattle.std.proofs.Common.{◌≡◌, map, take}
use Rattle.aiger_meaning.specs.FlatOf.{row_character}
use Rattle.aiger_meaning.proofs.nodes.row_of.Given as goal

abbrev pub invariant-loop-lit : goal.invariant-loop-lit
invariant-loop-lit l = l.row.items ≡ map row_character (take l.lit-index l.lits)
