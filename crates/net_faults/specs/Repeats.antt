-- Words of a list whose names stand earlier in it: on an earlier line, or before them on the same
-- line.
use Rattle.std.specs.Prelude.{List, ◌++◌}
use Rattle.netlist_core.specs.declared.model.Port.{Port}
use Rattle.net_faults.specs.declared.numbering.Numbering.{Numbering}
use Rattle.net_faults.specs.declared.repeats.Repeats.{Repeats}
use Rattle.net_faults.specs.FirstLines.{AreFirstLines}

-- The words `before`, listed nearest first, have been passed, and the words `after` have not.
pub record IsBetween (names : Numbering) (repeats : Repeats)
    (before after : List Port) : Type 0 where
  pub all : AreFirstLines names repeats.all (before ++ after)
  pub passed : AreFirstLines names repeats.passed before
