-- The other list of ports in which a port's name may stand as well.
use Rattle.std.specs.Prelude.{Bool, List}
use Rattle.std.specs.List.{list_any}
use Rattle.netlist_core.specs.declared.model.Port.{Port}
use Rattle.netlist_rules.specs.Drivers.{same_name_before, same_name_up_to}
use Rattle.net_faults.specs.declared.duplicates.Elsewhere.{Elsewhere}
use Rattle.net_faults.specs.declared.duplicates.Elsewhere.TheVariants.{Before, UpTo}
use Rattle.net_faults.specs.declared.numbering.Numbering.{Numbering}
use Rattle.net_faults.specs.FirstLines.{AreFirstLines}

-- it has the earliest lines of these words
abbrev pub KnowsOthers : Numbering → Elsewhere → List Port → Type 0
KnowsOthers names (Before lines) others = AreFirstLines names lines.now others
KnowsOthers names (UpTo lines) others = AreFirstLines names lines.now others

-- whether the port's name stands in the other list, on a line before the port's, or on one up to it
abbrev pub stands_elsewhere : Elsewhere → List Port → Port → Bool
stands_elsewhere (Before lines) others p = list_any (same_name_before p) others
stands_elsewhere (UpTo lines) others p = list_any (same_name_up_to p) others
