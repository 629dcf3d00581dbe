-- The names of a cover and of a latch.
use Rattle.std.specs.Prelude.{List, [], ◌∷◌, ◌++◌}
use Rattle.std.specs.Option.{option_to_list}
use Rattle.netlist_core.specs.declared.model.Cover.{Cover}
use Rattle.netlist_core.specs.declared.model.LatchRow.{LatchRow}
use Rattle.netlist_core.specs.Names.{Name}

abbrev pub cover_names : Cover → List Name
cover_names cover = cover.ins ++ cover.out ∷ []

abbrev pub latch_names : LatchRow → List Name
latch_names latch = latch.input ∷ latch.output ∷ option_to_list latch.control
