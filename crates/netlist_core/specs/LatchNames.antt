-- The latch that a name of the main model names.
use Rattle.std.specs.Prelude.{ℕ, ◌==◌, ◌&&◌, Bool, false, List, Option, length, slice_get, option_map, option_and_then, find, position, bytes_eq}
use Rattle.std.specs.Option.{option_map_or}
use Rattle.netlist_core.specs.declared.flat.Net.{Net}
use Rattle.netlist_core.specs.declared.flat.FlatLatch.{FlatLatch}
use Rattle.netlist_core.specs.declared.flat.Flat.{Flat}
use Rattle.netlist_core.specs.Names.{Name}

-- whether this is the net of that name in the main model, whose place has no numbers
abbrev pub is_main_net : Name → Net → Bool
is_main_net name net = length net.place == 0 && bytes_eq net.name name

-- the class of the net of that name in the main model
abbrev pub class_named : List Net → Name → Option ℕ
class_named nets name = option_map (λ net. net.class) (find (is_main_net name) nets)

-- whether the latch's output is of this class
abbrev pub drives_class : List Net → ℕ → FlatLatch → Bool
drives_class nets class latch =
    option_map_or (λ net. net.class == class) (slice_get nets latch.output.0) false

-- the position of the first latch whose output is joined with the net of that name in the main
-- model, if there is one
abbrev pub latch_named : Flat → Name → Option ℕ
latch_named flat name =
    option_and_then (λ class. position (drives_class flat.nets class) flat.latches)
    (class_named flat.nets name)
