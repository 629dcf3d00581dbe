-- The part of a netlist's weight that is one model's own.
use Rattle.std.specs.Prelude.{ℕ, ◌+◌, ◌*◌, ◌==◌, ◌||◌, not, List, length, sum_by, count_by}
use Rattle.netlist_core.specs.declared.model.Model.{Model}
use Rattle.netlist_core.specs.declared.model.Cover.{Cover}
use Rattle.netlist_core.specs.Names.{is_named}

-- one for each name in `.inputs`, in `.outputs` and in `.clock`; a name in both `.inputs` and
-- `.clock` counts once (a name that stands twice in one of the lists, which is a fault, counts
-- twice)
abbrev pub port_weight : Model → ℕ
port_weight model =
    length model.ins + length model.outs + count_by
    (λ clock. not (is_named model.ins clock.name)) model.clocks

-- how many characters `0` and `1` a row has
abbrev pub literals : List ℕ → ℕ
literals row = count_by (λ character. (character == 48) || (character == 49)) row

-- one for the cover, one for each row, and one for each `0` and `1` before the output column
abbrev pub rows_weight : List (List ℕ) → ℕ
rows_weight rows = 1 + length rows + sum_by literals rows

abbrev pub cover_weight : Cover → ℕ
cover_weight cover = rows_weight cover.rows

-- the part of the weight that is the model's own: that of its ports and its covers, two for each
-- latch, and one for each subckt line
abbrev pub own_weight : Model → ℕ
own_weight model =
    port_weight model + 2 * length model.latches + length model.subckts + sum_by cover_weight model.covers
