-- Parts of single designs.
use Rattle.std.specs.Prelude.{ℕ, List, true, None, map}
use Rattle.netlist_core.specs.declared.model.Design.{Design}
use Rattle.netlist_core.specs.declared.model.Model.{Model}
use Rattle.netlist_core.specs.declared.model.Cover.{Cover}
use Rattle.netlist_core.specs.declared.model.Port.{Port}
use Rattle.netlist_core.specs.declared.model.Pin.{Pin}
use Rattle.netlist_core.specs.declared.model.Subckt.{Subckt}
use Rattle.netlist_core.specs.declared.model.LatchRow.{LatchRow}
use Rattle.netlist_core.specs.Names.{Name}

-- ports of one line, by their names
abbrev pub ports_with : ℕ → List Name → List Port
ports_with line names = map (λ name. record { line = line; name = name }) names

-- a cover of rows that end in `1`
abbrev pub cover_with : ℕ → List Name → Name → List (List ℕ) → Cover
cover_with line ins out rows = record { line = line; ins = ins; out = out; rows = rows; on = true }

-- a latch without a control
abbrev pub plain_latch : ℕ → Name → Name → ℕ → LatchRow
plain_latch line input output init =
    record { line = line; input = input; output = output; kind = None; control = None; init = init }

abbrev pub pin_with : Name → Name → Pin
pin_with formal actual = record { formal = formal; actual = actual }

abbrev pub subckt_with : ℕ → Name → List Pin → Subckt
subckt_with line model pins = record { line = line; model = model; pins = pins }

abbrev pub design_with : List Model → Design
design_with models = record { models = models }
