-- The netlist of the text of a seed and a number of gates.
use Rattle.std.specs.Prelude.{◌≤◌, ℕ, true, false, ◌+◌, ◌-◌, List, [], ◌∷◌, codes, None}
use Rattle.netlist_core.specs.declared.model.Cover.{Cover}
use Rattle.netlist_core.specs.declared.model.LatchRow.{LatchRow}
use Rattle.netlist_core.specs.declared.model.Model.{Model}
use Rattle.netlist_core.specs.declared.model.Design.{Design}
use Rattle.netlist_core.specs.Names.{at_line}
use Rattle.blif_text.specs.Faults.{IsDesignOf}
use Rattle.made_netlists.specs.declared.gate.GateKind.{GateKind}
use Rattle.made_netlists.specs.declared.gate.GateKind.TheVariants.{And, Or, Xor, Nand}
use Rattle.made_netlists.specs.declared.gate.Gate.{Gate}
use Rattle.made_netlists.specs.Text.{drawn_gates, latch_data, made_text, net_name, net_of_gate}

-- the cover of a gate of a kind, with these inputs and this output, at a line: a row for each row
-- of its text
abbrev pub gate_cover : GateKind → ℕ → List ℕ → List ℕ → List ℕ → Cover
gate_cover And line a b out =
    record { line = line; ins = a ∷ b ∷ []; out = out; rows = codes "11" ∷ []; on = true }
gate_cover Or line a b out =
    record {
      line = line;
      ins = a ∷ b ∷ [];
      out = out;
      rows = codes "1-" ∷ codes "-1" ∷ [];
      on = true;
    }
gate_cover Xor line a b out =
    record {
      line = line;
      ins = a ∷ b ∷ [];
      out = out;
      rows = codes "10" ∷ codes "01" ∷ [];
      on = true;
    }
gate_cover Nand line a b out =
    record { line = line; ins = a ∷ b ∷ []; out = out; rows = codes "11" ∷ []; on = false }

-- the line after a gate of a kind that begins at `line`
abbrev pub line_after : GateKind → ℕ → ℕ
line_after And line = line + 1 + 1
line_after Or line = line + 1 + 1 + 1
line_after Xor line = line + 1 + 1 + 1
line_after Nand line = line + 1 + 1

-- the covers of gates, from a line on
abbrev pub covers_from : ℕ → List Gate → List Cover
covers_from line [] = []
covers_from line (gate ∷ gates) =
    gate_cover gate.kind line (net_name gate.first) (net_name gate.second) (net_name gate.out)
    ∷ covers_from (line_after gate.kind line) gates

abbrev pub made_latch : ℕ → ℕ → ℕ → ℕ → LatchRow
made_latch line input output init =
    record {
      line = line;
      input = net_name input;
      output = net_name output;
      kind = None;
      control = None;
      init = init;
    }

-- four inputs, the last gate and the two latches as outputs, and the gates
abbrev pub model_from : ℕ → ℕ → ℕ → List Gate → Model
model_from last data0 data1 gates = record {
  line = 1;
  name = codes "made";
  ins =
      at_line 2 (net_name 0) ∷ at_line 2 (net_name 1) ∷ at_line 2 (net_name 2)
      ∷ at_line 2 (net_name 3) ∷ [];
  outs = at_line 3 (net_name last) ∷ at_line 3 (net_name 4) ∷ at_line 3 (net_name 5) ∷ [];
  clocks = [];
  covers = covers_from 6 gates;
  latches = made_latch 4 data0 4 0 ∷ made_latch 5 data1 5 1 ∷ [];
  subckts = [];
}

abbrev pub made_model : ℕ → ℕ → Model
made_model seed size =
    model_from (net_of_gate (size - 1)) (latch_data seed size 0) (latch_data seed size 1)
    (drawn_gates seed size)

abbrev pub made_design : ℕ → ℕ → Design
made_design seed size = record { models = made_model seed size ∷ [] }

-- The text of every seed and size is that design, and breaks no rule on lines or models.
abbrev pub ReadsAsMade : Type 0
ReadsAsMade =
    (seed size : ℕ) → 1 ≤ size → size ≤ 128
    → IsDesignOf (made_text seed size) (made_design seed size)
