-- Crossings that are drawn in a window of cells.
use Rattle.std.specs.Prelude.{pos, ℕ, ◌≡◌, false, ◌&&◌, List, [], ◌∷◌, map}
use Rattle.lists.specs.Items.{flag_at, list_at}
use Rattle.ww_rule.specs.declared.pattern.State.{State}
use Rattle.tile_timing.specs.Window.{shown}
use Rattle.gate_laws.specs.declared.window.InCell.{InCell}
use Rattle.gate_laws.specs.declared.window.OutCell.{OutCell}
use Rattle.gate_laws.specs.Drawings.{out_port_of, out_table, number_of_bits}
use Rattle.gate_laws.specs.Crossings.{Crossing}

-- the crossing that is drawn in a window, with its ports in these cells, and for each output a
-- table of its bits by the number that the bits of the inputs make
abbrev pub window_crossing : List State → (width : ℕ) → (first second : ℕ × ℕ) → List OutCell
    → (time : ℕ) → Crossing
window_crossing cells width first second outs time =
    record {
      plane = shown cells width;
      first = (pos first.0, pos first.1);
      second = (pos second.0, pos second.1);
      outs = map out_port_of outs;
      answer = λ bits o. flag_at (list_at (map out_table outs) o) (number_of_bits bits);
      time = time;
    }

-- an input at this cell that is lit at generation 0
abbrev pub input_at : ℕ × ℕ → InCell
input_at cell = record { x = cell.0; y = cell.1; generation = 0 }

abbrev pub two_inputs : (first second : ℕ × ℕ) → List InCell
two_inputs first second = input_at first ∷ input_at second ∷ []

-- the output is dark without inputs, and answers one of them at most
pub record IsOfOne (out : OutCell) : Type 0 where
  pub none : flag_at out.table 0 ≡ false
  pub one : (flag_at out.table 1 && flag_at out.table 2) ≡ false
