use Rattle.std.proofs.Common.{◌≡◌, ℕ, ◌<◌, map}
use Rattle.std.specs.Prelude.{Contains}
use Rattle.gate_laws.specs.Signals.{IsReady}
use Rattle.gate_laws.specs.Rows.{Port}
use Rattle.tile_timing.specs.Window.{shown}
use Rattle.gate_laws.specs.Gates.{used}
use Rattle.gate_laws.specs.Drawings.{in_port_of, window_gate, next_time, ArePortsInTime}
use Rattle.gate_laws.proofs.window.answers_in_time.Given as goal

abbrev pub invariant-loop-generation : goal.invariant-loop-generation
invariant-loop-generation l =
    record {
      shows : shown l.now l.width ≡ used (window_gate l.base l.width l.ins l.outs l.time) l.bits l.generation;
      in_time : (g : ℕ) → g < l.generation → ArePortsInTime (used (window_gate l.base l.width l.ins l.outs l.time) l.bits g) l.ins l.bits l.outs g;
      ready : (g : ℕ) → g < l.generation → (port : Port) → Contains (map in_port_of l.ins) port → port.1 ≡ next_time l.time g → IsReady (used (window_gate l.base l.width l.ins l.outs l.time) l.bits g) port.0;
    }
