-- What the nets of a text's pattern show under streams of bits, as a VCD text.
use Rattle.std.specs.Prelude.{◌≡◌, ℕ, List}
use Rattle.ww_rule.specs.Grid.{plane_of}
use Rattle.vcd_write.specs.Laws.{SaysWaves}
use Rattle.vcd_write.specs.Writing.{Waves, vcd_text}
use Rattle.vcd_write.specs.NetWaves.{last_of_all_nets, net_waves}
use Rattle.blifww_tool.specs.Simulation.{Simulation, RunsInTime, HasNoRun}
use Rattle.program_runs.specs.declared.causes.Cause.{Cause}

-- the generation of the last bit that a net shows, or 0 if the table has no nets
abbrev pub last_dumped : Simulation → ℕ
last_dumped s = last_of_all_nets s.ports s.streams

-- the bits of the nets: a variable for each net in each context, with all nets of context 0 first
abbrev pub waves_of : Simulation → Waves
waves_of s = net_waves s.ports s.streams (plane_of s.grid.rows)

-- The text and the words are a simulation, which is run up to the last bit of a net. The output is
-- the text of the nets' bits, and reads as these alone.
pub record Dumps (cycles : ℕ) (words : List (List ℕ)) (text output : List ℕ) : Type 0 where
  pub simulation : Simulation
  pub runs : RunsInTime last_dumped cycles words text simulation
  pub written : output ≡ vcd_text (waves_of simulation)
  pub says : SaysWaves (waves_of simulation)

-- why the text and the words give no dump
abbrev pub HasNoDump : ℕ → List (List ℕ) → List ℕ → Cause → Type 0
HasNoDump cycles words text cause = HasNoRun last_dumped cycles words text cause
