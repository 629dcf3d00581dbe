-- What each of four commands prints of one text is one text; and what `vcd` says of a net is what
-- `probe` prints of it.
use Rattle.std.specs.Prelude.{ℕ, ◌≡◌, ◌<◌, ◌+◌, ◌*◌, Bool, false, List, [], length, map, get_or, All, Some, slice_get}
use Rattle.ww_rule.specs.Grid.{Grid}
use Rattle.pattern_reading.specs.declared.ports.NetLine.{NetLine}
use Rattle.pattern_reading.specs.declared.ports.Ports.{Ports}
use Rattle.pattern_reading.specs.Pattern.{ReadsWithinLimit}
use Rattle.pattern_reading.specs.PortTable.{ReadsAsPorts}
use Rattle.vcd_write.specs.NetWaves.{nets_in_contexts, reference_of}
use Rattle.vcd_write.specs.Reading.{VcdForm, ReadsAsVcd, last_time, value_at}
use Rattle.vcd_write.specs.Writing.{vcd_id}
use Rattle.command_words.specs.declared.command.View.{View}
use Rattle.command_words.specs.Shapes.{CommandValues, simulate, probe, window, vcd, eval}
use Rattle.blifww_tool.specs.Probing.{net_text}
use Rattle.blifww_tool.specs.Commands.{Prints}
use Rattle.program_laws.specs.DumpsNets.{HasVariables}

-- the command prints one output of each text
abbrev pub PrintsOneAnswer : CommandValues → Type 0
PrintsOneAnswer command =
    (text a b : List ℕ) → Prints command text a → Prints command text b → a ≡ b

abbrev pub SimulatePrintsOne : Type 0
SimulatePrintsOne = (cycles : ℕ) (words : List (List ℕ)) → PrintsOneAnswer (simulate cycles words)

abbrev pub EvalPrintsOne : Type 0
EvalPrintsOne = (cycles : ℕ) (words : List (List ℕ)) → PrintsOneAnswer (eval cycles words)

abbrev pub ProbePrintsOne : Type 0
ProbePrintsOne =
    (cycles : ℕ) (name path : List ℕ) (words : List (List ℕ))
    → PrintsOneAnswer (probe cycles name path words)

abbrev pub WindowPrintsOne : Type 0
WindowPrintsOne = (view : View) (words : List (List ℕ)) → PrintsOneAnswer (window view words)

abbrev pub VcdPrintsOne : Type 0
VcdPrintsOne = (cycles : ℕ) (words : List (List ℕ)) → PrintsOneAnswer (vcd cycles words)

-- The text has a table, in which a line has the net's name and path. `probe` has printed bits of the
-- net, a list for each of the table's contexts with a bit for each cycle. The dump reads as a form
-- with the variables of all lines, by their references in each context, and its last time is the
-- number of cycles. At each cycle it gives the bit to the variable of the net's line in the context.
pub record DumpsProbe (cycles : ℕ) (name path text dump shown : List ℕ) : Type 0 where
  pub grid : Grid
  pub pattern : ReadsWithinLimit text grid
  pub ports : Ports
  pub table : ReadsAsPorts text grid.width grid.height ports
  pub number : ℕ
  pub line : NetLine
  pub at : slice_get ports.nets number ≡ Some line
  pub named : line.name ≡ name
  pub placed : line.path ≡ path
  pub bits : List (List Bool)
  pub many : length bits ≡ ports.c
  pub long : All (λ of_context. length of_context ≡ cycles) bits
  pub lines : shown ≡ net_text ports.c name bits
  pub form : VcdForm
  pub reads : ReadsAsVcd dump form
  pub variables : HasVariables form (map (reference_of ports.c) (nets_in_contexts ports))
  pub ends : last_time form ≡ cycles
  pub same : (context cycle : ℕ) → context < ports.c → cycle < cycles
      → value_at form (vcd_id (context * length ports.nets + number)) cycle
      ≡ Some (get_or (get_or bits context []) cycle false)

-- under the same words `vcd` gives each net the bits that `probe` prints of it, whoever made the
-- text
abbrev pub DumpsAreProbed : Type 0
DumpsAreProbed =
    (cycles : ℕ) (words : List (List ℕ)) (name path text dump shown : List ℕ)
    → Prints (vcd cycles words) text dump
    → Prints (probe cycles name path words) text shown
    → DumpsProbe cycles name path text dump shown
