-- The values of commands.
use Rattle.std.specs.Prelude.{◌≡◌, ⊤, ℕ, List, Option, Some, None, Ok, Err, Result}
use Rattle.clap.specs.Walk.{Row, Text}
use Rattle.command_words.specs.Numbers.{NumberRange, cycles_range, tape_cycles_range}
use Rattle.command_words.specs.Shapes.{CommandValues, HasNumbersInRange, compile_by, driven_command_by, make_by, probe_by, self_by, window_by, values_of, simulate, eval, tape, aiger, vcd, lift}
use Rattle.command_words.specs.declared.command.Command.{Command}
use Rattle.command_words.specs.declared.command.CommandKind.{CommandKind}
use Rattle.command_words.specs.declared.command.CommandKind.TheVariants as kind
use Rattle.command_words.specs.declared.command.StreamCommand.{StreamCommand}
use Rattle.command_words.specs.declared.command.StreamCommand.TheVariants.{Simulate, Eval, Tape, Vcd}
use Rattle.command_words.specs.declared.error.WordsError.{WordsError}
use Rattle.command_words.specs.declared.error.WordsError.TheVariants.{Usage, NoMemory}

-- the values of a command that streams drive, with a number of cycles and words
abbrev pub values_by : StreamCommand → ℕ → List Text → CommandValues
values_by Simulate cycles streams = simulate cycles streams
values_by Eval cycles streams = eval cycles streams
values_by Tape cycles streams = tape cycles streams
values_by Vcd cycles streams = vcd cycles streams

-- the numbers of cycles that the command takes
abbrev pub range_of : StreamCommand → NumberRange
range_of Tape = tape_cycles_range
range_of _ = cycles_range

-- the values of a command of this kind, by the matches of its options and words
abbrev pub values_of_kind : CommandKind → List Row → Option CommandValues
values_of_kind kind.Compile rows = compile_by rows
values_of_kind (kind.StreamCommand driven) rows =
    driven_command_by (range_of driven) (values_by driven) rows
values_of_kind kind.Probe rows = probe_by rows
values_of_kind kind.Window rows = window_by rows
values_of_kind kind.Make rows = make_by rows
values_of_kind kind.Self_ rows = self_by rows
values_of_kind kind.Aiger rows = Some aiger
values_of_kind kind.Lift rows = Some lift

-- a command has the values that were met, with numbers in their ranges; if words are refused as no
-- command, there are no values
abbrev pub Reads : Option CommandValues → Result Command WordsError → Type 0
Reads values (Ok command) =
    (values ≡ Some (values_of command)) × HasNumbersInRange (values_of command)
Reads values (Err Usage) = values ≡ None
Reads values (Err NoMemory) = ⊤
