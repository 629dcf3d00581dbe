-- Laws of commands, for every list of words.
use Rattle.std.specs.Prelude.{◌≡◌, ◌≤◌, List, Some, length}
use Rattle.clap.specs.Lexer.{usize_max}
use Rattle.clap.specs.Walk.{Text}
use Rattle.command_words.specs.Shapes.{CommandValues, command_values, IsCommand, IsTaken, IsWritten}

-- words in the plainest form of a command are a command with these values, if the machine can count
-- the words
abbrev pub WrittenIsCommand : Type 0
WrittenIsCommand =
    (v : CommandValues) (words : List Text) → length words ≤ usize_max → IsWritten v words
    → IsCommand words × (command_values words ≡ Some v)

-- words that are a command have values, and clap finds no fault in them
abbrev pub CommandsHaveValues : Type 0
CommandsHaveValues =
    (words : List Text) → IsCommand words
    → (v : CommandValues) × (command_values words ≡ Some v) × IsTaken words
