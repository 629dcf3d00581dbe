-- The words of the program.
use Rattle.std.specs.Prelude.{ℕ, ◌≡◌, List, [], ◌∷◌, codes}
use Rattle.wwroute_tool.specs.declared.words.Command.{Command}
use Rattle.wwroute_tool.specs.declared.words.Command.TheVariants.{Extract, Route}
use Rattle.routed_plans.specs.declared.nets.ShownNets.TheVariants as which

-- the words of a command
abbrev pub command_words : Command → List (List ℕ)
command_words Extract = codes "extract" ∷ []
command_words (Route which.Drawn) = codes "route" ∷ []
command_words (Route which.All) = codes "route" ∷ codes "--nets" ∷ []

-- the words are the program's name and the words of the command
abbrev pub AsksFor : List (List ℕ) → Command → Type 0
AsksFor words command = (program : List ℕ) × (words ≡ program ∷ command_words command)

-- the words ask for no command
abbrev pub AsksForNone : List (List ℕ) → Type 0
AsksForNone words = (command : Command) → AsksFor words command → ⊥
