-- Words ask for one command.
use Rattle.std.proofs.Common.{ℕ, ◌≡◌, sym, ◌∙◌, List}
use Rattle.std.specs.Prelude.{Some}
use Rattle.command_words.specs.Shapes.{CommandValues}
use Rattle.blifww_tool.specs.Run.{Asks}

pub one_command : (words : List (List ℕ)) (a b : CommandValues) → Asks words a → Asks words b → a ≡ b
one_command words a b h k = let e : Some a ≡ Some b = sym h ∙ k in cc
