-- A command that was met is read as its values.
use Rattle.std.proofs.Common.{◌≡◌, ◌∙◌, sym, ap, ap₂, subst, List, Option, Some, None, option_map, Result}
use Rattle.std.proofs.lemmas.Option.{none-some, same_Some}
use Rattle.clap.specs.Walk.{Row, Text}
use Rattle.command_words.specs.StreamCommands.{Reads}
use Rattle.command_words.specs.Shapes.{CommandValues, values_met}
use Rattle.command_words.specs.declared.command.Command.{Command}
use Rattle.command_words.specs.declared.error.WordsError.{WordsError}

-- a pair by its parts
pair_is : (met : Option (Text × List Row)) (name : Text) (rows : List Row) → Some name ≡ option_map (λ p. p.0) met → Some rows ≡ option_map (λ p. p.1) met → met ≡ Some (name, rows)
pair_is None name rows e f = absurd (none-some name (sym e))
pair_is (Some met) name rows e f = ap₂ (λ (n : Text) (rs : List Row). Some (n, rs)) (sym (same_Some name met.0 e)) (sym (same_Some rows met.1 f))

pub reads_met : (met : Option (Text × List Row)) (name : Text) (rows : List Row) (values : Option CommandValues) (result : Result Command WordsError)
    → Some name ≡ option_map (λ p. p.0) met → Some rows ≡ option_map (λ p. p.1) met → values_met (Some (name, rows)) ≡ values → Reads values result → Reads (values_met met) result
reads_met met name rows values result e f is h = subst (λ (v : Option CommandValues). Reads v result) (sym (ap values_met (pair_is met name rows e f) ∙ is)) h
