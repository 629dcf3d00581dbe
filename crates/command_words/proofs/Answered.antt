-- What is answered to words in the plainest form of a command.
use Rattle.std.proofs.Common.{◌≡◌, ◌∙◌, ◌≤◌, List, length, refl, sym, Option, Some, None, Ok, Err, Result, IfOk, IsErrOf}
use Rattle.std.proofs.lemmas.Option.{none-some}
use Rattle.std.specs.Prelude.{MatchResult, OnOk}
use Rattle.clap.specs.Lexer.{usize_max}
use Rattle.clap.specs.Walk.{Text}
use Rattle.command_words.specs.StreamCommands.{Reads}
use Rattle.command_words.specs.Shapes.{CommandValues, HasNumbersInRange, IsTaken, IsWritten, command_values, values_of}
use Rattle.command_words.specs.declared.command.Command.{Command}
use Rattle.command_words.specs.declared.error.WordsError.{WordsError}
use Rattle.command_words.specs.declared.error.WordsError.TheVariants.{NoMemory, Usage}
use Rattle.command_words.specs.App.{blifww_app}
use Rattle.command_words.proofs.NoFault.{no_fault}
use Rattle.command_words.proofs.Written.{well}

pub OnOk-by : {P : Type 0} (r : Result Command WordsError) → P → OnOk r P
OnOk-by (Ok c) p = p
OnOk-by (Err e) p = tt

pub err_inj : (r : Result Command WordsError) (a b : WordsError) → r ≡ Err a → r ≡ Err b → a ≡ b
err_inj r a b p q = let e = sym p ∙ q in cc

pub read_ok : (values : Option CommandValues) (r : Result Command WordsError) → Reads values r → IfOk r (λ c. values ≡ Some (values_of c))
read_ok values (Ok c) is = is.0
read_ok values (Err e) is = tt

pub read_numbers : (values : Option CommandValues) (r : Result Command WordsError) → Reads values r → IfOk r (λ c. HasNumbersInRange (values_of c))
read_numbers values (Ok c) is = is.1
read_numbers values (Err e) is = tt

pub read_usage : (values : Option CommandValues) (r : Result Command WordsError) → Reads values r → IsErrOf r Usage → values ≡ None
read_usage values (Ok c) is e = cc
read_usage values (Err Usage) is e = is
read_usage values (Err NoMemory) is e = cc

pub answered : (r : Result Command WordsError) (words : List Text) (v : CommandValues) → IfOk r (λ c. command_values words ≡ Some (values_of c)) → (IsErrOf r Usage → IsTaken words → command_values words ≡ None)
    → length words ≤ usize_max → IsWritten v words → MatchResult r (λ c. values_of c ≡ v) (λ e. e ≡ NoMemory)
answered (Ok c) words v ok usage short w = let e : Some (values_of c) ≡ Some v = sym ok ∙ (well v words w).values in cc
answered (Err NoMemory) words v ok usage short w = refl
answered (Err Usage) words v ok usage short w =
    let is = well v words w in
    absurd (none-some v (sym (usage refl (no_fault blifww_app words (is.command short).taken)) ∙ is.values))
