-- What clap answers to the words of the program.
use Rattle.std.proofs.Common.{◌≡◌, ◌∙◌, inl, inr, List, [], true, ap, sym, subst, Err, Ok}
use Rattle.clap.specs.Faults.{fault_of, is_simple_and_free}
use Rattle.clap.specs.Kinds.{FailsBy, HasKind, Kinds}
use Rattle.clap.specs.Simple.{App, HasMatchesOf, is_simple, subcommand_of, subcommand_rows_of}
use Rattle.clap.specs.Values.{kind_of}
use Rattle.clap.specs.Walk.{Text}
use Rattle.clap.specs.declared.error.Error.{Error}
use Rattle.clap.specs.declared.error.kind.ErrorKind.TheVariants.{OutOfMemory}
use Rattle.clap.specs.declared.parser.matches.ArgMatches.{ArgMatches}
use Rattle.command_words.specs.App.{blifww_app}
use Rattle.command_words.specs.Errors.{error_of, error_of_kind}
use Rattle.command_words.specs.Shapes.{IsTaken}
use Rattle.command_words.specs.declared.error.WordsError.{WordsError}
use Rattle.command_words.specs.declared.error.WordsError.TheVariants.{Usage, NoMemory}
use Rattle.command_words.proofs.Rules.{app_free, app_simple}

pub parsed_rows : (app : App) (words : List Text) (m : ArgMatches) → app ≡ blifww_app → HasMatchesOf app words m → subcommand_rows_of m ≡ subcommand_of blifww_app words
parsed_rows app words m is h = (h (ap is_simple is ∙ app_simple)).1 ∙ ap (λ (a : App). subcommand_of a words) is

pub parsed_taken : (app : App) (words : List Text) (m : ArgMatches) → app ≡ blifww_app → (is_simple_and_free app ≡ true → FailsBy {T = ArgMatches} (fault_of app words) (Ok m)) → IsTaken words
parsed_taken app words m is h = ap (λ (a : App). fault_of a words) (sym is) ∙ h (ap is_simple_and_free is ∙ app_free)

not_usage : NoMemory ≡ Usage → ⊥
not_usage e = cc

no_memory : (e : Error) → HasKind [] e → kind_of e ≡ OutOfMemory
no_memory e (inl is) = is
no_memory e (inr none) = absurd none

-- words in which it finds no fault are refused for lack of memory alone
pub refused : (app : App) (words : List Text) (e : Error) (r : WordsError) → app ≡ blifww_app → (is_simple_and_free app ≡ true → FailsBy {T = ArgMatches} (fault_of app words) (Err e)) → r ≡ error_of e → r ≡ Usage → IsTaken words → ⊥
refused app words e r is kinds made usage taken =
    let fails : HasKind (fault_of app words) e = kinds (ap is_simple_and_free is ∙ app_free) in
    let none : HasKind [] e = subst (λ (k : Kinds). HasKind k e) (ap (λ (a : App). fault_of a words) is ∙ taken) fails in
    not_usage (sym (made ∙ ap error_of_kind (no_memory e none)) ∙ usage)
