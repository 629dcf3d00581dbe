use Rattle.std.proofs.Common.{rules, ap, refl, sym, subst, ◌≡◌, ◌≤◌, ◌∙◌, Option, Some, Err, length, map, string_bytes, IfOk}
use Rattle.std.proofs.lemmas.List.{length-map}
use Rattle.clap.specs.Lexer.{usize_max}
use Rattle.clap.specs.Simple.{app_of, subcommand_rows_of}
use Rattle.command_words.specs.StreamCommands.{Reads}
use Rattle.command_words.specs.Errors.{error_of}
use Rattle.command_words.specs.Shapes.{CommandValues, command_values, values_met, values_of}
use Rattle.command_words.specs.declared.error.WordsError.TheVariants.{Usage}
use Rattle.command_words.proofs.Answered.{OnOk-by, answered, err_inj, read_numbers, read_ok, read_usage}
use Rattle.command_words.proofs.Parsed.{parsed_rows, parsed_taken, refused}
use Rattle.command_words.proofs.command.command_of.Goals as goal

pub returns-in_err-found-clause-usage : goal.returns-in_err-found-clause-usage
returns-in_err-found-clause-usage c u i =
    let words = map string_bytes c.args.words.now in
    let made : c.from_residual-in_err-found.result ≡ Err (error_of c.in_err-found.field-0.0) = search rules in
    absurd (refused (app_of c.in_ok-blifww_command.field-0) words c.in_err-found.field-0.0 Usage c.in_ok-blifww_command.ensures c.in_err-found.ensures.kinds
    (err_inj c.from_residual-in_err-found.result Usage (error_of c.in_err-found.field-0.0) u made) refl i)

pub returns-in_err-found-clause-written : goal.returns-in_err-found-clause-written
returns-in_err-found-clause-written c =
    let words = map string_bytes c.args.words.now in
    let ok : IfOk c.from_residual-in_err-found.result (λ d. command_values words ≡ Some (values_of d)) = search rules in
    let short : length words ≤ usize_max = search (rules, length-map) in
    λ v w. answered c.from_residual-in_err-found.result words v ok (returns-in_err-found-clause-usage c) short w

pub returns-clause-taken : goal.returns-clause-taken
returns-clause-taken c =
    let words = map string_bytes c.args.words.now in
    OnOk-by c.command_in-command.result (parsed_taken (app_of c.in_ok-blifww_command.field-0) words c.in_ok-found.found c.in_ok-blifww_command.ensures c.in_ok-found.ensures.kinds)

pub returns-clause-ok : goal.returns-clause-ok
returns-clause-ok c =
    let words = map string_bytes c.args.words.now in
    let same = ap values_met (parsed_rows _ words c.in_ok-found.found c.in_ok-blifww_command.ensures c.in_ok-found.ensures.matches) in
    read_ok (command_values words) c.command_in-command.result (subst (λ (o : Option CommandValues). Reads o c.command_in-command.result) same c.command_in-command.ensures)

pub returns-clause-numbers : goal.returns-clause-numbers
returns-clause-numbers c = read_numbers (values_met (subcommand_rows_of c.in_ok-found.found)) c.command_in-command.result c.command_in-command.ensures

pub returns-clause-usage : goal.returns-clause-usage
returns-clause-usage c e i =
    let words = map string_bytes c.args.words.now in
    let same = ap values_met (parsed_rows _ words c.in_ok-found.found c.in_ok-blifww_command.ensures c.in_ok-found.ensures.matches) in
    sym same ∙ read_usage (values_met (subcommand_rows_of c.in_ok-found.found)) c.command_in-command.result c.command_in-command.ensures e

pub returns-clause-written : goal.returns-clause-written
returns-clause-written c =
    let words = map string_bytes c.args.words.now in
    let short : length words ≤ usize_max = search (rules, length-map) in
    λ v w. answered c.command_in-command.result words v (returns-clause-ok c) (returns-clause-usage c) short w
