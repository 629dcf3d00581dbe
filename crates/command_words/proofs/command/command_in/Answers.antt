use Rattle.std.proofs.Common.{◌≡◌, Some, option_map, rules}
use Rattle.clap.specs.Simple.{subcommand_rows_of}
use Rattle.clap.specs.Walk.{rows_of}
use Rattle.clap.specs.Words.{found_of}
use Rattle.command_words.proofs.ReadMet.{reads_met}
use Rattle.command_words.proofs.command.command_in.Goals as goal

pub returns-in-Some-kind_named : goal.returns-in-Some-kind_named
returns-in-Some-kind_named c =
    let met = subcommand_rows_of c.args.found.now in
    let name : Some c.in-Some.name.now ≡ option_map (λ p. p.0) met = search rules in
    reads_met met c.in-Some.name.now _ _ _ name c.in-Some.ensures.rows (c.in-Some-kind_named.ensures (rows_of (found_of c.in-Some.inner.now))) c.command_by.ensures
