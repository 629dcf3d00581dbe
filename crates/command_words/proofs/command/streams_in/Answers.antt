use Rattle.std.proofs.Common.{◌∙◌, refl}
use Rattle.std.proofs.lemmas.Result.{IfOk-weaker}
use Rattle.clap.specs.Matches.{found_of}
use Rattle.command_words.proofs.Found.{streams_found}
use Rattle.command_words.proofs.command.streams_in.Goals as goal

pub returns : goal.returns
returns c =
    IfOk-weaker c.owned.result _ _
    (λ m h. h ∙ streams_found (found_of c.args.found.now) c.get_strs.result _ c.unwrap_or.result c.unwrap_or.ensures refl c.get_strs.ensures) c.owned.ensures
