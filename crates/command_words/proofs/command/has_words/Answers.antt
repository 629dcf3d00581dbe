use Rattle.std.proofs.Common.{◌∙◌, ◌==◌, ℕ, Bor, List, ap, length, not, refl, sym}
use Rattle.std.proofs.lemmas.List.{length-map}
use Rattle.clap.specs.Matches.{found_of}
use Rattle.clap.specs.Walk.{Text}
use Rattle.command_words.proofs.Found.{streams_found}
use Rattle.command_words.proofs.command.has_words.Goals as goal

pub returns : goal.returns
returns c =
    let found = streams_found (found_of c.args.found.now) c.get_strs.result _ c.unwrap_or.result c.unwrap_or.ensures refl c.get_strs.ensures in
    ap not (c.is_empty.ensures
    ∙ ap (λ (n : ℕ). n == 0) (sym (length-map c.unwrap_or.result.now (λ (t : Bor Text). t.now)) ∙ ap (λ (l : List Text). length l) found))
