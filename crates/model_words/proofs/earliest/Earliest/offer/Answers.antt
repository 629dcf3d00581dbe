use Rattle.std.proofs.Common.{ap, sym, ◌∙◌, Some, [], ◌∷◌}
use Rattle.std.specs.Prelude.{option_map}
use Rattle.model_words.specs.Words.{word_port, earliest_after}
use Rattle.model_words.proofs.earliest.Earliest.offer.Goals as goal
use Rattle.model_words.proofs.earliest.Earliest.offer.Goals.{in-None, in-Some}

pub returns : goal.returns
returns c =
    let p = word_port c.args.word in
    elim c.match-self.branch [
      | in-None w ↦ ap (option_map word_port) w.self-is ∙ sym (ap (λ o. earliest_after (option_map word_port o) (p ∷ [])) w.in-None.is)
      | in-Some w ↦ ap (option_map word_port) w.self-is ∙ ap Some w.earlier.ensures ∙ sym (ap (λ o. earliest_after (option_map word_port o) (p ∷ [])) w.in-Some.is)
    ]
