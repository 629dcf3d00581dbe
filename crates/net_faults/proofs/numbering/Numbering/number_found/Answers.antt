use Rattle.std.proofs.Common.{◌≡◌, ◌∙◌, ap}
use Rattle.std.proofs.lemmas.Result.{IfOk-at_ok, IfOk-weaker}
use Rattle.model_words.specs.Words.{word_ports}
use Rattle.net_faults.proofs.numbering.Numbering.number_found.Goals as goal

pub returns-clause-words : goal.returns-clause-words
returns-clause-words c =
    IfOk-weaker c.number_words.result _ _ (λ numbered e ports found. e ∙ ap word_ports c.deref.ensures.value ∙ IfOk-at_ok (λ words. word_ports words.items ≡ ports) c.in_ok-words.was found) c.number_words.ensures.words
