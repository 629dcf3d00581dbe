use Rattle.std.proofs.Common.{◌≡◌, ap, sym, ◌∙◌, [], ◌∷◌, ◌++◌, ◌+◌, get_or, drop, cond, not, arith, ◌<◌, length}
use Rattle.std.specs.Prelude.{option_to_list, filter_map}
use Rattle.std.specs.Bool.{then_some}
use Rattle.std.proofs.lemmas.Bool.{cond-true, cond-false, not_from_true, not_from_false}
use Rattle.std.proofs.lemmas.List.{drop_more}
use Rattle.netlist_rules.specs.ModelFaults.{unless_named}
use Rattle.model_words.specs.Words.{word_port, word_ports, earliest_word, earliest_after}
use Rattle.net_faults.proofs.Passing.{no_word, offered_if}
use Rattle.model_words.proofs.OfferedWords.{put_in_front}
use Rattle.net_faults.proofs.undriven_nets.offer_unnamed.Goals as goal
use Rattle.net_faults.proofs.undriven_nets.offer_unnamed.Goals.{then-not-has_name, else-not-has_name}

pub loop-word-preserved : goal.loop-word-preserved
loop-word-preserved c = λ ports knows.
    let words = c.args.words.now in
    let i = c.loop-word.word-index in
    let p = word_port (get_or words i no_word.word) in
    let rest = filter_map (unless_named ports) (word_ports (drop (i + 1) words)) in
    let found = earliest_word c.loop-word.earliest in
    let offered = earliest_after found (p ∷ []) in
    let named = c.has_name.result in
    let within : i < length words = omega arith in
    let chosen : earliest_word c.if-not-has_name.earliest ≡ cond (not named) offered found = elim c.if-not-has_name.branch [
      | then-not-has_name w ↦ ap earliest_word w.earliest-is ∙ w.offer.ensures ∙ sym (cond-true (not named) offered found (not_from_false named w.if-not-has_name.true))
      | else-not-has_name w ↦ ap earliest_word w.earliest-is ∙ sym (cond-false (not named) offered found (not_from_true named w.if-not-has_name.false))
    ] in
    offered_if (not named) found (earliest_word c.if-not-has_name.earliest) p rest chosen
    ∙ ap (λ t. earliest_after found (option_to_list (then_some (not t) p) ++ rest)) (c.has_name.ensures ports knows)
    ∙ ap (earliest_after found) (put_in_front (unless_named ports p) rest)
    ∙ ap (λ ws. earliest_after found (filter_map (unless_named ports) (word_ports ws))) (sym (drop_more words i no_word.word within))
    ∙ c.loop-word.invariant ports knows
