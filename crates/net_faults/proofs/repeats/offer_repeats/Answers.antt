use Rattle.std.proofs.Common.{◌≡◌, ap, sym, ◌∙◌, [], ◌∷◌, ◌++◌, get_or, cond, arith, ◌<◌, length}
use Rattle.std.specs.Prelude.{option_to_list}
use Rattle.std.specs.Bool.{then_some}
use Rattle.std.proofs.lemmas.Bool.{cond-true, cond-false}
use Rattle.netlist_rules.specs.Drivers.{repeats_after}
use Rattle.model_words.specs.Words.{earliest_word, earliest_after}
use Rattle.net_faults.specs.Numbering.{numbered_port}
use Rattle.net_faults.proofs.Passing.{no_word, left_after, offered_if}
use Rattle.net_faults.proofs.repeats.offer_repeats.Goals as goal
use Rattle.net_faults.proofs.repeats.offer_repeats.Goals.{then-pass, else-pass}

pub loop-word-preserved : goal.loop-word-preserved
loop-word-preserved c =
    let names = c.args.names.now in
    let p = numbered_port (get_or c.args.words.now c.loop-word.word-index no_word) in
    let found = earliest_word c.loop-word.earliest in
    let within : c.loop-word.word-index < length c.args.words.now = omega arith in
    let is = c.requires c.loop-word.word-index no_word within in
    let chosen : earliest_word c.if-pass.earliest ≡ cond c.pass.result (earliest_after found (p ∷ [])) found = elim c.if-pass.branch [
      | then-pass w ↦ ap earliest_word w.earliest-is ∙ w.offer.ensures ∙ sym (cond-true c.pass.result (earliest_after found (p ∷ [])) found w.if-pass.true)
      | else-pass w ↦ ap earliest_word w.earliest-is ∙ sym (cond-false c.pass.result (earliest_after found (p ∷ [])) found w.if-pass.false)
    ] in
    left_after c.args.names.now c.loop-word.repeats c.pass.new.self c.args.words.now (λ before left. earliest_after found (repeats_after before left)) (λ before left. earliest_after (earliest_word c.if-pass.earliest) (repeats_after before left)) _ c.loop-word.word-index within
    (λ before after at. c.pass.ensures.passed names before after is at)
    (λ before after at. offered_if c.pass.result found (earliest_word c.if-pass.earliest) p (repeats_after (p ∷ before) after) chosen
    ∙ ap (λ t. earliest_after found (option_to_list (then_some t p) ++ repeats_after (p ∷ before) after)) (c.pass.ensures.told names before after is at))
    c.loop-word.invariant
