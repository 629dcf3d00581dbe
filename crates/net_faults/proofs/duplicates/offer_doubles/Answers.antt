use Rattle.std.proofs.Common.{◌≡◌, ap, sym, ◌∙◌, [], ◌∷◌, ◌++◌, get_or, cond, arith, ◌<◌, length, true, false, ◌||◌}
use Rattle.std.specs.Prelude.{option_to_list}
use Rattle.std.specs.Bool.{then_some}
use Rattle.std.proofs.lemmas.Bool.{cond-true, cond-false, or_left, or_right, or_from}
use Rattle.netlist_rules.specs.ModelFaults.{doubles_after}
use Rattle.model_words.specs.Words.{earliest_word, earliest_after}
use Rattle.net_faults.specs.Numbering.{numbered_port}
use Rattle.net_faults.specs.Elsewhere.{stands_elsewhere}
use Rattle.net_faults.proofs.Passing.{no_word, left_after, offered_if}
use Rattle.net_faults.proofs.duplicates.offer_doubles.Goals as goal
use Rattle.net_faults.proofs.duplicates.offer_doubles.Goals.{then-pass, then-pass-via-then-pass, then-pass-via-else-pass+then-stands_elsewhere, else-pass+else-stands_elsewhere}

pub loop-word-preserved : goal.loop-word-preserved
loop-word-preserved c = λ others knows.
    let names = c.args.names.now in
    let p = numbered_port (get_or c.args.words.now c.loop-word.word-index no_word) in
    let found = earliest_word c.loop-word.earliest in
    let offered = earliest_after found (p ∷ []) in
    let repeat = c.pass.result in
    let test = stands_elsewhere c.args.elsewhere others in
    let within : c.loop-word.word-index < length c.args.words.now = omega arith in
    let is = c.requires c.loop-word.word-index no_word within in
    let chosen : earliest_word c.if-pass.earliest ≡ cond (repeat || test p) offered found = elim c.if-pass.branch [
      | then-pass w ↦
          let passes : (repeat || test p) ≡ true = elim w.then-pass.branch [
            | then-pass-via-then-pass v ↦ or_left repeat (test p) v.if-pass.true
            | then-pass-via-else-pass+then-stands_elsewhere v ↦ or_right repeat (test p) (sym (v.stands_elsewhere.ensures names others is knows) ∙ v.if-stands_elsewhere.true)
          ] in
          ap earliest_word w.earliest-is ∙ w.offer.ensures ∙ sym (cond-true (repeat || test p) offered found passes)
      | else-pass+else-stands_elsewhere w ↦
          let fails : (repeat || test p) ≡ false = or_from repeat (test p) w.if-pass.false (sym (w.stands_elsewhere.ensures names others is knows) ∙ w.if-stands_elsewhere.false) in
          ap earliest_word w.earliest-is ∙ sym (cond-false (repeat || test p) offered found fails)
    ] in
    left_after c.args.names.now c.loop-word.repeats c.pass.new.self c.args.words.now (λ before left. earliest_after found (doubles_after test before left)) (λ before left. earliest_after (earliest_word c.if-pass.earliest) (doubles_after test before left)) _ c.loop-word.word-index within
    (λ before after at. c.pass.ensures.passed names before after is at)
    (λ before after at. offered_if (repeat || test p) found (earliest_word c.if-pass.earliest) p (doubles_after test (p ∷ before) after) chosen
    ∙ ap (λ t. earliest_after found (option_to_list (then_some (t || test p) p) ++ doubles_after test (p ∷ before) after)) (c.pass.ensures.told names before after is at))
    (c.loop-word.invariant others knows)
