use Rattle.std.proofs.Common.{◌≡◌, ap, subst, sym, ◌∙◌, [], ◌∷◌, ◌++◌, get_or, cond, not, arith, ◌<◌, length}
use Rattle.std.specs.Prelude.{option_to_list}
use Rattle.std.specs.Bool.{then_some}
use Rattle.std.proofs.lemmas.Bool.{cond-true, cond-false}
use Rattle.std.proofs.lemmas.List.{map_push}
use Rattle.std.proofs.lemmas.List.Elements.{All-push}
use Rattle.netlist_rules.specs.Drivers.{firsts_after}
use Rattle.net_faults.specs.Numbering.{AreNumbered, IsNumbered, numbered_port, numbered_ports}
use Rattle.net_faults.proofs.Passing.{no_word, left_after, kept_unless}
use Rattle.net_faults.proofs.repeats.firsts.Goals as goal
use Rattle.net_faults.proofs.repeats.firsts.Goals.{then-not-pass+in_ok-push, else-not-pass}

pub loop-word-preserved : goal.loop-word-preserved
loop-word-preserved c =
    let names = c.args.names.now in
    let word = get_or c.args.words.now c.loop-word.word-index no_word in
    let p = numbered_port word in
    let kept = numbered_ports c.loop-word.found.items in
    let within : c.loop-word.word-index < length c.args.words.now = omega arith in
    let is = c.requires c.loop-word.word-index no_word within in
    let chosen : numbered_ports c.if-not-pass.found.items ≡ cond c.pass.result kept (kept ++ p ∷ []) = elim c.if-not-pass.branch [
      | then-not-pass+in_ok-push w ↦
          ap (λ (v : _). numbered_ports v.items) w.found-is ∙ ap numbered_ports w.in_ok-push.ensures.items ∙ map_push numbered_port c.loop-word.found.items word ∙ sym (cond-false c.pass.result kept (kept ++ p ∷ []) w.if-not-pass.true)
      | else-not-pass w ↦ ap (λ (v : _). numbered_ports v.items) w.found-is ∙ sym (cond-true c.pass.result kept (kept ++ p ∷ []) w.if-not-pass.false)
    ] in
    let numbers : AreNumbered names c.if-not-pass.found.items = elim c.if-not-pass.branch [
      | then-not-pass+in_ok-push w ↦
          subst (λ (v : _). AreNumbered names v.items) (sym w.found-is)
          (subst (AreNumbered names) (sym w.in_ok-push.ensures.items) (All-push (IsNumbered names) c.loop-word.found.items word c.loop-word.invariant.numbers is))
      | else-not-pass w ↦ subst (λ (v : _). AreNumbered names v.items) (sym w.found-is) c.loop-word.invariant.numbers
    ] in
    record {
      left = left_after c.args.names.now c.loop-word.repeats c.pass.new.self c.args.words.now (λ before left. kept ++ firsts_after before left) (λ before left. numbered_ports c.if-not-pass.found.items ++ firsts_after before left) _ c.loop-word.word-index within
          (λ before after at. c.pass.ensures.passed names before after is at)
          (λ before after at. kept_unless c.pass.result kept (numbered_ports c.if-not-pass.found.items) p (firsts_after (p ∷ before) after) chosen
          ∙ ap (λ t. kept ++ (option_to_list (then_some (not t) p) ++ firsts_after (p ∷ before) after)) (c.pass.ensures.told names before after is at))
          c.loop-word.invariant.left;
      numbers = numbers;
    }
