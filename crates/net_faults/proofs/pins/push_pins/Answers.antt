use Rattle.std.proofs.Common.{◌≡◌, ◌++◌, ap, sym, ◌∙◌, arith, cond, [], ◌∷◌}
use Rattle.std.specs.Bool.{then_some}
use Rattle.std.proofs.lemmas.Bool.{cond-true, cond-false}
use Rattle.std.proofs.lemmas.List.{map_push}
use Rattle.netlist_core.specs.Names.{at_line}
use Rattle.netlist_rules.specs.Drivers.{actual_if}
use Rattle.model_words.specs.Words.{word_port, word_ports}
use Rattle.net_faults.specs.Pins.{is_pin_of}
use Rattle.net_faults.proofs.Pushed.{kept_more}
use Rattle.net_faults.proofs.pins.push_pins.Goals as goal
use Rattle.net_faults.proofs.pins.push_pins.Goals.{then-is_of_kind+in_ok-push, else-is_of_kind}

pub loop-pin-preserved : goal.loop-pin-preserved
loop-pin-preserved c = λ model placed.
    let pin = c.pin-item.result in
    let line = c.args.subckt.now.line in
    let p = at_line line pin.actual in
    let test = c.is_of_kind.result in
    let had = word_ports c.loop-pin.words.items in
    let chosen : word_ports c.if-is_of_kind.words.items ≡ cond test (had ++ p ∷ []) had = elim c.if-is_of_kind.branch [
      | then-is_of_kind+in_ok-push w ↦
          ap (λ (v : _). word_ports v.items) w.words-is
          ∙ ap word_ports w.in_ok-push.ensures.items
          ∙ map_push word_port c.loop-pin.words.items (record { line = line; name = w.as_slice.result })
          ∙ ap (λ name. had ++ at_line line name ∷ []) w.as_slice.ensures
          ∙ sym (cond-true test (had ++ p ∷ []) had w.if-is_of_kind.true)
      | else-is_of_kind w ↦ ap (λ (v : _). word_ports v.items) w.words-is ∙ sym (cond-false test (had ++ p ∷ []) had w.if-is_of_kind.false)
    ] in
    kept_more (actual_if (is_pin_of c.args.kind model) line) (word_ports c.args.words.now.items) had (word_ports c.if-is_of_kind.words.items) c.as_slice-pin-items.result.now c.loop-pin.pin-index pin test p (omega arith) c.pin-item.is
    (ap (λ t. then_some t p) (sym (c.is_of_kind.ensures model placed)))
    (c.loop-pin.invariant model placed)
    chosen
