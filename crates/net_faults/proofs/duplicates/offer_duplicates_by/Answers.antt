use Rattle.std.proofs.Common.{◌≡◌, ap, ◌∙◌, [], ◌++◌}
use Rattle.netlist_rules.specs.ModelFaults.{doubles_after, is_output_before, is_input_by_then}
use Rattle.model_words.specs.Words.{earliest_word, earliest_after}
use Rattle.net_faults.specs.Numbering.{numbered_ports}
use Rattle.net_faults.proofs.Passing.{offered_thrice}
use Rattle.net_faults.proofs.Numbers.{ports_in_back, ports_in_front}
use Rattle.net_faults.proofs.duplicates.offer_duplicates_by.Goals as goal

pub returns : goal.returns
returns c =
    let m = c.args.model.now in
    let words = c.args.words.now in
    let ports = c.requires.ports in
    let all : numbered_ports c.deref.result.now ≡ m.ins ++ m.clocks = ap numbered_ports c.deref.ensures.value ∙ ports.inputs in
    let ins : numbered_ports c.split_at.result.0.now ≡ m.ins = ports_in_front c.deref.result.now m.ins m.clocks c.len.result c.split_at.result.0.now all c.len.ensures c.split_at.ensures.front in
    let clocks : numbered_ports c.split_at.result.1.now ≡ m.clocks = ports_in_back c.deref.result.now m.ins m.clocks c.len.result c.split_at.result.1.now all c.len.ensures c.split_at.ensures.back in
    let outs : numbered_ports c.deref-2.result.now ≡ m.outs = ap numbered_ports c.deref-2.ensures.value ∙ ports.outputs in
    let start = earliest_word c.args.earliest.now in
    let first = earliest_word c.offer_doubles.new.earliest in
    let second = earliest_word c.offer_doubles-2.new.earliest in
    offered_thrice start first second (earliest_word c.offer_doubles-3.new.earliest)
    (doubles_after (is_output_before m) [] m.ins)
    (doubles_after (is_output_before m) [] m.clocks)
    (doubles_after (is_input_by_then m) [] m.outs)
    (c.in_ok-offer_doubles.ensures m.outs c.requires.outputs ∙ ap (λ ps. earliest_after start (doubles_after (is_output_before m) [] ps)) ins)
    (c.in_ok-offer_doubles-2.ensures m.outs c.requires.outputs ∙ ap (λ ps. earliest_after first (doubles_after (is_output_before m) [] ps)) clocks)
    (c.in_ok-offer_doubles-3.ensures (m.ins ++ m.clocks) c.requires.inputs ∙ ap (λ ps. earliest_after second (doubles_after (is_input_by_then m) [] ps)) outs)
