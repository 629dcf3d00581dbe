use Rattle.std.proofs.Common.{get_or, subst, sym, take, arith}
use Rattle.std.proofs.lemmas.List.{map_more}
use Rattle.net_faults.specs.Numbering.{numbered_port, numbered_ports}
use Rattle.net_faults.specs.FirstLines.{AreFirstLines}
use Rattle.net_faults.proofs.NamedLines.{turned}
use Rattle.net_faults.proofs.Passing.{no_word}
use Rattle.net_faults.proofs.first_lines.FirstLines.of.Goals as goal

pub loop-word-preserved : goal.loop-word-preserved
loop-word-preserved c =
    let names = c.args.names.now in
    let words = c.args.words.now in
    let i = c.loop-word.word-index in
    let word = get_or words i no_word in
    let before = numbered_ports (take i words) in
    subst (AreFirstLines names c.insert.new.self) (sym (map_more numbered_port words i no_word (omega arith)))
    (turned names c.insert.new.self (numbered_port word) before (c.insert.ensures.added names before (c.requires i no_word (omega arith)) c.loop-word.invariant))
