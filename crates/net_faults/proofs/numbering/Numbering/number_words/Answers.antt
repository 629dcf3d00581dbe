use Rattle.std.proofs.Common.{get_or, refl, arith}
use Rattle.net_faults.specs.declared.numbering.NumberedWord.{NumberedWord}
use Rattle.net_faults.proofs.Numbers.{keeps_more, numbered_more, ports_more}
use Rattle.net_faults.proofs.Passing.{no_word}
use Rattle.net_faults.proofs.numbering.Numbering.number_words.Goals as goal

pub loop-word-preserved : goal.loop-word-preserved
loop-word-preserved c =
    let word = get_or c.args.words.now c.loop-word.word-index no_word.word in
    let more : NumberedWord = record { word = word; number = c.in_ok-number.number } in
    let was = c.loop-word.invariant in
    record {
      words = ports_more c.args.words.now c.loop-word.word-index c.loop-word.numbered.items c.push.new.self.items more no_word.word (omega arith) refl c.in_ok-push.ensures.items was.words;
      numbers = numbered_more c.loop-word.self c.number.new.self c.loop-word.numbered.items c.push.new.self.items more c.in_ok-push.ensures.items c.in_ok-number.ensures.numbering c.in_ok-number.ensures.keeps c.in_ok-number.ensures.number was.numbers;
      numbering = c.in_ok-number.ensures.numbering;
      keeps = keeps_more c.args.self.now c.loop-word.self c.number.new.self was.keeps c.in_ok-number.ensures.keeps;
    }
