use Rattle.std.proofs.Common.{◌≡◌, take}
use Rattle.model_words.specs.Words.{word_ports}
use Rattle.net_faults.specs.Numbering.{AreNumbered, IsNumbering, KeepsNumbers, numbered_ports}
use Rattle.net_faults.proofs.numbering.Numbering.number_words.Given as goal

abbrev pub invariant-loop-word : goal.invariant-loop-word
invariant-loop-word l = record {
  words : numbered_ports l.numbered.items ≡ word_ports (take l.word-index l.words);
  numbers : AreNumbered l.self l.numbered.items;
  numbering : IsNumbering l.self;
  keeps : KeepsNumbers l.initial.self l.self;
}
