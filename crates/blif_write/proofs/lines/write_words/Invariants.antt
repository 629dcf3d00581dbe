use Rattle.std.proofs.Common.{ℕ, List, ◌++◌, drop}
use Rattle.ww_base.specs.Pages.{held}
use Rattle.ww_base.specs.Progress.{Wrote}
use Rattle.blif_write.specs.Words.{words_after_spaces, word_in}
use Rattle.blif_write.proofs.lines.write_words.Given as goal

abbrev pub invariant-loop-word : goal.invariant-loop-word
invariant-loop-word g l = (rest : List ℕ) →
    Wrote (g.O.Sink.written l.initial.sink) (g.O.Sink.written l.sink) (g.O.Sink.faults l.initial.sink) (g.O.Sink.faults l.sink)
    (held l.initial.page ++ (words_after_spaces (word_in l.lift) l.words ++ rest)) (held l.page ++ (words_after_spaces (word_in l.lift) (drop l.word-index l.words) ++ rest))
