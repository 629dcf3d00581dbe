use Rattle.design_walks.proofs.Positioned.{names_more}
use Rattle.design_walks.proofs.names.first_names.Goals as goal

pub loop-word-preserved : goal.loop-word-preserved
loop-word-preserved c = record {
  names = names_more c.args.words.now c.loop-word.word-index _ _ _ c.loop-word-test.true c.loop-word.invariant.names c.in_ok-insert.ensures.keys;
}
