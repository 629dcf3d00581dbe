use Rattle.std.proofs.Common.{◌∙◌}
use Rattle.streams.proofs.GivenWords.{name_more}
use Rattle.streams.proofs.stream_words.known_names.Goals as goal

pub loop-name-preserved : goal.loop-name-preserved
loop-name-preserved c =
    name_more c.loop-name.known c.insert.new.self c.as_slice.result c.args.names.now c.loop-name.name-index c.name-item.result c.loop-name-test.true (c.as_slice.ensures ∙ c.name-item.is) c.loop-name.invariant c.in_ok-insert.ensures.updates
