use Rattle.ww_rule.proofs.Streams.{streams_injected}
use Rattle.ww_rule.proofs.laws.streams_are_injected.Goals as goal

pub returns : goal.returns
returns c = streams_injected
