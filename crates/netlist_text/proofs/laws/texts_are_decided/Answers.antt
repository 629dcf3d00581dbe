use Rattle.netlist_text.proofs.Decided.{texts_are_decided}
use Rattle.netlist_text.proofs.laws.texts_are_decided.Goals as goal

pub returns : goal.returns
returns c = texts_are_decided
