use Rattle.std.proofs.Common.{take}
use Rattle.std.specs.List.{AllZip}
use Rattle.model_words.specs.Placed.{AreNamesOfPorts}
use Rattle.model_words.proofs.placed.ports_of.Given as goal

abbrev pub invariant-loop-model : goal.invariant-loop-model
invariant-loop-model l = AllZip AreNamesOfPorts l.ports.items (take l.model-index l.models)
