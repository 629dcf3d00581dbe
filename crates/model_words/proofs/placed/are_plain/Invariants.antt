use Rattle.std.proofs.Common.{take}
use Rattle.model_words.specs.Placed.{ArePlain}
use Rattle.model_words.proofs.placed.are_plain.Given as goal

abbrev pub invariant-loop-model : goal.invariant-loop-model
invariant-loop-model l = ArePlain (take l.model-index l.models)
