use Rattle.std.proofs.Common.{◌≡◌, ◌++◌, flat_map, take}
use Rattle.netlist_meaning.specs.InOrder.{latch_words}
use Rattle.design_walks.specs.Words.{as_ports}
use Rattle.design_walks.proofs.words.push_latches.Given as goal

abbrev pub invariant-loop-latch : goal.invariant-loop-latch
invariant-loop-latch l = as_ports l.words.items ≡ as_ports l.initial.words.items ++ flat_map latch_words (take l.latch-index l.latches)
