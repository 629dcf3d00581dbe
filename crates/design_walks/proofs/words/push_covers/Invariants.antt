use Rattle.std.proofs.Common.{◌≡◌, ◌++◌, flat_map, take}
use Rattle.netlist_meaning.specs.InOrder.{cover_words}
use Rattle.design_walks.specs.Words.{as_ports}
use Rattle.design_walks.proofs.words.push_covers.Given as goal

abbrev pub invariant-loop-cover : goal.invariant-loop-cover
invariant-loop-cover l = as_ports l.words.items ≡ as_ports l.initial.words.items ++ flat_map cover_words (take l.cover-index l.covers)
