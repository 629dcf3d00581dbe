use Rattle.std.proofs.Common.{drop}
use Rattle.aiger_meaning.specs.NetIndex.{HasNetsFrom}
use Rattle.aiger_meaning.proofs.literals.positions_of.Given as goal

abbrev pub invariant-loop-net : goal.invariant-loop-net
invariant-loop-net l = HasNetsFrom l.nets l.net (drop l.net l.literals)
