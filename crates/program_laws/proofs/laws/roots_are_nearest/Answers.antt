use Rattle.flat_designs.proofs.Classes.{firsts_are_roots}
use Rattle.netlist_meaning.proofs.Roots.{roots_are_nearest}
use Rattle.program_laws.proofs.laws.roots_are_nearest.Goals as goal

pub returns-clause-nearest : goal.returns-clause-nearest
returns-clause-nearest c = roots_are_nearest

pub returns-clause-firsts : goal.returns-clause-firsts
returns-clause-firsts c = firsts_are_roots
