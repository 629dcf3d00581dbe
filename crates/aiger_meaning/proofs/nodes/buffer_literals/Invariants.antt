use Rattle.std.proofs.Common.{◌≡◌, map, take}
use Rattle.aiger_text.specs.declared.aig.AigLatch.{AigLatch}
use Rattle.aiger_meaning.proofs.nodes.buffer_literals.Given as goal

abbrev pub invariant-loop-latch : goal.invariant-loop-latch
invariant-loop-latch l = l.lits.items ≡ map (λ (latch : AigLatch). latch.next) (take l.latch-index l.aig.latches)
