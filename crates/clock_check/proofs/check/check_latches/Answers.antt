use Rattle.std.proofs.Common.{sym, subst}
use Rattle.netlist_core.specs.Names.{Name}
use Rattle.netlist_rules.specs.FlatClocks.{IsFlatTwoClocks, two_clocks}
use Rattle.clock_check.proofs.Faults.{told_fault}
use Rattle.clock_check.proofs.check.check_latches.Goals as goal

pub returns-in_ok-word-in-Some-clause-fault :
    goal.returns-in_ok-word-in-Some-clause-fault
returns-in_ok-word-in-Some-clause-fault c = λ fault e.
    told_fault c.args.flat.now c.at_word.result _ fault c.at_word.ensures e
    (two_clocks (subst (λ (word : Name). IsFlatTwoClocks c.args.flat.now c.in-Some.latch.line word) (sym c.in_ok-word-in-Some.ensures) c.in-Some.ensures.found))
