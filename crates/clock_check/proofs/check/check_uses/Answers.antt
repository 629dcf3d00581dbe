use Rattle.std.proofs.Common.{sym, ap, ◌∙◌, subst, None}
use Rattle.netlist_core.specs.Names.{Name}
use Rattle.netlist_core.specs.declared.flat.Flat.{Flat}
use Rattle.netlist_rules.specs.FlatClocks.{IsFlatClockRead, clock_read}
use Rattle.clock_check.specs.Uses.{flat_uses, earliest_among}
use Rattle.clock_check.proofs.Faults.{told_fault, first_is_net, read_is, none_is_read}
use Rattle.clock_check.proofs.check.check_uses.Goals as goal

pub returns-in-None-clause-unused : goal.returns-in-None-clause-unused
returns-in-None-clause-unused c = none_is_read c.args.flat.now (ap (λ (flat : Flat). earliest_among flat None (flat_uses flat)) (sym c.in_ok-clocks.ensures) ∙ sym c.in-None.ensures)

pub name_of_net-requires : goal.name_of_net-requires
name_of_net-requires c = first_is_net c.args.flat.now c.in-Some.first c.requires.in_range (ap (λ (flat : Flat). earliest_among flat None (flat_uses flat)) (sym c.in_ok-clocks.ensures) ∙ sym c.in-Some.ensures)

pub returns-clause-fault : goal.returns-clause-fault
returns-clause-fault c = λ fault e.
    told_fault c.args.flat.now c.at_word.result _ fault c.at_word.ensures e
    (clock_read c.requires.one_clock (subst (λ (word : Name). IsFlatClockRead c.args.flat.now c.in-Some.first.line word) (sym c.in_ok-word-in-Some.ensures)
    (read_is c.args.flat.now c.in-Some.first (ap (λ (flat : Flat). earliest_among flat None (flat_uses flat)) (sym c.in_ok-clocks.ensures) ∙ sym c.in-Some.ensures))))
