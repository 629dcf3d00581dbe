use Rattle.std.proofs.Common.{subst}
use Rattle.netlist_text.specs.Causes.{HasNetlistCause}
use Rattle.netlist_text.proofs.Decided.{texts_are_decided}
use Rattle.made_summary.proofs.plans.netlist_in.Goals as goal

pub unreachable-requires : goal.unreachable-requires
unreachable-requires c =
    (texts_are_decided c.args.text.now).not_at_fault c.requires.0 _ c.requires.1 (subst (HasNetlistCause c.args.text.now) c.in-Err-Fault.field-0-is c.in-Err-Fault.ensures.refused)

pub unreachable-requires-in-Err-TooLarge : goal.unreachable-requires-in-Err-TooLarge
unreachable-requires-in-Err-TooLarge c =
    (texts_are_decided c.args.text.now).not_heavy c.requires.0 _ c.requires.1 (subst (HasNetlistCause c.args.text.now) c.in-Err-TooLarge.field-0-is c.in-Err-TooLarge.ensures.refused)

pub unreachable-requires-in-Err-Loop : goal.unreachable-requires-in-Err-Loop
unreachable-requires-in-Err-Loop c =
    (texts_are_decided c.args.text.now).not_a_loop c.requires.0 _ c.requires.1 (subst (HasNetlistCause c.args.text.now) c.in-Err-Loop.field-0-is c.in-Err-Loop.ensures.refused)
