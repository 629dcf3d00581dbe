use Rattle.std.proofs.Common.{rules, length}
use Rattle.lane_core.specs.declared.plan.Plan.{Plan}
use Rattle.latch_loops.specs.Closed.{contexts_size}
use Rattle.latch_loops.specs.Padded.{IsPaddedPlan}
use Rattle.latch_loops.proofs.PaddedPlans.{padded_admissible, does_as_plan}
use Rattle.latch_loops.proofs.starting.start_contexts.Goals as goal

pub starts_of-requires-clause-admissible : goal.starts_of-requires-clause-admissible
starts_of-requires-clause-admissible c =
    let padded : Plan = record { lanes = c.args.plan.lanes; columns = c.of.result; latches = c.args.plan.latches; starts = c.args.plan.starts; ins = c.args.plan.ins; outs = c.args.plan.outs; nets = c.args.plan.nets; tape = c.args.plan.tape } in
    let p : IsPaddedPlan (contexts_size c.args.plan.latches (length c.args.starts.now)) c.args.plan padded = search rules in
    padded_admissible c.args.plan padded (length c.args.starts.now) c.requires.few c.requires.fit c.requires.admissible p

pub returns-clause-admissible : goal.returns-clause-admissible
returns-clause-admissible c =
    let padded : Plan = record { lanes = c.args.plan.lanes; columns = c.of.result; latches = c.args.plan.latches; starts = c.in_ok-plan.field-0; ins = c.args.plan.ins; outs = c.args.plan.outs; nets = c.args.plan.nets; tape = c.args.plan.tape } in
    let p : IsPaddedPlan (contexts_size c.args.plan.latches (length c.args.starts.now)) c.args.plan padded = search rules in
    padded_admissible c.args.plan padded (length c.args.starts.now) c.requires.few c.requires.fit c.requires.admissible p

pub returns-clause-same : goal.returns-clause-same
returns-clause-same c =
    let padded : Plan = record { lanes = c.args.plan.lanes; columns = c.of.result; latches = c.args.plan.latches; starts = c.in_ok-plan.field-0; ins = c.args.plan.ins; outs = c.args.plan.outs; nets = c.args.plan.nets; tape = c.args.plan.tape } in
    let p : IsPaddedPlan (contexts_size c.args.plan.latches (length c.args.starts.now)) c.args.plan padded = search rules in
    does_as_plan (contexts_size c.args.plan.latches (length c.args.starts.now)) c.args.plan padded c.requires.admissible p
