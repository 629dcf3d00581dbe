use Rattle.std.proofs.Common.{◌≡◌, sym, ◌∙◌, ap, subst, Bool, List, [], length, arith}
use Rattle.std.proofs.lemmas.Result.{err_from_is_err_and}
use Rattle.std.specs.Prelude.{All}
use Rattle.std.proofs.lemmas.List.{length-map}
use Rattle.ww_rule.specs.Grid.{Grid}
use Rattle.plan_layout.specs.Starts.{start_edges}
use Rattle.latch_loops.proofs.Cells.{padding_keeps_cells}
use Rattle.pattern_writing.specs.WrittenText.{pattern_text}
use Rattle.carries.specs.FlatContexts.{CarriesFlatContexts}
use Rattle.plan_carries.proofs.Bare.{bare_grid}
use Rattle.plan_carries.proofs.Written.{plans_have_ports, texts_carry_contexts}
use Rattle.netlist_plans.specs.Contexts.{loop_starting_bits, IsPaddedFor, StartsLoops}
use Rattle.netlist_plans.proofs.Compiled.{compiled}
use Rattle.netlist_plans.proofs.Several.{loops_are, loops_long, contexts_fit, few_columns, padded_places}
use Rattle.netlist_plans.proofs.contexts.plan_contexts.Goals as goal

pub start_contexts-requires-clause-fit : goal.start_contexts-requires-clause-fit
start_contexts-requires-clause-fit c =
    let many : length c.deref.result.now ≡ length c.args.starts.now = ap length (c.deref.ensures.value ∙ c.in-Ok.ensures) ∙ length-map c.args.starts.now (loop_starting_bits c.args.plan) in
    omega (arith, many, contexts_fit c.args.plan (length c.args.starts.now) c.requires.starts.fit)

pub start_contexts-requires-clause-long : goal.start_contexts-requires-clause-long
start_contexts-requires-clause-long c =
    subst (λ (all : List (List Bool)). All (λ bits. length bits ≡ c.args.plan.latches) all) (sym (c.deref.ensures.value ∙ c.in-Ok.ensures))
    (loops_long c.args.flat.now c.args.plan c.requires.weighed c.requires.planned c.args.starts.now c.requires.starts.long)

pub start_contexts-requires-clause-few : goal.start_contexts-requires-clause-few
start_contexts-requires-clause-few c more = few_columns c.args.flat.now c.args.plan c.requires.weighed c.requires.small c.requires.planned

pub of_plan-requires-clause-in_range : goal.of_plan-requires-clause-in_range
of_plan-requires-clause-in_range c = c.requires.compilable.1.sound.in_range

pub of_plan-requires-clause-ports : goal.of_plan-requires-clause-ports
of_plan-requires-clause-ports c =
    let k = c.requires.planned in
    plans_have_ports c.args.flat.now k.list c.in_ok-plan.plan k.computes
    (padding_keeps_cells k.list _ c.args.plan c.in_ok-plan.plan c.in_ok-plan.ensures.padded c.in_ok-plan.ensures.same k.is.computes)

pub returns-in_err-plan : goal.returns-in_err-plan
returns-in_err-plan c =
    let p = (err_from_is_err_and c.from_residual.result c.from_residual.ensures.1).1 in
    record { admissible = rw p tt; edges = rw p tt; bare = rw p tt; padded = rw p tt; starts = rw p tt; table = rw p tt; carries = rw p tt; places = rw p tt }

pub returns-clause-bare : goal.returns-clause-bare
returns-clause-bare c = c.in_ok-plan.ensures.padded.tape ∙ c.requires.planned.is.bare

pub returns-clause-padded : goal.returns-clause-padded
returns-clause-padded c =
    let many : length c.deref.result.now ≡ length c.args.starts.now = ap length (c.deref.ensures.value ∙ c.in-Ok.ensures) ∙ length-map c.args.starts.now (loop_starting_bits c.args.plan) in
    subst (λ n. IsPaddedFor n c.args.plan c.in_ok-plan.plan) many c.in_ok-plan.ensures.padded

pub returns-clause-starts : goal.returns-clause-starts
returns-clause-starts c =
    subst (StartsLoops c.in_ok-plan.plan) (c.deref.ensures.value ∙ c.in-Ok.ensures) c.in_ok-plan.ensures.contexts

pub returns-clause-carries : goal.returns-clause-carries
returns-clause-carries c =
    let k = c.requires.planned in
    let plan = c.in_ok-plan.plan in
    let is = c.deref.ensures.value ∙ c.in-Ok.ensures ∙ loops_are c.args.flat.now c.args.plan c.requires.weighed k c.args.starts.now c.requires.starts.long in
    let bare : plan.tape ≡ [] = c.in_ok-plan.ensures.padded.tape ∙ k.is.bare in
    subst (λ (grid : Grid). CarriesFlatContexts (pattern_text grid c.in-Ok-of_plan.ports) c.args.flat.now c.args.starts.now) (sym (bare_grid plan bare))
    (texts_carry_contexts c.args.flat.now k.list plan c.in-Ok-of_plan.ports c.args.starts.now c.requires.starts.some
    (compiled c.args.flat.now c.requires.compilable.0 k.list plan (length c.args.starts.now) c.in-Ok-of_plan.ports c.requires.compilable.1 k.computes c.in_ok-plan.ensures.admissible bare
    (padding_keeps_cells k.list _ c.args.plan plan c.in_ok-plan.ensures.padded c.in_ok-plan.ensures.same k.is.computes) c.in-Ok-of_plan.ensures)
    (start_edges plan) (record {
      long = c.requires.starts.long;
      on_plan = subst (StartsLoops plan) is c.in_ok-plan.ensures.contexts;
    }))

pub returns-clause-places : goal.returns-clause-places
returns-clause-places c = padded_places c.args.flat.now c.args.plan c.in_ok-plan.plan _ c.requires.planned c.in_ok-plan.ensures.padded
