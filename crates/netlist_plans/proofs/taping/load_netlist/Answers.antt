use Rattle.std.proofs.Common.{◌≡◌, sym, ◌∙◌, ap, subst, Bool, List, length}
use Rattle.std.proofs.lemmas.Result.{err_from_is_err_and}
use Rattle.lane_core.specs.declared.plan.Plan.{Plan}
use Rattle.lane_core.specs.Tape.{AreTapeLists}
use Rattle.grid_assembly.specs.PlanDrawing.{start_grid}
use Rattle.pattern_writing.specs.WrittenText.{pattern_text}
use Rattle.carries.specs.ByItself.{RunsByItselfFlat}
use Rattle.carries.proofs.ByItself.{zeros_change_nothing}
use Rattle.plan_layout.specs.Starts.{HasStartEdges}
use Rattle.streams.specs.Rows.{rows_of}
use Rattle.plan_ports.specs.Tables.{HasPortsOf, IsTableOf}
use Rattle.plan_waves.specs.Loaded.{with_tape}
use Rattle.plan_carries.proofs.Carried.{starts_as_flat}
use Rattle.plan_carries.proofs.Tapes.{tapes_run_by_themselves}
use Rattle.netlist_plans.specs.Planned.{IsSmall}
use Rattle.netlist_plans.proofs.Compiled.{planned_compiled, planned_ports, planned_table}
use Rattle.netlist_plans.proofs.Tapes.{are_lists, runs_on_streams, small_with_tape, ports_with_tape}
use Rattle.netlist_plans.proofs.taping.load_netlist.Goals as goal

pub load-requires-clause-each_input : goal.load-requires-clause-each_input
load-requires-clause-each_input c =
    ap length c.as_slice.ensures ∙ c.requires.many ∙ sym (planned_ports c.args.flat.now c.args.plan c.requires.planned).ins

pub load-requires-clause-lists : goal.load-requires-clause-lists
load-requires-clause-lists c =
    subst AreTapeLists (sym c.as_slice.ensures) (are_lists c.args.streams.now.bits c.args.streams.now.cycles c.requires.some c.requires.few c.requires.long)

pub of_plan-requires-clause-in_range : goal.of_plan-requires-clause-in_range
of_plan-requires-clause-in_range c = c.requires.compilable.1.sound.in_range

pub of_plan-requires-clause-ports : goal.of_plan-requires-clause-ports
of_plan-requires-clause-ports c =
    subst (HasPortsOf c.args.flat.now) (sym c.in_ok-plan.ensures.loaded)
    (ports_with_tape c.args.flat.now c.args.plan c.as_slice.result.now (planned_ports c.args.flat.now c.args.plan c.requires.planned))

pub returns-in_err-plan : goal.returns-in_err-plan
returns-in_err-plan c =
    let p = (err_from_is_err_and c.from_residual.result c.from_residual.ensures.1).1 in
    record { admissible = rw p tt; edges = rw p tt; loaded = rw p tt; table = rw p tt; small = λ s. rw p tt; runs = rw p tt }

pub returns-clause-edges : goal.returns-clause-edges
returns-clause-edges c = subst HasStartEdges (sym c.in_ok-plan.ensures.loaded) c.requires.planned.is.edges

pub returns-clause-loaded : goal.returns-clause-loaded
returns-clause-loaded c = c.in_ok-plan.ensures.loaded ∙ ap (λ (bits : List (List Bool)). with_tape bits c.args.plan) c.as_slice.ensures

pub returns-clause-small : goal.returns-clause-small
returns-clause-small c small = subst (IsSmall c.args.flat.now) (sym c.in_ok-plan.ensures.loaded) (small_with_tape c.args.flat.now c.args.plan c.as_slice.result.now small)

pub returns-clause-runs : goal.returns-clause-runs
returns-clause-runs c =
    let flat = c.args.flat.now in
    let plan = c.args.plan in
    let streams = c.args.streams.now in
    let p = c.requires.planned in
    let ports = c.in-Ok.ports in
    let is : c.in_ok-plan.plan ≡ with_tape streams.bits plan = c.in_ok-plan.ensures.loaded ∙ ap (λ (bits : List (List Bool)). with_tape bits plan) c.as_slice.ensures in
    let many = planned_ports flat plan p in
    let own = planned_table flat plan p in
    subst (λ (loaded : Plan). RunsByItselfFlat (pattern_text (start_grid loaded) ports) flat (rows_of streams)) (sym is)
    (runs_on_streams (pattern_text (start_grid (with_tape streams.bits plan)) ports) flat plan streams zeros_change_nothing c.requires.many c.requires.long
    (tapes_run_by_themselves flat p.list plan own.0 (planned_compiled flat c.requires.compilable.0 plan own.0 c.requires.compilable.1 p own.1) (starts_as_flat flat p.list plan p.computes p.is.starts) p.is.edges streams.bits
    (c.requires.many ∙ sym many.ins) (are_lists streams.bits streams.cycles c.requires.some c.requires.few c.requires.long)
    ports (subst (λ (loaded : Plan). IsTableOf flat loaded 1 ports) is c.in-Ok.ensures)))
