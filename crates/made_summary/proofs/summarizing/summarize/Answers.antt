use Rattle.std.proofs.Common.{ℕ, ◌<◌, ◌∙◌, refl, sym, ap, subst}
use Rattle.std.proofs.lemmas.Result.{err_from_is_err_and, IfErr-weaker, IfOk-weaker}
use Rattle.ww_rule.specs.Grid.{plane_of}
use Rattle.grid_assembly.specs.PlanDrawing.{start_grid}
use Rattle.netlist_meaning.specs.Places.{main_outputs}
use Rattle.streams.specs.declared.streams.Streams.{Streams}
use Rattle.drive.specs.Driving.{shown_bits}
use Rattle.shown_runs.proofs.Quiet.{one_context_is_quiet}
use Rattle.shown_runs.proofs.Shown.{carriers_show_runs}
use Rattle.made_summary.specs.Streams.{streams_after}
use Rattle.made_summary.proofs.Summarized.{streams_fit, streams_feed, is_quiet, not_run, shown_many, summarizes}
use Rattle.made_summary.proofs.summarizing.summarize.Goals as goal

pub plan_made-requires-clause-seed : goal.plan_made-requires-clause-seed
plan_made-requires-clause-seed c = c.requires.seed

pub plan_made-requires-clause-some_gate : goal.plan_made-requires-clause-some_gate
plan_made-requires-clause-some_gate c = c.requires.some_gate

pub plan_made-requires-clause-few_gates : goal.plan_made-requires-clause-few_gates
plan_made-requires-clause-few_gates c = c.requires.few_gates

pub draw_streams-requires : goal.draw_streams-requires
draw_streams-requires c = c.in_ok-netlist.ensures.range

pub told_by-summary-requires-clause-driven : goal.told_by-summary-requires-clause-driven
told_by-summary-requires-clause-driven c =
    let are = c.in-Ok.ensures ∙ ap (λ (s : ℕ). streams_after s c.args.cycles) c.in_ok-netlist.ensures.state in
    record {
      admissible = c.in_ok-netlist.ensures.plan.is_plan.admissible;
      cycles = subst (λ (s : Streams). 0 < s.cycles) (sym c.in-Ok.ensures) c.requires.some_cycle;
      fit = streams_fit c.args.seed c.args.size c.args.cycles c.in_ok-netlist.field-0.netlist c.in_ok-netlist.field-0.planned c.in-Ok.streams c.in_ok-netlist.ensures.plan are;
      in_box = c.in_ok-netlist.ensures.plan.reads.inside;
      quiet = is_quiet one_context_is_quiet c.args.seed c.args.size c.args.cycles c.in_ok-netlist.field-0.netlist c.in_ok-netlist.field-0.planned c.in-Ok.streams c.in_ok-netlist.ensures.plan are;
    }

pub told_by-summary-requires-clause-parts : goal.told_by-summary-requires-clause-parts
told_by-summary-requires-clause-parts c = c.in_ok-netlist.ensures.plan.parts

pub told_by-summary-requires-clause-many : goal.told_by-summary-requires-clause-many
told_by-summary-requires-clause-many c =
    let are = c.in-Ok.ensures ∙ ap (λ (s : ℕ). streams_after s c.args.cycles) c.in_ok-netlist.ensures.state in
    (streams_feed c.args.seed c.args.size c.args.cycles c.in_ok-netlist.field-0.netlist c.in_ok-netlist.field-0.planned c.in-Ok.streams c.in_ok-netlist.ensures.plan are).0

pub told_by-summary-requires-clause-long : goal.told_by-summary-requires-clause-long
told_by-summary-requires-clause-long c =
    let are = c.in-Ok.ensures ∙ ap (λ (s : ℕ). streams_after s c.args.cycles) c.in_ok-netlist.ensures.state in
    (streams_feed c.args.seed c.args.size c.args.cycles c.in_ok-netlist.field-0.netlist c.in_ok-netlist.field-0.planned c.in-Ok.streams c.in_ok-netlist.ensures.plan are).1

pub told_by-summary-requires-clause-outputs : goal.told_by-summary-requires-clause-outputs
told_by-summary-requires-clause-outputs c =
    let planned = c.in_ok-netlist.field-0.planned in
    let bits = shown_bits planned.ports c.in-Ok.streams (plane_of (start_grid planned.plan).rows) in
    shown_many c.args.seed c.args.size c.in_ok-netlist.field-0.netlist planned c.in-Ok.streams (main_outputs c.in_ok-netlist.field-0.netlist.design) bits c.in_ok-netlist.ensures.plan refl refl

pub returns-clause-summary : goal.returns-clause-summary
returns-clause-summary c =
    let are = c.in-Ok.ensures ∙ ap (λ (s : ℕ). streams_after s c.args.cycles) c.in_ok-netlist.ensures.state in
    let names = main_outputs c.in_ok-netlist.field-0.netlist.design in
    IfOk-weaker c.told_by-summary.result _ _
    (λ m h. summarizes carriers_show_runs c.args.seed c.args.size c.args.cycles c.in_ok-netlist.field-0.netlist c.in_ok-netlist.field-0.planned c.in-Ok.streams
    names _ h.outputs.evaluated m c.in_ok-netlist.ensures.plan are refl refl h.outputs.runs h.weight h.lanes h.columns h.period h.latency h.outputs.are h.near)
    c.told_by-summary.ensures.told

pub returns-clause-refused : goal.returns-clause-refused
returns-clause-refused c =
    let are = c.in-Ok.ensures ∙ ap (λ (s : ℕ). streams_after s c.args.cycles) c.in_ok-netlist.ensures.state in
    IfErr-weaker c.told_by-summary.result _ _
    (not_run c.args.seed c.args.size c.args.cycles c.in_ok-netlist.field-0.netlist c.in_ok-netlist.field-0.planned c.in-Ok.streams c.in_ok-netlist.ensures.plan are)
    c.told_by-summary.ensures.refused

pub returns-in_err-netlist-clause-refused : goal.returns-in_err-netlist-clause-refused
returns-in_err-netlist-clause-refused c =
    let p = err_from_is_err_and c.from_residual.result c.from_residual.ensures.1 in
    rw (p.1, p.2, c.in_err-netlist.ensures.refused) tt

pub returns-in_err-netlist-clause-summary : goal.returns-in_err-netlist-clause-summary
returns-in_err-netlist-clause-summary c = rw ((err_from_is_err_and c.from_residual.result c.from_residual.ensures.1).1) tt
