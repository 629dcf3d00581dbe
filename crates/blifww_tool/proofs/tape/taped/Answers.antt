use Rattle.std.proofs.Common.{refl, subst}
use Rattle.flat_designs.proofs.Whole.{flat_is_one}
use Rattle.netlist_core.specs.declared.flat.Flat.{Flat}
use Rattle.rle_write.specs.PlanText.{text_of_plan}
use Rattle.netlist_plans.proofs.Compiled.{planned_table}
use Rattle.plan_carries.proofs.Designs.{designs_run_by_themselves}
use Rattle.plan_ports.specs.Tables.{IsTableOf}
use Rattle.streams.specs.Rows.{rows_of}
use Rattle.blifww_tool.proofs.Compiled.{compilable}
use Rattle.blifww_tool.proofs.tape.taped.Goals as goal

pub plan_of-requires-clause-parts : goal.plan_of-requires-clause-parts
plan_of-requires-clause-parts c = c.requires.parts

pub plan_of-requires-clause-names : goal.plan_of-requires-clause-names
plan_of-requires-clause-names c = c.requires.names

pub load_netlist-requires-clause-compilable : goal.load_netlist-requires-clause-compilable
load_netlist-requires-clause-compilable c =
    (c.args.netlist.now.order.nodes, compilable c.args.netlist.now.design c.args.netlist.now.flat _ c.requires.parts c.requires.names)

pub load_netlist-requires-clause-planned : goal.load_netlist-requires-clause-planned
load_netlist-requires-clause-planned c = c.in_ok-plan.ensures.planned

pub load_netlist-requires-clause-many : goal.load_netlist-requires-clause-many
load_netlist-requires-clause-many c = c.requires.many

pub load_netlist-requires-clause-long : goal.load_netlist-requires-clause-long
load_netlist-requires-clause-long c = c.requires.long

pub load_netlist-requires-clause-some : goal.load_netlist-requires-clause-some
load_netlist-requires-clause-some c = c.requires.some

pub load_netlist-requires-clause-few : goal.load_netlist-requires-clause-few
load_netlist-requires-clause-few c = c.requires.few

pub returns-clause-taped : goal.returns-clause-taped
returns-clause-taped c =
    let design = c.args.netlist.now.design in
    let flat = c.args.netlist.now.flat in
    let parts = c.requires.parts in
    let own = planned_table flat c.in_ok-plan.plan c.in_ok-plan.ensures.planned in
    let loaded = c.in_ok-loaded.loaded in
    record {
      machine = c.in_ok-plan.plan;
      machine_ports = own.0;
      is_carried = c.in_ok-plan.ensures.carried own.0 own.1;
      bare = c.in_ok-plan.ensures.bare;
      plan = loaded.plan;
      ports = loaded.ports;
      loaded = c.in_ok-loaded.ensures.loaded;
      admissible = c.in_ok-loaded.ensures.admissible;
      edges = c.in_ok-loaded.ensures.edges;
      table = λ other h. subst (λ (f : Flat). IsTableOf f loaded.plan 1 loaded.ports) (flat_is_one design flat other parts.is_flat h) c.in_ok-loaded.ensures.table;
      written = refl;
      runs = designs_run_by_themselves (text_of_plan loaded.plan loaded.ports) design flat (rows_of c.args.streams.now) parts.faultless parts.clocks parts.is_flat c.in_ok-loaded.ensures.runs;
    }

pub returns-clause-writable : goal.returns-clause-writable
returns-clause-writable c = c.in_ok-loaded.ensures.admissible
