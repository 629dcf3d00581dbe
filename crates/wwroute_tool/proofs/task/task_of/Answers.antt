use Rattle.netlist_plans.proofs.Names.{texts_have_port_names}
use Rattle.wwroute_tool.proofs.task.task_of.Goals as goal

pub returns-in_ok-netlist-in-Route-clause-sound : goal.returns-in_ok-netlist-in-Route-clause-sound
returns-in_ok-netlist-in-Route-clause-sound c =
    let netlist = c.in_ok-netlist-in-Route.netlist in
    let parts = c.in_ok-netlist-in-Route.ensures.parts in
    (parts, texts_have_port_names c.as_slice.result.now netlist.design netlist.flat c.in_ok-netlist-in-Route.ensures.netlist.is.design_of parts.is_flat)
