use Rattle.std.proofs.Common.{◌∙◌, ap, sym, List}
use Rattle.std.proofs.lemmas.Result.{IfOk-weaker}
use Rattle.netlist_core.specs.declared.flat.Net.{Net as FlatNet}
use Rattle.place_paths.specs.Paths.{names_and_paths}
use Rattle.plan_ports.specs.Tables.{named_paths}
use Rattle.routed_plans.specs.Drawn.{items_drawn, nets_now}
use Rattle.routed_plans.proofs.ListedNets.{none_listed, plain_listed}
use Rattle.routed_plans.proofs.net_lines.lines_of_nets.Goals as goal

pub returns-then-not-flat : goal.returns-then-not-flat
returns-then-not-flat c = ap names_and_paths c.new.ensures.items ∙ sym (none_listed c.args.flat.now c.args.ports.now c.if-not-flat.true)

pub returns : goal.returns
returns c =
    let same = ap nets_now c.deref.ensures.value ∙ c.in_ok-nets.ensures in
    IfOk-weaker c.lines_of.result _ _
    (λ lines is. is ∙ ap (λ (nets : List FlatNet). items_drawn c.args.ports.now (named_paths nets)) same ∙ plain_listed c.args.flat.now c.args.ports.now c.if-not-flat.false)
    c.lines_of.ensures
