use Rattle.std.proofs.Common.{sym, ap, ◌∙◌, subst, List}
use Rattle.std.proofs.lemmas.Result.{IfOk-weaker}
use Rattle.netlist_meaning.specs.Flat.{names_of_ports}
use Rattle.netlist_core.specs.declared.flat.FlatPort.{FlatPort}
use Rattle.std.specs.Prelude.{All}
use Rattle.netlist_meaning.specs.Flat.{IsNetId}
use Rattle.netlist_text.proofs.Ports.{in_range, in_names}
use Rattle.netlist_text.proofs.netlist.Netlist.in_names.Goals as goal

pub returns-clause-names : goal.returns-clause-names
returns-clause-names c =
    IfOk-weaker c.names_of_ports.result _ _
    (λ names e. in_names c.args.self.now.design c.args.self.now.flat _ names c.requires (e ∙ ap (names_of_ports c.args.self.now.flat) c.as_slice.ensures))
    c.names_of_ports.ensures

pub names_of_ports-requires : goal.names_of_ports-requires
names_of_ports-requires c =
    subst (λ (ports : List FlatPort). All (λ port. IsNetId c.args.self.now.flat port.net) ports) (sym c.as_slice.ensures) (in_range c.args.self.now.design c.args.self.now.flat _ c.requires).ins
