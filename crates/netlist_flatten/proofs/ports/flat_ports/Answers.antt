use Rattle.std.proofs.Common.{◌∙◌, List, map, sym, ap, subst}
use Rattle.netlist_core.specs.declared.model.Model.{Model}
use Rattle.netlist_core.specs.declared.model.Port.{Port}
use Rattle.netlist_core.specs.declared.flat.FlatPort.{FlatPort}
use Rattle.netlist_meaning.specs.Places.{main_ports}
use Rattle.netlist_meaning.specs.FlatOf.{flat_port}
use Rattle.netlist_flatten.specs.Inputs.{AreInputs}
use Rattle.netlist_flatten.proofs.MainPorts.{main_ports_are, input_ports, output_ports, clock_ports}
use Rattle.netlist_flatten.proofs.ports.flat_ports.Goals as goal

pub inputs_of-requires-clause-nets : goal.inputs_of-requires-clause-nets
inputs_of-requires-clause-nets c = input_ports c.args.numbers.now c.model-main.result.now c.as_slice.result.now c.model-main.ensures c.as_slice.ensures

pub ports_of-requires-clause-nets : goal.ports_of-requires-clause-nets
ports_of-requires-clause-nets c = output_ports c.args.numbers.now c.model-main.result.now c.as_slice-2.result.now c.model-main.ensures c.as_slice-2.ensures

pub ports_of-requires-2-clause-nets : goal.ports_of-requires-2-clause-nets
ports_of-requires-2-clause-nets c = clock_ports c.args.numbers.now c.model-main.result.now c.as_slice-3.result.now c.model-main.ensures c.as_slice-3.ensures

pub returns : goal.returns
returns c =
    let are : (ports_of : Model → List Port) → _ = λ ports_of. main_ports_are c.args.numbers.now c.model-main.result.now ports_of c.model-main.ensures in record {
      ins = subst (λ (flat : List FlatPort). AreInputs c.args.numbers.now (main_ports (λ (model : Model). model.ins) c.args.numbers.now) flat) (sym c.of.ensures)
          (subst (λ (ports : List Port). AreInputs c.args.numbers.now ports c.in_ok-ins.ins.items) (c.as_slice.ensures ∙ sym (are (λ (model : Model). model.ins))) (c.in_ok-ins.ensures {u = tt}));
      outs = c.of-2.ensures ∙ c.in_ok-outs.ensures {u = tt} ∙ ap (map (flat_port c.args.numbers.now)) (c.as_slice-2.ensures ∙ sym (are (λ (model : Model). model.outs)));
      clocks = c.of-3.ensures ∙ c.in_ok-clocks.ensures {u = tt} ∙ ap (map (flat_port c.args.numbers.now)) (c.as_slice-3.ensures ∙ sym (are (λ (model : Model). model.clocks)));
    }
