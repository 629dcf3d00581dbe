use Rattle.std.proofs.Common.{◌∙◌, sym, ap, refl}
use Rattle.netlist_meaning.specs.FlatOf.{first_control}
use Rattle.netlist_flatten.proofs.flattening.flat_by_classes.Goals as goal

pub returns : goal.returns
returns c =
    let ports = c.in_ok-ports.ensures {u = tt} in record {
      in_ports = ports.ins.in_ports;
      are_in_ports = ports.ins.are_in_ports;
      nets = c.of.ensures ∙ c.in_ok-nets.ensures {u = tt};
      nodes = c.of-2.ensures ∙ c.in_ok-nodes.ensures {u = tt};
      latches = c.of-3.ensures ∙ c.in_ok-latches.ensures {u = tt};
      ins = ports.ins.are_flat;
      outs = ports.outs;
      clocks = ports.clocks;
      control = c.first_control.ensures ∙ ap first_control (c.deref-2.ensures.value ∙ sym c.of-3.ensures);
      weight = c.requires.weight;
      listed = refl;
    }
