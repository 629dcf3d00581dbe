use Rattle.std.proofs.Common.{ap, ◌∙◌, subst}
use Rattle.net_faults.specs.Numbering.{numbered_ports}
use Rattle.net_faults.specs.FirstLines.{AreFirstLines}
use Rattle.net_faults.proofs.duplicates.offer_duplicates.Goals as goal

pub offer_duplicates_by-offered-requires : goal.offer_duplicates_by-offered-requires
offer_duplicates_by-offered-requires c =
    let names = c.args.words.now.names in
    let ports = c.requires.ports in record {
      numbers = c.requires.numbers;
      ports = ports;
      inputs = subst (AreFirstLines names c.in_ok-inputs.inputs) (ap numbered_ports c.deref.ensures.value ∙ ports.inputs) c.in_ok-inputs.ensures;
      outputs = subst (AreFirstLines names c.in_ok-outputs.outputs) (ap numbered_ports c.deref-2.ensures.value ∙ ports.outputs) c.in_ok-outputs.ensures;
    }
