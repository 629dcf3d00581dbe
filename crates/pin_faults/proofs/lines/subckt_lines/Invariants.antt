use Rattle.std.proofs.Common.{◌≡◌, take, flat_map}
use Rattle.netlist_core.specs.declared.model.Model.{Model}
use Rattle.pin_faults.specs.SubcktLines.{lines_now}
use Rattle.pin_faults.proofs.lines.subckt_lines.Given as goal

abbrev pub invariant-loop-model : goal.invariant-loop-model
invariant-loop-model l = lines_now l.lines.items ≡ flat_map (λ (model : Model). model.subckts) (take l.model-index l.models)
