use Rattle.std.proofs.Common.{◌∙◌, refl, sym, ap, length}
use Rattle.std.specs.Option.{option_map}
use Rattle.std.proofs.lemmas.Option.{slice_get-map, slice_get_read, slice_get_past}
use Rattle.gate_laws.specs.Drawings.{in_port_of}
use Rattle.gate_library.proofs.ports.input_together.Goals as goal

pub returns-in-Some : goal.returns-in-Some
returns-in-Some c =
    let found = c.in-Some.ensures.lookup in
    let ins = c.args.ins.now in
    sym (slice_get-map in_port_of ins c.args.i ∙ ap (option_map in_port_of) (slice_get_read ins (length ins) c.args.i c.in-Some.cell.now refl found.3.0 found.1))

pub returns-in-None : goal.returns-in-None
returns-in-None c =
    sym (slice_get-map in_port_of c.args.ins.now c.args.i ∙ ap (option_map in_port_of) (slice_get_past c.args.ins.now c.args.i c.in-None.ensures.lookup.3))
