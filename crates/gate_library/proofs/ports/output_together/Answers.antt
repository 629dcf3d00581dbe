use Rattle.std.proofs.Common.{◌∙◌, refl, sym, ap, length}
use Rattle.std.specs.Option.{option_map}
use Rattle.std.proofs.lemmas.Option.{slice_get-map, slice_get_read, slice_get_past}
use Rattle.gate_laws.specs.Drawings.{out_port_of}
use Rattle.gate_library.proofs.ports.output_together.Goals as goal

pub returns-in-Some : goal.returns-in-Some
returns-in-Some c =
    let found = c.in-Some.ensures.lookup in
    let outs = c.args.outs.now in
    sym (slice_get-map out_port_of outs c.args.o ∙ ap (option_map out_port_of) (slice_get_read outs (length outs) c.args.o c.in-Some.out.now refl found.3.0 found.1))

pub returns-in-None : goal.returns-in-None
returns-in-None c =
    sym (slice_get-map out_port_of c.args.outs.now c.args.o ∙ ap (option_map out_port_of) (slice_get_past c.args.outs.now c.args.o c.in-None.ensures.lookup.3))
