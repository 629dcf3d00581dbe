use Rattle.std.proofs.Common.{pos, ◌∙◌, refl, sym, ap, Some, length}
use Rattle.std.specs.Option.{option_map}
use Rattle.std.proofs.lemmas.Option.{slice_get_read, slice_get_past}
use Rattle.gate_library.proofs.Spread.{spread_at, spread_port}
use Rattle.gate_library.proofs.ports.output_apart.Goals as goal

pub returns-in-Some : goal.returns-in-Some
returns-in-Some c =
    let found = c.in-Some.ensures.lookup in
    let outs = c.args.outs.now in
    let got = slice_get_read outs (length outs) c.args.o c.in-Some.out.now refl found.3.0 found.1 in
    ap (λ time. Some ((pos c.in-Some.out.now.x, pos c.in-Some.out.now.y), time)) c.spread_delay.ensures ∙ sym (spread_at outs c.args.later c.args.o ∙ ap (option_map (spread_port c.args.later)) got)

pub returns-in-None : goal.returns-in-None
returns-in-None c =
    let none = slice_get_past c.args.outs.now c.args.o c.in-None.ensures.lookup.3 in
    sym (spread_at c.args.outs.now c.args.later c.args.o ∙ ap (option_map (spread_port c.args.later)) none)
