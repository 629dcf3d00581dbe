use Rattle.std.proofs.Common.{◌≡◌, ap, subst, ◌∙◌, map, ℕ, List, Bool}
use Rattle.std.specs.Prelude.{IfOk, flat_map}
use Rattle.std.specs.List.{range_with_len}
use Rattle.std.proofs.lemmas.Simd.{map-map}
use Rattle.std.proofs.Math.Path.{fun_ext}
use Rattle.ww_rule.specs.Grid.{plane_of}
use Rattle.pattern_reading.specs.declared.ports.PortLine.{PortLine}
use Rattle.drive.specs.Driving.{bits_of_cell, bits_of_cells, shown_bits}
use Rattle.drive.proofs.simulation.simulate.Goals as goal

pub returns-clause-bits : goal.returns-clause-bits
returns-clause-bits c =
    let ports = c.args.ports.now in
    let streams = c.args.streams.now in
    let plane = plane_of c.args.pattern.rows in
    let outs : bits_of_cells ports streams plane ports.l c.deref.result.now ≡ shown_bits ports streams plane =
    ap (bits_of_cells ports streams plane ports.l) (c.deref.ensures.value ∙ c.in_ok-cells.ensures ∙ ap (map (λ (out : PortLine). (out.x, out.y))) c.as_slice.ensures)
    ∙ ap (λ (row : ℕ → List (List Bool)). flat_map row (range_with_len 0 ports.c))
    (fun_ext (λ context. map-map (bits_of_cell ports streams plane ports.l context) (λ (out : PortLine). (out.x, out.y)) ports.outs)) in
    subst (λ (shown : List (List Bool)). IfOk c.bits_of_cells.result (λ bits. bits ≡ shown)) outs c.bits_of_cells.ensures.bits
