-- Lines that are gathered port by port.
use Rattle.std.proofs.Common.{◌≡◌, ◌+◌, ◌<◌, sym, ◌∙◌, ap, ap₂, ℕ, List, [], ◌∷◌, ◌++◌, map, take, length, get_or, arith}
use Rattle.std.specs.Prelude.{Some, slice_get, slice_index}
use Rattle.std.proofs.lemmas.List.{map-append, take_more, get_or-map, length-map}
use Rattle.std.proofs.lemmas.Option.{get_or_from_slice_get}
use Rattle.lane_core.specs.Plans.{row_of}
use Rattle.netlist_core.specs.declared.flat.FlatPort.{FlatPort}
use Rattle.netlist_core.specs.declared.flat.Flat.{Flat}
use Rattle.netlist_meaning.specs.Flat.{name_of_net, names_of_ports}
use Rattle.pattern_reading.specs.declared.ports.PortLine.{PortLine}
use Rattle.pattern_reading.specs.Ports.{cells_of, names_of}

one_more : {X Y : Type 0} (f : X → Y) (lines new : List X) (line : X) (all : List Y) (i : ℕ) (d : Y) → new ≡ lines ++ line ∷ [] → map f lines ≡ take i all → i < length all → f line ≡ get_or all i d
    → map f new ≡ take (i + 1) all
one_more f lines new line all i d pushed so_far within is =
    ap (map f) pushed ∙ map-append f lines (line ∷ []) ∙ ap₂ (λ l y. l ++ y ∷ []) so_far is ∙ sym (take_more all i d within)

pub cells_more : (lines new : List PortLine) (line : PortLine) (x : ℕ) (lanes : List ℕ) (i : ℕ) → new ≡ lines ++ line ∷ [] → i < length lanes
    → cells_of lines ≡ take i (map (λ lane. (x, row_of lane)) lanes) → line.x ≡ x → line.y ≡ row_of (slice_index lanes i)
    → cells_of new ≡ take (i + 1) (map (λ lane. (x, row_of lane)) lanes)
cells_more lines new line x lanes i pushed within so_far at_x at_y =
    one_more (λ (l : PortLine). (l.x, l.y)) lines new line (map (λ lane. (x, row_of lane)) lanes) i (0, 0) pushed so_far (omega (arith, within, length-map {B = ℕ × ℕ} lanes (λ lane. (x, row_of lane))))
    (ap₂ (λ a b. (a, b)) at_x at_y ∙ sym (get_or-map (λ lane. (x, row_of lane)) lanes i 0 (0, 0) within))

pub names_more : (flat : Flat) (lines new : List PortLine) (line : PortLine) (ports : List FlatPort) (port : FlatPort) (i : ℕ) → new ≡ lines ++ line ∷ [] → i < length ports
    → names_of lines ≡ take i (names_of_ports flat ports) → slice_get ports i ≡ Some port → line.name ≡ name_of_net flat port.net
    → names_of new ≡ take (i + 1) (names_of_ports flat ports)
names_more flat lines new line ports port i pushed within so_far at named =
    one_more (λ (l : PortLine). l.name) lines new line (names_of_ports flat ports) i [] pushed so_far (omega (arith, within, length-map ports (λ (p : FlatPort). name_of_net flat p.net)))
    (named ∙ ap (λ (p : FlatPort). name_of_net flat p.net) (sym (get_or_from_slice_get ports i port port at)) ∙ sym (get_or-map (λ (p : FlatPort). name_of_net flat p.net) ports i port [] within))
