-- The ports of lawful drawings.
use Rattle.std.proofs.Common.{pos, ℕ, zero, suc, ◌<◌, ◌≡◌, refl, sym, ap, ◌∙◌, inl, inr, List, [], ◌∷◌, length, get_or, Bool, arith}
use Rattle.std.specs.Prelude.{Contains}
use Rattle.std.proofs.lemmas.List.{length-map, get_or-map}
use Rattle.std.proofs.lemmas.Option.{slice_get-get_or}
use Rattle.lists.proofs.Members.{contains_from, in_got}
use Rattle.ww_rule.specs.declared.pattern.State.TheVariants.{Conductor}
use Rattle.gate_laws.specs.Signals.{cell_state}
use Rattle.gate_laws.specs.Rows.{Port}
use Rattle.gate_laws.specs.Drawings.{in_port_of}
use Rattle.gate_laws.specs.Crossings.{alone, is_of_second, spread_outs}
use Rattle.gate_library.specs.declared.gate.Timing.{Timing}
use Rattle.gate_library.specs.declared.gate.Timing.TheVariants.{Together, Apart}
use Rattle.gate_library.specs.declared.gate.GateDrawing.{GateDrawing}
use Rattle.gate_library.specs.Lawful.{gate_by, gate_at, gate_together, crossing_apart, input_cell, KeepsLawOf, IsLawful}
use Rattle.route_tables.specs.Tables.{no_port}

-- an item of a list is one of it
got : {X : Type 0} (xs : List X) (k : ℕ) (d : X) → k < length xs → Contains xs (get_or xs k d)
got xs k d low = contains_from xs (get_or xs k d) (in_got xs k (get_or xs k d) (slice_get-get_or xs k d low))

-- the cells of spread outputs
spread_cell : (is : ℕ → Bool) (d : ℕ) (ports : List Port) (o : ℕ) → (get_or (spread_outs is d ports) o no_port).0 ≡ (get_or ports o no_port).0
spread_cell is d [] o = refl
spread_cell is d (port ∷ ports) zero = refl
spread_cell is d (port ∷ ports) (suc o) = spread_cell (λ k. is (suc k)) d ports o

pub length_spread : (is : ℕ → Bool) (d : ℕ) (ports : List Port) → length (spread_outs is d ports) ≡ length ports
length_spread is d [] = refl
length_spread is d (port ∷ ports) = ap suc (length_spread (λ k. is (suc k)) d ports)

conducts_in : (timing : Timing) (d : GateDrawing) → KeepsLawOf timing d → (later i : ℕ) → i < length (gate_by timing d later).ins → cell_state (gate_by timing d later).plane (get_or (gate_by timing d later).ins i no_port).0 ≡ Conductor
conducts_in Together d law later i low = (law.drawn.ins (get_or (gate_together d).ins i no_port) (got (gate_together d).ins i no_port low)).0
conducts_in Apart d law later zero low = (law.1.drawn.ins ((crossing_apart d).first, 0) (contains_from (alone (crossing_apart d)).ins ((crossing_apart d).first, 0) (inl refl))).0
conducts_in Apart d law later (suc zero) low = (law.1.drawn.ins ((crossing_apart d).second, 0) (contains_from (alone (crossing_apart d)).ins ((crossing_apart d).second, 0) (inr (inl refl)))).0
conducts_in Apart d law later (suc (suc i)) low = absurd (omega (arith, low))

conducts_out : (timing : Timing) (d : GateDrawing) → KeepsLawOf timing d → (later o : ℕ) → o < length (gate_by timing d later).outs → cell_state (gate_by timing d later).plane (get_or (gate_by timing d later).outs o no_port).0 ≡ Conductor
conducts_out Together d law later o low = (law.drawn.outs (get_or (gate_together d).outs o no_port) (got (gate_together d).outs o no_port low)).0
conducts_out Apart d law later o low =
    let c = crossing_apart d in
    let few = length_spread (is_of_second c) later c.outs in
    ap (cell_state c.plane) (spread_cell (is_of_second c) later c.outs o) ∙ (law.1.drawn.outs (get_or c.outs o no_port) (got c.outs o no_port (omega (arith, low, few)))).0

pub in_conducts : (d : GateDrawing) → IsLawful d → (later i : ℕ) → i < length (gate_at d later).ins → cell_state (gate_at d later).plane (get_or (gate_at d later).ins i no_port).0 ≡ Conductor
in_conducts d is later i low = conducts_in d.timing d is.law later i low

pub out_conducts : (d : GateDrawing) → IsLawful d → (later o : ℕ) → o < length (gate_at d later).outs → cell_state (gate_at d later).plane (get_or (gate_at d later).outs o no_port).0 ≡ Conductor
out_conducts d is later o low = conducts_out d.timing d is.law later o low

-- the inputs are those of the drawing
count_ins : (timing : Timing) (d : GateDrawing) → KeepsLawOf timing d → (later : ℕ) → length (gate_by timing d later).ins ≡ length d.ins
count_ins Together d law later = length-map d.ins in_port_of
count_ins Apart d law later = sym law.0

pub length_ins : (d : GateDrawing) → IsLawful d → (later : ℕ) → length (gate_at d later).ins ≡ length d.ins
length_ins d is later = count_ins d.timing d is.law later

cell_in : (timing : Timing) (d : GateDrawing) (later i : ℕ) → i < length (gate_by timing d later).ins → (get_or (gate_by timing d later).ins i no_port).0 ≡ (pos (input_cell d i).0, pos (input_cell d i).1)
cell_in Together d later i low =
    let few = length-map d.ins in_port_of in
    ap (λ (port : Port). port.0) (get_or-map in_port_of d.ins i (record { x = 0; y = 0; generation = 0 }) no_port (omega (arith, low, few)))
cell_in Apart d later zero low = refl
cell_in Apart d later (suc zero) low = refl
cell_in Apart d later (suc (suc i)) low = absurd (omega (arith, low))

pub in_cell : (d : GateDrawing) (later i : ℕ) → i < length (gate_at d later).ins → (get_or (gate_at d later).ins i no_port).0 ≡ (pos (input_cell d i).0, pos (input_cell d i).1)
in_cell d later i low = cell_in d.timing d later i low
