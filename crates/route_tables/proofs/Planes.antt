-- The cells of gates that stand in a box.
use Rattle.std.proofs.Common.{ℤ, pos, ◌-ℤ◌, ℕ, ◌-◌, ◌≤◌, ◌≡◌, refl, sym, ap, ap₂, ◌∙◌, arith}
use Rattle.std.specs.Prelude.{◌≢◌}
use Rattle.std.proofs.lemmas.Int.{ints}
use Rattle.ww_rule.specs.declared.pattern.State.TheVariants.{Empty}
use Rattle.tile_timing.specs.Window.{shown}
use Rattle.gate_laws.specs.Signals.{cell_state}
use Rattle.gate_library.specs.declared.gate.Timing.{Timing}
use Rattle.gate_library.specs.declared.gate.Timing.TheVariants.{Together, Apart}
use Rattle.gate_library.specs.declared.gate.GateDrawing.{GateDrawing}
use Rattle.gate_library.specs.Lawful.{gate_by, gate_at}
use Rattle.routed_circuits.specs.Routed.{gate_plane}
use Rattle.route_tables.specs.declared.tables.TableGate.{TableGate}
use Rattle.route_tables.specs.Tables.{sourced_by}

by_timing : (timing : Timing) (d : GateDrawing) (later : ℕ) → (gate_by timing d later).plane ≡ shown d.cells d.width
by_timing Together d later = refl
by_timing Apart d later = refl

pub gate_is_shown : (d : GateDrawing) (later : ℕ) → (gate_at d later).plane ≡ shown d.cells d.width
gate_is_shown d later = by_timing d.timing d later

pub placed_state : (d : GateDrawing) (gate : TableGate) (c : ℤ × ℤ) → cell_state (gate_plane (sourced_by d gate).placed) c ≡ shown d.cells d.width (c.0 -ℤ pos gate.x) (c.1 -ℤ pos gate.y)
placed_state d gate c = ap (λ p. p (c.0 -ℤ pos gate.x) (c.1 -ℤ pos gate.y)) (gate_is_shown d gate.later)

pub drawn_in : (d : GateDrawing) (gate : TableGate) (x y : ℕ) → gate.x ≤ x → gate.y ≤ y → shown d.cells d.width (pos (x - gate.x)) (pos (y - gate.y)) ≢ Empty → cell_state (gate_plane (sourced_by d gate).placed) (pos x, pos y) ≢ Empty
drawn_in d gate x y west north drawn e =
    let ex : pos (x - gate.x) ≡ pos x -ℤ pos gate.x = omega (arith, ints) in
    let ey : pos (y - gate.y) ≡ pos y -ℤ pos gate.y = omega (arith, ints) in
    drawn (ap₂ (shown d.cells d.width) ex ey ∙ sym (placed_state d gate (pos x, pos y)) ∙ e)
