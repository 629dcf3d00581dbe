-- Ports of two lanes are two cells.
use Rattle.std.proofs.Common.{◌≡◌, ◌≢◌, ap, ℕ, zero, suc, ◌+◌, ◌*◌, ◌<◌, ◌≤◌, List, Contains, get_or, arith}
use Rattle.tile_core.specs.Interface.{AreSidePorts, side_ports}
use Rattle.tile_core.specs.Laws.{PortsDiffer}

-- the ports of a lane lie in its rows
rows_of_side : (lane k : ℕ) (port : ℕ × ℕ) → k < 4 → get_or (side_ports lane) k port ≡ port → (16 * lane ≤ port.1) × (port.1 < 16 * lane + 16)
rows_of_side lane zero port lt e = let row : 16 * lane + 8 ≡ port.1 = ap (λ port. port.1) e in (omega arith, omega arith)
rows_of_side lane (suc zero) port lt e = let row : 16 * lane + 8 ≡ port.1 = ap (λ port. port.1) e in (omega arith, omega arith)
rows_of_side lane (suc (suc zero)) port lt e = let row : 16 * lane ≡ port.1 = ap (λ port. port.1) e in (omega arith, omega arith)
rows_of_side lane (suc (suc (suc zero))) port lt e = let row : 16 * lane + 15 ≡ port.1 = ap (λ port. port.1) e in (omega arith, omega arith)
rows_of_side lane (suc (suc (suc (suc k)))) port lt e = absurd (omega arith)

rows_of_lane : (lane : ℕ) (port : ℕ × ℕ) → Contains (side_ports lane) port → (16 * lane ≤ port.1) × (port.1 < 16 * lane + 16)
rows_of_lane lane port (k, lt, e) = rows_of_side lane k port lt e

two_cells : (ports : List (ℕ × ℕ)) → AreSidePorts 2 ports → get_or ports 0 (0, 0) ≢ get_or ports 1 (0, 0)
two_cells ports sides same =
    let upper = (rows_of_lane 0 (get_or ports 0 (0, 0)) (sides 0 (omega arith))).1 in
    let lower = (rows_of_lane 1 (get_or ports 1 (0, 0)) (sides 1 (omega arith))).0 in
    let row : (get_or ports 0 (0, 0)).1 ≡ (get_or ports 1 (0, 0)).1 = ap (λ port. port.1) same in
    omega (arith, upper, lower, row)

pub ports_differ : PortsDiffer
ports_differ tile form two =
    (two_cells tile.entries (of_two tile.entries form.side_entries), two_cells tile.exits (of_two tile.exits form.side_exits))
  where
    of_two : (ports : List (ℕ × ℕ)) → AreSidePorts tile.lanes ports → AreSidePorts 2 ports
    of_two ports sides lane lt = sides lane (omega (arith, two, lt))
