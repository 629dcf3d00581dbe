-- Signals that are moved with their planes.
use Rattle.std.specs.Prelude.{ℤ, ◌+ℤ◌, ◌-ℤ◌, ℕ, List, map}
use Rattle.ww_rule.specs.Wireworld.{Plane}
use Rattle.ww_rule.specs.Laws.{moved, mirrored}
use Rattle.ww_rule.specs.DrivenLaws.{upside_down}
use Rattle.ww_rule.specs.Turns.{turned}
use Rattle.gate_laws.specs.Signals.{Signal, CarriesSignals}

-- the signal in another cell
abbrev pub signal_at : (ℤ × ℤ → ℤ × ℤ) → Signal → Signal
signal_at place s = record { cell = place s.cell; first = s.first; bit = s.bit }

-- the second plane carries the signals of the first in the cells that these come to
abbrev pub CarriesAlso : (ℤ × ℤ → ℤ × ℤ) → Plane → Plane → Type 0
CarriesAlso place p q =
    (period : ℕ) (ins outs : List Signal) → CarriesSignals period p ins outs
    → CarriesSignals period q (map (signal_at place) ins) (map (signal_at place) outs)

-- a plane that carries signals may be moved, mirrored, and turned by an exchange of x and y
pub record CarriesAnywhere (p : Plane) : Type 0 where
  pub moves : (a b : ℤ) → CarriesAlso (λ cell. (cell.0 +ℤ a, cell.1 +ℤ b)) p (moved a b p)
  pub mirrors : (a : ℤ) → CarriesAlso (λ cell. (a -ℤ cell.0, cell.1)) p (mirrored a p)
  pub mirrors_down : (b : ℤ) → CarriesAlso (λ cell. (cell.0, b -ℤ cell.1)) p (upside_down b p)
  pub turns : CarriesAlso (λ cell. (cell.1, cell.0)) p (turned p)
