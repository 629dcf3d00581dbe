-- Laws of parts: put side by side, moved, and begun later.
use Rattle.std.specs.Prelude.{ℤ, ◌+ℤ◌, ◌-ℤ◌, ℕ, ◌+◌, ◌<◌, List, ◌++◌, length, map}
use Rattle.ww_rule.specs.Wireworld.{Plane}
use Rattle.ww_rule.specs.Laws.{moved, mirrored}
use Rattle.ww_rule.specs.DrivenLaws.{upside_down}
use Rattle.ww_rule.specs.Turns.{turned}
use Rattle.gate_laws.specs.Rows.{Port, PartMeaning, IsPart, IsCausalMeaning, HasNoElectrons, row_of_both}
use Rattle.gate_laws.specs.Laws.{StandApart, side_by_side}

-- the meanings of two parts beside each other: the first has so many inputs and outputs, which come
-- first
abbrev pub both_meanings : (ins outs : ℕ) → PartMeaning → PartMeaning → PartMeaning
both_meanings ins outs meaning second bits t =
    row_of_both outs (meaning bits t) (second (λ u i. bits u (ins + i)) t)

-- two parts that stand apart are one part
abbrev pub PartsUnite : Type 0
PartsUnite =
    (period : ℕ) (p q : Plane) (ins outs inputs outputs : List Port) (meaning second : PartMeaning)
    → StandApart p q → IsPart period p ins outs meaning → IsPart period q inputs outputs second
    → IsPart period (side_by_side p q) (ins ++ inputs) (outs ++ outputs)
    (both_meanings (length ins) (length outs) meaning second)
    × (IsCausalMeaning meaning → IsCausalMeaning second
    → IsCausalMeaning (both_meanings (length ins) (length outs) meaning second))

-- the port in another cell
abbrev pub moved_port : (ℤ × ℤ → ℤ × ℤ) → Port → Port
moved_port place port = (place port.0, port.1)

-- if the first plane is a part, the second is one with its meaning, and with its ports in the cells
-- that these come to
abbrev pub IsPartAlso : (ℤ × ℤ → ℤ × ℤ) → Plane → Plane → Type 0
IsPartAlso place p q =
    (period : ℕ) (ins outs : List Port) (meaning : PartMeaning) → IsPart period p ins outs meaning
    → IsPart period q (map (moved_port place) ins) (map (moved_port place) outs) meaning

-- a part may be moved, mirrored, and turned by an exchange of x and y
pub record PartsMove (p : Plane) : Type 0 where
  pub moves : (a b : ℤ) → IsPartAlso (λ cell. (cell.0 +ℤ a, cell.1 +ℤ b)) p (moved a b p)
  pub mirrors : (a : ℤ) → IsPartAlso (λ cell. (a -ℤ cell.0, cell.1)) p (mirrored a p)
  pub mirrors_down : (b : ℤ) → IsPartAlso (λ cell. (cell.0, b -ℤ cell.1)) p (upside_down b p)
  pub turns : IsPartAlso (λ cell. (cell.1, cell.0)) p (turned p)

-- a part without electrons may begin so many generations later
abbrev pub PartsStartLater : Type 0
PartsStartLater =
    (period d : ℕ) → 0 < period → (p : Plane) (ins outs : List Port) (meaning : PartMeaning)
    → HasNoElectrons p → IsPart period p ins outs meaning
    → IsPart period p (map (λ port. (port.0, d + port.1)) ins)
    (map (λ port. (port.0, d + port.1)) outs) meaning
