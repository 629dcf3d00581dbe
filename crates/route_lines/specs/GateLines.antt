-- Lines that name gates and wires, and what they do before the text of a pattern.
use Rattle.std.specs.Prelude.{◌≡◌, ◌⊎◌, ℕ, List, ◌∷◌, [], ◌++◌, flat_map, codes}
use Rattle.std.specs.List.{AllByRecursion}
use Rattle.ww_rule.specs.Grid.{Grid}
use Rattle.pattern_reading.specs.declared.ports.Ports.{Ports}
use Rattle.pattern_reading.specs.Pattern.{ReadsAsPattern}
use Rattle.pattern_reading.specs.PortTable.{ReadsAsPorts}
use Rattle.pattern_reading.specs.Laws.{IsLineText}

-- bytes that begin with these
abbrev pub BeginsWith : (front bytes : List ℕ) → Type 0
BeginsWith front bytes = (rest : List ℕ) × (bytes ≡ front ++ rest)

-- a line begins as those of gates do, or as those of wires do
abbrev pub IsOfGate : (line : List ℕ) → Type 0
IsOfGate line = BeginsWith (codes "#C gate ") line ⊎ BeginsWith (codes "#C wire ") line

-- such a line without its end, which lies in one line whatever follows it
pub record IsGateLine (line : List ℕ) : Type 0 where
  pub kind : IsOfGate line
  pub in_line : IsLineText line

-- bytes that are such lines, each with a line feed
pub record AreGateLines (bytes : List ℕ) : Type 0 where
  pub lines : List (List ℕ)
  pub joined : bytes ≡ flat_map (λ line. line ++ 10 ∷ []) lines
  pub each : AllByRecursion IsGateLine lines

-- Before a text that reads as a pattern such lines change nothing in the pattern.
abbrev pub KeepsPattern : (lines text : List ℕ) → Type 0
KeepsPattern lines text =
    (grid : Grid) → AreGateLines lines → ReadsAsPattern text grid
    → ReadsAsPattern (lines ++ text) grid

-- Nor do they change the port table that the text reads as.
abbrev pub KeepsPorts : (lines text : List ℕ) → Type 0
KeepsPorts lines text =
    (width height : ℕ) (ports : Ports) → AreGateLines lines → ReadsAsPorts text width height ports
    → ReadsAsPorts (lines ++ text) width height ports
