-- The edge that a start names is the one that has its cell.
use Rattle.std.proofs.Common.{◌≡◌, sym, ◌∙◌, ap, ap₂, subst, ℕ, Bool, true, ◌&&◌}
use Rattle.std.specs.Prelude.{◌==◌}
use Rattle.std.proofs.lemmas.Bool.{and_parts, and_from, eqb-true, eq-eqb}
use Rattle.tiling.specs.Tiling.{Tiling, Edge}
use Rattle.lane_core.specs.declared.starts.Start.{Start}
use Rattle.plan_layout.specs.Starts.{HasCell, edge_name, is_passed, NamesEdge}
use Rattle.plan_layout.proofs.EdgeNames.{named, named_is}

-- the test of two names
abbrev is_same : Start → Start → Bool
is_same a b = a.y == b.y && a.x == b.x

abbrev start_at : ℕ → ℕ → Start
start_at y x = record { y = y; x = x }

pub from_same : (a b : Start) → is_same a b ≡ true → a ≡ b
from_same a b e =
    let parts = and_parts (a.y == b.y) (a.x == b.x) e in
    ap₂ start_at (eqb-true a.y b.y parts.0) (eqb-true a.x b.x parts.1)

pub to_same : (a b : Start) → a ≡ b → is_same a b ≡ true
to_same a b e = and_from (a.y == b.y) (a.x == b.x) (eq-eqb a.y b.y (ap (λ (s : Start). s.y) e)) (eq-eqb a.x b.x (ap (λ (s : Start). s.x) e))

-- what is asked of the edge that has the cell
pub passed_there : (tiling : Tiling) (start : Start) (edge : Edge) → HasCell edge start.x start.y → NamesEdge tiling start → is_passed tiling edge ≡ true
passed_there tiling start edge at names = subst (λ (e : Edge). is_passed tiling e ≡ true) (sym (named_is tiling start edge names at)) names.passed

pub named_there : (tiling : Tiling) (start : Start) (edge : Edge) → HasCell edge start.x start.y → NamesEdge tiling start → edge_name tiling edge ≡ start
named_there tiling start edge at names = ap (edge_name tiling) (named_is tiling start edge names at) ∙ sym names.name

-- a start has a cell of the edge that it names
pub at : (tiling : Tiling) (start : Start) (names : NamesEdge tiling start) → HasCell names.edge start.x start.y
at tiling start names = subst (λ (s : Start). HasCell names.edge s.x s.y) (sym names.name) (named tiling names.edge)
