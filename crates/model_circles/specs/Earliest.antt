-- The earliest line on a circle, among the lines checked so far.
use Rattle.model_circles.specs.declared.circle.Circle.{Circle}
use Rattle.std.specs.Prelude.{ℕ, ◌≡◌, ◌<◌, ◌≤◌, List, ◌∷◌, length, map, Option, Some, MatchOption, slice_get, ⊤}
use Rattle.std.specs.List.{join_with_byte}
use Rattle.netlist_rules.specs.declared.fault.Fault.{Fault}
use Rattle.netlist_rules.specs.declared.fault.FaultKind.TheVariants.{Recursive}
use Rattle.netlist_core.specs.declared.model.Model.{Model}
use Rattle.netlist_core.specs.declared.model.Subckt.{Subckt}
use Rattle.model_index.specs.Numbers.{name_at, subckts_of, Places}
use Rattle.model_circles.specs.Ways.{IsWayBack, LiesOnCircle}

-- a circle on which a line of its first model lies
pub record IsCircle (models : List Model) (circle : Circle) : Type 0 where
  pub k : ℕ
  pub subckt : Subckt
  pub is_line : slice_get (subckts_of models circle.first) k ≡ Some subckt
  pub at_the_line : subckt.line ≡ circle.line
  pub inner : ℕ
  pub placed : Places models circle.first k inner
  pub way : IsWayBack models inner circle.first circle.others

-- the fault has the circle's line and the names of its models
pub record IsFaultOf (models : List Model) (circle : Circle) (fault : Fault) : Type 0 where
  pub kind : fault.kind ≡ Recursive
  pub line : fault.line ≡ circle.line
  pub word : fault.word ≡ join_with_byte 32 (map (name_at models) (circle.first ∷ circle.others))

abbrev pub IsCircleIfAny : List Model → Option Circle → Type 0
IsCircleIfAny models best = MatchOption best ⊤ (IsCircle models)

-- there is a circle, and its line is this one or an earlier one
abbrev pub IsNoLater : Option Circle → ℕ → Type 0
IsNoLater best line = MatchOption best ⊥ (λ circle. circle.line ≤ line)

-- the k-th line of model n, if it lies on a circle, is no earlier than the circle that is kept
abbrev pub Covers : List Model → Option Circle → ℕ → ℕ → Type 0
Covers models best n k =
    (subckt : Subckt) → slice_get (subckts_of models n) k ≡ Some subckt → LiesOnCircle models n k
    → IsNoLater best subckt.line

-- the new circle is the earlier of the old one and one of the k-th line of a model
pub record IsLookedAt (models : List Model) (n k : ℕ) (old new : Option Circle) : Type 0 where
  pub kept : IsCircleIfAny models old → IsCircleIfAny models new
  pub no_later : (line : ℕ) → IsNoLater old line → IsNoLater new line
  pub covers : Covers models new n k

-- the earliest circle among those of the lines of the models before n, and of n's own lines before
-- the k-th
pub record IsEarliestUpTo (models : List Model) (n k : ℕ) (best : Option Circle) : Type 0 where
  pub is_circle : IsCircleIfAny models best
  pub models_before : (m j : ℕ) → m < n → Covers models best m j
  pub lines_before : (j : ℕ) → j < k → Covers models best n j

abbrev pub IsEarliestBefore : List Model → ℕ → Option Circle → Type 0
IsEarliestBefore models n best = IsEarliestUpTo models n 0 best

abbrev pub IsEarliestCircle : List Model → Option Circle → Type 0
IsEarliestCircle models best = IsEarliestBefore models (length models) best
