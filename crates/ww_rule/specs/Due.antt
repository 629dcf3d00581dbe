-- Lists of injections in the order of their generations, and which of them are still to come.
use Rattle.std.specs.Prelude.{◌≡◌, ◌≤◌, ◌<◌, ◌==◌, ⊤, ℕ, List, [], ◌∷◌, ◌++◌, All}
use Rattle.std.specs.List.{prefix_len}
use Rattle.ww_rule.specs.declared.pattern.Injection.{Injection}

-- injections in the order of their generations, none of them before a generation
abbrev pub AreInOrderFrom : ℕ → List Injection → Type 0
AreInOrderFrom generation [] = ⊤
AreInOrderFrom generation (injection ∷ later) =
    (generation ≤ injection.generation) × AreInOrderFrom injection.generation later

-- how many injections at the start of the list are of this generation
abbrev pub due_count : ℕ → List Injection → ℕ
due_count generation injections = prefix_len (λ i. i.generation == generation) injections

-- These injections of a list are left when a generation comes: all that stand before them are
-- earlier, and they are in order, none of them before this generation.
pub record AreLeftAt (generation : ℕ) (injections left : List Injection) : Type 0 where
  pub used : List Injection
  pub parts : injections ≡ used ++ left
  pub earlier : All (λ i. i.generation < generation) used
  pub in_order : AreInOrderFrom generation left
