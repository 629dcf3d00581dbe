-- Two neighbouring places of a list that are set.
use Rattle.std.proofs.Common.{◌≡◌, ◌≢◌, ◌∙◌, ap, ℕ, ◌+◌, ◌<◌, List, length, get_or, set, arith}
use Rattle.std.proofs.lemmas.List.{get_or-set_other, get_or-set_same, length-set}

pub two_set : {X : Type 0} (xs : List X) (i : ℕ) (a b d : X) (lane : ℕ) → i + 1 < length xs
    → (lane ≡ i → get_or (set (set xs i a) (i + 1) b) lane d ≡ a) × (lane ≡ i + 1 → get_or (set (set xs i a) (i + 1) b) lane d ≡ b)
    × (lane ≢ i → lane ≢ i + 1 → get_or (set (set xs i a) (i + 1) b) lane d ≡ get_or xs lane d)
two_set xs i a b d lane within = (
  λ e. get_or-set_other (set xs i a) (i + 1) lane b d (λ e'. absurd (omega (arith, e, e'))) ∙ ap (λ l. get_or (set xs i a) l d) e ∙ get_or-set_same xs i a d (omega arith),
  λ e. ap (λ l. get_or (set (set xs i a) (i + 1) b) l d) e ∙ get_or-set_same (set xs i a) (i + 1) b d (omega (arith, length-set xs i a)),
  λ ne ne'. get_or-set_other (set xs i a) (i + 1) lane b d ne' ∙ get_or-set_other xs i lane a d ne,
)
