-- Uses of values by gates and ports, in order.
use Rattle.std.specs.Prelude.{ℕ, zero, suc, ◌+◌, ◌-◌, ◌<◌, ◌≡◌, ◌==◌, cond, List, [], ◌∷◌, ◌++◌, length, get_or, count_by}
use Rattle.row_placer.specs.declared.job.NumberedCell.{NumberedCell}

abbrev pub uses_of : List NumberedCell → List ℕ
uses_of [] = []
uses_of (q ∷ qs) = q.first ∷ q.second ∷ uses_of qs

-- how often a value is used
abbrev pub times : ℕ → List ℕ → ℕ
times v us = count_by (λ u. u == v) us

-- how many uses of a value are left, by a table of the uses of each
abbrev pub uses_left : List ℕ → ℕ → ℕ
uses_left left v = get_or left v 0

-- 1 if the value is used later, so that a copy is needed
abbrev pub need : ℕ → List ℕ → ℕ
need v us = cond (times v us == 0) 0 1

-- 1 if a value has no use, and else 0
abbrev pub unused : ℕ → ℕ
unused uses = cond (uses == 0) 1 0

-- how many of the first n values have no use, by a table of the uses of each
abbrev pub idle : List ℕ → ℕ → ℕ
idle left zero = 0
idle left (suc n) = idle left n + unused (get_or left n 0)

-- how many free lanes are enough for the uses of ports
abbrev pub owed_ports : List ℕ → ℕ
owed_ports [] = 0
owed_ports (v ∷ vs) = need v vs + owed_ports vs

-- how many free lanes are enough for gates, which make the values from v on, and then for these
-- ports: a gate leaves one lane free, and also that of its value if this has no use
abbrev pub owed : List ℕ → ℕ → List NumberedCell → ℕ
owed ports v [] = owed_ports ports
owed ports v (q ∷ qs) =
    need q.first (q.second ∷ (uses_of qs ++ ports)) +
    (need q.second (uses_of qs ++ ports) +
    (owed ports (v + 1) qs - (1 + unused (times v (uses_of qs ++ ports)))))

-- a gate reads values that are there before it
abbrev pub AreKnown : ℕ → List NumberedCell → Type 0
AreKnown base gates =
    (g : ℕ) (d : NumberedCell) → g < length gates
    → ((get_or gates g d).first < base + g) × ((get_or gates g d).second < base + g)

-- the table has how often each value is used
abbrev pub AreCounted : List ℕ → List ℕ → Type 0
AreCounted left us = (v : ℕ) → v < length left → get_or left v 0 ≡ times v us

abbrev pub ReadsBelow : ℕ → NumberedCell → Type 0
ReadsBelow values q = (q.first < values) × (q.second < values)
