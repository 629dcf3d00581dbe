-- The uses of a gate.
use Rattle.std.proofs.Common.{◌≡◌, sym, ◌∙◌, ap, subst, ℕ, suc, ◌+◌, ◌-◌, ◌<◌, List, [], ◌∷◌, ◌++◌, length, get_or, set, cond, drop, arith}
use Rattle.std.proofs.Math.Seq.{drop-cons, drop-length}
use Rattle.std.specs.Prelude.{◌==◌, ◌≤◌, slice_get, Some}
use Rattle.std.proofs.lemmas.Option.{get_or_from_slice_get}
use Rattle.std.proofs.lemmas.List.{length-set}
use Rattle.lane_core.specs.declared.plan.NetPlace.{NetPlace}
use Rattle.row_placer.specs.Told.{count, tag, free_tag, Exchanged, BothExchanged}
use Rattle.row_placer.proofs.Uses.{first_used, second_used, usable, used, comes, made as gate_made, ended as gate_ended}
use Rattle.row_placer.specs.declared.roles.Role.TheVariants.{Kept, First, Second}
use Rattle.row_placer.specs.declared.roles.Tag.{Tag}
use Rattle.row_placer.specs.declared.job.NumberedCell.{NumberedCell}
use Rattle.row_placer.specs.declared.job.Job.{Job}
use Rattle.row_placer.specs.Uses.{need, owed, owed_ports, unused, times, uses_of, AreKnown}
use Rattle.row_placer.specs.Ready.{Ready, ReadyForGate, ReadyForPort, IsUsable}

abbrev pub pending : Job → ℕ → List ℕ
pending job g = uses_of (drop g job.gates) ++ job.ports

-- what the gates after it owe, and that less the lanes which it leaves free
abbrev pub owed_after : Job → ℕ → ℕ
owed_after job g = owed job.ports (job.base + g + 1) (drop (g + 1) job.gates)

abbrev pub still : Job → ℕ → ℕ
still job g = owed_after job g - (1 + unused (times (job.base + g) (pending job (g + 1))))

front_gate : (gates : List NumberedCell) (g : ℕ) (gate : NumberedCell) → g < length gates → get_or gates g gate ≡ gate → drop g gates ≡ gate ∷ drop (g + 1) gates
front_gate gates g gate within known = drop-cons gates g gate within ∙ ap (λ q. q ∷ drop (suc g) gates) known ∙ (let e : suc g ≡ g + 1 = omega arith in ap (λ n. gate ∷ drop n gates) e)

pub before_gate : (job : Job) (g : ℕ) (gate : NumberedCell) (tags : List Tag) (table : List ℕ) → g < length job.gates → get_or job.gates g gate ≡ gate → ReadyForGate job g tags table
    → Ready (gate.first ∷ gate.second ∷ pending job (g + 1)) (job.base + g)
    (need gate.first (gate.second ∷ pending job (g + 1)) + (need gate.second (pending job (g + 1)) + still job g)) tags table
before_gate job g gate tags table within known r =
    subst (λ gates. Ready (uses_of gates ++ job.ports) (job.base + g) (owed job.ports (job.base + g) gates) tags table) (front_gate job.gates g gate within known) r

pub after_gate : (job : Job) (g : ℕ) (tags : List Tag) (table : List ℕ) → Ready (pending job (g + 1)) (job.base + g + 1) (owed_after job g) tags table → ReadyForGate job (g + 1) tags table
after_gate job g tags table r = let e : job.base + g + 1 ≡ job.base + (g + 1) = omega arith in subst (λ n. Ready (pending job (g + 1)) n (owed job.ports n (drop (g + 1) job.gates)) tags table) e r

pub known_gate : (base : ℕ) (gates : List NumberedCell) (g : ℕ) (gate : NumberedCell) → AreKnown base gates → g < length gates → get_or gates g gate ≡ gate → (gate.first < base + g) × (gate.second < base + g)
known_gate base gates g gate known within is = subst (λ (q : NumberedCell). (q.first < base + g) × (q.second < base + g)) is (known g gate within)

-- a gate that is begun
pub record Begun (job : Job) (g : ℕ) (gate : NumberedCell) (tags : List Tag) (table : List ℕ) : Type 0 where
  pub known : get_or job.gates g gate ≡ gate
  pub first : gate.first < job.base + g
  pub second : gate.second < job.base + g
  pub ready : Ready (gate.first ∷ gate.second ∷ pending job (g + 1)) (job.base + g)
      (need gate.first (gate.second ∷ pending job (g + 1)) + (need gate.second (pending job (g + 1)) + still job g)) tags table
  pub usable : IsUsable gate.first tags table

pub begun : (job : Job) (made : List NetPlace) (i count : ℕ) (gate : NumberedCell) (tags : List Tag) (table : List ℕ) → i ≡ count → length made ≡ count → slice_get job.gates i ≡ Some gate → length made < length job.gates
    → ReadyForGate job (length made) tags table → Begun job (length made) gate tags table
begun job made i n gate tags table len ok got within r =
    let known : get_or job.gates (length made) gate ≡ gate = get_or_from_slice_get job.gates (length made) gate gate (subst (λ k. slice_get job.gates k ≡ Some gate) (len ∙ sym ok) got) in
    let parts = known_gate job.base job.gates (length made) gate job.known within known in
    let ready = before_gate job (length made) gate tags table within known r in
    record {
      known = known;
      first = parts.0;
      second = parts.1;
      ready = ready;
      usable = usable gate.first (gate.second ∷ pending job (length made + 1)) (job.base + length made) _ tags table ready parts.0;
    }

-- and one whose first operand is held
pub record Halfway (job : Job) (g : ℕ) (gate : NumberedCell) (tags : List Tag) (table : List ℕ) : Type 0 where
  pub ready : Ready (gate.second ∷ pending job (g + 1)) (job.base + g) (need gate.second (pending job (g + 1)) + still job g) tags table
  pub usable : IsUsable gate.second tags table
  pub held : 1 ≤ count gate.first First tags

pub halfway : (job : Job) (g : ℕ) (gate : NumberedCell) (tags tags' : List Tag) (table table' : List ℕ) → Begun job g gate tags table
    → Exchanged tags tags' (cond (get_or table gate.first 0 == 1) (tag gate.first Kept) free_tag) (tag gate.first First) → table' ≡ set table gate.first (get_or table gate.first 0 - 1) → Halfway job g gate tags' table'
halfway job g gate tags tags' table table' b ex is =
    let ready = used gate.first First (gate.second ∷ pending job (g + 1)) (job.base + g) (need gate.second (pending job (g + 1)) + still job g) tags tags' table table' b.ready b.first first_used ex is in
    record {
      ready = ready;
      usable = usable gate.second (pending job (g + 1)) (job.base + g) (still job g) tags' table' ready b.second;
      held = comes gate.first First (get_or table gate.first 0) tags tags' first_used ex;
    }

-- it is made, and its lane is freed where nothing uses it
pub whole : (job : Job) (g : ℕ) (gate : NumberedCell) (tags tags' made ended : List Tag) (table table' : List ℕ) → gate.second < job.base + g → Halfway job g gate tags table
    → Exchanged tags tags' (cond (get_or table gate.second 0 == 1) (tag gate.second Kept) free_tag) (tag gate.second Second) → table' ≡ set table gate.second (get_or table gate.second 0 - 1)
    → BothExchanged tags' made (tag gate.first First) (tag gate.second Second) (tag (job.base + g) Kept) free_tag
    → Exchanged made ended (cond (get_or table' (job.base + g) 0 == 0) (tag (job.base + g) Kept) free_tag) free_tag → job.base + g < length table → ReadyForGate job (g + 1) ended table'
whole job g gate tags tags' made ended table table' low h ex is both end wide =
    let ready = used gate.second Second (pending job (g + 1)) (job.base + g) (still job g) tags tags' table table' h.ready low second_used ex is in
    let wide' : job.base + g < length table' = omega (arith, wide, ap length is, length-set table gate.second (get_or table gate.second 0 - 1)) in
    let none : ℕ = unused (times (job.base + g) (pending job (g + 1))) in
    let e : still job g ≡ (owed_after job g - none) - 1 = omega arith in
    after_gate job g ended table'
    (gate_ended (pending job (g + 1)) (job.base + g) (owed_after job g) made ended table'
    (gate_made (pending job (g + 1)) (job.base + g) (owed_after job g - none) gate.first gate.second tags' made table'
    (subst (λ n. Ready (pending job (g + 1)) (job.base + g) n tags' table') e ready) wide' both) end)

-- after all gates
pub all_gates : (job : Job) (g : ℕ) (tags : List Tag) (table : List ℕ) → g ≡ length job.gates → ReadyForGate job g tags table → ReadyForPort job 0 tags table
all_gates job g tags table is r =
    let none : drop g job.gates ≡ [] = ap (λ n. drop n job.gates) is ∙ drop-length job.gates in
    subst (λ n. Ready job.ports (job.base + n) (owed_ports job.ports) tags table) is (subst (λ gates. Ready (uses_of gates ++ job.ports) (job.base + g) (owed job.ports (job.base + g) gates) tags table) none r)
