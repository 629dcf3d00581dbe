-- What a wire does from generation to generation.
use Rattle.std.proofs.Common.{ℤ, ℕ, zero, suc, ◌<◌, ◌≤◌, ◌≡◌, refl, sym, ap, ◌∙◌, inl, inr, Bool, true, false, ◌||◌, ◌==◌, cond, arith}
use Rattle.std.specs.Prelude.{◌≢◌, ◌⊎◌, ◌↔◌, if◌then◌else◌}
use Rattle.std.proofs.lemmas.Bool.{cases_lt, true≢false}
use Rattle.ww_rule.specs.declared.pattern.State.{State}
use Rattle.ww_rule.specs.declared.pattern.State.TheVariants.{Head, Tail, Conductor}
use Rattle.ww_rule.specs.Wireworld.{next_state, count_head}
use Rattle.ww_rule.proofs.Cells.{not_counted}
use Rattle.gate_laws.proofs.Dues.{cases_cell}

-- the state of a wire's cell that is to be a head, or was one just before
abbrev pub state_by : (head tail : Bool) → State
state_by head tail = if head then Head else if tail then Tail else Conductor

pub count_by : (head tail : Bool) → count_head (state_by head tail) ≡ cond head 1 0
count_by true tail = refl
count_by false true = refl
count_by false false = refl

pub count_if : (s : State) (b : Bool) → (s ≡ Head) ↔ (b ≡ true) → count_head s ≡ cond b 1 0
count_if s true e = ap count_head (e.1 refl)
count_if s false e = not_counted s (λ head. true≢false (sym (e.0 head)))

-- a cell of a wire that is a conductor takes what the cell before it brings
pub wire_rule : (head tail next : Bool) (n : ℕ) → (head ≡ true → next ≡ false) → (tail ≡ true → next ≡ false) → (head ≡ false → tail ≡ false → n ≡ cond next 1 0) → next_state (state_by head tail) n ≡ state_by next head
wire_rule true tail true n p q e = absurd (true≢false (p refl))
wire_rule true tail false n p q e = refl
wire_rule false true true n p q e = absurd (true≢false (q refl))
wire_rule false true false n p q e = refl
wire_rule false false true n p q e = ap (λ k. cond (k == 1 || k == 2) Head Conductor) (e refl refl)
wire_rule false false false n p q e = ap (λ k. cond (k == 1 || k == 2) Head Conductor) (e refl refl)

-- a cell is one of the first n of a row of cells, or none of them
abbrev pub IsOn : ℕ → (ℕ → ℤ × ℤ) → ℤ × ℤ → Type 0
IsOn n row c = (i : ℕ) × (i < n) × (c ≡ row i)

abbrev pub IsOff : ℕ → (ℕ → ℤ × ℤ) → ℤ × ℤ → Type 0
IsOff n row c = (i : ℕ) → i < n → c ≢ row i

pub on_or_off : (n : ℕ) (row : ℕ → ℤ × ℤ) (c : ℤ × ℤ) → IsOn n row c ⊎ IsOff n row c
on_or_off zero row c = inr (λ i l. absurd (omega arith))
on_or_off (suc n) row c =
    elim (on_or_off n row c) [
      | inl on ↦ inl (on.0, (let l : on.0 < n = on.1 in omega arith), on.2)
      | inr off ↦
          elim (cases_cell c (row n)) [
            | inl e ↦ inl (n, omega arith, e)
            | inr d ↦ inr (λ i l. at i l (cases_lt i n) off d)
          ]
    ]
  where
    at : (i : ℕ) → i < suc n → (i < n) ⊎ (n ≤ i) → IsOff n row c → c ≢ row n → c ≢ row i
    at i l (inl lt) off d = off i lt
    at i l (inr ge) off d = let e : n ≡ i = omega arith in λ w. d (w ∙ sym (ap row e))
