-- Cells made heads in fields.
use Rattle.std.proofs.Common.{ℤ, pos, ◌+ℤ◌, ℕ, ◌+◌, ◌<◌, ◌≡◌, sym, ap, ap₂, ◌∙◌, inl, inr, false, ◌&&◌, ◌||◌, ◌==◌, cond, [], ◌∷◌, arith}
use Rattle.std.specs.Ordering.{int_eq}
use Rattle.std.proofs.lemmas.Bool.{cases_eq, eq-eqb, ne_eqb}
use Rattle.std.proofs.lemmas.Bool.Decides.{Decides-int_eq}
use Rattle.std.proofs.lemmas.Int.{ints}
use Rattle.std.proofs.Math.Bool.{or-false, and-true, and-false}
use Rattle.ww_rule.specs.declared.pattern.State.TheVariants.{Head}
use Rattle.ww_rule.specs.Wireworld.{Plane, injected}
use Rattle.ww_rule.specs.Injections.{has_cell}
use Rattle.band_rows.specs.declared.field.Field.{Field}
use Rattle.band_rows.specs.Fields.{AreOfOneSize, ShowsField, field_state}
use Rattle.ww_rule.proofs.Integers.{other_int}

column_is : (x u : ℕ) → int_eq (pos x) (pos u) ≡ (u == x)
column_is x u =
    elim (cases_eq u x) [
      | inl e ↦ (Decides-int_eq (pos x) (pos u)).1 (ap pos (sym e)) ∙ sym (eq-eqb u x e)
      | inr n ↦ other_int (pos x) (pos u) (λ q. n (let r : u ≡ x = omega (arith, ints, q) in r)) ∙ sym (ne_eqb u x n)
    ]

among_hit : (x v u : ℕ) (z : ℤ) → pos v ≡ z → has_cell ((x, v) ∷ []) (pos u) z ≡ (u == x)
among_hit x v u z e =
    ap₂ (λ a b. (a && b) || false) (column_is x u) ((Decides-int_eq (pos v) z).1 e) ∙ or-false _ ∙ and-true (u == x)

among_miss : (x v u : ℕ) (z : ℤ) → (pos v ≡ z → ⊥) → has_cell ((x, v) ∷ []) (pos u) z ≡ false
among_miss x v u z n =
    ap (λ b. (int_eq (pos x) (pos u) && b) || false) (other_int (pos v) z n) ∙ or-false _ ∙ and-false (int_eq (pos x) (pos u))

-- the test of one cell
is_there : (x v u k j y : ℕ) → v ≡ y + k → has_cell ((x, v) ∷ []) (pos u) (pos y +ℤ pos j) ≡ (u == x && j == k)
is_there x v u k j y e =
    let z = pos y +ℤ pos j in
    elim (cases_eq j k) [
      | inl q ↦
          let hit : pos v ≡ z = omega (arith, ints, q, e) in
          among_hit x v u z hit ∙ sym (ap (λ t. u == x && t) (eq-eqb j k q) ∙ and-true (u == x))
      | inr ne ↦
          let miss : pos v ≡ z → ⊥ = λ q. ne (let r : j ≡ k = omega (arith, ints, q, e) in r) in
          among_miss x v u z miss ∙ sym (ap (λ t. u == x && t) (ne_eqb j k ne) ∙ and-false (u == x))
    ]

-- a field of which a cell was made a head
pub head_put : (old new : Field) (x k v y : ℕ) (p : Plane) → v ≡ y + k → AreOfOneSize old new → ((u j : ℕ) → j < old.rows → field_state new u j ≡ cond (u == x && j == k) Head (field_state old u j)) → ShowsField old p (pos y) → ShowsField new (injected (has_cell ((x, v) ∷ [])) p) (pos y)
head_put old new x k v y p e size cells shows j u lt =
    let rows = size.rows in
    let within : j < old.rows = omega (arith, lt, rows) in
    cells u j within ∙ ap₂ (λ t s. cond t Head s) (sym (is_there x v u k j y e)) (shows j u within)
