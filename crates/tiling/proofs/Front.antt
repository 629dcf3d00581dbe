-- The cell in front of a port, and the edge between them.
use Rattle.std.proofs.Common.{ℕ, zero, suc, ◌+◌, ◌-◌, ◌/◌, ◌%◌, ◌≡◌, refl, sym, ap, ap₂, ◌∙◌, ◌||◌, arith, inl, inr}
use Rattle.std.proofs.Math.Bool.{or_comm}
use Rattle.tiling.specs.Tiling.{Tiling, Lit}
use Rattle.tiling.specs.Tiling.Edge.{Beside, Above}
use Rattle.tiling.specs.MacroStep.{macro_step, slot_answers}
use Rattle.tiling.proofs.Sides.{IsAtSide, block_edge, edge_at}
use Rattle.tiling.proofs.Blocks.{answers_at}
use Rattle.tiling.proofs.Facing.{Facing, East_of, West_of, South_of, North_of}

-- a cell faces at most one other
pub facing_one : (X Y U V R S : ℕ) → Facing X Y U V → Facing X Y R S → (R ≡ U) × (S ≡ V)
facing_one X Y U V R S (East_of a b c d) (East_of e f g h) = (omega (arith, a, e), omega (arith, b, f))
facing_one X Y U V R S (East_of a b c d) (West_of e f g h) = absurd (omega (arith, c, e, g))
facing_one X Y U V R S (East_of a b c d) (South_of e f g h) = absurd (omega (arith, c, g))
facing_one X Y U V R S (East_of a b c d) (North_of e f g h) = absurd (omega (arith, c, g))
facing_one X Y U V R S (West_of a b c d) (East_of e f g h) = absurd (omega (arith, a, c, g))
facing_one X Y U V R S (West_of a b c d) (West_of e f g h) = (omega (arith, a, e), omega (arith, b, f))
facing_one X Y U V R S (West_of a b c d) (South_of e f g h) = absurd (omega (arith, a, c, g))
facing_one X Y U V R S (West_of a b c d) (North_of e f g h) = absurd (omega (arith, a, c, g))
facing_one X Y U V R S (South_of a b c d) (East_of e f g h) = absurd (omega (arith, c, g))
facing_one X Y U V R S (South_of a b c d) (West_of e f g h) = absurd (omega (arith, c, e, g))
facing_one X Y U V R S (South_of a b c d) (South_of e f g h) = (omega (arith, b, f), omega (arith, a, e))
facing_one X Y U V R S (South_of a b c d) (North_of e f g h) = absurd (omega (arith, d, e, h))
facing_one X Y U V R S (North_of a b c d) (East_of e f g h) = absurd (omega (arith, c, g))
facing_one X Y U V R S (North_of a b c d) (West_of e f g h) = absurd (omega (arith, c, e, g))
facing_one X Y U V R S (North_of a b c d) (South_of e f g h) = absurd (omega (arith, a, d, h))
facing_one X Y U V R S (North_of a b c d) (North_of e f g h) = (omega (arith, b, f), omega (arith, a, e))

-- what the macro step makes of the edge at a cell in the middle of a side: what the cell's own piece answers there,
-- or what the piece answers at the cell in front
pub data EdgeAfter : (tiling : Tiling) (lit : Lit) (X Y : ℕ) → Type 0 where
  Nobody : {tiling : Tiling} {lit : Lit} {X Y : ℕ} → ((U V : ℕ) → Facing X Y U V → ⊥) → macro_step tiling lit (edge_at X Y) ≡ answers_at tiling lit X Y → EdgeAfter tiling lit X Y
  Somebody : {tiling : Tiling} {lit : Lit} {X Y : ℕ} (U V : ℕ) → Facing X Y U V → macro_step tiling lit (edge_at X Y) ≡ (answers_at tiling lit X Y || answers_at tiling lit U V) → EdgeAfter tiling lit X Y

answers_in : (tiling : Tiling) (lit : Lit) (X Y q l r s : ℕ) → X / 32 ≡ q → Y / 16 ≡ l → X % 32 ≡ r → Y % 16 ≡ s → answers_at tiling lit X Y ≡ slot_answers lit q l (tiling q l) r s
answers_in tiling lit X Y q l r s a b c d =
    ap₂ (λ i j. slot_answers lit i j (tiling i j) (X % 32) (Y % 16)) a b ∙ ap₂ (slot_answers lit q l (tiling q l)) c d

west_side : (tiling : Tiling) (lit : Lit) (X Y q l : ℕ) → q ≡ X / 32 → l ≡ Y / 16 → X % 32 ≡ 0 → Y % 16 ≡ 8 → EdgeAfter tiling lit X Y
west_side tiling lit X Y zero l a b c d =
    Nobody (λ U V f. nobody U V f)
    (ap (λ r. macro_step tiling lit (block_edge (X / 32) (Y / 16) r (Y % 16))) c ∙ ap₂ (λ i j. macro_step tiling lit (Beside i j)) (sym a) (sym b) ∙ sym (answers_in tiling lit X Y 0 l 0 8 (sym a) (sym b) c d))
  where
    nobody : (U V : ℕ) → Facing X Y U V → ⊥
    nobody U V (East_of e f g h) = omega (arith, c, g)
    nobody U V (West_of e f g h) = omega (arith, a, c, e)
    nobody U V (South_of e f g h) = omega (arith, c, g)
    nobody U V (North_of e f g h) = omega (arith, c, g)
west_side tiling lit X Y (suc q) l a b c d =
    let U = X - 1 in
    let e : X ≡ U + 1 = omega (arith, a) in
    let uq : U / 32 ≡ q = omega (arith, a, c) in
    let ur : U % 32 ≡ 31 = omega (arith, a, c) in
    Somebody U Y (West_of e refl ur d)
    (ap (λ r. macro_step tiling lit (block_edge (X / 32) (Y / 16) r (Y % 16))) c
    ∙ ap₂ (λ i j. macro_step tiling lit (Beside i j)) (sym a) (sym b)
    ∙ or_comm (slot_answers lit q l (tiling q l) 31 8) (slot_answers lit (suc q) l (tiling (suc q) l) 0 8)
    ∙ ap₂ (λ i j. i || j) (sym (answers_in tiling lit X Y (suc q) l 0 8 (sym a) (sym b) c d)) (sym (answers_in tiling lit U Y q l 31 8 uq (sym b) ur d)))

east_side : (tiling : Tiling) (lit : Lit) (X Y q l : ℕ) → q ≡ X / 32 → l ≡ Y / 16 → X % 32 ≡ 31 → Y % 16 ≡ 8 → EdgeAfter tiling lit X Y
east_side tiling lit X Y q l a b c d =
    let U = X + 1 in
    let uq : U / 32 ≡ suc q = omega (arith, a, c) in
    let ur : U % 32 ≡ 0 = omega (arith, a, c) in
    let e : X / 32 + 1 ≡ suc q = omega (arith, a) in
    Somebody U Y (East_of refl refl c d)
    (ap (λ r. macro_step tiling lit (block_edge (X / 32) (Y / 16) r (Y % 16))) c
    ∙ ap₂ (λ i j. macro_step tiling lit (Beside i j)) e (sym b)
    ∙ ap₂ (λ i j. i || j) (sym (answers_in tiling lit X Y q l 31 8 (sym a) (sym b) c d)) (sym (answers_in tiling lit U Y (suc q) l 0 8 uq (sym b) ur d)))

north_side : (tiling : Tiling) (lit : Lit) (X Y q l : ℕ) → q ≡ X / 32 → l ≡ Y / 16 → X % 32 ≡ 16 → Y % 16 ≡ 0 → EdgeAfter tiling lit X Y
north_side tiling lit X Y q zero a b c d =
    Nobody (λ U V f. nobody U V f)
    (ap₂ (λ r s. macro_step tiling lit (block_edge (X / 32) (Y / 16) r s)) c d ∙ ap₂ (λ i j. macro_step tiling lit (Above i j)) (sym a) (sym b) ∙ sym (answers_in tiling lit X Y q 0 16 0 (sym a) (sym b) c d))
  where
    nobody : (U V : ℕ) → Facing X Y U V → ⊥
    nobody U V (East_of e f g h) = omega (arith, c, g)
    nobody U V (West_of e f g h) = omega (arith, c, e, g)
    nobody U V (South_of e f g h) = omega (arith, d, h)
    nobody U V (North_of e f g h) = omega (arith, b, d, e)
north_side tiling lit X Y q (suc l) a b c d =
    let V = Y - 1 in
    let e : Y ≡ V + 1 = omega (arith, b) in
    let vl : V / 16 ≡ l = omega (arith, b, d) in
    let vs : V % 16 ≡ 15 = omega (arith, b, d) in
    Somebody X V (North_of e refl c vs)
    (ap₂ (λ r s. macro_step tiling lit (block_edge (X / 32) (Y / 16) r s)) c d
    ∙ ap₂ (λ i j. macro_step tiling lit (Above i j)) (sym a) (sym b)
    ∙ or_comm (slot_answers lit q l (tiling q l) 16 15) (slot_answers lit q (suc l) (tiling q (suc l)) 16 0)
    ∙ ap₂ (λ i j. i || j) (sym (answers_in tiling lit X Y q (suc l) 16 0 (sym a) (sym b) c d)) (sym (answers_in tiling lit X V q l 16 15 (sym a) vl c vs)))

south_side : (tiling : Tiling) (lit : Lit) (X Y q l : ℕ) → q ≡ X / 32 → l ≡ Y / 16 → X % 32 ≡ 16 → Y % 16 ≡ 15 → EdgeAfter tiling lit X Y
south_side tiling lit X Y q l a b c d =
    let V = Y + 1 in
    let vl : V / 16 ≡ suc l = omega (arith, b, d) in
    let vs : V % 16 ≡ 0 = omega (arith, b, d) in
    let e : Y / 16 + 1 ≡ suc l = omega (arith, b) in
    Somebody X V (South_of refl refl c d)
    (ap₂ (λ r s. macro_step tiling lit (block_edge (X / 32) (Y / 16) r s)) c d
    ∙ ap₂ (λ i j. macro_step tiling lit (Above i j)) (sym a) e
    ∙ ap₂ (λ i j. i || j) (sym (answers_in tiling lit X Y q l 16 15 (sym a) (sym b) c d)) (sym (answers_in tiling lit X V q (suc l) 16 0 (sym a) vl c vs)))

pub edge_after : (tiling : Tiling) (lit : Lit) (X Y : ℕ) → IsAtSide (X % 32) (Y % 16) → EdgeAfter tiling lit X Y
edge_after tiling lit X Y (inl w) = west_side tiling lit X Y (X / 32) (Y / 16) refl refl w.0 (omega (arith, w.1))
edge_after tiling lit X Y (inr (inl e)) = east_side tiling lit X Y (X / 32) (Y / 16) refl refl e.0 (omega (arith, e.1))
edge_after tiling lit X Y (inr (inr (inl n))) = north_side tiling lit X Y (X / 32) (Y / 16) refl refl n.0 n.1
edge_after tiling lit X Y (inr (inr (inr s))) = south_side tiling lit X Y (X / 32) (Y / 16) refl refl s.0 s.1
