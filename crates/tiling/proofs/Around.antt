-- How many heads lie around a cell, where at most the one in front of it is a head.
use Rattle.std.proofs.Common.{ℤ, pos, ◌+ℤ◌, ◌-ℤ◌, ◌≤ℤ◌, ℕ, ◌+◌, ◌≡◌, sym, ap, ap₂, ◌∙◌, arith}
use Rattle.std.proofs.lemmas.Int.{ints}
use Rattle.std.specs.Int.Signed.{≤ℤ_refl}
use Rattle.ww_rule.specs.Wireworld.{Plane, heads_around, count_head}
use Rattle.tiling.proofs.Border.{Near}
use Rattle.tiling.proofs.Facing.{Facing, East_of, West_of, South_of, North_of}
use Rattle.ww_rule.proofs.Cells.{sum_none, from_one_less, to_one_more, across}

-- no cell beside this one is a head, but those for which the premise Q does not hold
abbrev pub QuietBut : Plane → ℤ → ℤ → (ℤ → ℤ → Type 0) → Type 0
QuietBut p x y Q = (u v : ℤ) → Near x y u v → (Q u v → ⊥) → count_head (p u v) ≡ 0

near_by : (x y u v : ℤ) → (x -ℤ pos 1) ≤ℤ u → u ≤ℤ (x +ℤ pos 1) → (y -ℤ pos 1) ≤ℤ v → v ≤ℤ (y +ℤ pos 1) → Near x y u v
near_by x y u v a b c d = record { west = a; east = b; north = c; south = d }

-- the counts of the eight neighbours, where all but those of Q are 0
pub record Eight (p : Plane) (x y : ℤ) (Q : ℤ → ℤ → Type 0) : Type 0 where
  pub nw : (Q (x -ℤ pos 1) (y -ℤ pos 1) → ⊥) → count_head (p (x -ℤ pos 1) (y -ℤ pos 1)) ≡ 0
  pub n : (Q x (y -ℤ pos 1) → ⊥) → count_head (p x (y -ℤ pos 1)) ≡ 0
  pub ne : (Q (x +ℤ pos 1) (y -ℤ pos 1) → ⊥) → count_head (p (x +ℤ pos 1) (y -ℤ pos 1)) ≡ 0
  pub w : (Q (x -ℤ pos 1) y → ⊥) → count_head (p (x -ℤ pos 1) y) ≡ 0
  pub e : (Q (x +ℤ pos 1) y → ⊥) → count_head (p (x +ℤ pos 1) y) ≡ 0
  pub sw : (Q (x -ℤ pos 1) (y +ℤ pos 1) → ⊥) → count_head (p (x -ℤ pos 1) (y +ℤ pos 1)) ≡ 0
  pub s : (Q x (y +ℤ pos 1) → ⊥) → count_head (p x (y +ℤ pos 1)) ≡ 0
  pub se : (Q (x +ℤ pos 1) (y +ℤ pos 1) → ⊥) → count_head (p (x +ℤ pos 1) (y +ℤ pos 1)) ≡ 0

eight : (p : Plane) (x y : ℤ) (Q : ℤ → ℤ → Type 0) → QuietBut p x y Q → Eight p x y Q
eight p x y Q h =
    record {
      nw = h (x -ℤ pos 1) (y -ℤ pos 1) (near_by x y _ _ (≤ℤ_refl _) (across x) (≤ℤ_refl _) (across y));
      n = h x (y -ℤ pos 1) (near_by x y _ _ (from_one_less x) (to_one_more x) (≤ℤ_refl _) (across y));
      ne = h (x +ℤ pos 1) (y -ℤ pos 1) (near_by x y _ _ (across x) (≤ℤ_refl _) (≤ℤ_refl _) (across y));
      w = h (x -ℤ pos 1) y (near_by x y _ _ (≤ℤ_refl _) (across x) (from_one_less y) (to_one_more y));
      e = h (x +ℤ pos 1) y (near_by x y _ _ (across x) (≤ℤ_refl _) (from_one_less y) (to_one_more y));
      sw = h (x -ℤ pos 1) (y +ℤ pos 1) (near_by x y _ _ (≤ℤ_refl _) (across x) (across y) (≤ℤ_refl _));
      s = h x (y +ℤ pos 1) (near_by x y _ _ (from_one_less x) (to_one_more x) (across y) (≤ℤ_refl _));
      se = h (x +ℤ pos 1) (y +ℤ pos 1) (near_by x y _ _ (across x) (≤ℤ_refl _) (across y) (≤ℤ_refl _));
    }

pub none_around : (p : Plane) (x y : ℤ) → QuietBut p x y (λ u v. ⊥) → heads_around p x y ≡ 0
none_around p x y q =
    let h = eight p x y (λ u v. ⊥) q in
    sum_none _ _ _ _ _ _ _ _ (h.nw (λ b. b)) (h.n (λ b. b)) (h.ne (λ b. b)) (h.w (λ b. b)) (h.e (λ b. b)) (h.sw (λ b. b)) (h.s (λ b. b)) (h.se (λ b. b))

sum_n : (a b c d e f g h : ℕ) → a ≡ 0 → c ≡ 0 → d ≡ 0 → e ≡ 0 → f ≡ 0 → g ≡ 0 → h ≡ 0 → a + b + c + d + e + f + g + h ≡ b
sum_n a b c d e f g h p1 p3 p4 p5 p6 p7 p8 = omega arith

sum_w : (a b c d e f g h : ℕ) → a ≡ 0 → b ≡ 0 → c ≡ 0 → e ≡ 0 → f ≡ 0 → g ≡ 0 → h ≡ 0 → a + b + c + d + e + f + g + h ≡ d
sum_w a b c d e f g h p1 p2 p3 p5 p6 p7 p8 = omega arith

sum_e : (a b c d e f g h : ℕ) → a ≡ 0 → b ≡ 0 → c ≡ 0 → d ≡ 0 → f ≡ 0 → g ≡ 0 → h ≡ 0 → a + b + c + d + e + f + g + h ≡ e
sum_e a b c d e f g h p1 p2 p3 p4 p6 p7 p8 = omega arith

sum_s : (a b c d e f g h : ℕ) → a ≡ 0 → b ≡ 0 → c ≡ 0 → d ≡ 0 → e ≡ 0 → f ≡ 0 → h ≡ 0 → a + b + c + d + e + f + g + h ≡ g
sum_s a b c d e f g h p1 p2 p3 p4 p5 p6 p8 = omega arith

abbrev pub Is : ℕ → ℕ → ℤ → ℤ → Type 0
Is U V u v = (u ≡ pos U) × (v ≡ pos V)

down_not : (z : ℤ) → z -ℤ pos 1 ≡ z → ⊥
down_not z e = omega (arith, ints, e)

up_not : (z : ℤ) → z +ℤ pos 1 ≡ z → ⊥
up_not z e = omega (arith, ints, e)

down_up : (z : ℤ) → z -ℤ pos 1 ≡ z +ℤ pos 1 → ⊥
down_up z e = omega (arith, ints, e)

-- where all cells but the one in front are dark, that one is counted
pub front_around : (p : Plane) (X Y U V : ℕ) → Facing X Y U V → QuietBut p (pos X) (pos Y) (Is U V) → heads_around p (pos X) (pos Y) ≡ count_head (p (pos U) (pos V))
front_around p X Y U V (East_of a b c d) q =
    let h = eight p (pos X) (pos Y) (Is U V) q in
    let x = pos X in
    let y = pos Y in
    let fx : x +ℤ pos 1 ≡ pos U = omega (arith, ints, a) in
    let fy : y ≡ pos V = ap pos (sym b) in
    sum_e _ _ _ _ _ _ _ _
    (h.nw (λ i. down_not y (i.1 ∙ sym fy)))
    (h.n (λ i. down_not y (i.1 ∙ sym fy)))
    (h.ne (λ i. down_not y (i.1 ∙ sym fy)))
    (h.w (λ i. down_up x (i.0 ∙ sym fx)))
    (h.sw (λ i. up_not y (i.1 ∙ sym fy)))
    (h.s (λ i. up_not y (i.1 ∙ sym fy)))
    (h.se (λ i. up_not y (i.1 ∙ sym fy)))
    ∙ ap₂ (λ i j. count_head (p i j)) fx fy
front_around p X Y U V (West_of a b c d) q =
    let h = eight p (pos X) (pos Y) (Is U V) q in
    let x = pos X in
    let y = pos Y in
    let fx : x -ℤ pos 1 ≡ pos U = omega (arith, ints, a) in
    let fy : y ≡ pos V = ap pos (sym b) in
    sum_w _ _ _ _ _ _ _ _
    (h.nw (λ i. down_not y (i.1 ∙ sym fy)))
    (h.n (λ i. down_not y (i.1 ∙ sym fy)))
    (h.ne (λ i. down_not y (i.1 ∙ sym fy)))
    (h.e (λ i. down_up x (fx ∙ sym i.0)))
    (h.sw (λ i. up_not y (i.1 ∙ sym fy)))
    (h.s (λ i. up_not y (i.1 ∙ sym fy)))
    (h.se (λ i. up_not y (i.1 ∙ sym fy)))
    ∙ ap₂ (λ i j. count_head (p i j)) fx fy
front_around p X Y U V (South_of a b c d) q =
    let h = eight p (pos X) (pos Y) (Is U V) q in
    let x = pos X in
    let y = pos Y in
    let fx : x ≡ pos U = ap pos (sym b) in
    let fy : y +ℤ pos 1 ≡ pos V = omega (arith, ints, a) in
    sum_s _ _ _ _ _ _ _ _
    (h.nw (λ i. down_not x (i.0 ∙ sym fx)))
    (h.n (λ i. down_up y (i.1 ∙ sym fy)))
    (h.ne (λ i. up_not x (i.0 ∙ sym fx)))
    (h.w (λ i. down_not x (i.0 ∙ sym fx)))
    (h.e (λ i. up_not x (i.0 ∙ sym fx)))
    (h.sw (λ i. down_not x (i.0 ∙ sym fx)))
    (h.se (λ i. up_not x (i.0 ∙ sym fx)))
    ∙ ap₂ (λ i j. count_head (p i j)) fx fy
front_around p X Y U V (North_of a b c d) q =
    let h = eight p (pos X) (pos Y) (Is U V) q in
    let x = pos X in
    let y = pos Y in
    let fx : x ≡ pos U = ap pos (sym b) in
    let fy : y -ℤ pos 1 ≡ pos V = omega (arith, ints, a) in
    sum_n _ _ _ _ _ _ _ _
    (h.nw (λ i. down_not x (i.0 ∙ sym fx)))
    (h.ne (λ i. up_not x (i.0 ∙ sym fx)))
    (h.w (λ i. down_not x (i.0 ∙ sym fx)))
    (h.e (λ i. up_not x (i.0 ∙ sym fx)))
    (h.sw (λ i. down_not x (i.0 ∙ sym fx)))
    (h.s (λ i. down_up y (fy ∙ sym i.1)))
    (h.se (λ i. up_not x (i.0 ∙ sym fx)))
    ∙ ap₂ (λ i j. count_head (p i j)) fx fy
