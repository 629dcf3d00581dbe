-- Two pieces touch only where the middles of two sides face each other, and there share an edge.
use Rattle.std.proofs.Common.{ℤ, pos, ℕ, ◌+◌, ◌*◌, ◌/◌, ◌%◌, ◌≤◌, ◌≡◌, sym, ap, ap₂, ◌∙◌, subst, arith, inl, inr}
use Rattle.std.proofs.lemmas.Int.{ints}
use Rattle.tile_core.specs.declared.kind.Kind.{Kind}
use Rattle.tile_core.specs.Drawing.{Drawing, is_cell_of}
use Rattle.tile_core.specs.Interface.{entry_cells, exit_cells}
use Rattle.tiling.specs.Tiling.{Tiling}
use Rattle.tiling.specs.Tiling.Edge.{Beside, Above}
use Rattle.tiling.specs.Matched.{HasWholePieces}
use Rattle.tiling.proofs.Region.{Placed, face, place_of, tile_at, InBox, belongs}
use Rattle.tiling.proofs.Border.{Near, at_local}
use Rattle.tiling.proofs.Apart.{Contact, IsPortAt}
use Rattle.tiling.proofs.Sides.{IsAtSide, entry_side, exit_side, block_edge, edge_at}

-- the places of two cells that face each other over an edge: the second lies east, west, south or north of the first
pub data Facing : (X Y U V : ℕ) → Type 0 where
  East_of : {X Y U V : ℕ} → U ≡ X + 1 → V ≡ Y → X % 32 ≡ 31 → Y % 16 ≡ 8 → Facing X Y U V
  West_of : {X Y U V : ℕ} → X ≡ U + 1 → V ≡ Y → U % 32 ≡ 31 → Y % 16 ≡ 8 → Facing X Y U V
  South_of : {X Y U V : ℕ} → V ≡ Y + 1 → U ≡ X → X % 32 ≡ 16 → Y % 16 ≡ 15 → Facing X Y U V
  North_of : {X Y U V : ℕ} → Y ≡ V + 1 → U ≡ X → X % 32 ≡ 16 → V % 16 ≡ 15 → Facing X Y U V

-- two cells at most one column and one row apart, as numbers
pub record Close (X Y U V : ℕ) : Type 0 where
  pub west : X ≤ U + 1
  pub east : U ≤ X + 1
  pub north : Y ≤ V + 1
  pub south : V ≤ Y + 1

close_by : (X Y U V : ℕ) → Near (pos X) (pos Y) (pos U) (pos V) → Close X Y U V
close_by X Y U V n =
    record {
      west = omega (arith, ints, n.west);
      east = omega (arith, ints, n.east);
      north = omega (arith, ints, n.north);
      south = omega (arith, ints, n.south);
    }

facing : (X Y U V : ℕ) → Close X Y U V → IsAtSide (X % 32) (Y % 16) → IsAtSide (U % 32) (V % 16) → (X / 32 ≡ U / 32 → Y / 16 ≡ V / 16 → ⊥) → Facing X Y U V
facing X Y U V n (inl a) (inl b) apart =
    absurd (apart (omega (arith, n.west, n.east, a.0, b.0)) (omega (arith, n.north, n.south, a.1, b.1)))
facing X Y U V n (inl a) (inr (inl b)) apart =
    West_of (omega (arith, n.west, n.east, a.0, b.0)) (omega (arith, n.north, n.south, a.1, b.1)) b.0 (omega (arith, a.1))
facing X Y U V n (inl a) (inr (inr (inl b))) apart = absurd (omega (arith, n.west, n.east, a.0, b.0))
facing X Y U V n (inl a) (inr (inr (inr b))) apart = absurd (omega (arith, n.west, n.east, a.0, b.0))
facing X Y U V n (inr (inl a)) (inl b) apart =
    East_of (omega (arith, n.west, n.east, a.0, b.0)) (omega (arith, n.north, n.south, a.1, b.1)) a.0 (omega (arith, a.1))
facing X Y U V n (inr (inl a)) (inr (inl b)) apart =
    absurd (apart (omega (arith, n.west, n.east, a.0, b.0)) (omega (arith, n.north, n.south, a.1, b.1)))
facing X Y U V n (inr (inl a)) (inr (inr (inl b))) apart = absurd (omega (arith, n.west, n.east, a.0, b.0))
facing X Y U V n (inr (inl a)) (inr (inr (inr b))) apart = absurd (omega (arith, n.west, n.east, a.0, b.0))
facing X Y U V n (inr (inr (inl a))) (inl b) apart = absurd (omega (arith, n.west, n.east, a.0, b.0))
facing X Y U V n (inr (inr (inl a))) (inr (inl b)) apart = absurd (omega (arith, n.west, n.east, a.0, b.0))
facing X Y U V n (inr (inr (inl a))) (inr (inr (inl b))) apart =
    absurd (apart (omega (arith, n.west, n.east, a.0, b.0)) (omega (arith, n.north, n.south, a.1, b.1)))
facing X Y U V n (inr (inr (inl a))) (inr (inr (inr b))) apart =
    North_of (omega (arith, n.north, n.south, a.1, b.1)) (omega (arith, n.west, n.east, a.0, b.0)) a.0 b.1
facing X Y U V n (inr (inr (inr a))) (inl b) apart = absurd (omega (arith, n.west, n.east, a.0, b.0))
facing X Y U V n (inr (inr (inr a))) (inr (inl b)) apart = absurd (omega (arith, n.west, n.east, a.0, b.0))
facing X Y U V n (inr (inr (inr a))) (inr (inr (inl b))) apart =
    South_of (omega (arith, n.north, n.south, a.1, b.1)) (omega (arith, n.west, n.east, a.0, b.0)) a.0 a.1
facing X Y U V n (inr (inr (inr a))) (inr (inr (inr b))) apart =
    absurd (apart (omega (arith, n.west, n.east, a.0, b.0)) (omega (arith, n.north, n.south, a.1, b.1)))

-- a place in a piece's box, and the same in its block
pub block_side : (q l x y : ℕ) → IsAtSide x y → IsAtSide ((32 * q + x) % 32) ((16 * l + y) % 16)
block_side q l x y (inl a) = inl (omega (arith, a.0), omega (arith, a.1))
block_side q l x y (inr (inl a)) = inr (inl (omega (arith, a.0), omega (arith, a.1)))
block_side q l x y (inr (inr (inl a))) = inr (inr (inl (omega (arith, a.0), omega (arith, a.1))))
block_side q l x y (inr (inr (inr a))) = inr (inr (inr (omega (arith, a.0), omega (arith, a.1))))

pub port_side : (tiling : Tiling) (t : Placed) (u v : ℤ) (b : InBox tiling t u v) → IsPortAt t u v → IsAtSide b.x b.y
port_side tiling t u v b (inl e) =
    let at = at_local tiling t u v b in
    entry_side t.piece b.x b.y (ap₂ (λ i j. is_cell_of i j (entry_cells (face t))) (sym at.0) (sym at.1) ∙ e)
port_side tiling t u v b (inr e) =
    let at = at_local tiling t u v b in
    exit_side t.piece b.x b.y (ap₂ (λ i j. is_cell_of i j (exit_cells (face t))) (sym at.0) (sym at.1) ∙ e)

-- cells of pieces that touch face each other
pub contact_faces : (library : Kind → Drawing) (tiling : Tiling) → HasWholePieces tiling → (t s : Placed) (X Y U V : ℕ) → Contact library tiling t s (pos X) (pos Y) (pos U) (pos V) → Facing X Y U V
contact_faces library tiling h t s X Y U V k =
    let b = (belongs tiling h t (pos X) (pos Y) k.here).inside in
    let d = (belongs tiling h s (pos U) (pos V) k.there).inside in
    let x_is : 32 * t.column + b.x ≡ X = omega (arith, ints, b.u_is) in
    let y_is : 16 * t.lane + b.y ≡ Y = omega (arith, ints, b.v_is) in
    let u_is : 32 * s.column + d.x ≡ U = omega (arith, ints, d.u_is) in
    let v_is : 16 * s.lane + d.y ≡ V = omega (arith, ints, d.v_is) in
    let here : IsAtSide (X % 32) (Y % 16) = subst (λ n. IsAtSide (n % 32) (Y % 16)) x_is (subst (λ n. IsAtSide ((32 * t.column + b.x) % 32) (n % 16)) y_is (block_side t.column t.lane b.x b.y (port_side tiling t (pos X) (pos Y) b k.port_here))) in
    let there : IsAtSide (U % 32) (V % 16) = subst (λ n. IsAtSide (n % 32) (V % 16)) u_is (subst (λ n. IsAtSide ((32 * s.column + d.x) % 32) (n % 16)) v_is (block_side s.column s.lane d.x d.y (port_side tiling s (pos U) (pos V) d k.port_there))) in
    facing X Y U V (close_by X Y U V k.near) here there (λ c r. k.outside (belongs tiling h t (pos U) (pos V) (same_block c r ∙ k.here)).inside)
  where
    same_block : X / 32 ≡ U / 32 → Y / 16 ≡ V / 16 → tile_at tiling (pos U) (pos V) ≡ tile_at tiling (pos X) (pos Y)
    same_block c r = sym (ap₂ (λ q l. place_of q l (tiling q l)) c r)

-- over their edge
pub facing_edge : (X Y U V : ℕ) → Facing X Y U V → edge_at X Y ≡ edge_at U V
facing_edge X Y U V (East_of a b c d) =
    let q : X / 32 + 1 ≡ U / 32 = omega (arith, a, c) in
    let r : U % 32 ≡ 0 = omega (arith, a, c) in
    ap (λ n. block_edge (X / 32) (Y / 16) n (Y % 16)) c ∙ ap₂ (λ n m. Beside n (m / 16)) q (sym b) ∙ ap (λ n. block_edge (U / 32) (V / 16) n (V % 16)) (sym r)
facing_edge X Y U V (West_of a b c d) =
    let q : U / 32 + 1 ≡ X / 32 = omega (arith, a, c) in
    let r : X % 32 ≡ 0 = omega (arith, a, c) in
    ap (λ n. block_edge (X / 32) (Y / 16) n (Y % 16)) r ∙ ap₂ (λ n m. Beside n (m / 16)) (sym q) (sym b) ∙ ap (λ n. block_edge (U / 32) (V / 16) n (V % 16)) (sym c)
facing_edge X Y U V (South_of a b c d) =
    let l : Y / 16 + 1 ≡ V / 16 = omega (arith, a, d) in
    let r : V % 16 ≡ 0 = omega (arith, a, d) in
    let m : U % 32 ≡ 16 = omega (arith, b, c) in
    ap₂ (block_edge (X / 32) (Y / 16)) c d ∙ ap₂ (λ n k. Above (n / 32) k) (sym b) l ∙ ap₂ (block_edge (U / 32) (V / 16)) (sym m) (sym r)
facing_edge X Y U V (North_of a b c d) =
    let l : V / 16 + 1 ≡ Y / 16 = omega (arith, a, d) in
    let r : Y % 16 ≡ 0 = omega (arith, a, d) in
    let m : U % 32 ≡ 16 = omega (arith, b, c) in
    ap₂ (block_edge (X / 32) (Y / 16)) c r ∙ ap₂ (λ n k. Above (n / 32) k) (sym b) (sym l) ∙ ap₂ (block_edge (U / 32) (V / 16)) (sym m) (sym d)
