-- Between generations 1 and 31 no piece sees a head of another one.
use Rattle.std.proofs.Common.{ℤ, ℕ, suc, ◌≤◌, ◌≡◌, ◌≢◌, ◌⊎◌, refl, sym, ap, ◌∙◌, subst, Bool, true, false, arith, inl, inr}
use Rattle.std.proofs.lemmas.Bool.{true≢false, false_from_ne_true}
use Rattle.std.proofs.Math.Path.{fun_ext}
use Rattle.std.specs.Prelude.{Option, Some, None}
use Rattle.std.proofs.lemmas.Option.{same_Some}
use Rattle.ww_rule.specs.declared.pattern.State.TheVariants.{Head}
use Rattle.ww_rule.specs.Wireworld.{next_plane, evolve, count_head}
use Rattle.ww_rule.proofs.Cells.{next_plane_counts, next_plane_empty, not_counted}
use Rattle.tile_core.specs.declared.kind.Kind.{Kind}
use Rattle.tile_core.specs.Drawing.{Drawing}
use Rattle.tile_core.specs.Interface.{is_in_box}
use Rattle.tiling.specs.Tiling.{Tiling, Lit}
use Rattle.tiling.specs.Matched.{HasWholePieces}
use Rattle.tiling.proofs.Region.{Placed, face, tile_at, InBox, in_box_is, in_box_test, belongs}
use Rattle.tiling.proofs.Alone.{Laws, wires, alone, alone_at, bit, glue, undrawn, nothing_stays, drawn_in_box}
use Rattle.tiling.proofs.Border.{Near, near_back, local_x, local_y, is_entry, is_exit, is_port, inside_is}

abbrev pub IsPortAt : Placed → ℤ → ℤ → Type 0
IsPortAt t u v = (is_entry t u v ≡ true) ⊎ (is_exit t u v ≡ true)

-- two drawn cells side by side, of two pieces
pub record Contact (library : Kind → Drawing) (tiling : Tiling) (t s : Placed) (x y u v : ℤ) : Type 0 where
  pub here : tile_at tiling x y ≡ Some t
  pub there : tile_at tiling u v ≡ Some s
  pub near : Near x y u v
  pub outside : InBox tiling t u v → ⊥
  pub drawn_here : wires library t x y ≡ true
  pub drawn_there : wires library s u v ≡ true
  pub port_here : IsPortAt t x y
  pub port_there : IsPortAt s u v

contact : (library : Kind → Drawing) → Laws library → (tiling : Tiling) → HasWholePieces tiling → (t s : Placed) (x y u v : ℤ) → tile_at tiling x y ≡ Some t → tile_at tiling u v ≡ Some s
    → Near x y u v → (InBox tiling t u v → ⊥) → wires library t x y ≡ true → wires library s u v ≡ true → Contact library tiling t s x y u v
contact library laws tiling h t s x y u v e f n out d w =
    let back : InBox tiling s x y → ⊥ = λ b.
    let same : t ≡ s = same_Some _ _ (sym e ∙ in_box_is tiling h s x y (belongs tiling h s u v f).stands b) in
    out (subst (λ r. InBox tiling r u v) (sym same) (belongs tiling h s u v f).inside) in
    record {
      here = e;
      there = f;
      near = n;
      outside = out;
      drawn_here = d;
      drawn_there = w;
      port_here = is_port library laws tiling t x y u v d n out;
      port_there = is_port library laws tiling s u v x y w (near_back x y u v n) back;
    }

-- beside a drawn cell the plane has the heads of the cell's own piece, unless a piece that touches it there has one
pub counts : (library : Kind → Drawing) → Laws library → (tiling : Tiling) → HasWholePieces tiling → (lit : Lit) (g : ℕ) (t : Placed) (x y u v : ℤ) → tile_at tiling x y ≡ Some t → wires library t x y ≡ true → Near x y u v
    → ((s : Placed) → Contact library tiling t s x y u v → evolve g (alone library lit (Some s)) u v ≢ Head)
    → count_head (glue library tiling lit g u v) ≡ count_head (evolve g (alone library lit (Some t)) u v)
counts library laws tiling h lit g t x y u v e d n quiet = in_or_out (is_in_box (face t) (local_x t u) (local_y t v)) refl
  where
    none_of_its_own : (InBox tiling t u v → ⊥) → count_head (evolve g (alone library lit (Some t)) u v) ≡ 0
    none_of_its_own out = ap count_head (undrawn library lit t g u v (false_from_ne_true _ (λ w. out (drawn_in_box library laws tiling t u v w))))

    drawn_or_not : (s : Placed) (w : Bool) → tile_at tiling u v ≡ Some s → wires library s u v ≡ w → (InBox tiling t u v → ⊥) → count_head (evolve g (alone library lit (Some s)) u v) ≡ 0
    drawn_or_not s true f w out = not_counted _ (quiet s (contact library laws tiling h t s x y u v e f n out d w))
    drawn_or_not s false f w out = ap count_head (undrawn library lit s g u v w)

    other : (o : Option Placed) → tile_at tiling u v ≡ o → (InBox tiling t u v → ⊥) → count_head (evolve g (alone library lit o) u v) ≡ 0
    other None f out = ap count_head (nothing_stays library lit g u v)
    other (Some s) f out = drawn_or_not s (wires library s u v) f refl out

    in_or_out : (i : Bool) → is_in_box (face t) (local_x t u) (local_y t v) ≡ i → count_head (glue library tiling lit g u v) ≡ count_head (evolve g (alone library lit (Some t)) u v)
    in_or_out true i =
        let own = in_box_is tiling h t u v (belongs tiling h t x y e).stands (in_box_test tiling t u v i) in
        ap (λ o. count_head (evolve g (alone library lit o) u v)) own
    in_or_out false i =
        let out : InBox tiling t u v → ⊥ = λ b. true≢false (sym (inside_is tiling t u v b) ∙ i) in
        other (tile_at tiling u v) refl out ∙ sym (none_of_its_own out)

-- a port is dark at generations 1 to 30
port_dark : (library : Kind → Drawing) → Laws library → (lit : Lit) (s : Placed) (g : ℕ) (u v : ℤ) → 1 ≤ g → g ≤ 30 → IsPortAt s u v → evolve g (alone library lit (Some s)) u v ≢ Head
port_dark library laws lit s g u v lo hi (inl entry) head =
    ((laws s.piece).keeps_time (bit lit s 0) (bit lit s 1)).entries_stay_dark g (local_x s u) (local_y s v) lo (omega arith) entry (sym (alone_at library lit s g u v) ∙ head)
port_dark library laws lit s g u v lo hi (inr exit) head =
    ((laws s.piece).keeps_time (bit lit s 0) (bit lit s 1)).exits_stay_dark g (local_x s u) (local_y s v) (omega arith) (omega arith) exit (sym (alone_at library lit s g u v) ∙ head)

-- one generation, from 1 to 30
pub glue_step : (library : Kind → Drawing) → Laws library → (tiling : Tiling) → HasWholePieces tiling → (lit : Lit) (g : ℕ) → 1 ≤ g → g ≤ 30 → next_plane (glue library tiling lit g) ≡ glue library tiling lit (suc g)
glue_step library laws tiling h lit g lo hi = fun_ext (λ x. fun_ext (λ y. at x y (tile_at tiling x y) refl))
  where
    drawn_or_not : (x y : ℤ) (t : Placed) (w : Bool) → tile_at tiling x y ≡ Some t → wires library t x y ≡ w → next_plane (glue library tiling lit g) x y ≡ evolve (suc g) (alone library lit (Some t)) x y
    drawn_or_not x y t true e w =
        next_plane_counts (glue library tiling lit g) (evolve g (alone library lit (Some t))) x y (ap (λ o. evolve g (alone library lit o) x y) e)
        (λ u v a b c d. counts library laws tiling h lit g t x y u v e w (record { west = a; east = b; north = c; south = d }) (λ s k. port_dark library laws lit s g u v lo hi k.port_there))
    drawn_or_not x y t false e w =
        next_plane_empty (glue library tiling lit g) x y (ap (λ o. evolve g (alone library lit o) x y) e ∙ undrawn library lit t g x y w)
        ∙ sym (undrawn library lit t (suc g) x y w)

    at : (x y : ℤ) (o : Option Placed) → tile_at tiling x y ≡ o → next_plane (glue library tiling lit g) x y ≡ glue library tiling lit (suc g) x y
    at x y None e =
        next_plane_empty (glue library tiling lit g) x y (ap (λ o. evolve g (alone library lit o) x y) e ∙ nothing_stays library lit g x y)
        ∙ sym (ap (λ o. evolve (suc g) (alone library lit o) x y) e ∙ nothing_stays library lit (suc g) x y)
    at x y (Some t) e =
        drawn_or_not x y t (wires library t x y) e refl
        ∙ sym (ap (λ o. evolve (suc g) (alone library lit o) x y) e)
