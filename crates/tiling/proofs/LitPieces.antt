-- Electrons are in lit pieces only, and many macro steps.
use Rattle.std.proofs.Common.{ℤ, pos, negsuc, ℕ, zero, suc, ◌+◌, ◌*◌, ◌/◌, ◌%◌, ◌<◌, ◌≡◌, ◌⊎◌, refl, sym, ap, ap₂, ◌∙◌, Bool, true, false, cond, arith, inl, inr, List, [], ◌∷◌}
use Rattle.std.proofs.lemmas.Bool.{or_parts}
use Rattle.std.specs.Prelude.{Option, Some, None}
use Rattle.std.proofs.lemmas.Option.{none-some}
use Rattle.ww_rule.specs.declared.pattern.State.{State}
use Rattle.ww_rule.specs.declared.pattern.State.TheVariants.{Empty, Head, Tail, Conductor}
use Rattle.ww_rule.specs.Wireworld.{Plane, next_plane, evolve}
use Rattle.tile_core.specs.declared.kind.Kind.{Kind}
use Rattle.tile_core.specs.Drawing.{Cell, Drawing, picture}
use Rattle.tile_core.specs.Interface.{chosen, entry_cells}
use Rattle.tile_timing.proofs.Sound.{step_picture}
use Rattle.tiling.specs.Tiling.{Slot, Tiling, Lit, piece_drawing, drawn}
use Rattle.tiling.specs.Tiling.Slot.{Nothing, Whole, Upper, Lower}
use Rattle.tiling.specs.Matched.{IsMatched}
use Rattle.tiling.specs.Steps.{KeepsLaw, after_steps, piece_is_lit, slot_is_lit, LiesInLitPieces, StepsByMacro}
use Rattle.tiling.proofs.Region.{Placed, face, tile_at, belongs}
use Rattle.tiling.proofs.Alone.{Laws, alone, alone_at, begun, bit, glue, nothing_stays}
use Rattle.tiling.proofs.Border.{local_x, local_y}
use Rattle.tiling.proofs.Blocks.{by_slot, slot_some}
use Rattle.tiling.proofs.Between.{between}
use Rattle.tiling.proofs.Macro.{macro}
use Rattle.tiling.proofs.OutputCell.{laws_of}

none_chosen : (cs : List Cell) → chosen cs (false ∷ false ∷ []) ≡ []
none_chosen [] = refl
none_chosen (c ∷ []) = refl
none_chosen (c ∷ d ∷ []) = refl
none_chosen (c ∷ d ∷ e ∷ cs) = refl

rests : (drawing : Drawing) (g : ℕ) → evolve g (picture drawing [] []) ≡ picture drawing [] []
rests drawing zero = refl
rests drawing (suc g) = ap next_plane (rests drawing g) ∙ step_picture drawing [] []

-- a piece without a lit entry stays at rest
dark_rests : (library : Kind → Drawing) (lit : Lit) (t : Placed) (g : ℕ) (x y : ℤ) → bit lit t 0 ≡ false → bit lit t 1 ≡ false → evolve g (alone library lit (Some t)) x y ≡ picture (piece_drawing library t.piece) [] [] (local_x t x) (local_y t y)
dark_rests library lit t g x y a b =
    let D = piece_drawing library t.piece in
    let start : begun library lit t ≡ picture D [] [] = ap (λ hs. picture D hs []) (ap₂ (λ i j. chosen (entry_cells (face t)) (i ∷ j ∷ [])) a b ∙ none_chosen (entry_cells (face t))) in
    alone_at library lit t g x y ∙ ap (λ p. evolve g p (local_x t x) (local_y t y)) start ∙ ap (λ p. p (local_x t x) (local_y t y)) (rests D g)

no_electron : (w : Bool) → (cond w Conductor Empty ≡ Head) ⊎ (cond w Conductor Empty ≡ Tail) → ⊥
no_electron true (inl e) = cc
no_electron true (inr e) = cc
no_electron false (inl e) = cc
no_electron false (inr e) = cc

lit_if : (library : Kind → Drawing) (lit : Lit) (t : Placed) (g : ℕ) (x y : ℤ) → (evolve g (alone library lit (Some t)) x y ≡ Head) ⊎ (evolve g (alone library lit (Some t)) x y ≡ Tail) → (v : Bool) → piece_is_lit lit t.column t.lane t.piece ≡ v → v ≡ true
lit_if library lit t g x y e true h = refl
lit_if library lit t g x y e false h =
    let parts = or_parts (bit lit t 0) (bit lit t 1) h in
    let rest = dark_rests library lit t g x y parts.0 parts.1 in
    absurd (no_electron (piece_drawing library t.piece (local_x t x) (local_y t y)) (both rest e))
  where
    both : {s r : State} → s ≡ r → (s ≡ Head) ⊎ (s ≡ Tail) → (r ≡ Head) ⊎ (r ≡ Tail)
    both f (inl e) = inl (sym f ∙ e)
    both f (inr e) = inr (sym f ∙ e)

lit_by_slot : (lit : Lit) (q l : ℕ) (s : Slot) (x y : ℕ) → slot_is_lit lit q l s ≡ by_slot (λ i j p a b. piece_is_lit lit i j p) false q l s x y
lit_by_slot lit q l Nothing x y = refl
lit_by_slot lit q l (Whole p) x y = refl
lit_by_slot lit q l (Upper p) x y = refl
lit_by_slot lit q l (Lower p) x y = refl

-- where the glued plane has an electron its piece has a lit entry
glue_lit : (library : Kind → Drawing) (tiling : Tiling) → IsMatched tiling → (lit : Lit) (g : ℕ) → LiesInLitPieces tiling lit (glue library tiling lit g)
glue_lit library tiling m lit g x y e = go x y (tile_at tiling x y) refl e
  where
    go : (x y : ℤ) (o : Option Placed) → tile_at tiling x y ≡ o → (evolve g (alone library lit o) x y ≡ Head) ⊎ (evolve g (alone library lit o) x y ≡ Tail)
        → (X : ℕ) × (Y : ℕ) × (x ≡ pos X) × (y ≡ pos Y) × (slot_is_lit lit (X / 32) (Y / 16) (tiling (X / 32) (Y / 16)) ≡ true)
    go x y None f e = absurd (empty e)
      where
        empty : (evolve g (alone library lit None) x y ≡ Head) ⊎ (evolve g (alone library lit None) x y ≡ Tail) → ⊥
        empty (inl e) = no_electron false (inl (sym (nothing_stays library lit g x y) ∙ e))
        empty (inr e) = no_electron false (inr (sym (nothing_stays library lit g x y) ∙ e))
    go (pos X) (pos Y) (Some t) f e = (
      X,
      Y,
      refl,
      refl,
      lit_by_slot lit (X / 32) (Y / 16) (tiling (X / 32) (Y / 16)) (X % 32) (Y % 16)
          ∙ slot_some (λ i j p a b. piece_is_lit lit i j p) false tiling m.pieces t X Y f (belongs tiling m.pieces t (pos X) (pos Y) f).inside
          ∙ lit_if library lit t g (pos X) (pos Y) e _ refl,
    )
    go (pos X) (negsuc Y) (Some t) f e = absurd (none-some _ f)
    go (negsuc X) y (Some t) f e = absurd (none-some _ f)

pub evolve_add : (a b : ℕ) (p : Plane) → evolve (a + b) p ≡ evolve b (evolve a p)
evolve_add a zero p = let e : a + 0 ≡ a = omega arith in ap (λ n. evolve n p) e
evolve_add a (suc b) p =
    let e : a + suc b ≡ suc (a + b) = omega arith in
    ap (λ n. evolve n p) e ∙ ap next_plane (evolve_add a b p)

-- many macro steps
many : (library : Kind → Drawing) → Laws library → (tiling : Tiling) → IsMatched tiling → (lit : Lit) (m : ℕ) → evolve (32 * m) (drawn library tiling lit) ≡ drawn library tiling (after_steps tiling lit m)
many library laws tiling h lit zero = refl
many library laws tiling h lit (suc m) =
    let e : 32 * suc m ≡ 32 * m + 32 = omega arith in
    ap (λ n. evolve n (drawn library tiling lit)) e
    ∙ evolve_add (32 * m) 32 (drawn library tiling lit)
    ∙ ap (evolve 32) (many library laws tiling h lit m)
    ∙ macro library laws tiling h (after_steps tiling lit m)

pub steps_by_macro : (library : Kind → Drawing) → KeepsLaw library → (tiling : Tiling) → IsMatched tiling → (lit : Lit) → StepsByMacro library tiling lit
steps_by_macro library keeps tiling h lit =
    let laws = laws_of library keeps in
    record {
      whole = many library laws tiling h lit;
      between = λ m g lo hi x y e. at_g laws m g lo hi x y e;
    }
  where
    at_g : Laws library → (m g : ℕ) → 0 < g → g < 32 → LiesInLitPieces tiling (after_steps tiling lit m) (evolve (32 * m + g) (drawn library tiling lit))
    at_g laws m zero lo hi x y e = absurd (omega arith)
    at_g laws m (suc g) lo hi x y e =
        let same : evolve (32 * m + suc g) (drawn library tiling lit) ≡ glue library tiling (after_steps tiling lit m) (suc g) =
        evolve_add (32 * m) (suc g) (drawn library tiling lit) ∙ ap (evolve (suc g)) (many library laws tiling h lit m) ∙ between library laws tiling h (after_steps tiling lit m) g (omega arith) in
        glue_lit library tiling h (after_steps tiling lit m) (suc g) x y (moved_to (ap (λ p. p x y) same) e)
      where
        moved_to : {s r : State} → s ≡ r → (s ≡ Head) ⊎ (s ≡ Tail) → (r ≡ Head) ⊎ (r ≡ Tail)
        moved_to f (inl e) = inl (sym f ∙ e)
        moved_to f (inr e) = inr (sym f ∙ e)
