-- Paths of a signal along the tiles of a plan.
use Rattle.std.proofs.Common.{◌≡◌, refl, sym, ◌∙◌, ap, ap₂, subst, ℕ, zero, suc, ◌+◌, ◌-◌, ◌<◌, ◌≤◌, false, ⊎_elim, arith}
use Rattle.std.specs.Prelude.{◌≢◌}
use Rattle.std.proofs.lemmas.Bool.{cases_lt}
use Rattle.std.proofs.lemmas.Bool.Decides.{nat_tests}
use Rattle.tile_core.specs.declared.kind.Kind.TheVariants as kind
use Rattle.tiling.specs.Tiling.{Tiling, Edge, Lit}
use Rattle.tiling.specs.Tiling.Piece.{Tile}
use Rattle.tiling.specs.Tiling.Slot.{Whole}
use Rattle.tiling.specs.Tiling.Edge.{Beside, Above}
use Rattle.lane_core.specs.declared.plan.Plan.{Plan}
use Rattle.lane_core.specs.Plans.{IsAdmissible}
use Rattle.lane_core.specs.Entering.{first_loop_lane}
use Rattle.plan_layout.specs.Layout.{end_of_body, tiling_of}
use Rattle.plan_layout.proofs.Matched.{tiling_is_matched}
use Rattle.plan_waves.specs.Waves.{is_free_entry, GoesOn, is_body_entry, is_inside}
use Rattle.plan_waves.specs.WaysBack.{tile_before, tiles_before}
use Rattle.plan_waves.proofs.Passing.{PassesOn, beside_same, above_same, east_passes, south_passes, west_passes, north_passes}

-- an edge is lit exactly when another one was, a macro step before; and that one lies a tile before it, and is no entry of
-- the body, nor is this one inside it
pub record Follows (plan : Plan) (edges : ℕ → Lit) (before after : Edge) : Type 0 where
  pub next : (m : ℕ) → edges (suc m) after ≡ edges m before
  pub outside : is_body_entry plan before ≡ false
  pub apart : is_inside plan after ≡ false
  pub back : tile_before (tiling_of plan) after ≡ before

-- the same of each edge up to so many tiles before it, of which this one is the last
pub record Reaches (plan : Plan) (edges : ℕ → Lit) (n : ℕ) (before after : Edge) : Type 0 where
  pub along : (m j : ℕ) → j ≤ n → edges (m + j) after ≡ edges m (tiles_before (tiling_of plan) j after)
  pub outside : (j : ℕ) → 0 < j → j ≤ n → is_body_entry plan (tiles_before (tiling_of plan) j after) ≡ false
  pub apart : (j : ℕ) → j < n → is_inside plan (tiles_before (tiling_of plan) j after) ≡ false
  pub back : tiles_before (tiling_of plan) n after ≡ before

pub arrives : (plan : Plan) (edges : ℕ → Lit) (n : ℕ) (before after : Edge) → Reaches plan edges n before after → (m : ℕ) → edges (m + n) after ≡ edges m before
arrives plan edges n before after r m = r.along m n (omega arith) ∙ ap (edges m) r.back

-- a tile passes on what it is given, to an edge that is no free entry
pub passed_on : (plan : Plan) (edges : ℕ → Lit) → GoesOn plan edges → (before after : Edge) → is_body_entry plan before ≡ false → is_free_entry plan after ≡ false → is_inside plan after ≡ false
    → PassesOn (tiling_of plan) before after → Follows plan edges before after
passed_on plan edges g before after outside free apart passes = record { next = λ m. g.next m after free ∙ passes.step (edges m); outside = outside; apart = apart; back = passes.back }

-- on the lanes of loops and below there is no free entry
pub loop_lane : (plan : Plan) (q l : ℕ) → first_loop_lane plan.lanes plan.latches ≤ l → is_free_entry plan (Beside q l) ≡ false
loop_lane plan q l high = grind (arith, nat_tests)

-- below the body, and beside its first column, no edge is an entry of the body
pub below_body : (plan : Plan) (q l : ℕ) → plan.lanes ≤ l → is_body_entry plan (Beside q l) ≡ false
below_body plan q l low = grind (arith, nat_tests)

pub other_column : (plan : Plan) (q l : ℕ) → q ≢ plan.latches → is_body_entry plan (Beside q l) ≡ false
other_column plan q l other = grind (arith, nat_tests)

-- below the body, and left and right of it, no edge is inside it
pub below_inside : (plan : Plan) (q l : ℕ) → plan.lanes ≤ l → is_inside plan (Beside q l) ≡ false
below_inside plan q l low = grind (arith, nat_tests)

pub left_inside : (plan : Plan) (q l : ℕ) → q ≤ plan.latches → is_inside plan (Beside q l) ≡ false
left_inside plan q l left = grind (arith, nat_tests)

pub right_inside : (plan : Plan) (q l : ℕ) → end_of_body plan < q → is_inside plan (Beside q l) ≡ false
right_inside plan q l right = grind (arith, nat_tests)

-- so many tiles back, and more
pub further_back : (tiling : Tiling) (edge : Edge) (j more : ℕ) → tiles_before tiling (j + more) edge ≡ tiles_before tiling more (tiles_before tiling j edge)
further_back tiling edge j zero = let none : j + 0 ≡ j = omega arith in ap (λ n. tiles_before tiling n edge) none
further_back tiling edge j (suc more) =
    let one : j + suc more ≡ suc (j + more) = omega arith in
    ap (λ n. tiles_before tiling n edge) one ∙ ap (tile_before tiling) (further_back tiling edge j more)

-- a path of edges each of which follows the one before
pub chain : (plan : Plan) (edges : ℕ → Lit) (path : ℕ → Edge) (n : ℕ) → ((t : ℕ) → t < n → Follows plan edges (path t) (path (t + 1))) → Reaches plan edges n (path 0) (path n)
chain plan edges path n each = record {
  along = λ m j within. passed m j within ∙ ap (edges m) (sym (behind j within));
  outside = λ j some within. ap (is_body_entry plan) (behind j within) ∙ (each (n - j) (omega arith)).outside;
  apart = λ j within. (let one : n - j ≡ n - suc j + 1 = omega arith in
      ap (is_inside plan) (behind j (omega arith) ∙ ap path one) ∙ (each (n - suc j) (omega arith)).apart);
  back = (let last : n - n ≡ 0 = omega arith in behind n (omega arith) ∙ ap path last);
}
  where
    behind : (j : ℕ) → j ≤ n → tiles_before (tiling_of plan) j (path n) ≡ path (n - j)
    behind zero within = let all : n ≡ n - 0 = omega arith in ap path all
    behind (suc j) within =
        let one : n - j ≡ n - suc j + 1 = omega arith in
        ap (tile_before (tiling_of plan)) (behind j (omega arith) ∙ ap path one) ∙ (each (n - suc j) (omega arith)).back

    passed : (m j : ℕ) → j ≤ n → edges (m + j) (path n) ≡ edges m (path (n - j))
    passed m zero within =
        let now : m + 0 ≡ m = omega arith in
        let all : n ≡ n - 0 = omega arith in
        ap₂ (λ k t. edges k (path t)) now all
    passed m (suc j) within =
        let later : m + suc j ≡ suc m + j = omega arith in
        let one : n - j ≡ n - suc j + 1 = omega arith in
        ap (λ k. edges k (path n)) later ∙ passed (suc m) j (omega arith) ∙ ap (λ t. edges (suc m) (path t)) one ∙ (each (n - suc j) (omega arith)).next m

pub once : (plan : Plan) (edges : ℕ → Lit) (before after : Edge) → Follows plan edges before after → Reaches plan edges 1 before after
once plan edges before after f = record { along = along; outside = outside; apart = apart; back = f.back }
  where
    along : (m j : ℕ) → j ≤ 1 → edges (m + j) after ≡ edges m (tiles_before (tiling_of plan) j after)
    along m zero within = let now : m + 0 ≡ m = omega arith in ap (λ k. edges k after) now
    along m (suc zero) within = let later : m + 1 ≡ suc m = omega arith in ap (λ k. edges k after) later ∙ f.next m ∙ ap (edges m) (sym f.back)
    along m (suc (suc j)) within = absurd (omega arith)

    outside : (j : ℕ) → 0 < j → j ≤ 1 → is_body_entry plan (tiles_before (tiling_of plan) j after) ≡ false
    outside zero some within = absurd (omega arith)
    outside (suc zero) some within = ap (is_body_entry plan) f.back ∙ f.outside
    outside (suc (suc j)) some within = absurd (omega arith)

    apart : (j : ℕ) → j < 1 → is_inside plan (tiles_before (tiling_of plan) j after) ≡ false
    apart zero within = f.apart
    apart (suc j) within = absurd (omega arith)

pub joined : (plan : Plan) (edges : ℕ → Lit) (a b : ℕ) (first middle last : Edge) → Reaches plan edges a first middle → Reaches plan edges b middle last → Reaches plan edges (a + b) first last
joined plan edges a b first middle last f g = record {
  along = λ m j within. ⊎_elim (λ near. g.along m j (omega arith)) (λ far. further m j within far) (cases_lt j b);
  outside = λ j some within. ⊎_elim
      (λ far. ap (is_body_entry plan) (beyond j (omega arith)) ∙ f.outside (j - b) (omega arith) (omega arith))
      (λ near. g.outside j some near)
      (cases_lt b j);
  apart = λ j within. ⊎_elim
      (λ near. g.apart j near)
      (λ far. ap (is_inside plan) (beyond j far) ∙ f.apart (j - b) (omega arith))
      (cases_lt j b);
  back = (let place : a + b - b ≡ a = omega arith in beyond (a + b) (omega arith) ∙ ap (λ i. tiles_before (tiling_of plan) i middle) place ∙ f.back);
}
  where
    beyond : (j : ℕ) → b ≤ j → tiles_before (tiling_of plan) j last ≡ tiles_before (tiling_of plan) (j - b) middle
    beyond j far =
        let sum : j ≡ b + (j - b) = omega arith in
        ap (λ i. tiles_before (tiling_of plan) i last) sum ∙ further_back (tiling_of plan) last b (j - b) ∙ ap (tiles_before (tiling_of plan) (j - b)) g.back

    further : (m j : ℕ) → j ≤ a + b → b ≤ j → edges (m + j) last ≡ edges m (tiles_before (tiling_of plan) j last)
    further m j within far =
        let sum : m + j ≡ m + (j - b) + b = omega arith in
        ap (λ k. edges k last) sum ∙ arrives plan edges b middle last g (m + (j - b)) ∙ f.along m (j - b) (omega arith) ∙ ap (edges m) (sym (beyond j far))

-- the same path, with its ends written in another way
pub renamed : (plan : Plan) (edges : ℕ → Lit) (n n' : ℕ) (first first' last last' : Edge) → n ≡ n' → first ≡ first' → last ≡ last' → Reaches plan edges n first last → Reaches plan edges n' first' last'
renamed plan edges n n' first first' last last' e f g path =
    subst (λ (k : ℕ). Reaches plan edges k first' last') e (subst (λ (a : Edge). Reaches plan edges n a last') f (subst (λ (b : Edge). Reaches plan edges n first b) g path))

-- straight on, in each direction, along so many tiles
pub east : (plan : Plan) → IsAdmissible plan → (edges : ℕ → Lit) → GoesOn plan edges → (n q l : ℕ) → first_loop_lane plan.lanes plan.latches ≤ l → ((t : ℕ) → t < n → q + t ≢ plan.latches)
    → ((t : ℕ) → t < n → is_inside plan (Beside (q + (t + 1)) l) ≡ false)
    → ((t : ℕ) → t < n → tiling_of plan (q + t) l ≡ Whole (Tile kind.East)) → Reaches plan edges n (Beside q l) (Beside (q + n) l)
east plan h edges g n q l high beside apart tiles =
    renamed plan edges n n (Beside (q + 0) l) (Beside q l) (Beside (q + n) l) (Beside (q + n) l) refl (beside_same (q + 0) q l l (omega arith) refl) refl
    (chain plan edges (λ t. Beside (q + t) l) n (λ t within.
    passed_on plan edges g (Beside (q + t) l) (Beside (q + (t + 1)) l) (other_column plan (q + t) l (beside t within)) (loop_lane plan (q + (t + 1)) l high) (apart t within)
    (east_passes (tiling_of plan) (tiling_is_matched plan h) (q + t) (q + (t + 1)) l (omega arith) (tiles t within))))

pub south : (plan : Plan) → IsAdmissible plan → (edges : ℕ → Lit) → GoesOn plan edges → (n q l : ℕ)
    → ((t : ℕ) → t < n → tiling_of plan q (l + t) ≡ Whole (Tile kind.South)) → Reaches plan edges n (Above q l) (Above q (l + n))
south plan h edges g n q l tiles =
    renamed plan edges n n (Above q (l + 0)) (Above q l) (Above q (l + n)) (Above q (l + n)) refl (above_same q q (l + 0) l refl (omega arith)) refl
    (chain plan edges (λ t. Above q (l + t)) n (λ t within.
    passed_on plan edges g (Above q (l + t)) (Above q (l + (t + 1))) refl refl refl
    (south_passes (tiling_of plan) (tiling_is_matched plan h) q (l + t) (l + (t + 1)) (omega arith) (tiles t within))))

pub west : (plan : Plan) → IsAdmissible plan → (edges : ℕ → Lit) → GoesOn plan edges → (n q l : ℕ) → plan.lanes ≤ l
    → ((t : ℕ) → t < n → tiling_of plan (q + t) l ≡ Whole (Tile kind.West)) → Reaches plan edges n (Beside (q + n) l) (Beside q l)
west plan h edges g n q l low tiles =
    renamed plan edges n n (Beside (q + (n - 0)) l) (Beside (q + n) l) (Beside (q + (n - n)) l) (Beside q l) refl (beside_same (q + (n - 0)) (q + n) l l (omega arith) refl) (beside_same (q + (n - n)) q l l (omega arith) refl)
    (chain plan edges (λ t. Beside (q + (n - t)) l) n (λ t within.
    passed_on plan edges g (Beside (q + (n - t)) l) (Beside (q + (n - (t + 1))) l) (below_body plan (q + (n - t)) l low) (loop_lane plan (q + (n - (t + 1))) l (omega arith)) (below_inside plan (q + (n - (t + 1))) l low)
    (west_passes (tiling_of plan) (tiling_is_matched plan h) (q + (n - (t + 1))) (q + (n - t)) l (omega arith) (tiles (n - (t + 1)) (omega arith)))))

pub north : (plan : Plan) → IsAdmissible plan → (edges : ℕ → Lit) → GoesOn plan edges → (n q l : ℕ)
    → ((t : ℕ) → t < n → tiling_of plan q (l + t) ≡ Whole (Tile kind.North)) → Reaches plan edges n (Above q (l + n)) (Above q l)
north plan h edges g n q l tiles =
    renamed plan edges n n (Above q (l + (n - 0))) (Above q (l + n)) (Above q (l + (n - n))) (Above q l) refl (above_same q q (l + (n - 0)) (l + n) refl (omega arith)) (above_same q q (l + (n - n)) l refl (omega arith))
    (chain plan edges (λ t. Above q (l + (n - t))) n (λ t within.
    passed_on plan edges g (Above q (l + (n - t))) (Above q (l + (n - (t + 1)))) refl refl refl
    (north_passes (tiling_of plan) (tiling_is_matched plan h) q (l + (n - (t + 1))) (l + (n - t)) (omega arith) (tiles (n - (t + 1)) (omega arith)))))
