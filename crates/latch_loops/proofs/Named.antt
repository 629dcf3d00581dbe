-- The edges that the names of starts light.
use Rattle.std.proofs.Common.{◌≡◌, refl, sym, ◌∙◌, ap, ap₂, subst, ℕ, zero, suc, ◌+◌, ◌-◌, ◌*◌, ◌<◌, ◌≤◌, Bool, true, false, ◌&&◌, ◌||◌, cond, ◌⊎◌, inl, inr, ⊎_elim, List, [], ◌∷◌, ◌++◌, length, get_or, arith}
use Rattle.std.specs.Prelude.{◌==◌, All}
use Rattle.std.specs.List.{list_any}
use Rattle.std.specs.Cmp.{both_ways as same_bit}
use Rattle.std.proofs.Math.Bool.{or-false}
use Rattle.std.proofs.lemmas.Bool.{true≢false, and_parts, and_from, or_cases, or_left, or_right, eqb-true, eq-eqb, cases_eq}
use Rattle.std.proofs.lemmas.List.Folds.{list_any-append}
use Rattle.tiling.specs.Tiling.{Tiling, Edge}
use Rattle.tiling.specs.Tiling.Edge.{Beside, Above}
use Rattle.lane_core.specs.declared.starts.Start.{Start}
use Rattle.lane_core.specs.declared.plan.Plan.{Plan}
use Rattle.lane_core.specs.Plans.{IsAdmissible}
use Rattle.lane_core.specs.Instrs.{bit_on}
use Rattle.lane_core.specs.Starts.{is_start_at}
use Rattle.plan_layout.specs.Layout.{tiling_of}
use Rattle.plan_layout.specs.Starts.{HasCell, named_edges, edge_name, NamesEdge}
use Rattle.plan_layout.proofs.EdgeNames.{named, one_edge, name_lights}
use Rattle.plan_waves.specs.Waves.{tiles_back}
use Rattle.plan_waves.specs.WaysBack.{before_entry}
use Rattle.plan_waves.specs.Contexts.{contexts_on_ways, StartsContexts}
use Rattle.plan_waves.proofs.Loops.{ways_back_are_apart}
use Rattle.plan_waves.proofs.RunningContexts.{ways_with_loops}
use Rattle.latch_loops.specs.Starts.{start_in, starts_of_loop, starts_of_loops}
use Rattle.latch_loops.proofs.Passed.{way_passed}

-- the start has this name
abbrev is_named : ℕ → ℕ → Start → Bool
is_named x y start = start.x == x && start.y == y

-- a list of starts has the names of these loops' starts, and no others
abbrev pub HasNamesOf : Plan → List (List Bool) → List Start → Type 0
HasNamesOf plan starts names = (x y : ℕ) → is_start_at names x y ≡ is_start_at (starts_of_loops plan starts plan.latches) x y

-- a start with this name, in one of the first contexts of a loop
abbrev StartOf : Plan → List (List Bool) → ℕ → ℕ → ℕ → Type 0
StartOf plan starts loop x y = (c : ℕ) × (c < length starts) × (bit_on (get_or starts c []) loop ≡ true) × ((edge_name (tiling_of plan) (before_entry plan loop c)).x ≡ x) × ((edge_name (tiling_of plan) (before_entry plan loop c)).y ≡ y)

module _ (plan : Plan) (starts : List (List Bool)) (x y : ℕ) where
  named_in : (loop c : ℕ) (bit : Bool) → list_any (is_named x y) (cond bit (edge_name (tiling_of plan) (before_entry plan loop c) ∷ []) []) ≡ true
      → (bit ≡ true) × ((edge_name (tiling_of plan) (before_entry plan loop c)).x ≡ x) × ((edge_name (tiling_of plan) (before_entry plan loop c)).y ≡ y)
  named_in loop c false e = absurd (true≢false (sym e))
  named_in loop c true e =
      let s = edge_name (tiling_of plan) (before_entry plan loop c) in
      let parts = and_parts (s.x == x) (s.y == y) (sym (or-false (is_named x y s)) ∙ e) in
      (refl, eqb-true s.x x parts.0, eqb-true s.y y parts.1)

  in_named : (loop c : ℕ) (bit : Bool) → bit ≡ true → (edge_name (tiling_of plan) (before_entry plan loop c)).x ≡ x → (edge_name (tiling_of plan) (before_entry plan loop c)).y ≡ y
      → list_any (is_named x y) (cond bit (edge_name (tiling_of plan) (before_entry plan loop c) ∷ []) []) ≡ true
  in_named loop c false one ex ey = absurd (true≢false (sym one))
  in_named loop c true one ex ey =
      let s = edge_name (tiling_of plan) (before_entry plan loop c) in
      or_left (is_named x y s) false (and_from (s.x == x) (s.y == y) (eq-eqb s.x x ex) (eq-eqb s.y y ey))

  of_loop : (loop n : ℕ) → n ≤ length starts → list_any (is_named x y) (starts_of_loop plan starts loop n) ≡ true → StartOf plan starts loop x y
  of_loop loop zero within e = absurd (true≢false (sym e))
  of_loop loop (suc n) within e =
      ⊎_elim
      (λ before. of_loop loop n (omega (arith, within)) before)
      (λ last. (let is = named_in loop n (bit_on (get_or starts n []) loop) last in (n, omega (arith, within), is.0, is.1, is.2)))
      (or_cases (list_any (is_named x y) (starts_of_loop plan starts loop n)) (list_any (is_named x y) (start_in plan starts loop n))
      (sym (list_any-append (is_named x y) (starts_of_loop plan starts loop n) (start_in plan starts loop n)) ∙ e))

  in_loop : (loop n c : ℕ) → c < n → bit_on (get_or starts c []) loop ≡ true → (edge_name (tiling_of plan) (before_entry plan loop c)).x ≡ x → (edge_name (tiling_of plan) (before_entry plan loop c)).y ≡ y
      → list_any (is_named x y) (starts_of_loop plan starts loop n) ≡ true
  in_loop loop zero c low one ex ey = absurd (omega (arith, low))
  in_loop loop (suc n) c low one ex ey =
      list_any-append (is_named x y) (starts_of_loop plan starts loop n) (start_in plan starts loop n)
      ∙ ⊎_elim
      (λ (last : c ≡ n). or_right _ _ (subst (λ (k : ℕ). list_any (is_named x y) (start_in plan starts loop k) ≡ true) last (in_named loop c (bit_on (get_or starts c []) loop) one ex ey)))
      (λ other. or_left _ _ (in_loop loop n c (omega (arith, low, other)) one ex ey))
      (cases_eq c n)

  of_loops : (n : ℕ) → list_any (is_named x y) (starts_of_loops plan starts n) ≡ true → (loop : ℕ) × (loop < n) × StartOf plan starts loop x y
  of_loops zero e = absurd (true≢false (sym e))
  of_loops (suc n) e =
      ⊎_elim
      (λ before. (let f = of_loops n before in (f.0, omega (arith, f.1), f.2)))
      (λ last. (n, omega arith, of_loop n (length starts) (omega arith) last))
      (or_cases (list_any (is_named x y) (starts_of_loops plan starts n)) (list_any (is_named x y) (starts_of_loop plan starts n (length starts)))
      (sym (list_any-append (is_named x y) (starts_of_loops plan starts n) (starts_of_loop plan starts n (length starts))) ∙ e))

  in_loops : (n loop c : ℕ) → loop < n → c < length starts → bit_on (get_or starts c []) loop ≡ true → (edge_name (tiling_of plan) (before_entry plan loop c)).x ≡ x → (edge_name (tiling_of plan) (before_entry plan loop c)).y ≡ y
      → list_any (is_named x y) (starts_of_loops plan starts n) ≡ true
  in_loops zero loop c inside low one ex ey = absurd (omega (arith, inside))
  in_loops (suc n) loop c inside low one ex ey =
      list_any-append (is_named x y) (starts_of_loops plan starts n) (starts_of_loop plan starts n (length starts))
      ∙ ⊎_elim
      (λ (last : loop ≡ n). or_right _ _ (subst (λ (k : ℕ). list_any (is_named x y) (starts_of_loop plan starts k (length starts)) ≡ true) last (in_loop loop (length starts) c low one ex ey)))
      (λ other. or_left _ _ (in_loops n loop c (omega (arith, inside, other)) low one ex ey))
      (cases_eq loop n)

-- an edge has a cell that is its name
has_name : (tiling : Tiling) (edge : Edge) (x y : ℕ) → (edge_name tiling edge).x ≡ x → (edge_name tiling edge).y ≡ y → HasCell edge x y
has_name tiling edge x y ex ey = subst (λ (n : ℕ). HasCell edge x n) ey (subst (λ (n : ℕ). HasCell edge n (edge_name tiling edge).y) ex (named tiling edge))

-- an edge that is lit is the start of a context
abbrev IsStart : Plan → List (List Bool) → Edge → Type 0
IsStart plan starts edge = (c : ℕ) × (loop : ℕ) × (c < length starts) × (loop < plan.latches) × (bit_on (get_or starts c []) loop ≡ true) × (edge ≡ before_entry plan loop c)

module _ (plan : Plan) (starts : List (List Bool)) (names : List Start) (all : HasNamesOf plan starts names) where
  found : (edge : Edge) → named_edges names edge ≡ true → IsStart plan starts edge
  found (Beside q l) e =
      ⊎_elim
      (λ entry. of (32 * q) (16 * l + 8) entry (inl refl, refl))
      (λ exit. of (32 * q - 1) (16 * l + 8) exit (inr refl, refl))
      (or_cases _ _ e)
    where
      of : (x y : ℕ) → is_start_at names x y ≡ true → HasCell (Beside q l) x y → IsStart plan starts (Beside q l)
      of x y any is =
          let f = of_loops plan starts x y plan.latches (sym (all x y) ∙ any) in
          (f.2.0, f.0, f.2.1, f.1, f.2.2, one_edge (Beside q l) (before_entry plan f.0 f.2.0) x y is (has_name (tiling_of plan) (before_entry plan f.0 f.2.0) x y f.2.3 f.2.4))
  found (Above q l) e =
      ⊎_elim
      (λ entry. of (32 * q + 16) (16 * l) entry (refl, inl refl))
      (λ exit. of (32 * q + 16) (16 * l - 1) exit (refl, inr refl))
      (or_cases _ _ e)
    where
      of : (x y : ℕ) → is_start_at names x y ≡ true → HasCell (Above q l) x y → IsStart plan starts (Above q l)
      of x y any is =
          let f = of_loops plan starts x y plan.latches (sym (all x y) ∙ any) in
          (f.2.0, f.0, f.2.1, f.1, f.2.2, one_edge (Above q l) (before_entry plan f.0 f.2.0) x y is (has_name (tiling_of plan) (before_entry plan f.0 f.2.0) x y f.2.3 f.2.4))

pub starts_are_on_ways : (plan : Plan) → IsAdmissible plan → (starts : List (List Bool)) → length starts ≤ contexts_on_ways plan → All (λ bits. length bits ≡ plan.latches) starts
    → (names : List Start) → HasNamesOf plan starts names → StartsContexts plan starts (named_edges names)
starts_are_on_ways plan h starts fit long names all = record {
  fit = fit;
  long = long;
  on_ways = λ c loop low inside. same_bit _ _ (to c loop low inside) (from c loop low inside);
  only = λ edge e. (let f = found plan starts names all edge e in (f.0, f.1, f.2, f.3, f.5));
}
  where
    on_way : (c loop : ℕ) → c < length starts → loop < plan.latches → c ≤ tiles_back plan
    on_way c loop low inside = omega (arith, low, fit, ways_with_loops plan (omega (arith, inside)))

    to : (c loop : ℕ) → c < length starts → loop < plan.latches → named_edges names (before_entry plan loop c) ≡ true → bit_on (get_or starts c []) loop ≡ true
    to c loop low inside e =
        let f = found plan starts names all (before_entry plan loop c) e in
        let same = ways_back_are_apart plan h loop f.1 c f.0 inside f.3 (on_way c loop low inside) (on_way f.0 f.1 f.2 f.3) f.5 in
        ap₂ (λ k n. bit_on (get_or starts k []) n) same.1 same.0 ∙ f.4

    from : (c loop : ℕ) → c < length starts → loop < plan.latches → bit_on (get_or starts c []) loop ≡ true → named_edges names (before_entry plan loop c) ≡ true
    from c loop low inside one =
        let s = edge_name (tiling_of plan) (before_entry plan loop c) in
        name_lights (tiling_of plan) names (before_entry plan loop c) (all s.x s.y ∙ in_loops plan starts s.x s.y plan.latches loop c inside low one refl refl)

-- ---- each name is that of an edge of the drawing
is_there : (names : List Start) (k : ℕ) (d : Start) → k < length names → is_start_at names (get_or names k d).x (get_or names k d).y ≡ true
is_there [] k d within = absurd (omega (arith, within))
is_there (s ∷ names) zero d within = or_left _ _ (and_from (s.x == s.x) (s.y == s.y) (eq-eqb s.x s.x refl) (eq-eqb s.y s.y refl))
is_there (s ∷ names) (suc k) d within = or_right _ _ (is_there names k d (omega (arith, within)))

same_start : (s t : Start) → t.x ≡ s.x → t.y ≡ s.y → s ≡ t
same_start s t ex ey = ap₂ (λ (y : ℕ) (x : ℕ). record { y = y; x = x }) (sym ey) (sym ex)

pub names_are_edges : (plan : Plan) → IsAdmissible plan → (starts : List (List Bool)) → length starts ≤ contexts_on_ways plan
    → (names : List Start) → HasNamesOf plan starts names → All (NamesEdge (tiling_of plan)) names
names_are_edges plan h starts fit names all k d within =
    let s = get_or names k d in
    let f = of_loops plan starts s.x s.y plan.latches (sym (all s.x s.y) ∙ is_there names k d within) in
    record {
      edge = before_entry plan f.0 f.2.0;
      passed = way_passed plan h f.0 f.2.0 f.1 (omega (arith, f.2.1, fit, ways_with_loops plan (omega (arith, f.1))));
      name = same_start s (edge_name (tiling_of plan) (before_entry plan f.0 f.2.0)) f.2.3 f.2.4;
    }
