-- Starts of loops are in order, and in order there is one list of them.
use Rattle.std.proofs.Common.{◌≡◌, ◌≢◌, refl, sym, ◌∙◌, ap, ap₂, subst, ℕ, zero, suc, ◌+◌, ◌<◌, ◌≤◌, Bool, true, false, ◌&&◌, ◌||◌, ◌==◌, cond, ⊎_elim, List, [], ◌∷◌, ◌++◌, arith}
use Rattle.std.specs.Prelude.{All, IsTrue}
use Rattle.std.specs.List.{list_all}
use Rattle.std.proofs.lemmas.Bool.{cases_eq, and_from, and_parts}
use Rattle.std.proofs.lemmas.Bool.Decides.{nat_tests}
use Rattle.std.proofs.lemmas.List.Elements.{All-head, All-tail}
use Rattle.lane_core.specs.declared.starts.Start.{Start}
use Rattle.lane_core.specs.Starts.{is_before, are_starts_in_order}
use Rattle.circuit_plans.specs.Circuits.{loop_start, IsLoopStart, starts_with_one, starts_from, starts_where}
use Rattle.circuit_plans.specs.Laws.{StartsAreOfLoops}

module _ (lanes loops : ℕ) where
  -- the loops are in order
  before : (a b : ℕ) → a < b → is_before (loop_start lanes loops a) (loop_start lanes loops b) ≡ true
  before a b lt = grind (arith, nat_tests)

  all_before : (holds : ℕ → Bool) (a left from : ℕ) → a < from → list_all (is_before (loop_start lanes loops a)) (starts_from lanes loops holds left from) ≡ true
  all_before holds a zero from lt = refl
  all_before holds a (suc left) from lt = go (holds from) (all_before holds a left (from + 1) (omega (arith, lt)))
    where
      go : (b : Bool) → list_all (is_before (loop_start lanes loops a)) (starts_from lanes loops holds left (from + 1)) ≡ true
          → list_all (is_before (loop_start lanes loops a)) (cond b (loop_start lanes loops from ∷ []) [] ++ starts_from lanes loops holds left (from + 1)) ≡ true
      go true rest = and_from _ _ (before a from lt) rest
      go false rest = rest

  pub in_order : (holds : ℕ → Bool) (left from : ℕ) → are_starts_in_order (starts_from lanes loops holds left from) ≡ true
  in_order holds zero from = refl
  in_order holds (suc left) from = go (holds from) (in_order holds left (from + 1))
    where
      go : (b : Bool) → are_starts_in_order (starts_from lanes loops holds left (from + 1)) ≡ true
          → are_starts_in_order (cond b (loop_start lanes loops from ∷ []) [] ++ starts_from lanes loops holds left (from + 1)) ≡ true
      go true rest = and_from _ _ (all_before holds from left (from + 1) (omega arith)) rest
      go false rest = rest

  -- one loop more
  pub one_loop : (holds : ℕ → Bool) (left next loop : ℕ) → left ≡ next + 1
      → starts_from lanes loops holds left loop ≡ cond (holds loop) (loop_start lanes loops loop ∷ []) [] ++ starts_from lanes loops holds next (loop + 1)
  one_loop holds left next loop e = let more : left ≡ suc next = omega arith in ap (λ n. starts_from lanes loops holds n loop) more

  -- starts of loops from one on, each after the one before it
  abbrev Rising : ℕ → ℕ → List Start → Type 0
  Rising from end [] = Unit {0}
  Rising from end (start ∷ starts) = (loop : ℕ) × (from ≤ loop) × (loop < end) × (start ≡ loop_start lanes loops loop) × Rising (loop + 1) end starts

  -- the starts of loops from one on
  abbrev IsFrom : ℕ → ℕ → Start → Type 0
  IsFrom from end start = (loop : ℕ) × (from ≤ loop) × (loop < end) × (start ≡ loop_start lanes loops loop)

  is_after : (a b : ℕ) → is_before (loop_start lanes loops a) (loop_start lanes loops b) ≡ true → a < b
  is_after a b h = grind (arith, nat_tests)

  all_after : (from end k : ℕ) (starts : List Start) → list_all (is_before (loop_start lanes loops k)) starts ≡ true → All (IsFrom from end) starts → All (IsFrom (k + 1) end) starts
  all_after from end k [] before all i d lt = absurd (omega (arith, lt))
  all_after from end k (start ∷ starts) before all zero d lt =
      let first : IsFrom from end start = All-head (IsFrom from end) start starts all in
      let later : k < first.0 = is_after k first.0 (ap (is_before (loop_start lanes loops k)) (sym first.3) ∙ (and_parts _ _ before).0) in
      (first.0, omega (arith, later), first.2, first.3)
  all_after from end k (start ∷ starts) before all (suc i) d lt =
      all_after from end k starts (and_parts _ _ before).1 (All-tail (IsFrom from end) start starts all) i d (omega (arith, lt))

  rising : (from end : ℕ) (starts : List Start) → are_starts_in_order starts ≡ true → All (IsFrom from end) starts → Rising from end starts
  rising from end [] order all = tt
  rising from end (start ∷ starts) order all =
      let first : IsFrom from end start = All-head (IsFrom from end) start starts all in
      let before : list_all (is_before (loop_start lanes loops first.0)) starts ≡ true =
      ap (λ s. list_all (is_before s) starts) (sym first.3) ∙ (and_parts (list_all (is_before start) starts) (are_starts_in_order starts) order).0 in (
        first.0,
        first.1,
        first.2,
        first.3,
        rising (first.0 + 1) end starts (and_parts (list_all (is_before start) starts) (are_starts_in_order starts) order).1
            (all_after from end first.0 starts before (All-tail (IsFrom from end) start starts all)),
      )

  -- the start of another loop
  other_start : (a b : ℕ) → a ≢ b → ((loop_start lanes loops a).x == (loop_start lanes loops b).x && (loop_start lanes loops a).y == (loop_start lanes loops b).y) ≡ false
  other_start a b other = grind (arith, nat_tests)

  own_start : (a : ℕ) → ((loop_start lanes loops a).x == (loop_start lanes loops a).x && (loop_start lanes loops a).y == (loop_start lanes loops a).y) ≡ true
  own_start a = grind (arith, nat_tests)

  none_before : (from end loop : ℕ) (starts : List Start) → Rising from end starts → loop < from → starts_with_one starts lanes loops loop ≡ false
  none_before from end loop [] r lt = refl
  none_before from end loop (start ∷ starts) r lt =
      ap (λ (s : Start). (s.x == (loop_start lanes loops loop).x && s.y == (loop_start lanes loops loop).y) || starts_with_one starts lanes loops loop) r.3
      ∙ ap (λ b. b || starts_with_one starts lanes loops loop) (other_start r.0 loop (λ e. absurd (omega (arith, lt, e, r.1))))
      ∙ none_before (r.0 + 1) end loop starts r.4 (omega (arith, lt, r.1))

  starts_are : (holds : ℕ → Bool) (left from : ℕ) (starts : List Start) → Rising from (from + left) starts
      → ((loop : ℕ) → from ≤ loop → loop < from + left → holds loop ≡ starts_with_one starts lanes loops loop)
      → starts_from lanes loops holds left from ≡ starts
  starts_are holds zero from [] r h = refl
  starts_are holds zero from (start ∷ starts) r h = absurd (omega (arith, r.1, r.2))
  starts_are holds (suc left) from [] r h =
      ap (λ b. cond b (loop_start lanes loops from ∷ []) [] ++ starts_from lanes loops holds left (from + 1)) (h from (omega arith) (omega arith))
      ∙ starts_are holds left (from + 1) [] tt (λ loop low high. h loop (omega (arith, low)) (omega (arith, high)))
  starts_are holds (suc left) from (start ∷ starts) r h =
      ⊎_elim
      (λ same. (let own : start ≡ loop_start lanes loops from = r.3 ∙ ap (loop_start lanes loops) same in
      let one : starts_with_one (start ∷ starts) lanes loops from ≡ true =
      ap (λ (s : Start). (s.x == (loop_start lanes loops from).x && s.y == (loop_start lanes loops from).y) || starts_with_one starts lanes loops from) own
      ∙ ap (λ b. b || starts_with_one starts lanes loops from) (own_start from) in
      ap (λ b. cond b (loop_start lanes loops from ∷ []) [] ++ starts_from lanes loops holds left (from + 1)) (h from (omega arith) (omega arith) ∙ one)
      ∙ ap₂ (λ s ss. s ∷ ss) (sym own)
      (starts_are holds left (from + 1) starts
      (subst (λ n. Rising n (from + 1 + left) starts) (ap (λ n. n + 1) same)
      (let all : from + suc left ≡ from + 1 + left = omega arith in subst (λ n. Rising (r.0 + 1) n starts) all r.4))
      (λ loop low high. h loop (omega (arith, low)) (omega (arith, high))
      ∙ ap (λ (s : Start). (s.x == (loop_start lanes loops loop).x && s.y == (loop_start lanes loops loop).y) || starts_with_one starts lanes loops loop) own
      ∙ ap (λ b. b || starts_with_one starts lanes loops loop) (other_start from loop (λ e. absurd (omega (arith, low, e))))))))
      (λ other. (let later : from + 1 ≤ r.0 = omega (arith, r.1, other) in
      let moved : Rising (from + 1) (from + 1 + left) (start ∷ starts) =
      (let all : from + suc left ≡ from + 1 + left = omega arith in (r.0, later, omega (arith, r.2), r.3, subst (λ n. Rising (r.0 + 1) n starts) all r.4)) in
      ap (λ b. cond b (loop_start lanes loops from ∷ []) [] ++ starts_from lanes loops holds left (from + 1))
      (h from (omega arith) (omega arith) ∙ none_before (from + 1) (from + 1 + left) from (start ∷ starts) moved (omega arith))
      ∙ starts_are holds left (from + 1) (start ∷ starts) moved (λ loop low high. h loop (omega (arith, low)) (omega (arith, high)))))
      (cases_eq r.0 from)

  all_from : (starts : List Start) → All (IsLoopStart lanes loops) starts → All (IsFrom 0 (0 + loops)) starts
  all_from starts all k d lt = let at = all k d lt in (at.0, omega arith, omega (arith, at.1), at.2)

pub starts_are_of_loops : StartsAreOfLoops
starts_are_of_loops plan h holds same =
    starts_are plan.lanes plan.latches holds plan.latches 0 plan.starts.list
    (rising plan.lanes plan.latches 0 (0 + plan.latches) plan.starts.list plan.starts.in_order (all_from plan.lanes plan.latches plan.starts.list h.at_loops))
    (λ loop low high. same loop (omega (arith, high)))

pub where_in_order : (lanes loops : ℕ) (holds : ℕ → Bool) → IsTrue (are_starts_in_order (starts_where lanes loops holds))
where_in_order lanes loops holds = in_order lanes loops holds loops 0

from_at_loops : (lanes loops : ℕ) (holds : ℕ → Bool) (left from : ℕ) → from + left ≤ loops → All (IsLoopStart lanes loops) (starts_from lanes loops holds left from)
from_at_loops lanes loops holds zero from fit = λ k d lt. absurd (omega arith)
from_at_loops lanes loops holds (suc left) from fit = go (holds from) (from_at_loops lanes loops holds left (from + 1) (omega (arith, fit)))
  where
    go : (b : Bool) → All (IsLoopStart lanes loops) (starts_from lanes loops holds left (from + 1))
        → All (IsLoopStart lanes loops) (cond b (loop_start lanes loops from ∷ []) [] ++ starts_from lanes loops holds left (from + 1))
    go false rest k d lt = rest k d lt
    go true rest zero d lt = (from, omega (arith, fit), refl)
    go true rest (suc k) d lt = rest k d (omega arith)

pub where_at_loops : (lanes loops : ℕ) (holds : ℕ → Bool) → All (IsLoopStart lanes loops) (starts_where lanes loops holds)
where_at_loops lanes loops holds = from_at_loops lanes loops holds loops 0 (omega arith)
