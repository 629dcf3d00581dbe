-- The first injection at a cell that is no conductor, generation after generation.
use Rattle.std.proofs.Common.{pos, ℕ, suc, ◌≡◌, ◌≤◌, ◌<◌, ◌+◌, ◌==◌, refl, sym, ap, ap₂, subst, ◌∙◌, Bool, true, false, cond, Some, List, [], ◌∷◌, ◌++◌, length, take, drop, filter, get_or, All, arith}
use Rattle.std.specs.Prelude.{nat_le, not}
use Rattle.std.specs.List.{find}
use Rattle.std.specs.Option.{option_or}
use Rattle.std.proofs.lemmas.Bool.{eqb-true, eqb-false}
use Rattle.std.proofs.lemmas.Bool.Decides.{nat_tests}
use Rattle.std.proofs.lemmas.Option.{none-some, same_Some}
use Rattle.std.proofs.lemmas.List.{append-nil, drop_all, drop_more}
use Rattle.std.proofs.lemmas.List.Elements.{All-nil, All-cons, All-head, All-tail, filter-append}
use Rattle.std.proofs.lemmas.List.Folds.{find-append}
use Rattle.ww_rule.specs.declared.pattern.Injection.{Injection}
use Rattle.ww_rule.specs.Wireworld.{Plane, Due}
use Rattle.ww_rule.specs.Due.{AreInOrderFrom, AreLeftAt, due_count}
use Rattle.ww_rule.proofs.Due.{from_earlier}
use Rattle.ww_rule.specs.Injections.{before_injections}
use Rattle.drive.specs.Misses.{is_conductor, misses, first_of_misses}

abbrev pub up_to : ℕ → Injection → Bool
up_to g i = nat_le i.generation g

all_up_to : (g h : ℕ) (is : List Injection) → h ≤ g + 1 → All (λ i. i.generation < h) is → filter (up_to g) is ≡ is
all_up_to g h [] le early = refl
all_up_to g h (i ∷ is) le early =
    let Early : Injection → Type 0 = λ i. i.generation < h in
    let first = All-head Early i is early in
    let here : nat_le i.generation g ≡ true = grind (arith, nat_tests, first, le) in
    let rest = filter (up_to g) is in
    ap (λ (t : Bool). cond t (i ∷ rest) rest) here ∙ ap (λ (is : List Injection). i ∷ is) (all_up_to g h is le (All-tail Early i is early))

none_up_to : (g h : ℕ) (is : List Injection) → g < h → AreInOrderFrom h is → filter (up_to g) is ≡ []
none_up_to g h [] lt order = refl
none_up_to g h (i ∷ is) lt order =
    let first = order.0 in
    let here : nat_le i.generation g ≡ false = grind (arith, nat_tests, first, lt) in
    let rest = filter (up_to g) is in
    ap (λ (t : Bool). cond t (i ∷ rest) rest) here ∙ none_up_to g i.generation is (omega (arith, lt, first)) order.1

-- where none is earlier than a generation, those up to it are the first
up_to_front : (g : ℕ) (is : List Injection) → AreInOrderFrom g is → filter (up_to g) is ≡ take (due_count g is) is
up_to_front g [] order = refl
up_to_front g (i ∷ is) order = go (i.generation == g) refl (up_to_front g is (from_earlier g i.generation is order.0 order.1))
  where
    go : (t : Bool) → (i.generation == g) ≡ t → filter (up_to g) is ≡ take (due_count g is) is → filter (up_to g) (i ∷ is) ≡ take (cond t (1 + due_count g is) 0) (i ∷ is)
    go true e front =
        let same = eqb-true i.generation g e in
        let here : nat_le i.generation g ≡ true = grind (arith, nat_tests, same) in
        let rest = filter (up_to g) is in
        ap (λ (t : Bool). cond t (i ∷ rest) rest) here
        ∙ ap (λ (is : List Injection). i ∷ is) front
        ∙ ap (λ n. take n (i ∷ is)) (let s : suc (due_count g is) ≡ 1 + due_count g is = omega arith in s)
    go false e front =
        let other = eqb-false i.generation g e in
        none_up_to g (g + 1) (i ∷ is) (omega arith) (omega (arith, order.0, other), order.1)

-- and these are of that generation
pub due_now : (g : ℕ) (is : List Injection) → All (λ i. i.generation ≡ g) (take (due_count g is) is)
due_now g [] = All-nil (λ (i : Injection). i.generation ≡ g)
due_now g (i ∷ is) = go (i.generation == g) refl (due_now g is)
  where
    go : (t : Bool) → (i.generation == g) ≡ t → All (λ i. i.generation ≡ g) (take (due_count g is) is) → All (λ i. i.generation ≡ g) (take (cond t (1 + due_count g is) 0) (i ∷ is))
    go true e front =
        subst (λ (n : ℕ). All (λ i. i.generation ≡ g) (take n (i ∷ is))) (let s : suc (due_count g is) ≡ 1 + due_count g is = omega arith in s)
        (All-cons (λ (i : Injection). i.generation ≡ g) i (take (due_count g is) is) (eqb-true i.generation g e) front)
    go false e front = All-nil (λ (i : Injection). i.generation ≡ g)

module _ (due : Due) (plane : Plane) where
  pub first_at_zero : (is : List Injection) → AreInOrderFrom 0 is → first_of_misses is due plane 0 ≡ find (misses due plane) (take (due_count 0 is) is)
  first_at_zero is order = ap (find (misses due plane)) (up_to_front 0 is order)

  -- at the next generation its injections are looked at, where there is none so far
  pub first_at_next : (g : ℕ) (is left : List Injection) → AreLeftAt (g + 1) is left
      → first_of_misses is due plane (g + 1) ≡ option_or (first_of_misses is due plane g) (find (misses due plane) (take (due_count (g + 1) left) left))
  first_at_next g is left a =
      let front = take (due_count (g + 1) left) left in
      let next : filter (up_to (g + 1)) is ≡ a.used ++ front =
      ap (filter (up_to (g + 1))) a.parts
      ∙ filter-append (up_to (g + 1)) a.used left
      ∙ ap₂ (λ (used left : List Injection). used ++ left) (all_up_to (g + 1) (g + 1) a.used (omega arith) a.earlier) (up_to_front (g + 1) left a.in_order) in
      let now : filter (up_to g) is ≡ a.used =
      ap (filter (up_to g)) a.parts
      ∙ filter-append (up_to g) a.used left
      ∙ ap₂ (λ (used left : List Injection). used ++ left) (all_up_to g (g + 1) a.used (omega arith) a.earlier) (none_up_to g (g + 1) left (omega arith) a.in_order)
      ∙ append-nil a.used in
      ap (find (misses due plane)) next
      ∙ find-append (misses due plane) a.used front
      ∙ ap (λ (is : List Injection). option_or (find (misses due plane) is) (find (misses due plane) front)) (sym now)

  -- up to a generation before those that are left there is no other
  pub first_calm : (g h : ℕ) (is left : List Injection) → g ≤ h → AreLeftAt (g + 1) is left → AreInOrderFrom (h + 1) left → first_of_misses is due plane h ≡ first_of_misses is due plane g
  first_calm g h is left le a order = ap (find (misses due plane)) (up_to_used h le (omega arith) order ∙ sym (up_to_used g (omega arith) (omega arith) a.in_order))
    where
      up_to_used : (h : ℕ) → g ≤ h → h < h + 1 → AreInOrderFrom (h + 1) left → filter (up_to h) is ≡ a.used
      up_to_used h le later order =
          ap (filter (up_to h)) a.parts
          ∙ filter-append (up_to h) a.used left
          ∙ ap₂ (λ (used left : List Injection). used ++ left) (all_up_to h (g + 1) a.used (omega (arith, le)) a.earlier) (none_up_to h (h + 1) left later order)
          ∙ append-nil a.used

  -- after the last injection there is no other
  pub first_stays : (g h : ℕ) (is : List Injection) → g ≤ h → All (λ i. i.generation < g + 1) is → first_of_misses is due plane h ≡ first_of_misses is due plane g
  first_stays g h is le past =
      ap (find (misses due plane)) (all_up_to h (g + 1) is (omega (arith, le)) past ∙ sym (all_up_to g (g + 1) is (omega arith) past))

-- where none is left, all are earlier
pub all_past : (g n : ℕ) (is : List Injection) → AreLeftAt (g + 1) is (drop n is) → length is ≤ n → All (λ i. i.generation < g + 1) is
all_past g n is a le =
    subst (All (λ (i : Injection). i.generation < g + 1)) (sym (a.parts ∙ ap (λ (left : List Injection). a.used ++ left) (drop_all n is le) ∙ append-nil a.used)) a.earlier

-- the first element of those that are left, and the others
module _ {X : Type 0} (p : X → Bool) (xs : List X) (n : ℕ) (d : X) where
  pub found_here : n < length xs → p (get_or xs n d) ≡ true → find p (drop n xs) ≡ Some (get_or xs n d)
  found_here lt e =
      ap (find p) (drop_more xs n d lt) ∙ ap (λ (t : Bool). cond t (Some (get_or xs n d)) (find p (drop (n + 1) xs))) e

  pub found_later : n < length xs → p (get_or xs n d) ≡ false → find p (drop n xs) ≡ find p (drop (n + 1) xs)
  found_later lt e =
      ap (find p) (drop_more xs n d lt) ∙ ap (λ (t : Bool). cond t (Some (get_or xs n d)) (find p (drop (n + 1) xs))) e

-- an injection of generation 0 misses by the pattern as it stands
pub misses_at_zero : (due : Due) (plane : Plane) (i : Injection) → i.generation ≡ 0 → misses due plane i ≡ not (is_conductor (plane (pos i.x) (pos i.y)))
misses_at_zero due plane i e = ap (λ g. not (is_conductor (before_injections due plane g (pos i.x) (pos i.y)))) e

-- the first of those up to a generation, in lists in order
module _ (p : Injection → Bool) (g : ℕ) (i : Injection) where
  -- it is the first up to each later generation
  pub first_found : (h from : ℕ) (is : List Injection) → AreInOrderFrom from is → g ≤ h → find p (filter (up_to g) is) ≡ Some i → find p (filter (up_to h) is) ≡ Some i
  first_found h from [] order le e = absurd (none-some i e)
  first_found h from (j ∷ js) order le e = go (nat_le j.generation g) refl (first_found h j.generation js order.1 le) e
    where
      at : (t : Bool) → (find p (filter (up_to g) js) ≡ Some i → find p (filter (up_to h) js) ≡ Some i) → cond t (Some j) (find p (filter (up_to g) js)) ≡ Some i → cond t (Some j) (find p (filter (up_to h) js)) ≡ Some i
      at true later e = e
      at false later e = later e

      go : (t : Bool) → nat_le j.generation g ≡ t → (find p (filter (up_to g) js) ≡ Some i → find p (filter (up_to h) js) ≡ Some i)
          → find p (cond t (j ∷ filter (up_to g) js) (filter (up_to g) js)) ≡ Some i → find p (filter (up_to h) (j ∷ js)) ≡ Some i
      go true early later e =
          let here : nat_le j.generation h ≡ true = grind (arith, nat_tests, early, le) in
          ap (λ (t : Bool). find p (cond t (j ∷ filter (up_to h) js) (filter (up_to h) js))) here ∙ at (p j) later e
      go false late later e =
          let after : g < j.generation = grind (arith, nat_tests, late) in
          absurd (none-some i (sym (ap (find p) (none_up_to g j.generation js after order.1)) ∙ e))

  -- and not after that generation
  pub found_early : (is : List Injection) → find p (filter (up_to g) is) ≡ Some i → i.generation ≤ g
  found_early [] e = absurd (none-some i e)
  found_early (j ∷ js) e = go (nat_le j.generation g) refl (found_early js) e
    where
      at : (t : Bool) → j.generation ≤ g → (find p (filter (up_to g) js) ≡ Some i → i.generation ≤ g) → cond t (Some j) (find p (filter (up_to g) js)) ≡ Some i → i.generation ≤ g
      at true early later e = subst (λ (i : Injection). i.generation ≤ g) (same_Some j i e) early
      at false early later e = later e

      go : (t : Bool) → nat_le j.generation g ≡ t → (find p (filter (up_to g) js) ≡ Some i → i.generation ≤ g) → find p (cond t (j ∷ filter (up_to g) js) (filter (up_to g) js)) ≡ Some i → i.generation ≤ g
      go true early later e = at (p j) (grind (arith, nat_tests, early)) later e
      go false late later e = later e
