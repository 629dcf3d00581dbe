-- Injections in the order of their generations, and those that are left when a generation comes.
use Rattle.ww_rule.specs.Due.{AreInOrderFrom, AreLeftAt, due_count}
use Rattle.std.proofs.Common.{ℕ, suc, ◌≡◌, ◌≤◌, ◌<◌, ◌+◌, ◌==◌, refl, sym, ap, subst, ◌∙◌, Bool, true, false, cond, List, [], ◌∷◌, ◌++◌, map, filter, take, drop, All, arith}
use Rattle.std.proofs.lemmas.Bool.{eqb-true, eqb-false, ne_eqb}
use Rattle.std.proofs.lemmas.List.{append_assoc, map-append, take-append-drop}
use Rattle.std.proofs.lemmas.List.Elements.{All-nil, All-cons, All-head, All-tail, All-append, filter-append}
use Rattle.ww_rule.specs.declared.pattern.Injection.{Injection}
use Rattle.ww_rule.specs.Injections.{cells_at}

abbrev cell : Injection → ℕ × ℕ
cell i = (i.x, i.y)

pub from_earlier : (g h : ℕ) (injections : List Injection) → g ≤ h → AreInOrderFrom h injections → AreInOrderFrom g injections
from_earlier g h [] le order = tt
from_earlier g h (i ∷ later) le order = (omega (arith, le, order.0), order.1)

-- ---- the cells of a generation

none_of_later : (g h : ℕ) (injections : List Injection) → g < h → AreInOrderFrom h injections → cells_at g injections ≡ []
none_of_later g h [] lt order = refl
none_of_later g h (i ∷ later) lt order =
    let other : (i.generation == g) ≡ false = ne_eqb i.generation g (λ e. omega (arith, e, lt, order.0)) in
    let rest = filter (λ (i : Injection). i.generation == g) later in
    ap (λ (b : Bool). map cell (cond b (i ∷ rest) rest)) other
    ∙ none_of_later g i.generation later (omega (arith, lt, order.0)) order.1

none_of_earlier : (g h : ℕ) (injections : List Injection) → h ≤ g → All (λ (i : Injection). i.generation < h) injections → cells_at g injections ≡ []
none_of_earlier g h [] le earlier = refl
none_of_earlier g h (i ∷ later) le earlier =
    let Earlier : Injection → Type 0 = λ i. i.generation < h in
    let first : i.generation < h = All-head Earlier i later earlier in
    let other : (i.generation == g) ≡ false = ne_eqb i.generation g (λ e. omega (arith, e, le, first)) in
    let rest = filter (λ (i : Injection). i.generation == g) later in
    ap (λ (b : Bool). map cell (cond b (i ∷ rest) rest)) other
    ∙ none_of_earlier g h later le (All-tail Earlier i later earlier)

take_suc : (n m : ℕ) (i : Injection) (later : List Injection) → n ≡ 1 + m → take n (i ∷ later) ≡ i ∷ take m later
take_suc n m i later e = ap (λ k. take k (i ∷ later)) (let s : n ≡ suc m = omega (arith, e) in s)

drop_suc : (n m : ℕ) (i : Injection) (later : List Injection) → n ≡ 1 + m → drop n (i ∷ later) ≡ drop m later
drop_suc n m i later e = ap (λ k. drop k (i ∷ later)) (let s : n ≡ suc m = omega (arith, e) in s)

-- where none is of an earlier generation, those that are due are the first
cells_in_front : (g : ℕ) (injections : List Injection) → AreInOrderFrom g injections → cells_at g injections ≡ map cell (take (due_count g injections) injections)
cells_in_front g [] order = refl
cells_in_front g (i ∷ later) order = go (i.generation == g) refl (cells_in_front g later (from_earlier g i.generation later order.0 order.1))
  where
    go : (t : Bool) → (i.generation == g) ≡ t → cells_at g later ≡ map cell (take (due_count g later) later)
        → map cell (cond t (i ∷ filter (λ i. i.generation == g) later) (filter (λ i. i.generation == g) later)) ≡ map cell (take (cond t (1 + due_count g later) 0) (i ∷ later))
    go true e front =
        ap (λ (cells : List (ℕ × ℕ)). (i.x, i.y) ∷ cells) front
        ∙ ap (map cell) (sym (take_suc (1 + due_count g later) (due_count g later) i later refl))
    go false e front =
        let ne = eqb-false i.generation g e in
        let lt : g < i.generation = omega (arith, order.0, ne) in
        none_of_later g i.generation later lt order.1

used_in_front : (g : ℕ) (injections : List Injection) → All (λ (i : Injection). i.generation < g + 1) (take (due_count g injections) injections)
used_in_front g [] = All-nil (λ (i : Injection). i.generation < g + 1)
used_in_front g (i ∷ later) = go (i.generation == g) refl (used_in_front g later)
  where
    go : (t : Bool) → (i.generation == g) ≡ t → All (λ (i : Injection). i.generation < g + 1) (take (due_count g later) later)
        → All (λ (i : Injection). i.generation < g + 1) (take (cond t (1 + due_count g later) 0) (i ∷ later))
    go true e front =
        let now = eqb-true i.generation g e in
        let lt : i.generation < g + 1 = omega (arith, now) in
        subst (All (λ (i : Injection). i.generation < g + 1)) (sym (take_suc (1 + due_count g later) (due_count g later) i later refl))
        (All-cons (λ (i : Injection). i.generation < g + 1) i (take (due_count g later) later) lt front)
    go false e front = All-nil (λ (i : Injection). i.generation < g + 1)

left_in_order : (g : ℕ) (injections : List Injection) → AreInOrderFrom g injections → AreInOrderFrom (g + 1) (drop (due_count g injections) injections)
left_in_order g [] order = tt
left_in_order g (i ∷ later) order = go (i.generation == g) refl (left_in_order g later (from_earlier g i.generation later order.0 order.1))
  where
    go : (t : Bool) → (i.generation == g) ≡ t → AreInOrderFrom (g + 1) (drop (due_count g later) later) → AreInOrderFrom (g + 1) (drop (cond t (1 + due_count g later) 0) (i ∷ later))
    go true e left = subst (AreInOrderFrom (g + 1)) (sym (drop_suc (1 + due_count g later) (due_count g later) i later refl)) left
    go false e left =
        let ne = eqb-false i.generation g e in
        let le : g + 1 ≤ i.generation = omega (arith, order.0, ne) in
        (le, order.1)

-- ---- those that are left

-- all of them, before the first generation
pub all_left : (injections : List Injection) → AreInOrderFrom 0 injections → AreLeftAt 0 injections injections
all_left injections order = record { used = []; parts = refl; earlier = All-nil (λ (i : Injection). i.generation < 0); in_order = order }

module _ (g : ℕ) (injections left : List Injection) (are_left : AreLeftAt g injections left) where
  -- they are due as in the whole list
  cells_left : cells_at g left ≡ cells_at g injections
  cells_left =
      let p = λ (i : Injection). i.generation == g in
      sym
      (ap (cells_at g) are_left.parts
      ∙ ap (map cell) (filter-append p are_left.used left)
      ∙ map-append cell (filter p are_left.used) (filter p left)
      ∙ ap (λ (cells : List (ℕ × ℕ)). cells ++ cells_at g left) (none_of_earlier g g are_left.used (omega arith) are_left.earlier))

  left_next : AreLeftAt (g + 1) injections (drop (due_count g left) left)
  left_next =
      let k = due_count g left in
      let Earlier : Injection → Type 0 = λ i. i.generation < g + 1 in
      let used : All Earlier are_left.used = λ j d lt. let e = are_left.earlier j d lt in omega (arith, e) in
      record {
        used = are_left.used ++ take k left;
        parts =
            are_left.parts
            ∙ ap (λ (l : List Injection). are_left.used ++ l) (sym (take-append-drop k left))
            ∙ sym (append_assoc are_left.used (take k left) (drop k left));
        earlier = All-append Earlier are_left.used (take k left) used (used_in_front g left);
        in_order = left_in_order g left are_left.in_order;
      }

  -- the cells that are due next, as they stand in front, and what is left after them
  pub front_cells : (due : List Injection) → due ≡ take (due_count g left) left → map cell due ≡ cells_at g injections
  front_cells due front =
      ap (map cell) front ∙ sym (cells_in_front g left are_left.in_order) ∙ cells_left

  pub left_after : (later : List Injection) → later ≡ drop (due_count g left) left → AreLeftAt (g + 1) injections later
  left_after later back = subst (AreLeftAt (g + 1) injections) (sym back) left_next
