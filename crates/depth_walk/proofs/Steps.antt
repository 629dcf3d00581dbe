-- A step of the walk, by what the inputs of the node on top meet.
use Rattle.std.proofs.Common.{◌≡◌, ◌≢◌, sym, ap, subst, ◌∙◌, ℕ, ◌+◌, ◌-◌, ◌<◌, ◌≤◌, ◌⊎◌, inl, inr, List, [], ◌∷◌, ◌++◌, take, set, length, get_or, arith, Result, Ok, Err}
use Rattle.std.specs.Prelude.{OnOk}
use Rattle.std.proofs.lemmas.List.{get_or-set_same, get_or-set_other, get_or_default}
use Rattle.std.proofs.lemmas.Bool.{cases_lt, cases_eq}
use Rattle.depth_walk.specs.declared.walk.Mark.{Mark}
use Rattle.depth_walk.specs.declared.walk.Mark.TheVariants.{Unseen, Open, Done}
use Rattle.depth_walk.specs.declared.walk.Met.TheVariants.{Nothing, Fresh}
use Rattle.depth_walk.specs.Links.{Links, LeadsTo}
use Rattle.depth_walk.specs.Walk.{AreDoneWithin, IsMarkedDone, mark_of, IsWalk, IsMet, IsTop, AreStillSeen}
use Rattle.depth_walk.proofs.Walks.{opened, passed, closed, walk_same}
use Rattle.depth_walk.proofs.Orders.{open_within}

pub on_ok : {T E A B C P : Type 0} (r : Result T E) → OnOk r A → OnOk r B → OnOk r C → (A → B → C → P) → OnOk r P
on_ok (Ok x) a b c f = f a b c
on_ok (Err e) a b c f = tt

pub top_within : (links : Links) (marks : List Mark) (next stack order : List ℕ) (n : ℕ) → IsWalk links marks next stack order → IsTop stack n → n < length links
top_within links marks next stack order n w top = open_within links marks n (length stack - 1) w.marks_fit (ap (mark_of marks) (sym top.1) ∙ w.open_at (length stack - 1) (let some : 0 < length stack = top.0 in omega arith))

pub met_nothing : (links : Links) (marks : List Mark) (next stack order : List ℕ) (n from : ℕ) → IsWalk links marks next stack order → IsTop stack n → from ≡ get_or next n 0 → IsMet links marks n from Nothing
    → IsWalk links (set marks n (Done (length order))) next (take (length stack - 1) stack) (order ++ n ∷ [])
met_nothing links marks next stack order n from w top is met =
    closed links marks next stack order n w (top_within links marks next stack order n w top) top.0 top.1 (λ k b r. by k b r (cases_lt k from))
  where
    by : (k b : ℕ) → LeadsTo links n k b → (k < from) ⊎ (from ≤ k) → IsMarkedDone (mark_of marks b)
    by k b r (inl less) = w.passed n k b (subst (λ v. k < v) is less) r
    by k b r (inr more) = met k b more r

pub met_fresh : (links : Links) (marks : List Mark) (next stack order : List ℕ) (n from k b : ℕ) → IsWalk links marks next stack order → IsTop stack n → from ≡ get_or next n 0 → IsMet links marks n from (Fresh k b)
    → IsWalk links (set marks b (Open (length stack))) (set next n k) (stack ++ b ∷ []) order
met_fresh links marks next stack order n from k b w top is met =
    opened links marks (set next n k) stack order b (passed links marks next stack order n k w within top.0 top.1 (subst (λ v. AreDoneWithin links marks n v k) is met.1)) met.3 met.4 link
  where
    within : n < length links
    within = top_within links marks next stack order n w top

    link : (i : ℕ) → i + 1 ≡ length stack → LeadsTo links (get_or stack i 0) (get_or (set next n k) (get_or stack i 0) 0) b
    link i e =
        let last : i ≡ length stack - 1 = omega arith in
        let at : get_or stack i 0 ≡ n = ap (λ v. get_or stack v 0) last ∙ top.1 in
        subst (λ v. LeadsTo links v (get_or (set next n k) v 0) b) (sym at) (subst (λ v. LeadsTo links n v b) (sym (get_or-set_same next n k 0 (subst (λ v. n < v) (sym w.next_fit) within))) met.2)

-- what is read at the node on top is what is told of it, whatever stands for what is outside
pub from_is : (links : Links) (marks : List Mark) (next stack order : List ℕ) (n from : ℕ) → IsWalk links marks next stack order → IsTop stack n → from ≡ get_or next n from → from ≡ get_or next n 0
from_is links marks next stack order n from w top e = e ∙ get_or_default next n from 0 (subst (λ v. n < v) (sym w.next_fit) (top_within links marks next stack order n w top))

-- the walk that begins at a node
pub begins : (links : Links) (marks marks' : List Mark) (next next' stack stack' order order' : List ℕ) (n : ℕ) → IsWalk links marks next stack order → stack ≡ [] → n < length links → mark_of marks n ≡ Unseen
    → marks' ≡ set marks n (Open (length stack)) → next' ≡ next → stack' ≡ stack ++ n ∷ [] → order' ≡ order
    → IsWalk links marks' next' stack' order' × AreStillSeen marks marks' × (mark_of marks' n ≢ Unseen)
begins links marks marks' next next' stack stack' order order' n w idle less unseen e f g h = (
  walk_same links _ _ _ _ _ _ _ _ (opened links marks next stack order n w less unseen link) e f g h,
  (λ m seen not. by m seen not (cases_eq m n)),
  (λ not. (let o : mark_of marks' n ≡ Open (length stack) = is_open in absurd (cc (o, not)))),
)
  where
    within : n < length marks
    within = subst (λ v. n < v) (sym w.marks_fit) less

    link : (i : ℕ) → i + 1 ≡ length stack → LeadsTo links (get_or stack i 0) (get_or next (get_or stack i 0) 0) n
    link i same = let none : length stack ≡ 0 = ap (λ (v : List ℕ). length v) idle in absurd (omega arith)

    is_open : mark_of marks' n ≡ Open (length stack)
    is_open = ap (λ v. mark_of v n) e ∙ get_or-set_same marks n (Open (length stack)) Unseen within

    by : (m : ℕ) → mark_of marks m ≢ Unseen → mark_of marks' m ≡ Unseen → (m ≡ n) ⊎ (m ≢ n) → ⊥
    by m seen not (inl same) = seen (ap (mark_of marks) same ∙ unseen)
    by m seen not (inr other) = seen (sym (get_or-set_other marks n m (Open (length stack)) Unseen other) ∙ sym (ap (λ v. mark_of v m) e) ∙ not)
