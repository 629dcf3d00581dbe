-- Walks that have seen all are orders, and the walk before its first step.
use Rattle.std.proofs.Common.{◌≡◌, ◌≢◌, refl, sym, ap, subst, ◌∙◌, ℕ, ◌<◌, ◌≤◌, ◌⊎◌, inl, inr, List, [], length, get_or, arith, replicate, count_by, cond, ◌*◌}
use Rattle.std.specs.Prelude.{Contains, AllPairs}
use Rattle.std.proofs.lemmas.List.{get_or_past, get_or_default}
use Rattle.std.proofs.lemmas.Bool.{cases_lt}
use Rattle.std.proofs.lemmas.List.Folds.{sum_by-replicate}
use Rattle.depth_walk.specs.declared.walk.Mark.{Mark}
use Rattle.depth_walk.specs.declared.walk.Mark.TheVariants.{Unseen, Open, Done}
use Rattle.depth_walk.specs.Links.{Links}
use Rattle.depth_walk.specs.Order.{IsOrderOf}
use Rattle.depth_walk.specs.Walk.{mark_of, is_unseen, IsWalk}
use Rattle.lists.proofs.Fills.{same_throughout}

-- a number with a mark is one that has a list
pub open_within : (links : Links) (marks : List Mark) (n i : ℕ) → length marks ≡ length links → mark_of marks n ≡ Open i → n < length links
open_within links marks n i fit e = by (cases_lt n (length marks))
  where
    by : (n < length marks) ⊎ (length marks ≤ n) → n < length links
    by (inl l) = subst (λ v. n < v) fit l
    by (inr l) = let past : mark_of marks n ≡ Unseen = get_or_past marks n Unseen l in absurd (cc (past, e))

done_within : (links : Links) (marks : List Mark) (n i : ℕ) → length marks ≡ length links → mark_of marks n ≡ Done i → n < length links
done_within links marks n i fit e = by (cases_lt n (length marks))
  where
    by : (n < length marks) ⊎ (length marks ≤ n) → n < length links
    by (inl l) = subst (λ v. n < v) fit l
    by (inr l) = let past : mark_of marks n ≡ Unseen = get_or_past marks n Unseen l in absurd (cc (past, e))

-- a walk that has seen all, and has nothing open, is an order
pub is_order : (links : Links) (marks : List Mark) (next order : List ℕ) → IsWalk links marks next [] order → ((n : ℕ) → n < length links → mark_of marks n ≢ Unseen) → IsOrderOf links order
is_order links marks next order w seen = record {
  numbers = λ i d l. subst (λ v. v < length links) (get_or_default order i 0 d l) (done_within links marks (get_or order i 0) i w.marks_fit (w.done_at i l));
  once = once;
  few = (let c = w.counted in omega arith);
  all = λ n l. all n (mark_of marks n) refl (seen n l);
  after = λ i k b l r. (let (j, less, d) = w.before (get_or order i 0) i k b (w.done_at i l) r in (j, less, (w.at_done b j d).1));
}
  where
    once : AllPairs (λ a b. a ≢ b) order
    once i j d less l same =
        let e : get_or order i 0 ≡ get_or order j 0 = get_or_default order i 0 d (omega arith) ∙ same ∙ get_or_default order j d 0 l in
        let o : Done i ≡ Done j = sym (w.done_at i (omega arith)) ∙ ap (mark_of marks) e ∙ w.done_at j l in
        let p : i ≡ j = cc in
        absurd (omega arith)

    all : (n : ℕ) (mark : Mark) → mark_of marks n ≡ mark → mark_of marks n ≢ Unseen → Contains order n
    all n Unseen e s = absurd (s e)
    all n (Open i) e s = absurd (let l : i < 0 = (w.at_open n i e).0 in omega arith)
    all n (Done i) e s = let (l, at) = w.at_done n i e in (i, l, get_or_default order i n 0 l ∙ at)

-- the walk before its first step
pub begun : (links : Links) → IsWalk links (replicate (length links) Unseen) (replicate (length links) 0) [] []
begun links = record {
  marks_fit = Rattle.std.proofs.lemmas.List.length-replicate (length links) Unseen;
  next_fit = Rattle.std.proofs.lemmas.List.length-replicate (length links) 0;
  counted = (let e = all_unseen (length links) in omega arith);
  open_at = λ i l. absurd (omega arith);
  at_open = λ n i e. absurd (cc (unseen (length links) n, e));
  done_at = λ i l. absurd (omega arith);
  at_done = λ n i e. absurd (cc (unseen (length links) n, e));
  passed = λ n k b l r. absurd (omega (arith, same_throughout {X = ℕ} (length links) n 0, l));
  before = λ n i k b e r. absurd (cc (unseen (length links) n, e));
  path = λ i l. absurd (omega arith);
}
  where
    unseen : (m n : ℕ) → mark_of (replicate m Unseen) n ≡ Unseen
    unseen m n = same_throughout m n Unseen

    all_unseen : (m : ℕ) → count_by is_unseen (replicate m Unseen) ≡ m
    all_unseen m = let e : count_by is_unseen (replicate m Unseen) ≡ m * 1 = sum_by-replicate (λ x. cond (is_unseen x) 1 0) m Unseen in omega arith
