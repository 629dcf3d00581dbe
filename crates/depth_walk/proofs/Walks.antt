-- The walk is kept by its three steps: a node is opened, inputs are passed, a node is closed.
use Rattle.std.proofs.Common.{count_by, cond, true, false, refl, ◌≡◌, ◌≢◌, sym, ap, subst, ◌∙◌, ℕ, ◌+◌, ◌-◌, ◌<◌, ◌≤◌, ◌⊎◌, inl, inr, List, [], ◌∷◌, ◌++◌, take, set, length, get_or, arith}
use Rattle.std.proofs.lemmas.List.{get_or_append_left, get_or_push, length_push, get_or-set_same, get_or-set_other, get_or-take, length-take, length-set}
use Rattle.std.proofs.lemmas.List.Sums.{sum_by-set}
use Rattle.std.proofs.lemmas.Bool.{cases_lt, cases_eq}
use Rattle.lists.proofs.Numbers.{less_or_last}
use Rattle.depth_walk.specs.declared.walk.Mark.{Mark}
use Rattle.depth_walk.specs.declared.walk.Mark.TheVariants.{Unseen, Open, Done}
use Rattle.depth_walk.specs.Links.{Links, LeadsTo}
use Rattle.depth_walk.specs.Walk.{AreDoneWithin, IsMarkedDone, mark_of, is_unseen, IsWalk}

-- a mark is the new one, or as before
MarkAfter : List Mark → ℕ → Mark → ℕ → Type 0
MarkAfter marks n mark m = ((m ≡ n) × (mark_of (set marks n mark) m ≡ mark)) ⊎ ((m ≢ n) × (mark_of (set marks n mark) m ≡ mark_of marks m))

mark_after : (marks : List Mark) (n : ℕ) (mark : Mark) (m : ℕ) → n < length marks → MarkAfter marks n mark m
unfolding MarkAfter
mark_after marks n mark m l = by (cases_eq m n)
  where
    by : (m ≡ n) ⊎ (m ≢ n) → MarkAfter marks n mark m
    by (inl e) = inl (e, ap (mark_of (set marks n mark)) e ∙ get_or-set_same marks n mark Unseen l)
    by (inr e) = inr (e, get_or-set_other marks n m mark Unseen e)

-- what is done stays done, where the changed node was not
pub done_kept : (marks : List Mark) (n : ℕ) (mark : Mark) → n < length marks → ((i : ℕ) → mark_of marks n ≢ Done i) → (b i : ℕ) → mark_of marks b ≡ Done i → mark_of (set marks n mark) b ≡ Done i
unfolding MarkAfter
done_kept marks n mark l away b i e = by (mark_after marks n mark b l)
  where
    by : MarkAfter marks n mark b → mark_of (set marks n mark) b ≡ Done i
    by (inl (same, new)) = absurd (away i (ap (mark_of marks) (sym same) ∙ e))
    by (inr (other, old)) = old ∙ e

-- how many are unseen, where one is marked
unseen_set : (marks : List Mark) (n : ℕ) (mark : Mark) → n < length marks → count_by is_unseen (set marks n mark) + cond (is_unseen (mark_of marks n)) 1 0 ≡ count_by is_unseen marks + cond (is_unseen mark) 1 0
unseen_set marks n mark l = sum_by-set (λ x. cond (is_unseen x) 1 0) marks n mark Unseen l

seen_once : (marks : List Mark) (n : ℕ) (mark : Mark) → n < length marks → is_unseen (mark_of marks n) ≡ true → is_unseen mark ≡ false → count_by is_unseen (set marks n mark) + 1 ≡ count_by is_unseen marks
seen_once marks n mark l e f =
    let h : count_by is_unseen (set marks n mark) + cond (is_unseen (mark_of marks n)) 1 0 ≡ count_by is_unseen marks + cond (is_unseen mark) 1 0 = unseen_set marks n mark l in
    let a : cond {A = ℕ} (is_unseen (mark_of marks n)) 1 0 ≡ 1 = ap (λ b. cond {A = ℕ} b 1 0) e in
    let b : cond {A = ℕ} (is_unseen mark) 1 0 ≡ 0 = ap (λ b. cond {A = ℕ} b 1 0) f in
    omega arith

still_seen : (marks : List Mark) (n : ℕ) (mark : Mark) → n < length marks → is_unseen (mark_of marks n) ≡ false → is_unseen mark ≡ false → count_by is_unseen (set marks n mark) ≡ count_by is_unseen marks
still_seen marks n mark l e f =
    let h : count_by is_unseen (set marks n mark) + cond (is_unseen (mark_of marks n)) 1 0 ≡ count_by is_unseen marks + cond (is_unseen mark) 1 0 = unseen_set marks n mark l in
    let a : cond {A = ℕ} (is_unseen (mark_of marks n)) 1 0 ≡ 0 = ap (λ b. cond {A = ℕ} b 1 0) e in
    let b : cond {A = ℕ} (is_unseen mark) 1 0 ≡ 0 = ap (λ b. cond {A = ℕ} b 1 0) f in
    omega arith

pub walk_same : (links : Links) (marks marks' : List Mark) (next next' stack stack' order order' : List ℕ) → IsWalk links marks next stack order → marks' ≡ marks → next' ≡ next → stack' ≡ stack → order' ≡ order → IsWalk links marks' next' stack' order'
walk_same links marks marks' next next' stack stack' order order' w e f g h =
    subst (λ v. IsWalk links v next' stack' order') (sym e) (subst (λ v. IsWalk links marks v stack' order') (sym f) (subst (λ v. IsWalk links marks next v order') (sym g) (subst (λ v. IsWalk links marks next stack v) (sym h) w)))

below_push : (xs : List ℕ) (y i : ℕ) → i < length (xs ++ y ∷ []) → (i < length xs) ⊎ (i ≡ length xs)
below_push xs y i l = less_or_last i (length xs) (subst (λ n. i < n) (length_push xs y) l)

pub opened : (links : Links) (marks : List Mark) (next stack order : List ℕ) (n : ℕ) → IsWalk links marks next stack order → n < length links → mark_of marks n ≡ Unseen
    → ((i : ℕ) → i + 1 ≡ length stack → LeadsTo links (get_or stack i 0) (get_or next (get_or stack i 0) 0) n)
    → IsWalk links (set marks n (Open (length stack))) next (stack ++ n ∷ []) order
unfolding MarkAfter
opened links marks next stack order n w less unseen link = record {
  marks_fit = length-set marks n new ∙ w.marks_fit;
  next_fit = w.next_fit;
  counted = (let e = seen_once marks n new within (ap is_unseen unseen) refl in let c = w.counted in let long : length (stack ++ n ∷ []) ≡ length stack + 1 = length_push stack n in omega arith);
  open_at = λ i l. open_at i (below_push stack n i l);
  at_open = λ m i e. at_open m i e (after m);
  done_at = λ i l. kept (get_or order i 0) i (w.done_at i l);
  at_done = λ m i e. at_done m i e (after m);
  passed = λ m k b l r. (let d = w.passed m k b l r in (d.0, kept b d.0 d.1));
  before = λ m i k b e r. before m i k b r e (after m);
  path = λ i l. path i (below_push stack n (i + 1) l);
}
  where
    new : Mark
    new = Open (length stack)

    within : n < length marks
    within = subst (λ v. n < v) (sym w.marks_fit) less

    after : (m : ℕ) → MarkAfter marks n (Open (length stack)) m
    after m = mark_after marks n (Open (length stack)) m within

    kept : (b i : ℕ) → mark_of marks b ≡ Done i → mark_of (set marks n (Open (length stack))) b ≡ Done i
    kept = done_kept marks n (Open (length stack)) within (λ i e. absurd (cc (unseen, e)))

    open_at : (i : ℕ) → (i < length stack) ⊎ (i ≡ length stack) → mark_of (set marks n (Open (length stack))) (get_or (stack ++ n ∷ []) i 0) ≡ Open i
    open_at i (inl l) = ap (mark_of (set marks n (Open (length stack)))) (get_or_append_left stack (n ∷ []) 0 i l) ∙ old (after (get_or stack i 0))
      where
        old : MarkAfter marks n (Open (length stack)) (get_or stack i 0) → mark_of (set marks n (Open (length stack))) (get_or stack i 0) ≡ Open i
        old (inl (same, e)) = let o : mark_of marks n ≡ Open i = ap (mark_of marks) (sym same) ∙ w.open_at i l in absurd (cc (unseen, o))
        old (inr (other, e)) = e ∙ w.open_at i l
    open_at i (inr e) = ap (mark_of (set marks n (Open (length stack)))) (get_or_push stack n 0 i (sym e)) ∙ get_or-set_same marks n (Open (length stack)) Unseen within ∙ ap Open (sym e)

    at_open : (m i : ℕ) → mark_of (set marks n (Open (length stack))) m ≡ Open i → MarkAfter marks n (Open (length stack)) m → (i < length (stack ++ n ∷ [])) × (get_or (stack ++ n ∷ []) i 0 ≡ m)
    at_open m i e (inl (same, is)) =
        let here : length stack ≡ i = cc (e, is) in
        ((let long : length (stack ++ n ∷ []) ≡ length stack + 1 = length_push stack n in omega arith), get_or_push stack n 0 i here ∙ sym same)
    at_open m i e (inr (other, is)) =
        let (l, at) = w.at_open m i (sym is ∙ e) in
        ((let long : length (stack ++ n ∷ []) ≡ length stack + 1 = length_push stack n in omega arith), get_or_append_left stack (n ∷ []) 0 i l ∙ at)

    at_done : (m i : ℕ) → mark_of (set marks n (Open (length stack))) m ≡ Done i → MarkAfter marks n (Open (length stack)) m → (i < length order) × (get_or order i 0 ≡ m)
    at_done m i e (inl (same, is)) = absurd (cc (e, is))
    at_done m i e (inr (other, is)) = w.at_done m i (sym is ∙ e)

    before : (m i k b : ℕ) → LeadsTo links m k b → mark_of (set marks n (Open (length stack))) m ≡ Done i → MarkAfter marks n (Open (length stack)) m → (j : ℕ) × (j < i) × (mark_of (set marks n (Open (length stack))) b ≡ Done j)
    before m i k b r e (inl (same, is)) = absurd (cc (e, is))
    before m i k b r e (inr (other, is)) = let (j, l, d) = w.before m i k b (sym is ∙ e) r in (j, l, kept b j d)

    path : (i : ℕ) → (i + 1 < length stack) ⊎ (i + 1 ≡ length stack) → LeadsTo links (get_or (stack ++ n ∷ []) i 0) (get_or next (get_or (stack ++ n ∷ []) i 0) 0) (get_or (stack ++ n ∷ []) (i + 1) 0)
    path i (inl l) =
        subst (λ v. LeadsTo links v (get_or next v 0) (get_or (stack ++ n ∷ []) (i + 1) 0)) (sym (get_or_append_left stack (n ∷ []) 0 i (omega arith)))
        (subst (λ v. LeadsTo links (get_or stack i 0) (get_or next (get_or stack i 0) 0) v) (sym (get_or_append_left stack (n ∷ []) 0 (i + 1) l)) (w.path i l))
    path i (inr e) =
        subst (λ v. LeadsTo links v (get_or next v 0) (get_or (stack ++ n ∷ []) (i + 1) 0)) (sym (get_or_append_left stack (n ∷ []) 0 i (omega arith)))
        (subst (λ v. LeadsTo links (get_or stack i 0) (get_or next (get_or stack i 0) 0) v) (sym (get_or_push stack n 0 (i + 1) (sym e))) (link i e))

-- the top of the path
top_open : (links : Links) (marks : List Mark) (next stack order : List ℕ) (n : ℕ) → IsWalk links marks next stack order → 0 < length stack → get_or stack (length stack - 1) 0 ≡ n → mark_of marks n ≡ Open (length stack - 1)
top_open links marks next stack order n w some top = ap (mark_of marks) (sym top) ∙ w.open_at (length stack - 1) (omega arith)

-- a lower node of the path is another
lower_apart : (links : Links) (marks : List Mark) (next stack order : List ℕ) (n : ℕ) → IsWalk links marks next stack order → 0 < length stack → get_or stack (length stack - 1) 0 ≡ n → (i : ℕ) → i + 1 < length stack → get_or stack i 0 ≢ n
lower_apart links marks next stack order n w some top i l same =
    let a : mark_of marks n ≡ Open i = ap (mark_of marks) (sym same) ∙ w.open_at i (omega arith) in
    let b : mark_of marks n ≡ Open (length stack - 1) = top_open links marks next stack order n w some top in
    let e : i ≡ length stack - 1 = cc (a, b) in
    absurd (omega arith)

pub passed : (links : Links) (marks : List Mark) (next stack order : List ℕ) (n k : ℕ) → IsWalk links marks next stack order → n < length links → 0 < length stack → get_or stack (length stack - 1) 0 ≡ n
    → AreDoneWithin links marks n (get_or next n 0) k
    → IsWalk links marks (set next n k) stack order
passed links marks next stack order n k w less some top within = record {
  marks_fit = w.marks_fit;
  next_fit = length-set next n k ∙ w.next_fit;
  counted = w.counted;
  open_at = w.open_at;
  at_open = w.at_open;
  done_at = w.done_at;
  at_done = w.at_done;
  passed = λ m i b l r. read m i b l r (cases_eq m n);
  before = w.before;
  path = λ i l. subst (λ v. LeadsTo links (get_or stack i 0) v (get_or stack (i + 1) 0)) (sym (get_or-set_other next n (get_or stack i 0) k 0 (lower_apart links marks next stack order n w some top i l))) (w.path i l);
}
  where
    read_here : (i b : ℕ) → i < k → LeadsTo links n i b → (i < get_or next n 0) ⊎ (get_or next n 0 ≤ i) → IsMarkedDone (mark_of marks b)
    read_here i b l r (inl old) = w.passed n i b old r
    read_here i b l r (inr new) = within i b new l r

    read : (m i b : ℕ) → i < get_or (set next n k) m 0 → LeadsTo links m i b → (m ≡ n) ⊎ (m ≢ n) → IsMarkedDone (mark_of marks b)
    read m i b l r (inl same) =
        let value : get_or (set next n k) m 0 ≡ k = ap (λ v. get_or (set next n k) v 0) same ∙ get_or-set_same next n k 0 (subst (λ v. n < v) (sym w.next_fit) less) in
        read_here i b (subst (λ v. i < v) value l) (subst (λ v. LeadsTo links v i b) same r) (cases_lt i (get_or next n 0))
    read m i b l r (inr other) = w.passed m i b (subst (λ v. i < v) (get_or-set_other next n m k 0 other) l) r

pub closed : (links : Links) (marks : List Mark) (next stack order : List ℕ) (n : ℕ) → IsWalk links marks next stack order → n < length links → 0 < length stack → get_or stack (length stack - 1) 0 ≡ n
    → ((k b : ℕ) → LeadsTo links n k b → IsMarkedDone (mark_of marks b))
    → IsWalk links (set marks n (Done (length order))) next (take (length stack - 1) stack) (order ++ n ∷ [])
unfolding MarkAfter
closed links marks next stack order n w less some top done = record {
  marks_fit = length-set marks n (Done (length order)) ∙ w.marks_fit;
  next_fit = w.next_fit;
  counted = (let e = still_seen marks n (Done (length order)) within (ap is_unseen opened_there) refl in let c = w.counted in let long : length (order ++ n ∷ []) ≡ length order + 1 = length_push order n in omega (arith, shorter));
  open_at = λ i l. open_at i (omega (arith, shorter));
  at_open = λ m i e. at_open m i e (after m);
  done_at = λ i l. done_at i (below_push order n i l);
  at_done = λ m i e. at_done m i e (after m);
  passed = λ m k b l r. (let d = w.passed m k b l r in (d.0, kept b d.0 d.1));
  before = λ m i k b e r. before m i k b r e (after m);
  path = λ i l. path i (omega (arith, shorter));
}
  where
    within : n < length marks
    within = subst (λ v. n < v) (sym w.marks_fit) less

    shorter : length (take (length stack - 1) stack) ≡ length stack - 1
    shorter = let e = length-take (length stack - 1) stack in omega (arith, e)

    opened_there : mark_of marks n ≡ Open (length stack - 1)
    opened_there = top_open links marks next stack order n w some top

    after : (m : ℕ) → MarkAfter marks n (Done (length order)) m
    after m = mark_after marks n (Done (length order)) m within

    kept : (b i : ℕ) → mark_of marks b ≡ Done i → mark_of (set marks n (Done (length order))) b ≡ Done i
    kept = done_kept marks n (Done (length order)) within (λ i e. absurd (cc (opened_there, e)))

    open_at : (i : ℕ) → i + 1 < length stack → mark_of (set marks n (Done (length order))) (get_or (take (length stack - 1) stack) i 0) ≡ Open i
    open_at i l = ap (mark_of (set marks n (Done (length order)))) (get_or-take (length stack - 1) stack i 0 (omega arith))
        ∙ get_or-set_other marks n (get_or stack i 0) (Done (length order)) Unseen (lower_apart links marks next stack order n w some top i l) ∙ w.open_at i (omega arith)

    at_open : (m i : ℕ) → mark_of (set marks n (Done (length order))) m ≡ Open i → MarkAfter marks n (Done (length order)) m → (i < length (take (length stack - 1) stack)) × (get_or (take (length stack - 1) stack) i 0 ≡ m)
    at_open m i e (inl (same, is)) = absurd (cc (e, is))
    at_open m i e (inr (other, is)) =
        let (l, at) = w.at_open m i (sym is ∙ e) in
        let below : i + 1 < length stack = lower i l at in
        (omega (arith, shorter), get_or-take (length stack - 1) stack i 0 (omega arith) ∙ at)
      where
        lower : (i : ℕ) → i < length stack → get_or stack i 0 ≡ m → i + 1 < length stack
        lower i l at = elim (cases_lt (i + 1) (length stack)) as (λ _. i + 1 < length stack) [ inl b ↦ b | inr past ↦ absurd (let e : i ≡ length stack - 1 = omega arith in other (sym at ∙ ap (λ v. get_or stack v 0) e ∙ top)) ]

    done_at : (i : ℕ) → (i < length order) ⊎ (i ≡ length order) → mark_of (set marks n (Done (length order))) (get_or (order ++ n ∷ []) i 0) ≡ Done i
    done_at i (inl l) = ap (mark_of (set marks n (Done (length order)))) (get_or_append_left order (n ∷ []) 0 i l) ∙ kept (get_or order i 0) i (w.done_at i l)
    done_at i (inr e) = ap (mark_of (set marks n (Done (length order)))) (get_or_push order n 0 i (sym e)) ∙ get_or-set_same marks n (Done (length order)) Unseen within ∙ ap Done (sym e)

    at_done : (m i : ℕ) → mark_of (set marks n (Done (length order))) m ≡ Done i → MarkAfter marks n (Done (length order)) m → (i < length (order ++ n ∷ [])) × (get_or (order ++ n ∷ []) i 0 ≡ m)
    at_done m i e (inl (same, is)) =
        let here : length order ≡ i = cc (e, is) in
        ((let long : length (order ++ n ∷ []) ≡ length order + 1 = length_push order n in omega arith), get_or_push order n 0 i here ∙ sym same)
    at_done m i e (inr (other, is)) =
        let (l, at) = w.at_done m i (sym is ∙ e) in
        ((let long : length (order ++ n ∷ []) ≡ length order + 1 = length_push order n in omega arith), get_or_append_left order (n ∷ []) 0 i l ∙ at)

    before : (m i k b : ℕ) → LeadsTo links m k b → mark_of (set marks n (Done (length order))) m ≡ Done i → MarkAfter marks n (Done (length order)) m → (j : ℕ) × (j < i) × (mark_of (set marks n (Done (length order))) b ≡ Done j)
    before m i k b r e (inl (same, is)) =
        let here : length order ≡ i = cc (e, is) in
        let d = done k b (subst (λ v. LeadsTo links v k b) same r) in
        let there : d.0 < length order = (w.at_done b d.0 d.1).0 in
        (d.0, omega arith, kept b d.0 d.1)
    before m i k b r e (inr (other, is)) = let (j, l, d) = w.before m i k b (sym is ∙ e) r in (j, l, kept b j d)

    path : (i : ℕ) → i + 2 < length stack → LeadsTo links (get_or (take (length stack - 1) stack) i 0) (get_or next (get_or (take (length stack - 1) stack) i 0) 0) (get_or (take (length stack - 1) stack) (i + 1) 0)
    path i l =
        subst (λ v. LeadsTo links v (get_or next v 0) (get_or (take (length stack - 1) stack) (i + 1) 0)) (sym (get_or-take (length stack - 1) stack i 0 (omega arith)))
        (subst (λ v. LeadsTo links (get_or stack i 0) (get_or next (get_or stack i 0) 0) v) (sym (get_or-take (length stack - 1) stack (i + 1) 0 (omega arith))) (w.path i (omega arith)))
