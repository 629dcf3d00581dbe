-- Circles of nodes are loops, and along an order there is none.
use Rattle.std.proofs.Common.{◌≡◌, ◌≢◌, refl, sym, ap, subst, ◌∙◌, ℕ, suc, ◌+◌, ◌-◌, ◌<◌, ◌⊎◌, inl, inr, List, [], ◌∷◌, map, reverse, length, get_or, arith, ◌≤◌}
use Rattle.std.specs.Prelude.{All, AllPairs}
use Rattle.std.proofs.lemmas.List.{get_or-map, length-map, get_or-reverse, length-reverse, get_or_past, get_or_default, same_lists}
use Rattle.std.proofs.lemmas.Simd.{map-map}
use Rattle.std.proofs.lemmas.Bool.{cases_order, cases_lt}
use Rattle.netlist_core.specs.declared.flat.Flat.{Flat}
use Rattle.netlist_core.specs.declared.flat.NetId.{NetId}
use Rattle.netlist_meaning.specs.Flat.{in_classes, out_class, class_of, node_at, IsSound, IsNetId}
use Rattle.netlist_meaning.specs.FlatOrder.{IsDrivenBy, FlatFeeds, FlatFeedsThrough, IsFlatLoop, IsOrder, IsNetLoop}
use Rattle.depth_walk.specs.Links.{Links, LeadsOnTo}
use Rattle.depth_walk.specs.Order.{IsCircleOf}
use Rattle.loop_check.specs.Links.{AreDriverLinks}
use Rattle.loop_check.specs.Tables.{AreFirstsFor}
use Rattle.netlist_meaning.proofs.OneNode.{one_node}
use Rattle.loop_check.proofs.Linked.{driven_at}

feeds_from : (flat : Flat) (n k b : ℕ) → n < length flat.nodes → IsDrivenBy flat n k b → FlatFeeds flat (out_class flat b) (out_class flat n)
feeds_from flat n k b l r = record { node = n; is_node = l; reads = (k, r.1, get_or_default (in_classes flat n) k (out_class flat b) 0 r.1 ∙ r.2); writes = refl }

through : (flat : Flat) (start : ℕ) (classes : List ℕ) (end : ℕ) → ((j : ℕ) → j < length (start ∷ classes) → FlatFeeds flat (get_or (start ∷ classes) j end) (get_or (start ∷ classes) (suc j) end)) → FlatFeedsThrough flat start classes end
through flat start [] end f = f 0 (omega arith)
through flat start (c ∷ cs) end f = (f 0 (omega arith), through flat c cs end (λ j l. f (suc j) (omega arith)))

loop_of : (flat : Flat) (xs : List ℕ) → 0 < length xs → ((j : ℕ) → j < length xs → FlatFeeds flat (get_or xs j (get_or xs 0 0)) (get_or xs (suc j) (get_or xs 0 0))) → IsFlatLoop flat xs
loop_of flat [] some f = absurd (omega arith)
loop_of flat (c ∷ cs) some f = through flat c cs c f

reverse_map : (f : ℕ → NetId) (xs : List ℕ) → reverse (map f xs) ≡ map f (reverse xs)
reverse_map f xs = same_lists (reverse (map f xs)) (map f (reverse xs)) (length-reverse (map f xs) ∙ length-map xs f ∙ sym (length-reverse xs) ∙ sym (length-map (reverse xs) f)) each
  where
    each : (k : ℕ) (d : NetId) → k < length (reverse (map f xs)) → get_or (reverse (map f xs)) k d ≡ get_or (map f (reverse xs)) k d
    each k d l =
        let m : length (map f xs) ≡ length xs = length-map xs f in
        let r : length (reverse xs) ≡ length xs = length-reverse xs in
        let less : k < length (map f xs) = subst (λ v. k < v) (length-reverse (map f xs)) l in
        let at : length (map f xs) - 1 - k ≡ length xs - 1 - k = omega arith in
        get_or-reverse (map f xs) k d less ∙ ap (λ v. get_or (map f xs) v d) at ∙ get_or-map f xs (length xs - 1 - k) 0 d (omega arith)
        ∙ ap f (sym (get_or-reverse xs k 0 (omega arith))) ∙ sym (get_or-map f (reverse xs) k 0 d (omega arith))

-- nets, of different classes, that are a loop
pub record IsOutputLoop (flat : Flat) (nets : List NetId) : Type 0 where
  pub are_nets : All (IsNetId flat) nets
  pub is_loop : IsFlatLoop flat (map (class_of flat) nets)
  pub is_simple : AllPairs (λ a b. a ≢ b) (map (class_of flat) nets)

-- and so are the first nets of their classes
pub first_loop : (flat : Flat) (nets firsts : List NetId) → IsOutputLoop flat nets → AreFirstsFor flat nets firsts → IsNetLoop flat firsts
first_loop flat nets firsts l f = record {
  are_nets = λ k d less. (f.each k d (subst (λ v. k < v) f.long less)).1;
  are_firsts = λ k d less. (f.each k d (subst (λ v. k < v) f.long less)).2;
  is_loop = subst (λ v. IsFlatLoop flat v) (sym same) l.is_loop;
  is_simple = subst (λ v. AllPairs (λ a b. a ≢ b) v) (sym same) l.is_simple;
}
  where
    same : map (class_of flat) firsts ≡ map (class_of flat) nets
    same = same_lists (map (class_of flat) firsts) (map (class_of flat) nets) (length-map firsts (class_of flat) ∙ f.long ∙ sym (length-map nets (class_of flat)))
        (λ k d less. (let in_firsts : k < length firsts = subst (λ v. k < v) (length-map firsts (class_of flat)) less in let in_nets : k < length nets = subst (λ v. k < v) f.long in_firsts in
        get_or-map (class_of flat) firsts k (record { 0 = 0 }) d in_firsts ∙ (f.each k (record { 0 = 0 }) in_nets).0 ∙ sym (get_or-map (class_of flat) nets k (record { 0 = 0 }) d in_nets)))

-- a circle of nodes, backwards, is a loop by their outputs
pub is_loop : (flat : Flat) → IsSound flat → (links : Links) → AreDriverLinks flat links → (circle : List ℕ) → IsCircleOf links circle → IsOutputLoop flat (reverse (map (λ v. (node_at flat v).out) circle))
is_loop flat s links are circle c = subst (IsOutputLoop flat) (sym (reverse_map (λ v. (node_at flat v).out) circle)) (record {
  are_nets = λ i d l. are_nets i d (subst (λ v. i < v) (length-map (reverse circle) (λ v. (node_at flat v).out)) l);
  is_loop = subst (λ v. IsFlatLoop flat v) (sym mapped) (loop_of flat (map (out_class flat) (reverse circle)) (omega (arith, long, some, length-map (reverse circle) (out_class flat))) feeds);
  is_simple = subst (λ v. AllPairs (λ a b. a ≢ b) v) (sym mapped) once;
})
  where
    some : 0 < length circle
    some = c.some

    long : length (reverse circle) ≡ length circle
    long = length-reverse circle

    mapped : map (class_of flat) (map (λ v. (node_at flat v).out) (reverse circle)) ≡ map (out_class flat) (reverse circle)
    mapped = map-map (class_of flat) (λ v. (node_at flat v).out) (reverse circle)

    at : (j : ℕ) → j < length (reverse circle) → get_or (reverse circle) j 0 ≡ get_or circle (length circle - 1 - j) 0
    at j l = get_or-reverse circle j 0 (subst (λ v. j < v) long l)

    is_node : (i : ℕ) → i < length circle → get_or circle i 0 < length flat.nodes
    is_node i l = subst (λ v. get_or circle i 0 < v) are.long (c.numbers i 0 l)

    are_nets : (i : ℕ) (d : NetId) → i < length (reverse circle) → IsNetId flat (get_or (map (λ v. (node_at flat v).out) (reverse circle)) i d)
    are_nets i d l =
        subst (λ v. IsNetId flat v) (sym (get_or-map (λ v. (node_at flat v).out) (reverse circle) i 0 d l))
        (subst (λ v. IsNetId flat (node_at flat v).out) (sym (at i l)) (s.in_range.node_outs (get_or circle (length circle - 1 - i) 0) _ (is_node (length circle - 1 - i) (omega (arith, some)))))

    class_at : (j d : ℕ) → j < length (reverse circle) → get_or (map (out_class flat) (reverse circle)) j d ≡ out_class flat (get_or circle (length circle - 1 - j) 0)
    class_at j d l = get_or-map (out_class flat) (reverse circle) j 0 d l ∙ ap (out_class flat) (at j l)

    first : get_or (map (out_class flat) (reverse circle)) 0 0 ≡ out_class flat (get_or circle (length circle - 1) 0)
    first = class_at 0 0 (omega (arith, long, some)) ∙ ap (out_class flat) (let e : length circle - 1 - 0 ≡ length circle - 1 = omega arith in ap (λ v. get_or circle v 0) e)

    step : (n b : ℕ) → n < length flat.nodes → LeadsOnTo links n b → FlatFeeds flat (out_class flat b) (out_class flat n)
    step n b l (k, leads) = feeds_from flat n k b l (driven_at flat links are n k b l leads)

    -- the last reads of the first, each other of the one before it on the circle
    feeds_at : (j : ℕ) → j < length (reverse circle) → (suc j < length (reverse circle)) ⊎ (length (reverse circle) ≤ suc j) → FlatFeeds flat (get_or (map (out_class flat) (reverse circle)) j (get_or (map (out_class flat) (reverse circle)) 0 0)) (get_or (map (out_class flat) (reverse circle)) (suc j) (get_or (map (out_class flat) (reverse circle)) 0 0))
    feeds_at j l (inl more) =
        let up : length circle - 1 - suc j + 1 ≡ length circle - 1 - j = omega (arith, long, more) in
        let lower : length circle - 1 - suc j + 1 < length circle = omega (arith, long, more) in
        subst (λ v. FlatFeeds flat v (get_or (map (out_class flat) (reverse circle)) (suc j) (get_or (map (out_class flat) (reverse circle)) 0 0))) (sym (class_at j _ l))
        (subst (λ v. FlatFeeds flat (out_class flat (get_or circle (length circle - 1 - j) 0)) v) (sym (class_at (suc j) _ more))
        (subst (λ v. FlatFeeds flat (out_class flat (get_or circle v 0)) (out_class flat (get_or circle (length circle - 1 - suc j) 0))) up
        (step (get_or circle (length circle - 1 - suc j) 0) (get_or circle (length circle - 1 - suc j + 1) 0) (is_node (length circle - 1 - suc j) (omega (arith, lower))) (c.steps (length circle - 1 - suc j) lower))))
    feeds_at j l (inr past) =
        let last : suc j ≡ length (reverse circle) = omega arith in
        let here : length circle - 1 - j ≡ 0 = omega (arith, long, last) in
        let is_first : get_or circle (length circle - 1 - j) 0 ≡ get_or circle 0 0 = ap (λ v. get_or circle v 0) here in
        subst (λ v. FlatFeeds flat v (get_or (map (out_class flat) (reverse circle)) (suc j) (get_or (map (out_class flat) (reverse circle)) 0 0))) (sym (class_at j _ l ∙ ap (out_class flat) is_first))
        (subst (λ v. FlatFeeds flat (out_class flat (get_or circle 0 0)) v) (sym (get_or_past (map (out_class flat) (reverse circle)) (suc j) _ (omega (arith, last, length-map (reverse circle) (out_class flat))) ∙ first))
        (step (get_or circle (length circle - 1) 0) (get_or circle 0 0) (is_node (length circle - 1) (omega (arith, some))) c.closes))

    feeds : (j : ℕ) → j < length (map (out_class flat) (reverse circle)) → FlatFeeds flat (get_or (map (out_class flat) (reverse circle)) j (get_or (map (out_class flat) (reverse circle)) 0 0)) (get_or (map (out_class flat) (reverse circle)) (suc j) (get_or (map (out_class flat) (reverse circle)) 0 0))
    feeds j l = let less : j < length (reverse circle) = subst (λ v. j < v) (length-map (reverse circle) (out_class flat)) l in feeds_at j less (cases_lt (suc j) (length (reverse circle)))

    once : AllPairs (λ a b. a ≢ b) (map (out_class flat) (reverse circle))
    once i j d less l same =
        let in_j : j < length (reverse circle) = subst (λ v. j < v) (length-map (reverse circle) (out_class flat)) l in
        let in_i : i < length (reverse circle) = omega (arith, less, in_j) in
        let si : length circle - 1 - i < length circle = omega (arith, some) in
        let sj : length circle - 1 - j < length circle = omega (arith, some) in
        let e : get_or circle (length circle - 1 - i) 0 ≡ get_or circle (length circle - 1 - j) 0 = one_node flat s _ _ (is_node _ si) (is_node _ sj) (sym (class_at i d in_i) ∙ same ∙ class_at j d in_j) in
        c.once (length circle - 1 - j) (length circle - 1 - i) 0 (omega (arith, long, less, in_j)) si (sym e)

-- along an order each step of a loop goes up
step_up : (flat : Flat) (order : List ℕ) → IsOrder flat order → (start written i : ℕ) → FlatFeeds flat start written → i < length order → out_class flat (get_or order i 0) ≡ start
    → (j : ℕ) × (i < j) × (j < length order) × (out_class flat (get_or order j 0) ≡ written)
step_up flat order o start written i f l e =
    let (j, less, at) = o.all f.node f.is_node in
    let at0 : get_or order j 0 ≡ f.node = get_or_default order j 0 f.node less ∙ at in
    let (k, within, reads) = f.reads in
    let r : IsDrivenBy flat f.node k (get_or order i 0) = (o.nodes i 0 l, within, get_or_default (in_classes flat f.node) k 0 start within ∙ reads ∙ sym e) in
    let (before, lower, same) = o.after j k (get_or order i 0) less (subst (λ v. IsDrivenBy flat v k (get_or order i 0)) (sym at0) r) in
    let there : before ≡ i = one before i (omega arith) l same in
    (j, omega arith, less, ap (out_class flat) at0 ∙ f.writes)
  where
    one : (a b : ℕ) → a < length order → b < length order → get_or order a 0 ≡ get_or order b 0 → a ≡ b
    one a b la lb e = by (cases_order a b)
      where
        by : (a ≡ b) ⊎ ((a < b) ⊎ (b < a)) → a ≡ b
        by (inl same) = same
        by (inr (inl less)) = absurd (o.once a b 0 less lb e)
        by (inr (inr more)) = absurd (o.once b a 0 more la (sym e))

climb : (flat : Flat) (order : List ℕ) → IsOrder flat order → (start : ℕ) (classes : List ℕ) (end i : ℕ) → FlatFeedsThrough flat start classes end → i < length order → out_class flat (get_or order i 0) ≡ start
    → (j : ℕ) × (i < j) × (j < length order) × (out_class flat (get_or order j 0) ≡ end)
climb flat order o start [] end i f l e = step_up flat order o start end i f l e
climb flat order o start (c ∷ cs) end i (f, g) l e =
    let (j, up, less, at) = step_up flat order o start c i f l e in
    let (k, higher, within, there) = climb flat order o c cs end j g less at in
    (k, omega arith, within, there)

last_of : (flat : Flat) (start : ℕ) (classes : List ℕ) (end : ℕ) → FlatFeedsThrough flat start classes end → (n : ℕ) × (n < length flat.nodes) × (out_class flat n ≡ end)
last_of flat start [] end f = (f.node, f.is_node, f.writes)
last_of flat start (c ∷ cs) end (f, g) = last_of flat c cs end g

pub no_loop : (flat : Flat) → IsSound flat → (order : List ℕ) → IsOrder flat order → (classes : List ℕ) → ¬ IsFlatLoop flat classes
no_loop flat s order o [] loop = loop
no_loop flat s order o (c ∷ cs) loop =
    let (n, is_node, writes) = last_of flat c cs c loop in
    let (i, l, at) = o.all n is_node in
    let at0 : get_or order i 0 ≡ n = get_or_default order i 0 n l ∙ at in
    let (j, up, less, there) = climb flat order o c cs c i loop l (ap (out_class flat) at0 ∙ writes) in
    o.once i j 0 up less (one_node flat s _ _ (o.nodes i 0 l) (o.nodes j 0 less) (ap (out_class flat) at0 ∙ writes ∙ sym there))
