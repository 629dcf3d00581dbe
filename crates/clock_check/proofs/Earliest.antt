-- The uses of nets, and the earliest of a clock's.
use Rattle.std.proofs.Common.{ℕ, suc, ◌≡◌, refl, sym, ap, ◌∙◌, subst, ◌+◌, ◌<◌, ◌≤◌, ◌⊎◌, inl, inr, Bool, true, false, cond, ◌&&◌, ◌==◌, nat_lt, true≢false, List, [], ◌∷◌, ◌++◌, length, flat_map, take, get_or, Option, Some, None, MatchOption, append-nil, append_assoc, arith}
use Rattle.std.proofs.lemmas.Bool.{ltb-true, ltb-false, and_parts, or_cases}
use Rattle.std.proofs.lemmas.Bool.Decides.{Decides-eqb}
use Rattle.std.proofs.lemmas.List.{take_more, length-take-le, flat_map_more}
use Rattle.lists.proofs.Bools.{or_false_left, or_false_right, and_false_right}
use Rattle.lists.proofs.Members.{In, in_left, in_right, in_parts}
use Rattle.netlist_core.specs.declared.flat.NetId.{NetId}
use Rattle.netlist_core.specs.declared.flat.Node.{Node}
use Rattle.netlist_core.specs.declared.flat.FlatPort.{FlatPort}
use Rattle.netlist_core.specs.declared.flat.FlatLatch.{FlatLatch}
use Rattle.netlist_core.specs.declared.flat.Flat.{Flat}
use Rattle.netlist_meaning.specs.Flat.{class_of, is_clock_class}
use Rattle.clock_check.specs.declared.uses.NetUse.{NetUse}
use Rattle.clock_check.specs.Uses.{uses_on, uses_of_node, uses_of_latch, uses_of_outs, flat_uses, stands_before, earlier, earliest_with, earliest_among}

-- more uses
pub among_more : (flat : Flat) (found : Option NetUse) (uses others : List NetUse) → earliest_among flat found (uses ++ others) ≡ earliest_among flat (earliest_among flat found uses) others
among_more flat found [] others = refl
among_more flat found (next ∷ uses) others = among_more flat (earliest_with flat found next) uses others

pub uses_on_more : (line first : ℕ) (nets others : List NetId) → uses_on line first (nets ++ others) ≡ uses_on line first nets ++ uses_on line (first + length nets) others
uses_on_more line first [] others = let same : first ≡ first + 0 = omega arith in ap (λ n. uses_on line n others) same
uses_on_more line first (net ∷ nets) others = let same : suc first + length nets ≡ first + suc (length nets) = omega arith in ap (λ uses. record { line = line; position = first; net = net } ∷ uses) (uses_on_more line (suc first) nets others ∙ ap (λ n. uses_on line (suc first) nets ++ uses_on line n others) same)

pub uses_of_outs_more : (first : ℕ) (ports others : List FlatPort) → uses_of_outs first (ports ++ others) ≡ uses_of_outs first ports ++ uses_of_outs (first + length ports) others
uses_of_outs_more first [] others = let same : first ≡ first + 0 = omega arith in ap (λ n. uses_of_outs n others) same
uses_of_outs_more first (port ∷ ports) others = let same : suc first + length ports ≡ first + suc (length ports) = omega arith in ap (λ uses. record { line = port.line; position = first; net = port.net } ∷ uses) (uses_of_outs_more (suc first) ports others ∙ ap (λ n. uses_of_outs (suc first) ports ++ uses_of_outs n others) same)

-- a loop over words, outputs or lines
pub on_more : (flat : Flat) (found before after : Option NetUse) (line i : ℕ) (nets : List NetId) (d : NetId) → i < length nets → before ≡ earliest_among flat found (uses_on line 0 (take i nets)) → after ≡ earliest_with flat before (record { line = line; position = i; net = get_or nets i d })
    → after ≡ earliest_among flat found (uses_on line 0 (take (i + 1) nets))
on_more flat found before after line i nets d within stands_before is_after =
    let long : length (take i nets) ≡ i = length-take-le i nets (omega arith) in
    let at : 0 + length (take i nets) ≡ i = omega arith in
    is_after
    ∙ ap (λ o. earliest_with flat o (record { line = line; position = i; net = get_or nets i d })) stands_before
    ∙ sym (among_more flat found (uses_on line 0 (take i nets)) (uses_on line i (get_or nets i d ∷ [])))
    ∙ ap (λ n. earliest_among flat found (uses_on line 0 (take i nets) ++ uses_on line n (get_or nets i d ∷ []))) (sym at)
    ∙ ap (earliest_among flat found) (sym (uses_on_more line 0 (take i nets) (get_or nets i d ∷ [])))
    ∙ ap (λ (xs : List NetId). earliest_among flat found (uses_on line 0 xs)) (sym (take_more nets i d within))

pub outs_more : (flat : Flat) (found before after : Option NetUse) (i : ℕ) (ports : List FlatPort) (d : FlatPort) → i < length ports → before ≡ earliest_among flat found (uses_of_outs 0 (take i ports)) → after ≡ earliest_with flat before (record { line = (get_or ports i d).line; position = i; net = (get_or ports i d).net })
    → after ≡ earliest_among flat found (uses_of_outs 0 (take (i + 1) ports))
outs_more flat found before after i ports d within stands_before is_after =
    let long : length (take i ports) ≡ i = length-take-le i ports (omega arith) in
    let at : 0 + length (take i ports) ≡ i = omega arith in
    is_after
    ∙ ap (λ o. earliest_with flat o (record { line = (get_or ports i d).line; position = i; net = (get_or ports i d).net })) stands_before
    ∙ sym (among_more flat found (uses_of_outs 0 (take i ports)) (uses_of_outs i (get_or ports i d ∷ [])))
    ∙ ap (λ n. earliest_among flat found (uses_of_outs 0 (take i ports) ++ uses_of_outs n (get_or ports i d ∷ []))) (sym at)
    ∙ ap (earliest_among flat found) (sym (uses_of_outs_more 0 (take i ports) (get_or ports i d ∷ [])))
    ∙ ap (λ (xs : List FlatPort). earliest_among flat found (uses_of_outs 0 xs)) (sym (take_more ports i d within))

pub lines_more : {X : Type 0} (uses : X → List NetUse) (flat : Flat) (found before after : Option NetUse) (i : ℕ) (xs : List X) (d : X) → i < length xs → before ≡ earliest_among flat found (flat_map uses (take i xs)) → after ≡ earliest_among flat before (uses (get_or xs i d))
    → after ≡ earliest_among flat found (flat_map uses (take (i + 1) xs))
lines_more {X} uses flat found before after i xs d within stands_before is_after =
    is_after
    ∙ ap (λ o. earliest_among flat o (uses (get_or xs i d))) stands_before
    ∙ sym (among_more flat found (flat_map uses (take i xs)) (uses (get_or xs i d)))
    ∙ ap (earliest_among flat found) (flat_map_more uses [] (take i xs) (get_or xs i d))
    ∙ ap (λ (ys : List X). earliest_among flat found (flat_map uses ys)) (sym (take_more xs i d within))

-- the words of a node: its inputs and its output
pub node_more : (flat : Flat) (found among_ins after : Option NetUse) (node : Node) → among_ins ≡ earliest_among flat found (uses_on node.line 0 node.ins) → after ≡ earliest_with flat among_ins (record { line = node.line; position = length node.ins; net = node.out })
    → after ≡ earliest_among flat found (uses_of_node node)
node_more flat found among_ins after node is_ins is_after =
    let at : length node.ins ≡ 0 + length node.ins = omega arith in
    is_after
    ∙ ap (λ o. earliest_with flat o (record { line = node.line; position = length node.ins; net = node.out })) is_ins
    ∙ sym (among_more flat found (uses_on node.line 0 node.ins) (uses_on node.line (length node.ins) (node.out ∷ [])))
    ∙ ap (λ n. earliest_among flat found (uses_on node.line 0 node.ins ++ uses_on node.line n (node.out ∷ []))) at
    ∙ ap (earliest_among flat found) (sym (uses_on_more node.line 0 node.ins (node.out ∷ [])))

-- the order of uses
abbrev pub IsUpTo : NetUse → NetUse → Type 0
IsUpTo a b = (a.line < b.line) ⊎ ((a.line ≡ b.line) × (a.position ≤ b.position))

up_to_itself : (a : NetUse) → IsUpTo a a
up_to_itself a = inr (refl, omega arith)

up_to_next : (a b c : NetUse) → IsUpTo a b → IsUpTo b c → IsUpTo a c
up_to_next a b c (inl l) (inl m) = inl (omega arith)
up_to_next a b c (inl l) (inr m) = inl (let e : b.line ≡ c.line = m.0 in omega arith)
up_to_next a b c (inr l) (inl m) = inl (let e : a.line ≡ b.line = l.0 in omega arith)
up_to_next a b c (inr l) (inr m) = inr (l.0 ∙ m.0, (let p : a.position ≤ b.position = l.1 in let q : b.position ≤ c.position = m.1 in omega arith))

before_is_up_to : (a b : NetUse) → stands_before a b ≡ true → IsUpTo a b
before_is_up_to a b e = elim (or_cases (nat_lt a.line b.line) ((a.line == b.line) && nat_lt a.position b.position) e) as (λ _. IsUpTo a b) [
  | inl l ↦ inl (ltb-true a.line b.line l)
  | inr m ↦ let (same, less) = and_parts (a.line == b.line) (nat_lt a.position b.position) m in inr ((Decides-eqb a.line b.line).0 same, (let l : a.position < b.position = ltb-true a.position b.position less in omega arith))
]

others_are_up_to : (a b : NetUse) → stands_before a b ≡ false → IsUpTo b a
others_are_up_to a b e =
    let late : b.line ≤ a.line = ltb-false a.line b.line (or_false_left _ _ e) in
    by late (a.line == b.line) refl (or_false_right (nat_lt a.line b.line) _ e)
  where
    by : b.line ≤ a.line → (same : Bool) → (a.line == b.line) ≡ same → ((a.line == b.line) && nat_lt a.position b.position) ≡ false → IsUpTo b a
    by late true is rest = inr (sym ((Decides-eqb a.line b.line).0 is), ltb-false a.position b.position (and_false_right (a.line == b.line) _ is rest))
    by late false is rest = inl (less (λ same. true≢false (sym ((Decides-eqb a.line b.line).1 same) ∙ is)))
      where
        less : (a.line ≡ b.line → ⊥) → b.line < a.line
        less apart = omega arith

-- what the earliest use of a clock among some uses is
abbrev clock_of : Flat → NetUse → Bool
clock_of flat used = is_clock_class flat (class_of flat used.net)

abbrev pub IsEarliest : Flat → List NetUse → Option NetUse → Type 0
IsEarliest flat uses o = MatchOption o ((other : NetUse) → In other uses → clock_of flat other ≡ false) (λ found. In found uses × (clock_of flat found ≡ true) × ((other : NetUse) → In other uses → clock_of flat other ≡ true → IsUpTo found other))

earliest_more : (flat : Flat) (uses : List NetUse) (o : Option NetUse) (next : NetUse) → IsEarliest flat uses o → IsEarliest flat (uses ++ next ∷ []) (earliest_with flat o next)
earliest_more flat uses o next h = by o h (clock_of flat next) refl
  where
    none : ((other : NetUse) → In other uses → clock_of flat other ≡ false) → clock_of flat next ≡ false → (other : NetUse) → In other (uses ++ next ∷ []) → clock_of flat other ≡ false
    none h e other i = elim (in_parts uses (next ∷ []) other i) as (λ _. clock_of flat other ≡ false) [ inl j ↦ h other j | inr j ↦ elim j as (λ _. clock_of flat other ≡ false) [ inl same ↦ ap (clock_of flat) same ∙ e | inr k ↦ absurd k ] ]

    with_one : (found : NetUse) → IsUpTo found next → ((other : NetUse) → In other uses → clock_of flat other ≡ true → IsUpTo found other) → (other : NetUse) → In other (uses ++ next ∷ []) → clock_of flat other ≡ true → IsUpTo found other
    with_one found here h other i e = elim (in_parts uses (next ∷ []) other i) as (λ _. IsUpTo found other) [ inl j ↦ h other j e | inr j ↦ elim j as (λ _. IsUpTo found other) [ inl same ↦ subst (IsUpTo found) (sym same) here | inr k ↦ absurd k ] ]

    without : (found : NetUse) → clock_of flat next ≡ false → ((other : NetUse) → In other uses → clock_of flat other ≡ true → IsUpTo found other) → (other : NetUse) → In other (uses ++ next ∷ []) → clock_of flat other ≡ true → IsUpTo found other
    without found not_clock h other i e = elim (in_parts uses (next ∷ []) other i) as (λ _. IsUpTo found other) [ inl j ↦ h other j e | inr j ↦ elim j as (λ _. IsUpTo found other) [ inl same ↦ absurd (true≢false (sym e ∙ ap (clock_of flat) same ∙ not_clock)) | inr k ↦ absurd k ] ]

    last : In next (uses ++ next ∷ [])
    last = in_right uses (next ∷ []) next (inl refl)

    choose : (found : NetUse) → In found uses → clock_of flat found ≡ true → ((other : NetUse) → In other uses → clock_of flat other ≡ true → IsUpTo found other) → clock_of flat next ≡ true → (b : Bool) → stands_before next found ≡ b → IsEarliest flat (uses ++ next ∷ []) (Some (cond b next found))
    choose found i c least e true sooner = (last, e, with_one next (up_to_itself next) (λ other j d. up_to_next next found other (before_is_up_to next found sooner) (least other j d)))
    choose found i c least e false later = (in_left uses (next ∷ []) found i, c, with_one found (others_are_up_to next found later) least)

    by : (o : Option NetUse) → IsEarliest flat uses o → (b : Bool) → clock_of flat next ≡ b → IsEarliest flat (uses ++ next ∷ []) (cond b (Some (earlier o next)) o)
    by None h true e = (last, e, with_one next (up_to_itself next) (λ other i d. absurd (true≢false (sym d ∙ h other i))))
    by None h false e = none h e
    by (Some found) h true e = choose found h.0 h.1 h.2 e (stands_before next found) refl
    by (Some found) h false e = (in_left uses (next ∷ []) found h.0, h.1, without found e h.2)

earliest_on_from : (flat : Flat) (before : List NetUse) (o : Option NetUse) (uses : List NetUse) → IsEarliest flat before o → IsEarliest flat (before ++ uses) (earliest_among flat o uses)
earliest_on_from flat before o [] h = subst (λ (us : List NetUse). IsEarliest flat us o) (sym (append-nil before)) h
earliest_on_from flat before o (next ∷ uses) h =
    subst (λ (us : List NetUse). IsEarliest flat us (earliest_among flat (earliest_with flat o next) uses)) (append_assoc before (next ∷ []) uses)
    (earliest_on_from flat (before ++ next ∷ []) (earliest_with flat o next) uses (earliest_more flat before o next h))

pub is_earliest : (flat : Flat) (uses : List NetUse) → IsEarliest flat uses (earliest_among flat None uses)
is_earliest flat uses = earliest_on_from flat [] None uses (λ other i. absurd i)

-- nodes first, then latches, then outputs
pub all_uses : (flat : Flat) (nodes : List Node) (latches : List FlatLatch) (outs : List FlatPort) (in_nodes in_latches in_outs : Option NetUse) → nodes ≡ flat.nodes → latches ≡ flat.latches → outs ≡ flat.outs
    → in_nodes ≡ earliest_among flat None (flat_map uses_of_node nodes) → in_latches ≡ earliest_among flat in_nodes (flat_map uses_of_latch latches) → in_outs ≡ earliest_among flat in_latches (uses_of_outs 0 outs)
    → in_outs ≡ earliest_among flat None (flat_uses flat)
all_uses flat nodes latches outs in_nodes in_latches in_outs are_nodes are_latches are_outs is_nodes is_latches is_outs =
    let a : List NetUse = flat_map uses_of_node flat.nodes in
    let b : List NetUse = flat_map uses_of_latch flat.latches in
    let nodes_are : in_nodes ≡ earliest_among flat None a = is_nodes ∙ ap (λ (xs : List Node). earliest_among flat None (flat_map uses_of_node xs)) are_nodes in
    let latches_are : in_latches ≡ earliest_among flat None (a ++ b) =
    is_latches ∙ ap (λ (xs : List FlatLatch). earliest_among flat in_nodes (flat_map uses_of_latch xs)) are_latches ∙ ap (λ o. earliest_among flat o b) nodes_are ∙ sym (among_more flat None a b) in
    is_outs
    ∙ ap (λ (xs : List FlatPort). earliest_among flat in_latches (uses_of_outs 0 xs)) are_outs
    ∙ ap (λ o. earliest_among flat o (uses_of_outs 0 flat.outs)) latches_are
    ∙ sym (among_more flat None (a ++ b) (uses_of_outs 0 flat.outs))
