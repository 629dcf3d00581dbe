-- Lists that grow by one.
use Rattle.std.proofs.Common.{ℕ, zero, suc, ◌+◌, ◌<◌, ◌≡◌, refl, sym, ap, ap₂, ◌∙◌, List, [], ◌∷◌, ◌++◌, map, take, drop, ◌-◌, ◌≤◌, length, get_or, append_assoc, length-append, arith}
use Rattle.std.specs.Prelude.{replicate}
use Rattle.std.proofs.lemmas.List.{map_more, take_more, length-map, length-take-le, length-drop, take_all}
use Rattle.netlist_core.specs.declared.flat.Net.{Net as FlatNet}
use Rattle.netlist_core.specs.declared.flat.FlatLatch.{FlatLatch}
use Rattle.netlist_core.specs.declared.flat.Node.{Node}
use Rattle.netlist_core.specs.Names.{Name}
use Rattle.aiger_text.specs.declared.aig.AigLatch.{AigLatch}
use Rattle.aiger_text.specs.declared.aig.Aig.{Aig}
use Rattle.aiger_text.specs.SoundAig.{input_names, output_names, sides_of}
use Rattle.aiger_meaning.specs.FlatOf.{first_gate, latch_between, latches_from, net_names, nets_from, node_of, node_reads, nodes_from, buffer, zero_node}

nets_push : (n : ℕ) (names : List Name) (name : Name) → nets_from n (names ++ name ∷ []) ≡ nets_from n names ++ nets_from (n + length names) (name ∷ [])
nets_push n [] name = ap (λ m. nets_from m (name ∷ [])) (let e : n ≡ n + 0 = omega arith in e)
nets_push n (first ∷ names) name =
    ap (λ nets. record { place = []; name = first; class = n } ∷ nets) (nets_push (suc n) names name ∙ ap (λ m. nets_from (suc n) names ++ nets_from m (name ∷ [])) (let e : suc n + length names ≡ n + suc (length names) = omega arith in e))

many_from : (n : ℕ) (names : List Name) → length (nets_from n names) ≡ length names
many_from n [] = refl
many_from n (name ∷ names) = ap suc (many_from (suc n) names)

-- one more net after nets
pub net_more : (front items new : List FlatNet) (names : List Name) (name : Name) → items ≡ front ++ nets_from (length front) names → new ≡ items ++ nets_from (length items) (name ∷ []) → new ≡ front ++ nets_from (length front) (names ++ name ∷ [])
net_more front items new names name was pushed =
    let many : length items ≡ length front + length names = ap length was ∙ length-append front (nets_from (length front) names) ∙ ap (λ n. length front + n) (many_from (length front) names) in
    pushed
    ∙ ap₂ (λ ys n. ys ++ nets_from n (name ∷ [])) was many
    ∙ append_assoc front (nets_from (length front) names) (nets_from (length front + length names) (name ∷ []))
    ∙ ap (λ ys. front ++ ys) (sym (nets_push (length front) names name))

pub unnamed_push : (n : ℕ) → replicate {A = Name} (suc n) [] ≡ replicate n [] ++ [] ∷ []
unnamed_push zero = refl
unnamed_push (suc n) = ap (λ names. [] ∷ names) (unnamed_push n)

nodes_push : (aig : Aig) (n : ℕ) (reads : List (List ℕ)) (lits : List ℕ) → nodes_from aig n (reads ++ lits ∷ []) ≡ nodes_from aig n reads ++ node_of aig lits (n + length reads) ∷ []
nodes_push aig n [] lits = ap (λ m. node_of aig lits m ∷ []) (let e : n ≡ n + 0 = omega arith in e)
nodes_push aig n (first ∷ reads) lits =
    ap (λ nodes. node_of aig first n ∷ nodes) (nodes_push aig (suc n) reads lits ∙ ap (λ m. nodes_from aig (suc n) reads ++ node_of aig lits m ∷ []) (let e : suc n + length reads ≡ n + suc (length reads) = omega arith in e))

many_nodes_from : (aig : Aig) (n : ℕ) (reads : List (List ℕ)) → length (nodes_from aig n reads) ≡ length reads
many_nodes_from aig n [] = refl
many_nodes_from aig n (lits ∷ reads) = ap suc (many_nodes_from aig (suc n) reads)

-- one more node after nodes
pub node_more : (aig : Aig) (base : ℕ) (front items new : List Node) (reads : List (List ℕ)) (lits : List ℕ) → items ≡ front ++ nodes_from aig (base + length front) reads
    → new ≡ items ++ node_of aig lits (base + length items) ∷ [] → new ≡ front ++ nodes_from aig (base + length front) (reads ++ lits ∷ [])
node_more aig base front items new reads lits was pushed =
    let many : length items ≡ length front + length reads = ap length was ∙ length-append front (nodes_from aig (base + length front) reads) ∙ ap (λ n. length front + n) (many_nodes_from aig (base + length front) reads) in
    let at : base + length items ≡ base + length front + length reads = omega (arith, many) in
    pushed
    ∙ ap₂ (λ ys n. ys ++ node_of aig lits n ∷ []) was at
    ∙ append_assoc front (nodes_from aig (base + length front) reads) (node_of aig lits (base + length front + length reads) ∷ [])
    ∙ ap (λ ys. front ++ ys) (sym (nodes_push aig (base + length front) reads lits))

pub latches_push : (input output : ℕ) (latches : List AigLatch) (latch : AigLatch) → latches_from input output (latches ++ latch ∷ []) ≡ latches_from input output latches ++ latch_between (input + length latches) (output + length latches) latch ∷ []
latches_push input output [] latch = ap₂ (λ i o. latch_between i o latch ∷ []) (let e : input ≡ input + 0 = omega arith in e) (let e : output ≡ output + 0 = omega arith in e)
latches_push input output (first ∷ latches) latch =
    ap (λ ls. latch_between input output first ∷ ls) (latches_push (suc input) (suc output) latches latch
    ∙ ap₂ (λ i o. latches_from (suc input) (suc output) latches ++ latch_between i o latch ∷ []) (let e : suc input + length latches ≡ input + suc (length latches) = omega arith in e) (let e : suc output + length latches ≡ output + suc (length latches) = omega arith in e))

-- one more name of a list
pub named_more : (front items new : List FlatNet) (names : List Name) (i : ℕ) (d name : Name) → i < length names → name ≡ get_or names i d → items ≡ front ++ nets_from (length front) (take i names)
    → new ≡ items ++ nets_from (length items) (name ∷ []) → new ≡ front ++ nets_from (length front) (take (i + 1) names)
named_more front items new names i d name low is was pushed =
    net_more front items new (take i names) name was pushed
    ∙ ap (λ ns. front ++ nets_from (length front) ns) (ap (λ n. take i names ++ n ∷ []) is ∙ sym (take_more names i d low))

pub many_named : (front items : List FlatNet) (names : List Name) → items ≡ front ++ nets_from (length front) names → length items ≡ length front + length names
many_named front items names was = ap length was ∙ length-append front (nets_from (length front) names) ∙ ap (λ n. length front + n) (many_from (length front) names)

pub unnamed_more : (front items new : List FlatNet) (n : ℕ) → items ≡ front ++ nets_from (length front) (replicate n []) → new ≡ items ++ nets_from (length items) ([] ∷ []) → new ≡ front ++ nets_from (length front) (replicate (n + 1) [])
unnamed_more front items new n was pushed = net_more front items new (replicate n []) [] was pushed ∙ ap (λ ns. front ++ nets_from (length front) ns) (sym (unnamed_push n) ∙ ap (λ m. replicate {A = Name} m []) (let e : suc n ≡ n + 1 = omega arith in e))

-- one more node of a list
pub read_more : {X : Type 0} (read : X → List ℕ) (aig : Aig) (base : ℕ) (front items new : List Node) (xs : List X) (i : ℕ) (d : X) (lits : List ℕ) → i < length xs → lits ≡ read (get_or xs i d)
    → items ≡ front ++ nodes_from aig (base + length front) (map read (take i xs)) → new ≡ items ++ node_of aig lits (base + length items) ∷ [] → new ≡ front ++ nodes_from aig (base + length front) (map read (take (i + 1) xs))
read_more read aig base front items new xs i d lits low is was pushed =
    node_more aig base front items new (map read (take i xs)) lits was pushed
    ∙ ap (λ rs. front ++ nodes_from aig (base + length front) rs) (ap (λ r. map read (take i xs) ++ r ∷ []) is ∙ sym (map_more read xs i d low))

pub many_read : {X : Type 0} (read : X → List ℕ) (aig : Aig) (base : ℕ) (front items : List Node) (xs : List X) → items ≡ front ++ nodes_from aig (base + length front) (map read xs) → length items ≡ length front + length xs
many_read read aig base front items xs was =
    ap length was ∙ length-append front (nodes_from aig (base + length front) (map read xs)) ∙ ap (λ n. length front + n) (many_nodes_from aig (base + length front) (map read xs) ∙ length-map xs read)

pub latch_more : (input output : ℕ) (items new : List FlatLatch) (latches : List AigLatch) (i : ℕ) (d latch : AigLatch) → i < length latches → latch ≡ get_or latches i d → items ≡ latches_from input output (take i latches)
    → new ≡ items ++ latch_between (input + i) (output + i) latch ∷ [] → new ≡ latches_from input output (take (i + 1) latches)
latch_more input output items new latches i d latch low is was pushed =
    let many : length (take i latches) ≡ i = length-take-le i latches (omega (arith, low)) in
    pushed
    ∙ ap₂ (λ ls l. ls ++ latch_between (input + i) (output + i) l ∷ []) was is
    ∙ ap (λ n. latches_from input output (take i latches) ++ latch_between (input + n) (output + n) (get_or latches i d) ∷ []) (sym many)
    ∙ sym (latches_push input output (take i latches) (get_or latches i d))
    ∙ ap (latches_from input output) (sym (take_more latches i d low))

-- the nets, part by part
nets_join : (n : ℕ) (xs ys : List Name) → nets_from n (xs ++ ys) ≡ nets_from n xs ++ nets_from (n + length xs) ys
nets_join n [] ys = ap (λ m. nets_from m ys) (let e : n ≡ n + 0 = omega arith in e)
nets_join n (x ∷ xs) ys = ap (λ nets. record { place = []; name = x; class = n } ∷ nets) (nets_join (suc n) xs ys ∙ ap (λ m. nets_from (suc n) xs ++ nets_from m ys) (let e : suc n + length xs ≡ n + suc (length xs) = omega arith in e))

joined : (names more : List Name) (items new : List FlatNet) → items ≡ nets_from 0 names → new ≡ items ++ nets_from (length items) more → new ≡ nets_from 0 (names ++ more)
joined names more items new was pushed =
    let many : length items ≡ 0 + length names = ap length was ∙ many_from 0 names ∙ (let e : length names ≡ 0 + length names = omega arith in e) in
    pushed ∙ ap₂ (λ ys n. ys ++ nets_from n more) was many ∙ sym (nets_join 0 names more)

pub nets_are : (aig : Aig) (names : List Name) (count inner : ℕ) (e a b c d : List FlatNet) → length aig.inputs ≤ length aig.names → names ≡ aig.names → count ≡ length aig.inputs → inner ≡ length aig.latches + length aig.ands + length aig.latches → e ≡ []
    → a ≡ e ++ nets_from (length e) ([] ∷ []) → b ≡ a ++ nets_from (length a) (take count names) → c ≡ b ++ nets_from (length b) (replicate inner [])
    → d ≡ c ++ nets_from (length c) (take (length names - count) (drop count names)) → d ≡ nets_from 0 (net_names aig)
nets_are aig names count inner e a b c d few names_are count_is inner_is none first ins middle outs =
    let a_is = joined [] ([] ∷ []) e a none first in
    let b_is = joined ([] ∷ []) (take count names) a b a_is ins in
    let c_is = joined (([] ∷ []) ++ take count names) (replicate inner []) b c b_is middle in
    let d_is = joined (([] ∷ []) ++ take count names ++ replicate inner []) (take (length names - count) (drop count names)) c d c_is outs in
    let last : take (length names - count) (drop count names) ≡ drop count names = take_all (length names - count) (drop count names) (omega (arith, length-drop count names)) in
    d_is
    ∙ ap (nets_from 0) (append_assoc (([] ∷ []) ++ take count names) (replicate inner []) (take (length names - count) (drop count names)) ∙ append_assoc ([] ∷ []) (take count names) (replicate inner [] ++ take (length names - count) (drop count names)))
    ∙ ap (λ end. nets_from 0 ([] ∷ (take count names ++ (replicate inner [] ++ end)))) last
    ∙ ap₂ (λ k ns. nets_from 0 ([] ∷ (take k ns ++ (replicate inner [] ++ drop k ns)))) count_is names_are
    ∙ ap (λ n. nets_from 0 ([] ∷ (input_names aig ++ (replicate n [] ++ output_names aig)))) inner_is

pub more_long : (items new : List FlatNet) (more : List Name) → new ≡ items ++ nets_from (length items) more → length new ≡ length items + length more
more_long items new more pushed = ap length pushed ∙ length-append items (nets_from (length items) more) ∙ ap (λ n. length items + n) (many_from (length items) more)

-- the nodes, part by part
nodes_join : (aig : Aig) (n : ℕ) (xs ys : List (List ℕ)) → nodes_from aig n (xs ++ ys) ≡ nodes_from aig n xs ++ nodes_from aig (n + length xs) ys
nodes_join aig n [] ys = ap (λ m. nodes_from aig m ys) (let e : n ≡ n + 0 = omega arith in e)
nodes_join aig n (x ∷ xs) ys = ap (λ nodes. node_of aig x n ∷ nodes) (nodes_join aig (suc n) xs ys ∙ ap (λ m. nodes_from aig (suc n) xs ++ nodes_from aig m ys) (let e : suc n + length xs ≡ n + suc (length xs) = omega arith in e))

module _ (aig : Aig) (blank : Node) (e a b : List Node) (none : e ≡ []) (zero_is : blank ≡ zero_node) (first : a ≡ e ++ blank ∷ [])
    (gates : b ≡ a ++ nodes_from aig (length aig.inputs + length aig.latches + length a) (map sides_of aig.ands)) where
  first_is : a ≡ zero_node ∷ []
  first_is = first ∙ ap₂ (λ xs z. xs ++ z ∷ []) none zero_is

  gates_are : b ≡ zero_node ∷ nodes_from aig (first_gate aig) (map sides_of aig.ands)
  gates_are =
      let one : length a ≡ 1 = ap length first_is in
      gates ∙ ap₂ (λ xs n. xs ++ nodes_from aig n (map sides_of aig.ands)) first_is (let at : length aig.inputs + length aig.latches + length a ≡ first_gate aig = omega (arith, one) in at)

  pub many_gates : length b ≡ 1 + length aig.ands
  many_gates =
      let e = ap length gates_are in
      let n = many_nodes_from aig (first_gate aig) (map sides_of aig.ands) in
      let m = length-map aig.ands sides_of in
      omega (arith, e, n, m)

  pub nodes_are : (lits : List ℕ) (c : List Node) → lits ≡ map (λ (latch : AigLatch). latch.next) aig.latches ++ aig.outputs → c ≡ b ++ nodes_from aig (length aig.inputs + length aig.latches + length b) (map buffer lits)
      → c ≡ zero_node ∷ nodes_from aig (first_gate aig) (node_reads aig)
  nodes_are lits c lits_are buffers =
      let m = length-map aig.ands sides_of in
      let at : length aig.inputs + length aig.latches + length b ≡ first_gate aig + length (map sides_of aig.ands) = omega (arith, many_gates, m) in
      buffers
      ∙ ap₂ (λ xs n. xs ++ nodes_from aig n (map buffer lits)) gates_are at
      ∙ ap (λ xs. zero_node ∷ xs) (sym (nodes_join aig (first_gate aig) (map sides_of aig.ands) (map buffer lits)))
      ∙ ap (λ ls. zero_node ∷ nodes_from aig (first_gate aig) (map sides_of aig.ands ++ map buffer ls)) lits_are
