-- Along an order there is exactly one valuation, and evaluation gives it.
use Rattle.std.proofs.Common.{◌≡◌, ◌≢◌, refl, sym, ap, ap₂, subst, ◌∙◌, ℕ, zero, suc, ◌<◌, ◌≤◌, ◌⊎◌, inl, inr, List, [], ◌∷◌, map, take, length, get_or, arith, Bool, false, replicate}
use Rattle.std.specs.Prelude.{Contains, zip}
use Rattle.std.specs.List.{fold}
use Rattle.std.proofs.lemmas.List.{length-map, length-replicate, get_or-map, get_or_default, same_lists}
use Rattle.std.proofs.lemmas.Option.{slice_get-get_or, get_or_from_slice_get, slice_get_within}
use Rattle.std.proofs.lemmas.Slice.Zip.{length-zip, get_or-zip}
use Rattle.lists.proofs.Numbers.{less_or_last}
use Rattle.netlist_meaning.specs.CoverValue.{cover_value}
use Rattle.netlist_core.specs.declared.flat.NetId.{NetId}
use Rattle.netlist_core.specs.declared.flat.FlatPort.{FlatPort}
use Rattle.netlist_core.specs.declared.flat.FlatLatch.{FlatLatch}
use Rattle.netlist_core.specs.declared.flat.Flat.{Flat}
use Rattle.netlist_meaning.specs.Flat.{IsClockClass, class_of, node_at, no_node, in_classes, out_class, FlatDriver, input, latch, node, FlatDrives, IsSound, IsNetId, port_classes}
use Rattle.netlist_meaning.specs.FlatOrder.{IsDrivenBy, IsOrder}
use Rattle.netlist_meaning.specs.FlatValuation.{node_value, IsFlatValuation, AgreeWhereDriven}
use Rattle.netlist_eval.specs.Eval.{OrderedHaveOneValuation, CyclesAreOne, class_bit, put, latch_classes, with_inputs, with_state, settle_node, settled, evaluated}
use Rattle.netlist_eval.proofs.Writes.{length_written, stable, written}
use Rattle.netlist_meaning.proofs.OneNode.{one_node}

abbrev pub no_id : NetId
no_id = record { 0 = 0 }

abbrev pub no_port : FlatPort
no_port = record { line = 0; net = no_id }

abbrev pub no_latch : FlatLatch
no_latch = record { line = 0; input = no_id; output = no_id; kind = Rattle.std.specs.Prelude.None; control = Rattle.std.specs.Prelude.None; init = 0 }

in_class : Flat → ℕ → ℕ
in_class flat k = class_of flat (get_or flat.ins k no_port).net

latch_class : Flat → ℕ → ℕ
latch_class flat k = class_of flat (get_or flat.latches k no_latch).output

input_drives : (flat : Flat) (k : ℕ) → k < length flat.ins → FlatDrives flat (input k) (in_class flat k)
unfolding in_class
input_drives flat k l = (get_or flat.ins k no_port, slice_get-get_or flat.ins k no_port l, refl)

latch_drives : (flat : Flat) (k : ℕ) → k < length flat.latches → FlatDrives flat (latch k) (latch_class flat k)
unfolding latch_class
latch_drives flat k l = (get_or flat.latches k no_latch, slice_get-get_or flat.latches k no_latch l, refl)

-- two drivers of one class are one
inputs_apart : (flat : Flat) → IsSound flat → (j k : ℕ) → j < length flat.ins → k < length flat.ins → in_class flat j ≡ in_class flat k → j ≡ k
inputs_apart flat s j k a b e = let d : input j ≡ input k = s.one_driver (in_class flat k) (input j) (input k) (subst (λ v. FlatDrives flat (input j) v) e (input_drives flat j a)) (input_drives flat k b) in cc

latches_apart : (flat : Flat) → IsSound flat → (j k : ℕ) → j < length flat.latches → k < length flat.latches → latch_class flat j ≡ latch_class flat k → j ≡ k
latches_apart flat s j k a b e = let d : latch j ≡ latch k = s.one_driver (latch_class flat k) (latch j) (latch k) (subst (λ v. FlatDrives flat (latch j) v) e (latch_drives flat j a)) (latch_drives flat k b) in cc

latch_no_input : (flat : Flat) → IsSound flat → (j k : ℕ) → j < length flat.latches → k < length flat.ins → latch_class flat j ≡ in_class flat k → ⊥
latch_no_input flat s j k a b e = let d : latch j ≡ input k = s.one_driver (in_class flat k) (latch j) (input k) (subst (λ v. FlatDrives flat (latch j) v) e (latch_drives flat j a)) (input_drives flat k b) in cc

node_no_input : (flat : Flat) → IsSound flat → (n k : ℕ) → n < length flat.nodes → k < length flat.ins → out_class flat n ≡ in_class flat k → ⊥
node_no_input flat s n k a b e = let d : node n ≡ input k = s.one_driver (in_class flat k) (node n) (input k) (a, e) (input_drives flat k b) in cc

node_no_latch : (flat : Flat) → IsSound flat → (n k : ℕ) → n < length flat.nodes → k < length flat.latches → out_class flat n ≡ latch_class flat k → ⊥
node_no_latch flat s n k a b e = let d : node n ≡ latch k = s.one_driver (latch_class flat k) (node n) (latch k) (a, e) (latch_drives flat k b) in cc

class_within : (flat : Flat) → IsSound flat → (net : NetId) → IsNetId flat net → class_of flat net < length flat.nets
class_within flat s net l = s.in_range.classes net.0 _ l

map_same : {X : Type 0} (f g : X → Bool) (xs : List X) (d : X) → ((k : ℕ) → k < length xs → f (get_or xs k d) ≡ g (get_or xs k d)) → map f xs ≡ map g xs
map_same f g [] d e = refl
map_same f g (x ∷ xs) d e = ap₂ (λ b bs. b ∷ bs) (e 0 (omega arith)) (map_same f g xs d (λ k l. e (suc k) (omega arith)))

-- bits that are put at places of which no two are one
put_there : (places : List ℕ) (values bits : List Bool) (k : ℕ) → length values ≡ length places → k < length places → get_or places k 0 < length bits
    → ((i j : ℕ) → i < length places → j < length places → get_or places i 0 ≡ get_or places j 0 → i ≡ j)
    → class_bit (fold put bits (zip places values)) (get_or places k 0) ≡ get_or values k false
put_there places values bits k fit l within apart =
    let pair : get_or (zip places values) k (0, false) ≡ (get_or places k 0, get_or values k false) = get_or-zip places values k (0, false) l (omega arith) in
    ap (λ v. class_bit (fold put bits (zip places values)) v) (sym (ap (λ (p : ℕ × Bool). p.0) pair))
    ∙ written (λ (p : ℕ × Bool). p.0) (λ bits p. p.1) (zip places values) (0, false) bits k (omega (arith, long)) (subst (λ v. v < length bits) (sym (ap (λ (p : ℕ × Bool). p.0) pair)) within) others
    ∙ ap (λ (p : ℕ × Bool). p.1) pair
  where
    long : length (zip places values) ≡ length places
    long = let e = length-zip places values in omega (arith, e)

    first : (i : ℕ) → i < length places → (get_or (zip places values) i (0, false)).0 ≡ get_or places i 0
    first i less = ap (λ (p : ℕ × Bool). p.0) (get_or-zip places values i (0, false) less (omega arith))

    others : (i : ℕ) → k < i → i < length (zip places values) → (get_or (zip places values) i (0, false)).0 ≢ (get_or (zip places values) k (0, false)).0
    others i more less same =
        let less' : i < length places = omega (arith, long) in
        let e : i ≡ k = apart i k less' l (sym (first i less') ∙ same ∙ first k l) in
        absurd (omega arith)

put_elsewhere : (places : List ℕ) (values bits : List Bool) (at : ℕ) → length values ≡ length places → ((i : ℕ) → i < length places → get_or places i 0 ≢ at) → class_bit (fold put bits (zip places values)) at ≡ class_bit bits at
put_elsewhere places values bits at fit away =
    stable (λ (p : ℕ × Bool). p.0) (λ bits p. p.1) (zip places values) (0, false) bits 0 at (omega arith)
    (λ i a l same. (let long : length (zip places values) ≡ length places = long in let less : i < length places = omega arith in away i less (sym (ap (λ (p : ℕ × Bool). p.0) (get_or-zip places values i (0, false) less (omega arith))) ∙ same)))
  where
    long : length (zip places values) ≡ length places
    long = let e = length-zip places values in omega (arith, e)

length_put : (pairs : List (ℕ × Bool)) (bits : List Bool) → length (fold put bits pairs) ≡ length bits
length_put pairs bits = length_written (λ (p : ℕ × Bool). p.0) (λ bits p. p.1) pairs bits

in_place : (flat : Flat) (k : ℕ) → k < length flat.ins → get_or (port_classes flat flat.ins) k 0 ≡ in_class flat k
unfolding in_class
in_place flat k l = get_or-map (λ (port : FlatPort). class_of flat port.net) flat.ins k no_port 0 l

latch_place : (flat : Flat) (k : ℕ) → k < length flat.latches → get_or (latch_classes flat flat.latches) k 0 ≡ latch_class flat k
unfolding latch_class
latch_place flat k l = get_or-map (λ (latch : FlatLatch). class_of flat latch.output) flat.latches k no_latch 0 l

-- a node's value does not change once it is computed
node_settled : (flat : Flat) → IsSound flat → (order : List ℕ) → IsOrder flat order → (bits : List Bool) → length bits ≡ length flat.nets → (n : ℕ) → n < length flat.nodes
    → class_bit (settled flat order bits) (out_class flat n) ≡ node_value flat (class_bit (settled flat order bits)) n
node_settled flat s order o bits fit n l =
    ap (λ v. class_bit (settled flat order bits) (out_class flat v)) (sym at)
    ∙ written (out_class flat) (λ bits n. node_value flat (class_bit bits) n) order 0 bits i less within later
    ∙ ap (node_value flat (class_bit (fold (settle_node flat) bits (take i order)))) at
    ∙ ap (cover_value (node_at flat n).rows (node_at flat n).on) (map_same (λ net. class_bit (fold (settle_node flat) bits (take i order)) (class_of flat net)) (λ net. class_bit (settled flat order bits) (class_of flat net)) (node_at flat n).ins no_id reads)
  where
    there : Contains order n
    there = o.all n l

    i : ℕ
    i = there.0

    less : there.0 < length order
    less = there.1

    at : get_or order there.0 0 ≡ n
    at = get_or_default order there.0 0 n there.1 ∙ there.2

    within : out_class flat (get_or order there.0 0) < length bits
    within = subst (λ v. out_class flat (get_or order there.0 0) < v) (sym fit) (class_within flat s (node_at flat (get_or order there.0 0)).out (s.in_range.node_outs (get_or order there.0 0) _ (o.nodes there.0 0 there.1)))

    later : (k : ℕ) → there.0 < k → k < length order → out_class flat (get_or order k 0) ≢ out_class flat (get_or order there.0 0)
    later k more in_k same = o.once there.0 k 0 more in_k (sym (one_node flat s _ _ (o.nodes k 0 in_k) (o.nodes there.0 0 there.1) same))

    reads : (k : ℕ) → k < length (node_at flat n).ins → class_bit (fold (settle_node flat) bits (take there.0 order)) (class_of flat (get_or (node_at flat n).ins k no_id)) ≡ class_bit (settled flat order bits) (class_of flat (get_or (node_at flat n).ins k no_id))
    reads k in_ins = sym (stable (out_class flat) (λ bits n. node_value flat (class_bit bits) n) order 0 bits there.0 (class_of flat (get_or (node_at flat n).ins k no_id)) (omega (arith, there.1))
        (λ j up in_j same. (let class : get_or (in_classes flat n) k 0 ≡ class_of flat (get_or (node_at flat n).ins k no_id) = get_or-map (class_of flat) (node_at flat n).ins k no_id 0 in_ins in
        let r : IsDrivenBy flat n k (get_or order j 0) = (o.nodes j 0 in_j, subst (λ v. k < v) (sym (length-map (node_at flat n).ins (class_of flat))) in_ins, class ∙ sym same) in
        let (before, lower, is) = o.after there.0 k (get_or order j 0) there.1 (subst (λ v. IsDrivenBy flat v k (get_or order j 0)) (sym at) r) in
        o.once before j 0 (omega (arith, lower, up)) in_j is)))

-- evaluation gives a valuation
pub evaluated_solves : (flat : Flat) → IsSound flat → (order : List ℕ) → IsOrder flat order → (inputs state bits : List Bool) → length inputs ≡ length flat.ins → length state ≡ length flat.latches → length bits ≡ length flat.nets
    → IsFlatValuation flat inputs state (class_bit (evaluated flat order inputs state bits))
unfolding in_class latch_class
evaluated_solves flat s order o inputs state bits ins_fit state_fit fit = record {
  inputs_given = same_lists (map (λ (port : FlatPort). class_bit (evaluated flat order inputs state bits) (class_of flat port.net)) flat.ins) inputs (length-map flat.ins _ ∙ sym ins_fit)
      (λ k d l. (let less : k < length flat.ins = subst (λ v. k < v) (length-map flat.ins _) l in get_or-map (λ (port : FlatPort). class_bit (evaluated flat order inputs state bits) (class_of flat port.net)) flat.ins k no_port d less ∙ input_bit k less ∙ get_or_default inputs k false d (omega arith)));
  latches_hold = same_lists (map (λ (latch : FlatLatch). class_bit (evaluated flat order inputs state bits) (class_of flat latch.output)) flat.latches) state (length-map flat.latches _ ∙ sym state_fit)
      (λ k d l. (let less : k < length flat.latches = subst (λ v. k < v) (length-map flat.latches _) l in get_or-map (λ (latch : FlatLatch). class_bit (evaluated flat order inputs state bits) (class_of flat latch.output)) flat.latches k no_latch d less ∙ latch_bit k less ∙ get_or_default state k false d (omega arith)));
  nodes_hold = node_settled flat s order o (with_state flat state (with_inputs flat inputs bits)) (length_put (zip (latch_classes flat flat.latches) state) (with_inputs flat inputs bits) ∙ length_put (zip (port_classes flat flat.ins) inputs) bits ∙ fit);
}
  where
    places : length (port_classes flat flat.ins) ≡ length flat.ins
    places = length-map flat.ins _

    latch_places : length (latch_classes flat flat.latches) ≡ length flat.latches
    latch_places = length-map flat.latches _

    ins_apart : (i j : ℕ) → i < length (port_classes flat flat.ins) → j < length (port_classes flat flat.ins) → get_or (port_classes flat flat.ins) i 0 ≡ get_or (port_classes flat flat.ins) j 0 → i ≡ j
    ins_apart i j a b e = let a' : i < length flat.ins = omega (arith, places) in let b' : j < length flat.ins = omega (arith, places) in inputs_apart flat s i j a' b' (sym (in_place flat i a') ∙ e ∙ in_place flat j b')

    state_apart : (i j : ℕ) → i < length (latch_classes flat flat.latches) → j < length (latch_classes flat flat.latches) → get_or (latch_classes flat flat.latches) i 0 ≡ get_or (latch_classes flat flat.latches) j 0 → i ≡ j
    state_apart i j a b e = let a' : i < length flat.latches = omega (arith, latch_places) in let b' : j < length flat.latches = omega (arith, latch_places) in latches_apart flat s i j a' b' (sym (latch_place flat i a') ∙ e ∙ latch_place flat j b')

    input_bit : (k : ℕ) → k < length flat.ins → class_bit (evaluated flat order inputs state bits) (in_class flat k) ≡ get_or inputs k false
    input_bit k l =
        stable (out_class flat) (λ bits n. node_value flat (class_bit bits) n) order 0 (with_state flat state (with_inputs flat inputs bits)) 0 (in_class flat k) (omega arith) (λ j a in_j same. node_no_input flat s (get_or order j 0) k (o.nodes j 0 in_j) l same)
        ∙ put_elsewhere (latch_classes flat flat.latches) state (with_inputs flat inputs bits) (in_class flat k) (state_fit ∙ sym latch_places) (λ i in_i same. (let i' : i < length flat.latches = omega (arith, latch_places) in latch_no_input flat s i k i' l (sym (latch_place flat i i') ∙ same)))
        ∙ ap (class_bit (with_inputs flat inputs bits)) (sym (in_place flat k l))
        ∙ put_there (port_classes flat flat.ins) inputs bits k (ins_fit ∙ sym places) (omega (arith, places)) (subst (λ v. v < length bits) (sym (in_place flat k l)) (subst (λ v. in_class flat k < v) (sym fit) (class_within flat s (get_or flat.ins k no_port).net (s.in_range.ins k no_port l)))) ins_apart

    latch_bit : (k : ℕ) → k < length flat.latches → class_bit (evaluated flat order inputs state bits) (latch_class flat k) ≡ get_or state k false
    latch_bit k l =
        stable (out_class flat) (λ bits n. node_value flat (class_bit bits) n) order 0 (with_state flat state (with_inputs flat inputs bits)) 0 (latch_class flat k) (omega arith) (λ j a in_j same. node_no_latch flat s (get_or order j 0) k (o.nodes j 0 in_j) l same)
        ∙ ap (class_bit (with_state flat state (with_inputs flat inputs bits))) (sym (latch_place flat k l))
        ∙ put_there (latch_classes flat flat.latches) state (with_inputs flat inputs bits) k (state_fit ∙ sym latch_places) (omega (arith, latch_places)) (subst (λ v. v < length (with_inputs flat inputs bits)) (sym (latch_place flat k l)) (subst (λ v. latch_class flat k < v) (sym (length_put (zip (port_classes flat flat.ins) inputs) bits ∙ fit)) (class_within flat s (get_or flat.latches k no_latch).output (s.in_range.latches k no_latch l).1))) state_apart

-- two valuations agree
record Two (flat : Flat) (f g : ℕ → Bool) : Type 0 where
  pub inputs : List Bool
  pub state : List Bool
  pub first : IsFlatValuation flat inputs state f
  pub second : IsFlatValuation flat inputs state g

at_input : (flat : Flat) (f g : ℕ → Bool) → Two flat f g → (k class : ℕ) → FlatDrives flat (input k) class → f class ≡ g class
at_input flat f g t k class (port, there, is) =
    let l : k < length flat.ins = slice_get_within flat.ins k port there in
    let e : get_or flat.ins k port ≡ port = get_or_from_slice_get flat.ins k port port there in
    ap f (sym is ∙ ap (λ (p : FlatPort). class_of flat p.net) (sym e)) ∙ sym (get_or-map (λ (p : FlatPort). f (class_of flat p.net)) flat.ins k port false l)
    ∙ ap (λ v. get_or v k false) (t.first.inputs_given ∙ sym t.second.inputs_given)
    ∙ get_or-map (λ (p : FlatPort). g (class_of flat p.net)) flat.ins k port false l ∙ ap g (ap (λ (p : FlatPort). class_of flat p.net) e ∙ is)

at_latch : (flat : Flat) (f g : ℕ → Bool) → Two flat f g → (k class : ℕ) → FlatDrives flat (latch k) class → f class ≡ g class
at_latch flat f g t k class (l, there, is) =
    let less : k < length flat.latches = slice_get_within flat.latches k l there in
    let e : get_or flat.latches k l ≡ l = get_or_from_slice_get flat.latches k l l there in
    ap f (sym is ∙ ap (λ (p : FlatLatch). class_of flat p.output) (sym e)) ∙ sym (get_or-map (λ (p : FlatLatch). f (class_of flat p.output)) flat.latches k l false less)
    ∙ ap (λ v. get_or v k false) (t.first.latches_hold ∙ sym t.second.latches_hold)
    ∙ get_or-map (λ (p : FlatLatch). g (class_of flat p.output)) flat.latches k l false less ∙ ap g (ap (λ (p : FlatLatch). class_of flat p.output) e ∙ is)

-- at a node, where they agree at those before it
agree_there : (flat : Flat) → IsSound flat → (order : List ℕ) → IsOrder flat order → (f g : ℕ → Bool) → Two flat f g → (i : ℕ) → i < length order
    → ((j : ℕ) → j < i → f (out_class flat (get_or order j 0)) ≡ g (out_class flat (get_or order j 0))) → f (out_class flat (get_or order i 0)) ≡ g (out_class flat (get_or order i 0))
agree_there flat s order o f g t i l earlier =
    t.first.nodes_hold (get_or order i 0) is_node
    ∙ ap (cover_value (node_at flat (get_or order i 0)).rows (node_at flat (get_or order i 0)).on) (map_same (λ net. f (class_of flat net)) (λ net. g (class_of flat net)) (node_at flat (get_or order i 0)).ins no_id at)
    ∙ sym (t.second.nodes_hold (get_or order i 0) is_node)
  where
    is_node : get_or order i 0 < length flat.nodes
    is_node = o.nodes i 0 l

    class_is : (k : ℕ) → k < length (node_at flat (get_or order i 0)).ins → get_or (in_classes flat (get_or order i 0)) k 0 ≡ class_of flat (get_or (node_at flat (get_or order i 0)).ins k no_id)
    class_is k in_ins = get_or-map (class_of flat) (node_at flat (get_or order i 0)).ins k no_id 0 in_ins

    within : (k : ℕ) → k < length (node_at flat (get_or order i 0)).ins → k < length (in_classes flat (get_or order i 0))
    within k in_ins = subst (λ v. k < v) (sym (length-map (node_at flat (get_or order i 0)).ins (class_of flat))) in_ins

    by : (k : ℕ) → k < length (node_at flat (get_or order i 0)).ins → (d : FlatDriver) → FlatDrives flat d (class_of flat (get_or (node_at flat (get_or order i 0)).ins k no_id))
        → f (class_of flat (get_or (node_at flat (get_or order i 0)).ins k no_id)) ≡ g (class_of flat (get_or (node_at flat (get_or order i 0)).ins k no_id))
    by k in_ins (input m) drives = at_input flat f g t m (class_of flat (get_or (node_at flat (get_or order i 0)).ins k no_id)) drives
    by k in_ins (latch m) drives = at_latch flat f g t m (class_of flat (get_or (node_at flat (get_or order i 0)).ins k no_id)) drives
    by k in_ins (node b) (in_b, e) =
        let (before, lower, is) = o.after i k b l (in_b, within k in_ins, class_is k in_ins ∙ sym e) in
        let same : out_class flat (get_or order before 0) ≡ class_of flat (get_or (node_at flat (get_or order i 0)).ins k no_id) = ap (out_class flat) is ∙ e in
        ap f (sym same) ∙ earlier before lower ∙ ap g same

    at : (k : ℕ) → k < length (node_at flat (get_or order i 0)).ins → f (class_of flat (get_or (node_at flat (get_or order i 0)).ins k no_id)) ≡ g (class_of flat (get_or (node_at flat (get_or order i 0)).ins k no_id))
    at k in_ins =
        let read : Contains (in_classes flat (get_or order i 0)) (class_of flat (get_or (node_at flat (get_or order i 0)).ins k no_id)) =
        (k, within k in_ins, get_or_default (in_classes flat (get_or order i 0)) k (class_of flat (get_or (node_at flat (get_or order i 0)).ins k no_id)) 0 (within k in_ins) ∙ class_is k in_ins) in
        let d = s.driven (get_or (node_at flat (get_or order i 0)).ins k no_id) (s.in_range.node_ins (get_or order i 0) no_node is_node k no_id in_ins) (s.clocks_unread (get_or order i 0) (class_of flat (get_or (node_at flat (get_or order i 0)).ins k no_id)) read) in
        by k in_ins d.0 d.1

-- at the nodes before a place of the order
agree_before : (flat : Flat) → IsSound flat → (order : List ℕ) → IsOrder flat order → (f g : ℕ → Bool) → Two flat f g → (i : ℕ) → i ≤ length order → (j : ℕ) → j < i → f (out_class flat (get_or order j 0)) ≡ g (out_class flat (get_or order j 0))
agree_before flat s order o f g t zero l j less = absurd (omega arith)
agree_before flat s order o f g t (suc i) l j less =
    by j (less_or_last j i (omega arith)) (agree_before flat s order o f g t i (omega arith))
  where
    by : (j : ℕ) → (j < i) ⊎ (j ≡ i) → ((j : ℕ) → j < i → f (out_class flat (get_or order j 0)) ≡ g (out_class flat (get_or order j 0))) → f (out_class flat (get_or order j 0)) ≡ g (out_class flat (get_or order j 0))
    by j (inl lower) earlier = earlier j lower
    by j (inr same) earlier = subst (λ v. f (out_class flat (get_or order v 0)) ≡ g (out_class flat (get_or order v 0))) (sym same) (agree_there flat s order o f g t i (omega arith) earlier)

agree : (flat : Flat) → IsSound flat → (order : List ℕ) → IsOrder flat order → (f g : ℕ → Bool) → Two flat f g → AgreeWhereDriven flat f g
agree flat s order o f g t class (input k) drives = at_input flat f g t k class drives
agree flat s order o f g t class (latch k) drives = at_latch flat f g t k class drives
agree flat s order o f g t class (node n) (in_n, e) =
    let (i, l, at) = o.all n in_n in
    let is : out_class flat (get_or order i 0) ≡ class = ap (out_class flat) (get_or_default order i 0 n l ∙ at) ∙ e in
    ap f (sym is) ∙ agree_before flat s order o f g t (length order) (omega arith) i l ∙ ap g is

pub one_valuation : OrderedHaveOneValuation
one_valuation flat s order o inputs state ins_fit state_fit =
    let solves : IsFlatValuation flat inputs state (class_bit (evaluated flat order inputs state (replicate (length flat.nets) false))) = evaluated_solves flat s order o inputs state (replicate (length flat.nets) false) ins_fit state_fit (length-replicate (length flat.nets) false) in
    (class_bit (evaluated flat order inputs state (replicate (length flat.nets) false)), solves, λ others is. agree flat s order o _ others (record { inputs = inputs; state = state; first = solves; second = is }))

pub cycles_are_one : CyclesAreOne
cycles_are_one flat s order o inputs state outputs next outputs' next' a b = (
  a.outputs_are ∙ map_same (λ (port : FlatPort). a.bits (class_of flat port.net)) (λ (port : FlatPort). b.bits (class_of flat port.net)) flat.outs no_port at_out ∙ sym b.outputs_are,
  a.next_is ∙ map_same (λ (it : FlatLatch). a.bits (class_of flat it.input)) (λ (it : FlatLatch). b.bits (class_of flat it.input)) flat.latches no_latch at_data ∙ sym b.next_is,
)
  where
    same : (net : NetId) → IsNetId flat net → ¬ IsClockClass flat (class_of flat net) → a.bits (class_of flat net) ≡ b.bits (class_of flat net)
    same net is free = let d = s.driven net is free in agree flat s order o a.bits b.bits (record { inputs = inputs; state = state; first = a.solves; second = b.solves }) (class_of flat net) d.0 d.1

    at_out : (k : ℕ) → k < length flat.outs → a.bits (class_of flat (get_or flat.outs k no_port).net) ≡ b.bits (class_of flat (get_or flat.outs k no_port).net)
    at_out k l = same (get_or flat.outs k no_port).net (s.in_range.outs k no_port l) (s.clocks_no_outs k no_port l)

    at_data : (k : ℕ) → k < length flat.latches → a.bits (class_of flat (get_or flat.latches k no_latch).input) ≡ b.bits (class_of flat (get_or flat.latches k no_latch).input)
    at_data k l = same (get_or flat.latches k no_latch).input (s.in_range.latches k no_latch l).0 (s.clocks_no_data k no_latch l)
