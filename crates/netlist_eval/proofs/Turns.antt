-- One turn of the loops that put bits, and their ends.
use Rattle.std.proofs.Common.{◌≡◌, sym, ap, ap₂, ◌∙◌, ℕ, ◌+◌, ◌<◌, ◌≤◌, List, map, take, set, length, get_or, slice_get, arith, Bool, false}
use Rattle.std.specs.Prelude.{zip, Some}
use Rattle.std.specs.List.{fold}
use Rattle.std.proofs.lemmas.List.{take_all, get_or-map}
use Rattle.std.proofs.lemmas.List.Sums.{fold_more}
use Rattle.std.proofs.lemmas.Option.{get_or_from_slice_get}
use Rattle.std.proofs.lemmas.Slice.Zip.{length-zip, get_or-zip}
use Rattle.netlist_core.specs.declared.flat.FlatPort.{FlatPort}
use Rattle.netlist_core.specs.declared.flat.FlatLatch.{FlatLatch}
use Rattle.netlist_core.specs.declared.flat.Flat.{Flat}
use Rattle.netlist_meaning.specs.Flat.{class_of, out_class, port_classes}
use Rattle.netlist_eval.specs.Eval.{put, latch_classes, settle_node, class_bit, evaluated}
use Rattle.netlist_meaning.specs.FlatValuation.{node_value}
use Rattle.netlist_eval.proofs.Valuations.{no_port, no_latch}

pub put_more : (places : List ℕ) (values bits now : List Bool) (k at : ℕ) (value : Bool) → length values ≡ length places → k < length places → now ≡ fold put bits (take k (zip places values)) → at ≡ get_or places k 0 → value ≡ get_or values k false
    → set now at value ≡ fold put bits (take (k + 1) (zip places values))
put_more places values bits now k at value fit l is at_is value_is =
    let pair : get_or (zip places values) k (0, false) ≡ (at, value) = get_or-zip places values k (0, false) l (omega arith) ∙ ap₂ (λ p q. (p, q)) (sym at_is) (sym value_is) in
    ap (λ v. set v at value) is ∙ sym (fold_more put bits (zip places values) k (0, false) (let e = length-zip places values in omega (arith, e)) ∙ ap (put (fold put bits (take k (zip places values)))) pair)

pub put_end : (places : List ℕ) (values bits now : List Bool) (k : ℕ) → length values ≡ length places → length places ≤ k → now ≡ fold put bits (take k (zip places values)) → now ≡ fold put bits (zip places values)
put_end places values bits now k fit l is = is ∙ ap (fold put bits) (take_all k (zip places values) (let e = length-zip places values in omega (arith, e)))

pub input_at : (flat : Flat) (k : ℕ) (port : FlatPort) → k < length flat.ins → slice_get flat.ins k ≡ Some port → class_of flat port.net ≡ get_or (port_classes flat flat.ins) k 0
input_at flat k port l e = ap (λ (p : FlatPort). class_of flat p.net) (sym (get_or_from_slice_get flat.ins k port no_port e)) ∙ sym (get_or-map (λ (p : FlatPort). class_of flat p.net) flat.ins k no_port 0 l)

pub latch_at : (flat : Flat) (k : ℕ) (it : FlatLatch) → k < length flat.latches → slice_get flat.latches k ≡ Some it → class_of flat it.output ≡ get_or (latch_classes flat flat.latches) k 0
latch_at flat k it l e = ap (λ (p : FlatLatch). class_of flat p.output) (sym (get_or_from_slice_get flat.latches k it no_latch e)) ∙ sym (get_or-map (λ (p : FlatLatch). class_of flat p.output) flat.latches k no_latch 0 l)

pub settle_more : (flat : Flat) (order : List ℕ) (bits now : List Bool) (i n at : ℕ) (value : Bool) → i < length order → now ≡ fold (settle_node flat) bits (take i order) → n ≡ get_or order i 0 → at ≡ out_class flat n → value ≡ node_value flat (class_bit now) n
    → set now at value ≡ fold (settle_node flat) bits (take (i + 1) order)
settle_more flat order bits now i n at value l is n_is at_is value_is =
    ap₂ (set now) at_is value_is ∙ ap (settle_node flat now) n_is ∙ ap (λ v. settle_node flat v (get_or order i 0)) is ∙ sym (fold_more (settle_node flat) bits order i 0 l)

-- what is read of the bits of a cycle is told by what they are made of
pub same_read : {X : Type 0} (net : X → ℕ) (xs : List X) (flat : Flat) (inputs : List Bool) (order order' : List ℕ) (state state' bits bits' : List Bool) → order' ≡ order → state' ≡ state → bits' ≡ bits
    → map (λ x. class_bit (evaluated flat order' inputs state' bits') (net x)) xs ≡ map (λ x. class_bit (evaluated flat order inputs state bits) (net x)) xs
same_read net xs flat inputs order order' state state' bits bits' e f g =
    ap (λ v. map (λ x. class_bit (evaluated flat v inputs state' bits') (net x)) xs) e
    ∙ ap (λ v. map (λ x. class_bit (evaluated flat order inputs v bits') (net x)) xs) f
    ∙ ap (λ v. map (λ x. class_bit (evaluated flat order inputs state v) (net x)) xs) g
