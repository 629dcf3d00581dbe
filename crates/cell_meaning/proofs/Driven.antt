-- In a sound netlist whose nets are listed, the classes that are driven are those of listed nets.
use Rattle.std.proofs.Common.{◌≡◌, refl, sym, ◌∙◌, ap, ℕ, Bool, true, false, not, cond, inl, inr, List, [], ◌∷◌, get_or, subst}
use Rattle.std.specs.Prelude.{Contains, filter}
use Rattle.std.proofs.lemmas.Option.{slice_get_within, get_or_from_slice_get, slice_get-get_or}
use Rattle.std.proofs.lemmas.List.Elements.{All-get_or}
use Rattle.lists.proofs.Members.{In, in_got, in_map, contains_from}
use Rattle.netlist_core.specs.declared.flat.NetId.{NetId}
use Rattle.netlist_core.specs.declared.flat.Net.{Net as FlatNet}
use Rattle.netlist_core.specs.declared.flat.FlatPort.{FlatPort}
use Rattle.netlist_core.specs.declared.flat.FlatLatch.{FlatLatch}
use Rattle.netlist_core.specs.declared.flat.Node.{Node}
use Rattle.netlist_core.specs.declared.flat.Flat.{Flat}
use Rattle.netlist_meaning.specs.Flat.{no_net, no_node, IsNetId, class_of, node_at, FlatDriver, FlatDrives, IsClockClass, is_clock_class, nets_but_clocks, listed_nets, IsSound}
use Rattle.netlist_meaning.proofs.ClockTest.{is_clock_class-Decides}
use Rattle.cell_meaning.specs.Listed.{listed_classes}
use Rattle.cell_meaning.specs.Mapping.{AreDrivenListed}

stays_in : {X : Type 0} (p : X → Bool) (xs : List X) (x : X) → In x xs → p x ≡ true → In x (filter p xs)
stays_in p [] x at passes = absurd at
stays_in p (y ∷ ys) x (inl e) passes = subst (λ b. In x (cond b (y ∷ filter p ys) (filter p ys))) (sym (ap p (sym e) ∙ passes)) (inl e)
stays_in p (y ∷ ys) x (inr i) passes = by (p y) (stays_in p ys x i passes)
  where
    by : (b : Bool) → In x (filter p ys) → In x (cond b (y ∷ filter p ys) (filter p ys))
    by true j = inr j
    by false j = j

net_listed : (flat : Flat) → flat.listed ≡ true → (id : NetId) → IsNetId flat id → ¬ IsClockClass flat (class_of flat id) → Contains (listed_classes flat) (class_of flat id)
net_listed flat listed id is no_clock =
    let net : FlatNet = get_or flat.nets id.0 no_net in
    let here : In net flat.nets = in_got flat.nets id.0 net (slice_get-get_or flat.nets id.0 no_net is) in
    let kept : not (is_clock_class flat net.class) ≡ true = by_test (is_clock_class flat net.class) refl in
    contains_from (listed_classes flat) net.class (in_map (λ (n : FlatNet). n.class) (listed_nets flat) net
    (subst (λ b. In net (cond b (nets_but_clocks flat) [])) (sym listed) (stays_in (λ (n : FlatNet). not (is_clock_class flat n.class)) flat.nets net here kept)))
  where
    by_test : (b : Bool) → is_clock_class flat (class_of flat id) ≡ b → not b ≡ true
    by_test false e = refl
    by_test true e = absurd (no_clock ((is_clock_class-Decides flat (class_of flat id)).0 e))

-- a driver's net
driven_net : (flat : Flat) → IsSound flat → (class : ℕ) (d : FlatDriver) → FlatDrives flat d class → (id : NetId) × IsNetId flat id × (class_of flat id ≡ class)
driven_net flat sound class (FlatDriver.input i) (port, at, is) = (
  port.net,
  subst (λ (p : FlatPort). IsNetId flat p.net) (get_or_from_slice_get flat.ins i port port at)
      (All-get_or (λ (p : FlatPort). IsNetId flat p.net) flat.ins i port (slice_get_within flat.ins i port at) sound.in_range.ins),
  is,
)
driven_net flat sound class (FlatDriver.latch i) (l, at, is) = (
  l.output,
  subst (λ (m : FlatLatch). IsNetId flat m.output) (get_or_from_slice_get flat.latches i l l at)
      (All-get_or (λ (m : FlatLatch). IsNetId flat m.input × IsNetId flat m.output) flat.latches i l (slice_get_within flat.latches i l at) sound.in_range.latches).1,
  is,
)
driven_net flat sound class (FlatDriver.node n) (within, is) =
    ((node_at flat n).out, All-get_or (λ (m : Node). IsNetId flat m.out) flat.nodes n no_node within sound.in_range.node_outs, is)

pub driven_are_listed : (flat : Flat) → IsSound flat → AreDrivenListed flat
driven_are_listed flat sound listed class d drives =
    let (id, in_range, is) = driven_net flat sound class d drives in
    subst (λ c. Contains (listed_classes flat) c) is
    (net_listed flat listed id in_range (λ clock. sound.clocks_undriven class d drives (subst (λ c. IsClockClass flat c) is clock)))
