-- The small netlists are sound; one has an order, the other a loop.
use Rattle.std.proofs.Common.{◌≡◌, refl, sym, ap, subst, ◌∙◌, ℕ, zero, suc, ◌<◌, inl, inr, List, [], ◌∷◌, arith, lit<}
use Rattle.std.specs.Prelude.{Contains, All, MatchOption, ⊤}
use Rattle.std.proofs.lemmas.List.Elements.{All-nil, All-cons}
use Rattle.std.proofs.lemmas.Option.{none-some, same_Some}
use Rattle.netlist_core.specs.declared.flat.NetId.{NetId}
use Rattle.netlist_core.specs.declared.flat.Net.{Net}
use Rattle.netlist_core.specs.declared.flat.Node.{Node}
use Rattle.netlist_core.specs.declared.flat.FlatPort.{FlatPort}
use Rattle.netlist_core.specs.declared.flat.FlatLatch.{FlatLatch}
use Rattle.netlist_meaning.specs.Flat.{class_of, in_classes, FlatDriver, input, latch, node, FlatDrives, IsSound, IsInRange, IsClockClass}
use Rattle.netlist_meaning.specs.FlatOrder.{IsFlatLoop}
use Rattle.netlist_examples.specs.FlatInstances.{net_numbered, small_net, small_port, data_latch, small_node, small_flat, chained_flat, looped_flat}

driver_of : ℕ → FlatDriver
driver_of zero = input 0
driver_of (suc zero) = latch 0
driver_of (suc (suc zero)) = node 0
driver_of (suc (suc (suc n))) = node 1

-- what drives a class is told by its number
told : (read : List NetId) (d : FlatDriver) (class : ℕ) → FlatDrives (small_flat read) d class → (d ≡ driver_of class) × (class < 4)
unfolding driver_of
told read (input zero) class (port, e, is) =
    let at : 0 ≡ class = ap (λ (p : FlatPort). class_of (small_flat read) p.net) (same_Some (small_port 0) port e) ∙ is in
    (ap driver_of at, subst (λ v. v < 4) at (lit< tt))
told read (input (suc i)) class (port, e, is) = absurd (none-some port e)
told read (latch zero) class (l, e, is) =
    let at : 1 ≡ class = ap (λ (p : FlatLatch). class_of (small_flat read) p.output) (same_Some data_latch l e) ∙ is in
    (ap driver_of at, subst (λ v. v < 4) at (lit< tt))
told read (latch (suc i)) class (l, e, is) = absurd (none-some l e)
told read (node zero) class (l, is) = let at : 2 ≡ class = is in (ap driver_of at, subst (λ v. v < 4) at (lit< tt))
told read (node (suc zero)) class (l, is) = let at : 3 ≡ class = is in (ap driver_of at, subst (λ v. v < 4) at (lit< tt))
told read (node (suc (suc n))) class (l, is) = let less : suc (suc n) < 2 = l in absurd (omega arith)

clock_is : (read : List NetId) (class : ℕ) → IsClockClass (small_flat read) class → class ≡ 4
clock_is read class (inl e) = sym e
clock_is read class (inr (c, n)) = let less : c.0 < 0 = c.1 in absurd (omega arith)

driven_at : (read : List NetId) (n : ℕ) → n < 5 → ¬ IsClockClass (small_flat read) (class_of (small_flat read) (net_numbered n)) → (d : FlatDriver) × FlatDrives (small_flat read) d (class_of (small_flat read) (net_numbered n))
driven_at read zero l c = (input 0, (small_port 0, refl, refl))
driven_at read (suc zero) l c = (latch 0, (data_latch, refl, refl))
driven_at read (suc (suc zero)) l c = (node 0, (lit< tt, refl))
driven_at read (suc (suc (suc zero))) l c = (node 1, (lit< tt, refl))
driven_at read (suc (suc (suc (suc zero)))) l c = absurd (c (inl refl))
driven_at read (suc (suc (suc (suc (suc n))))) l c = absurd (omega arith)

low_pair : (a b class : ℕ) → a < 4 → b < 4 → Contains (a ∷ b ∷ []) class → class < 4
low_pair a b class la lb (zero, l, e) = subst (λ v. v < 4) e la
low_pair a b class la lb (suc zero, l, e) = subst (λ v. v < 4) e lb
low_pair a b class la lb (suc (suc k), l, e) = let less : suc (suc k) < 2 = l in absurd (omega arith)

low_one : (a class : ℕ) → a < 4 → Contains (a ∷ []) class → class < 4
low_one a class la (zero, l, e) = subst (λ v. v < 4) e la
low_one a class la (suc k, l, e) = let less : suc k < 1 = l in absurd (omega arith)

low_read : (m : ℕ) → m < 4 → (n class : ℕ) → Contains (in_classes (small_flat (net_numbered m ∷ [])) n) class → class < 4
low_read m lm zero class c = low_pair 3 1 class (lit< tt) (lit< tt) c
low_read m lm (suc zero) class c = low_one (class_of (small_flat (net_numbered m ∷ [])) (net_numbered m)) class (low m lm) c
  where
    low : (m : ℕ) → m < 4 → class_of (small_flat (net_numbered m ∷ [])) (net_numbered m) < 4
    low zero l = lit< tt
    low (suc zero) l = lit< tt
    low (suc (suc zero)) l = lit< tt
    low (suc (suc (suc zero))) l = lit< tt
    low (suc (suc (suc (suc m)))) l = absurd (omega arith)
low_read m lm (suc (suc n)) class c = let less : c.0 < 0 = c.1 in absurd (omega arith)

in_range : (m : ℕ) → m < 4 → IsInRange (small_flat (net_numbered m ∷ []))
in_range m l = record {
  few = lit< tt;
  classes = All-cons (λ (n : Net). n.class < 5) (small_net 0) (small_net 1 ∷ small_net 2 ∷ small_net 3 ∷ small_net 4 ∷ []) (lit< tt) (All-cons (λ (n : Net). n.class < 5) (small_net 1) (small_net 2 ∷ small_net 3 ∷ small_net 4 ∷ []) (lit< tt) (All-cons (λ (n : Net). n.class < 5) (small_net 2) (small_net 3 ∷ small_net 4 ∷ []) (lit< tt) (All-cons (λ (n : Net). n.class < 5) (small_net 3) (small_net 4 ∷ []) (lit< tt) (All-cons (λ (n : Net). n.class < 5) (small_net 4) [] (lit< tt) (All-nil (λ (n : Net). n.class < 5))))));
  ins = All-cons (λ (p : FlatPort). p.net.0 < 5) (small_port 0) [] (lit< tt) (All-nil (λ (p : FlatPort). p.net.0 < 5));
  outs = All-cons (λ (p : FlatPort). p.net.0 < 5) (small_port 2) [] (lit< tt) (All-nil (λ (p : FlatPort). p.net.0 < 5));
  clocks = All-nil (λ (p : FlatPort). p.net.0 < 5);
  latches = All-cons (λ (p : FlatLatch). (p.input.0 < 5) × (p.output.0 < 5)) data_latch [] (lit< tt, lit< tt) (All-nil (λ (p : FlatLatch). (p.input.0 < 5) × (p.output.0 < 5)));
  controls = All-cons (λ (p : FlatLatch). MatchOption p.control ⊤ (λ n. n.0 < 5)) data_latch [] (lit< tt) (All-nil (λ (p : FlatLatch). MatchOption p.control ⊤ (λ n. n.0 < 5)));
  control = lit< tt;
  node_ins = All-cons (λ (p : Node). All (λ (n : NetId). n.0 < 5) p.ins) (small_node (net_numbered 3 ∷ net_numbered 1 ∷ []) 2) (small_node (net_numbered m ∷ []) 3 ∷ []) (All-cons (λ (n : NetId). n.0 < 5) (net_numbered 3) (net_numbered 1 ∷ []) (lit< tt) (All-cons (λ (n : NetId). n.0 < 5) (net_numbered 1) [] (lit< tt) (All-nil (λ (n : NetId). n.0 < 5))))
      (All-cons (λ (p : Node). All (λ (n : NetId). n.0 < 5) p.ins) (small_node (net_numbered m ∷ []) 3) [] (All-cons (λ (n : NetId). n.0 < 5) (net_numbered m) [] (omega arith) (All-nil (λ (n : NetId). n.0 < 5))) (All-nil (λ (p : Node). All (λ (n : NetId). n.0 < 5) p.ins)));
  node_outs = All-cons (λ (p : Node). p.out.0 < 5) (small_node (net_numbered 3 ∷ net_numbered 1 ∷ []) 2) (small_node (net_numbered m ∷ []) 3 ∷ []) (lit< tt) (All-cons (λ (p : Node). p.out.0 < 5) (small_node (net_numbered m ∷ []) 3) [] (lit< tt) (All-nil (λ (p : Node). p.out.0 < 5)));
}

small_is_sound : (m : ℕ) → m < 4 → IsSound (small_flat (net_numbered m ∷ []))
small_is_sound m l = record {
  in_range = in_range m l;
  one_driver = λ class d e a b. (told (net_numbered m ∷ []) d class a).0 ∙ sym (told (net_numbered m ∷ []) e class b).0;
  driven = λ net is c. driven_at (net_numbered m ∷ []) net.0 is c;
  clocks_undriven = λ class d a c. (let low : class < 4 = (told (net_numbered m ∷ []) d class a).1 in let e : class ≡ 4 = clock_is (net_numbered m ∷ []) class c in absurd (omega arith));
  clocks_unread = λ n class a c. (let low : class < 4 = low_read m l n class a in let e : class ≡ 4 = clock_is (net_numbered m ∷ []) class c in absurd (omega arith));
  clocks_no_outs = All-cons (λ (p : FlatPort). ¬ IsClockClass (small_flat (net_numbered m ∷ [])) (class_of (small_flat (net_numbered m ∷ [])) p.net)) (small_port 2) [] (λ c. (let e : 2 ≡ 4 = clock_is (net_numbered m ∷ []) 2 c in absurd (omega arith))) (All-nil (λ (p : FlatPort). ¬ IsClockClass (small_flat (net_numbered m ∷ [])) (class_of (small_flat (net_numbered m ∷ [])) p.net)));
  clocks_no_data = All-cons (λ (p : FlatLatch). ¬ IsClockClass (small_flat (net_numbered m ∷ [])) (class_of (small_flat (net_numbered m ∷ [])) p.input)) data_latch [] (λ c. (let e : 2 ≡ 4 = clock_is (net_numbered m ∷ []) 2 c in absurd (omega arith))) (All-nil (λ (p : FlatLatch). ¬ IsClockClass (small_flat (net_numbered m ∷ [])) (class_of (small_flat (net_numbered m ∷ [])) p.input)));
}

pub chained_is_sound : IsSound chained_flat
chained_is_sound = small_is_sound 0 (lit< tt)

pub looped_is_sound : IsSound looped_flat
looped_is_sound = small_is_sound 2 (lit< tt)

pub looped_has_loop : IsFlatLoop looped_flat (2 ∷ 3 ∷ [])
looped_has_loop = (
  record { node = 1; is_node = lit< tt; reads = (0, lit< tt, refl); writes = refl },
  record { node = 0; is_node = lit< tt; reads = (0, lit< tt, refl); writes = refl },
)
