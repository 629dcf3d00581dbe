-- The fault of clocks.
use Rattle.std.proofs.Common.{ℕ, zero, suc, ◌≡◌, refl, sym, ap, ◌∙◌, subst, ◌+◌, ◌⊎◌, inl, inr, List, [], ◌∷◌, ◌++◌, flat_map, Some, None, Contains, slice_get, Err, true≢false, arith}
use Rattle.std.specs.Prelude.{All}
use Rattle.std.specs.Result.{IsErrOf}
use Rattle.std.proofs.lemmas.List.Elements.{All-contains}
use Rattle.std.proofs.lemmas.Option.{none-some, same_Some, slice_get_within, get_or_from_slice_get}
use Rattle.lists.proofs.Members.{In, in_left, in_right, in_parts, in_flat, in_flattened, in_from, contains_from}
use Rattle.netlist_core.specs.Names.{Name}
use Rattle.netlist_core.specs.declared.flat.NetId.{NetId}
use Rattle.netlist_core.specs.declared.flat.Node.{Node}
use Rattle.netlist_core.specs.declared.flat.FlatPort.{FlatPort}
use Rattle.netlist_core.specs.declared.flat.FlatLatch.{FlatLatch}
use Rattle.netlist_core.specs.declared.flat.Flat.{Flat}
use Rattle.netlist_meaning.specs.Flat.{class_of, IsInRange, IsNetId, name_of_net}
use Rattle.netlist_meaning.proofs.ClockTest.{is_clock_class-Decides}
use Rattle.netlist_rules.specs.declared.fault.Fault.{Fault}
use Rattle.netlist_rules.specs.FlatClocks.{IsFlatUse, by_node, by_data, by_output, IsFlatClockRead, IsFlatClockFault, two_clocks, clock_read, HasOneFlatClock}
use Rattle.clock_check.specs.declared.error.ClockError.{ClockError}
use Rattle.clock_check.specs.declared.error.ClockError.TheVariants as error
use Rattle.clock_check.specs.declared.uses.NetUse.{NetUse}
use Rattle.clock_check.specs.Uses.{uses_on, uses_of_node, uses_of_latch, uses_of_outs, flat_uses, earliest_among}
use Rattle.clock_check.proofs.Earliest.{IsEarliest, is_earliest}

-- a use of words of a line
pub record OnLine (line first : ℕ) (nets : List NetId) (used : NetUse) : Type 0 where
  pub place : ℕ
  pub is_there : slice_get nets place ≡ Some used.net
  pub is_line : line ≡ used.line
  pub is_position : first + place ≡ used.position

on_line : (line first : ℕ) (nets : List NetId) (used : NetUse) → In used (uses_on line first nets) → OnLine line first nets used
on_line line first [] used i = absurd i
on_line line first (net ∷ nets) used (inl same) = record {
  place = 0;
  is_there = ap (λ (u : NetUse). Some u.net) (sym same);
  is_line = ap (λ (u : NetUse). u.line) (sym same);
  is_position = (let e : used.position ≡ first = ap (λ (u : NetUse). u.position) same in omega arith);
}
on_line line first (net ∷ nets) used (inr i) =
    let r : OnLine line (suc first) nets used = on_line line (suc first) nets used i in
    record { place = suc r.place; is_there = r.is_there; is_line = r.is_line; is_position = (let e : suc first + r.place ≡ used.position = r.is_position in omega arith) }

line_on : (line first place : ℕ) (nets : List NetId) (net : NetId) → slice_get nets place ≡ Some net → In (record { line = line; position = first + place; net = net }) (uses_on line first nets)
line_on line first place [] net e = absurd (none-some net e)
line_on line first zero (other ∷ nets) net e =
    let at : first + 0 ≡ first = omega arith in
    inl (ap (λ n. record { line = line; position = n; net = net }) at ∙ ap (λ n. record { line = line; position = first; net = n }) (sym (same_Some other net e)))
line_on line first (suc place) (other ∷ nets) net e =
    let at : suc first + place ≡ first + suc place = omega arith in
    inr (subst (λ (n : ℕ). In (record { line = line; position = n; net = net }) (uses_on line (suc first) nets)) at (line_on line (suc first) place nets net e))

-- a use of outputs
pub record OnOuts (first : ℕ) (ports : List FlatPort) (used : NetUse) : Type 0 where
  pub place : ℕ
  pub port : FlatPort
  pub is_there : slice_get ports place ≡ Some port
  pub is_use : record { line = port.line; position = first + place; net = port.net } ≡ used

on_outs : (first : ℕ) (ports : List FlatPort) (used : NetUse) → In used (uses_of_outs first ports) → OnOuts first ports used
on_outs first [] used i = absurd i
on_outs first (port ∷ ports) used (inl same) = record {
  place = 0;
  port = port;
  is_there = refl;
  is_use = (let at : first + 0 ≡ first = omega arith in ap (λ n. record { line = port.line; position = n; net = port.net }) at ∙ sym same);
}
on_outs first (port ∷ ports) used (inr i) =
    let r : OnOuts (suc first) ports used = on_outs (suc first) ports used i in
    record {
      place = suc r.place;
      port = r.port;
      is_there = r.is_there;
      is_use = (let at : first + suc r.place ≡ suc first + r.place = omega arith in ap (λ n. record { line = r.port.line; position = n; net = r.port.net }) at ∙ r.is_use);
    }

outs_on : (first place : ℕ) (ports : List FlatPort) (port : FlatPort) → slice_get ports place ≡ Some port → In (record { line = port.line; position = first + place; net = port.net }) (uses_of_outs first ports)
outs_on first place [] port e = absurd (none-some port e)
outs_on first zero (other ∷ ports) port e =
    let at : first + 0 ≡ first = omega arith in
    inl (ap (λ n. record { line = port.line; position = n; net = port.net }) at ∙ ap (λ (p : FlatPort). record { line = p.line; position = first; net = p.net }) (sym (same_Some other port e)))
outs_on first (suc place) (other ∷ ports) port e =
    let at : suc first + place ≡ first + suc place = omega arith in
    inr (subst (λ (n : ℕ). In (record { line = port.line; position = n; net = port.net }) (uses_of_outs (suc first) ports)) at (outs_on (suc first) place ports port e))

-- the uses in the list are those of the netlist
node_uses : Flat → List NetUse
node_uses flat = flat_map uses_of_node flat.nodes

latch_uses : Flat → List NetUse
latch_uses flat = flat_map uses_of_latch flat.latches

use_from : (flat : Flat) (used : NetUse) → In used (flat_uses flat) → In used (node_uses flat) ⊎ In used (latch_uses flat) ⊎ In used (uses_of_outs 0 flat.outs)
unfolding node_uses latch_uses
use_from flat used i = elim (in_parts (node_uses flat ++ latch_uses flat) (uses_of_outs 0 flat.outs) used i) as (λ _. In used (node_uses flat) ⊎ In used (latch_uses flat) ⊎ In used (uses_of_outs 0 flat.outs)) [
  | inl j ↦ elim (in_parts (node_uses flat) (latch_uses flat) used j) as (λ _. In used (node_uses flat) ⊎ In used (latch_uses flat) ⊎ In used (uses_of_outs 0 flat.outs)) [ inl k ↦ inl k | inr k ↦ inr (inl k) ]
  | inr j ↦ inr (inr j)
]

with_position : (flat : Flat) (line line' position position' : ℕ) (net : NetId) → line ≡ line' → position ≡ position' → IsFlatUse flat line position net → IsFlatUse flat line' position' net
with_position flat line line' position position' net e f h = subst (λ (n : ℕ). IsFlatUse flat n position' net) e (subst (λ (n : ℕ). IsFlatUse flat line n net) f h)

is_flat_use : (flat : Flat) (used : NetUse) → In used (flat_uses flat) → IsFlatUse flat used.line used.position used.net
unfolding node_uses latch_uses
is_flat_use flat used i = by (use_from flat used i)
  where
    by : In used (node_uses flat) ⊎ In used (latch_uses flat) ⊎ In used (uses_of_outs 0 flat.outs) → IsFlatUse flat used.line used.position used.net
    by (inl j) =
        let (node, k, l) = in_flattened uses_of_node flat.nodes used j in
        let r : OnLine node.line 0 (node.ins ++ node.out ∷ []) used = on_line node.line 0 (node.ins ++ node.out ∷ []) used l in
        with_position flat node.line used.line r.place used.position used.net r.is_line (let e : 0 + r.place ≡ used.position = r.is_position in omega arith) (by_node (contains_from flat.nodes node k) r.is_there)
    by (inr (inl j)) =
        let (latch, k, l) = in_flattened uses_of_latch flat.latches used j in
        let r : OnLine latch.line 0 (latch.input ∷ latch.output ∷ []) used = on_line latch.line 0 (latch.input ∷ latch.output ∷ []) used l in
        with_position flat latch.line used.line r.place used.position used.net r.is_line (let e : 0 + r.place ≡ used.position = r.is_position in omega arith) (by_data (contains_from flat.latches latch k) r.is_there)
    by (inr (inr j)) =
        let r : OnOuts 0 flat.outs used = on_outs 0 flat.outs used j in
        let at : r.place ≡ 0 + r.place = omega arith in
        subst (λ (u : NetUse). IsFlatUse flat u.line u.position u.net) r.is_use (with_position flat r.port.line r.port.line r.place (0 + r.place) r.port.net refl at (by_output r.is_there))

use_is_listed : (flat : Flat) (line position : ℕ) (net : NetId) → IsFlatUse flat line position net → In (record { line = line; position = position; net = net }) (flat_uses flat)
unfolding node_uses latch_uses
use_is_listed flat line position net (by_node {node = node} has is) =
    let at : 0 + position ≡ position = omega arith in
    in_left (node_uses flat ++ latch_uses flat) (uses_of_outs 0 flat.outs) _ (in_left (node_uses flat) (latch_uses flat) _ (in_flat uses_of_node flat.nodes node _ (in_from flat.nodes node has)
    (subst (λ (n : ℕ). In (record { line = node.line; position = n; net = net }) (uses_of_node node)) at (line_on node.line 0 position (node.ins ++ node.out ∷ []) net is))))
use_is_listed flat line position net (by_data {latch = latch} has is) =
    let at : 0 + position ≡ position = omega arith in
    in_left (node_uses flat ++ latch_uses flat) (uses_of_outs 0 flat.outs) _ (in_right (node_uses flat) (latch_uses flat) _ (in_flat uses_of_latch flat.latches latch _ (in_from flat.latches latch has)
    (subst (λ (n : ℕ). In (record { line = latch.line; position = n; net = net }) (uses_of_latch latch)) at (line_on latch.line 0 position (latch.input ∷ latch.output ∷ []) net is))))
use_is_listed flat line position net (by_output {port = port} is) =
    let at : 0 + position ≡ position = omega arith in
    in_right (node_uses flat ++ latch_uses flat) (uses_of_outs 0 flat.outs) _ (subst (λ (n : ℕ). In (record { line = port.line; position = n; net = port.net }) (uses_of_outs 0 flat.outs)) at (outs_on 0 position flat.outs port is))

-- a net that is used is there
has_at : {X : Type 0} (xs : List X) (k : ℕ) (x : X) → slice_get xs k ≡ Some x → Contains xs x
has_at xs k x e = (k, slice_get_within xs k x e, get_or_from_slice_get xs k x x e)

used_is_net : (flat : Flat) (line position : ℕ) (net : NetId) → IsInRange flat → IsFlatUse flat line position net → IsNetId flat net
used_is_net flat line position net range (by_node {node = node} has is) =
    elim (in_parts node.ins (node.out ∷ []) net (in_from (node.ins ++ node.out ∷ []) net (has_at (node.ins ++ node.out ∷ []) position net is))) as (λ _. IsNetId flat net) [
      | inl i ↦ All-contains (IsNetId flat) node.ins net (All-contains (λ (n : Node). All (IsNetId flat) n.ins) flat.nodes node range.node_ins has) (contains_from node.ins net i)
      | inr i ↦ elim i as (λ _. IsNetId flat net) [ inl same ↦ subst (IsNetId flat) (sym same) (All-contains (λ (n : Node). IsNetId flat n.out) flat.nodes node range.node_outs has) | inr j ↦ absurd j ]
    ]
used_is_net flat line position net range (by_data {latch = latch} has is) = by (in_from (latch.input ∷ latch.output ∷ []) net (has_at (latch.input ∷ latch.output ∷ []) position net is))
  where
    both : IsNetId flat latch.input × IsNetId flat latch.output
    both = All-contains (λ (l : FlatLatch). IsNetId flat l.input × IsNetId flat l.output) flat.latches latch range.latches has

    by : In net (latch.input ∷ latch.output ∷ []) → IsNetId flat net
    by (inl same) = subst (IsNetId flat) (sym same) both.0
    by (inr (inl same)) = subst (IsNetId flat) (sym same) both.1
    by (inr (inr i)) = absurd i
used_is_net flat line position net range (by_output {port = port} is) = All-contains (λ (p : FlatPort). IsNetId flat p.net) flat.outs port range.outs (has_at flat.outs position port is)

-- the earliest use of a clock
found : (flat : Flat) (first : NetUse) → earliest_among flat None (flat_uses flat) ≡ Some first → IsEarliest flat (flat_uses flat) (Some first)
found flat first e = subst (IsEarliest flat (flat_uses flat)) e (is_earliest flat (flat_uses flat))

pub first_is_net : (flat : Flat) (first : NetUse) → IsInRange flat → earliest_among flat None (flat_uses flat) ≡ Some first → IsNetId flat first.net
first_is_net flat first range e = used_is_net flat first.line first.position first.net range (is_flat_use flat first (found flat first e).0)

pub read_is : (flat : Flat) (first : NetUse) → earliest_among flat None (flat_uses flat) ≡ Some first → IsFlatClockRead flat first.line (name_of_net flat first.net)
read_is flat first e =
    let h : IsEarliest flat (flat_uses flat) (Some first) = found flat first e in
    record {
      position = first.position;
      id = first.net;
      is_use = (is_flat_use flat first h.0, (is_clock_class-Decides flat (class_of flat first.net)).0 h.1);
      is_earliest = λ line position net other. h.2 (record { line = line; position = position; net = net }) (use_is_listed flat line position net other.0) ((is_clock_class-Decides flat (class_of flat net)).1 other.1);
      is_word = refl;
    }

pub none_is_read : (flat : Flat) → earliest_among flat None (flat_uses flat) ≡ None → (line : ℕ) (word : Name) → IsFlatClockRead flat line word → ⊥
none_is_read flat e line word read =
    let h : IsEarliest flat (flat_uses flat) None = subst (IsEarliest flat (flat_uses flat)) e (is_earliest flat (flat_uses flat)) in
    let used : NetUse = record { line = line; position = read.position; net = read.id } in
    let i : In used (flat_uses flat) = use_is_listed flat line read.position read.id read.is_use.0 in
    true≢false (sym ((is_clock_class-Decides flat (class_of flat read.id)).1 read.is_use.1) ∙ h used i)

-- the fault that is told
pub told_fault : {T : Type 0} (flat : Flat) (r : ClockError) (told fault : Fault) → r ≡ error.Fault told → IsErrOf {T = T} (Err r) (error.Fault fault) → IsFlatClockFault flat told → IsFlatClockFault flat fault
told_fault flat r told fault is e h = let same : told ≡ fault = cc in subst (IsFlatClockFault flat) same h

-- where there is neither fault there is none
pub no_clock_fault : (flat : Flat) → HasOneFlatClock flat → ((line : ℕ) (word : Name) → ¬ IsFlatClockRead flat line word) → (fault : Fault) → ¬ IsFlatClockFault flat fault
no_clock_fault flat one unread fault (two_clocks {line = line} {word = word} two) = one line word two
no_clock_fault flat one unread fault (clock_read {line = line} {word = word} same read) = unread line word read
