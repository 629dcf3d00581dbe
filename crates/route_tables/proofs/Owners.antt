-- The numbers of a table say whose each cell is.
use Rattle.std.proofs.Common.{ℤ, ℕ, zero, suc, ◌<◌, ◌≡◌, refl, sym, ap, ◌∙◌, subst, inl, inr, Bool, true, false, List, length, get_or, arith, true≢false}
use Rattle.ww_rule.specs.declared.pattern.State.{State}
use Rattle.ww_rule.specs.declared.pattern.State.TheVariants.{Empty}
use Rattle.tile_timing.specs.Window.{shown}
use Rattle.gate_laws.specs.Signals.{cell_state}
use Rattle.gate_laws.specs.Wires.{Wire, IsNear}
use Rattle.routed_circuits.specs.Routed.{PlacedGate}
use Rattle.routed_circuits.specs.Labels.{Owner, Nobody, OfGate, OfWire, IsGateCell, IsWireCell, AreLabels}
use Rattle.route_tables.specs.Serials.{serial_at, listed_cell, AreSerials}
use Rattle.route_tables.specs.Owners.{IsListing, owner_by, owner_at, TablesAreLabels}

abbrev is_somebody : Owner → Bool
is_somebody Nobody = false
is_somebody (OfGate k) = true
is_somebody (OfWire w i) = true

module _ (gates : List PlacedGate) (wires : List Wire) (cells : List (ℕ × ℕ)) (states : List State) (serials : List ℕ) (width : ℕ) (groups : List ℕ) (limit : ℕ) (own : ℕ → Owner) (h : AreSerials cells states serials width groups limit) (is : IsListing gates wires cells groups limit own) where
  abbrev serial : ℤ × ℤ → ℕ
  serial c = serial_at serials width c.0 c.1

  abbrev owner : ℤ × ℤ → Owner
  owner = owner_at own serials width

  -- a listed cell is its own
  listed : (n : ℕ) (c : ℤ × ℤ) → n < length cells → c ≡ listed_cell cells n → owner c ≡ own n
  listed n c low e = ap (owner_by own) (ap serial e ∙ h.number n low)

  -- what is somebody's is a listed cell
  record Found (c : ℤ × ℤ) : Type 0 where
    number : ℕ
    is_serial : serial c ≡ suc number
    low : number < length cells
    cell : c ≡ listed_cell cells number
    whose : owner c ≡ own number

  found : (c : ℤ × ℤ) → is_somebody (owner c) ≡ true → Found c
  found c somebody = at (serial c) refl
    where
      at : (k : ℕ) → serial c ≡ k → Found c
      at zero e = absurd (true≢false (sym somebody ∙ ap (λ k. is_somebody (owner_by own k)) e))
      at (suc n) e =
          let there = h.some c n e in
          record { number = n; is_serial = e; low = there.0; cell = there.1; whose = ap (owner_by own) e }

  of_gate : (k : ℕ) (c : ℤ × ℤ) → owner c ≡ OfGate k → IsGateCell gates k c
  of_gate k c e =
      let f = found c (ap is_somebody e) in
      subst (IsGateCell gates k) (sym f.cell) (is.of_gates f.number k f.low (sym f.whose ∙ e))

  of_wire : (w i : ℕ) (c : ℤ × ℤ) → owner c ≡ OfWire w i → IsWireCell wires w i c
  of_wire w i c e =
      let f = found c (ap is_somebody e) in
      subst (IsWireCell wires w i) (sym f.cell) (is.of_wires f.number w i f.low (sym f.whose ∙ e))

  of_nobody : (c : ℤ × ℤ) → owner c ≡ Nobody → cell_state (shown states width) c ≡ Empty
  of_nobody c e = at (serial c) refl
    where
      at : (k : ℕ) → serial c ≡ k → cell_state (shown states width) c ≡ Empty
      at zero none = h.none c none
      at (suc n) some = absurd (is.somebody n (h.some c n some).0 (sym (ap (owner_by own) some) ∙ e))

  labels : AreLabels gates wires (shown states width) owner
  labels = record {
    gate_cells = λ k c cell. (let n = is.gate_listed k c cell in listed n.0 c n.1 n.3 ∙ n.2);
    wire_cells = λ w i c cell. (let n = is.wire_listed w i c cell in listed n.0 c n.1 n.3 ∙ n.2);
    of_gates = of_gate;
    of_wires = of_wire;
    of_nobody = of_nobody;
  }

  gates_apart : (k l : ℕ) (c d : ℤ × ℤ) → owner c ≡ OfGate k → IsNear d c → owner d ≡ OfGate l → l ≡ k
  gates_apart k l c d e near f =
      let one = found c (ap is_somebody e) in
      let two = found d (ap is_somebody f) in
      let here = is.gate_group one.number k (sym one.whose ∙ e) in
      let there = is.gate_group two.number l (sym two.whose ∙ f) in
      let below : get_or groups one.number 0 < limit = subst (λ g. g < limit) (sym here.0) here.1 in
      elim (h.apart one.number two.number d one.low below (subst (IsNear d) one.cell near) two.is_serial) [
        | inl same ↦ sym there.0 ∙ same ∙ here.0
        | inr far ↦ let low : l < limit = there.1 in let group : get_or groups two.number 0 ≡ l = there.0 in absurd (omega (arith, far, low, group))
      ]

pub tables_are_labels : TablesAreLabels
tables_are_labels gates wires cells states serials width groups limit own h is =
    (labels gates wires cells states serials width groups limit own h is, gates_apart gates wires cells states serials width groups limit own h is)
