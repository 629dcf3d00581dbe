-- The listed cells are those of the gates and wires that the tables have.
use Rattle.std.proofs.Common.{ℤ, pos, negsuc, ◌-ℤ◌, ℕ, suc, ◌+◌, ◌-◌, ◌*◌, ◌/◌, ◌%◌, ◌<◌, ◌≤◌, ◌≡◌, refl, sym, ap, ap₂, ◌∙◌, subst, inl, inr, Bool, true, false, cond, List, length, map, get_or, arith, true≢false}
use Rattle.std.specs.Prelude.{◌≢◌}
use Rattle.std.proofs.lemmas.Bool.{cases_lt, lt-ltb, le-ltb}
use Rattle.std.proofs.lemmas.Int.{ints}
use Rattle.std.proofs.lemmas.List.{get_or_past}
use Rattle.std.proofs.lemmas.Nat.{mod-mul-add, div-mul-add}
use Rattle.ww_rule.specs.declared.pattern.State.{State}
use Rattle.ww_rule.specs.declared.pattern.State.TheVariants.{Empty}
use Rattle.tile_timing.specs.Window.{shown}
use Rattle.tile_timing.proofs.Windows.{beside, at_place}
use Rattle.gate_laws.specs.Signals.{cell_state}
use Rattle.gate_laws.specs.Wires.{Wire}
use Rattle.gate_library.specs.declared.gate.GateDrawing.{GateDrawing}
use Rattle.routed_circuits.specs.Routed.{PlacedGate, gate_plane}
use Rattle.routed_circuits.specs.Labels.{Owner, Nobody, OfGate, OfWire, IsGateCell, IsWireCell}
use Rattle.routed_circuits.specs.Lists.{placed_of}
use Rattle.route_tables.specs.declared.tables.Tables.{Tables}
use Rattle.route_tables.specs.Serials.{listed_cell}
use Rattle.route_tables.specs.Owners.{IsListing}
use Rattle.route_tables.specs.Tables.{table_gate, table_wire, no_gate, no_wire, gate_drawing, sourced_gate, sourced_wire, sourced_wires, placed_gates, dark_wire, wire_path, input_point, group, wire_number, own}
use Rattle.route_tables.specs.Cells.{place_cell, IsCellOfGate}
use Rattle.route_tables.specs.Checked.{HasItsCells}
use Rattle.route_tables.proofs.Numbered.{mapped, within, found}
use Rattle.route_tables.proofs.Planes.{placed_state}

abbrev pub is_of_gate : Owner → Bool
is_of_gate Nobody = false
is_of_gate (OfGate k) = true
is_of_gate (OfWire w i) = false

abbrev pub is_of_nobody : Owner → Bool
is_of_nobody Nobody = true
is_of_nobody (OfGate k) = false
is_of_nobody (OfWire w i) = false

abbrev pub owning_gate : Owner → ℕ
owning_gate Nobody = 0
owning_gate (OfGate k) = k
owning_gate (OfWire w i) = 0

abbrev owning_wire : Owner → ℕ
owning_wire Nobody = 0
owning_wire (OfGate k) = 0
owning_wire (OfWire w i) = w

abbrev owned_place : Owner → ℕ
owned_place Nobody = 0
owned_place (OfGate k) = 0
owned_place (OfWire w i) = i

-- a cell of a window that is not empty
record IsFilled (cells : List State) (width : ℕ) (u v : ℤ) : Type 0 where
  i : ℕ
  j : ℕ
  column : u ≡ pos i
  row : v ≡ pos j
  low : i < width
  full : get_or cells (j * width + i) Empty ≢ Empty

filled : (cells : List State) (width : ℕ) (u v : ℤ) → shown cells width u v ≢ Empty → IsFilled cells width u v
filled cells width (pos i) (pos j) full =
    elim (cases_lt i width) [
      | inl low ↦ record { i = i; j = j; column = refl; row = refl; low = low; full = λ e. full (at_place cells width i j low ∙ e) }
      | inr off ↦ absurd (full (beside cells width i j off))
    ]
filled cells width (pos i) (negsuc j) full = absurd (full refl)
filled cells width (negsuc i) v full = absurd (full refl)

module _ (t : Tables) (states : List State) (h : HasItsCells t states) where
  abbrev drawing : ℕ → GateDrawing
  drawing k = gate_drawing t (table_gate t k)

  abbrev placed : ℕ → PlacedGate
  placed k = (sourced_gate t (table_gate t k)).placed

  abbrev wire_at : ℕ → Wire
  wire_at w = dark_wire t (sourced_wire t (table_wire t w))

  abbrev wires : List Wire
  wires = map (dark_wire t) (sourced_wires t)

  abbrev place : ℕ → ℕ
  place n = n - (table_wire t (wire_number t n)).start

  -- whose a listed cell is
  own_gate : (n k : ℕ) → group t n ≡ k → k < length t.gates → own t n ≡ OfGate k
  own_gate n k e low =
      let below : group t n < length t.gates = omega (arith, e, low) in
      ap (λ b. cond b (OfGate (group t n)) (OfWire (wire_number t n) (place n))) (lt-ltb (group t n) (length t.gates) below) ∙ ap OfGate e

  own_wire : (n : ℕ) → length t.gates ≤ group t n → own t n ≡ OfWire (wire_number t n) (place n)
  own_wire n high = ap (λ b. cond b (OfGate (group t n)) (OfWire (wire_number t n) (place n))) (le-ltb (group t n) (length t.gates) high)

  gate_owned : (n k : ℕ) → own t n ≡ OfGate k → (group t n ≡ k) × (k < length t.gates)
  gate_owned n k e =
      elim (cases_lt (group t n) (length t.gates)) [
        | inl low ↦ let same : group t n ≡ k = ap owning_gate (sym (own_gate n (group t n) refl low) ∙ e) in (same, omega (arith, same, low))
        | inr high ↦ absurd (true≢false (ap is_of_gate (sym e ∙ own_wire n high)))
      ]

  record IsOwnedByWire (n w i : ℕ) : Type 0 where
    high : length t.gates ≤ group t n
    wire : wire_number t n ≡ w
    at : place n ≡ i

  wire_owned : (n w i : ℕ) → own t n ≡ OfWire w i → IsOwnedByWire n w i
  wire_owned n w i e =
      elim (cases_lt (group t n) (length t.gates)) [
        | inl low ↦ absurd (true≢false (ap is_of_gate (sym (own_gate n (group t n) refl low) ∙ e)))
        | inr high ↦ record { high = high; wire = ap owning_wire (sym (own_wire n high) ∙ e); at = ap owned_place (sym (own_wire n high) ∙ e) }
      ]

  place_there : (k m : ℕ) (c : ℤ × ℤ) → k < length t.gates → m < length (drawing k).cells → get_or (drawing k).cells m Empty ≢ Empty → place_cell (table_gate t k) (drawing k) m ≡ c → IsCellOfGate t states k c
  place_there k m c low inside full here = subst (IsCellOfGate t states k) here ((h.gates k low).cells m inside full)

  -- a cell that is drawn in a gate is one of it
  pub cell_of_gate : (k : ℕ) → k < length t.gates → (c : ℤ × ℤ) → cell_state (gate_plane (placed k)) c ≢ Empty → IsCellOfGate t states k c
  cell_of_gate k low c full =
      let d = drawing k in
      let gate = table_gate t k in
      let f = filled d.cells d.width (c.0 -ℤ pos gate.x) (c.1 -ℤ pos gate.y) (λ e. full (placed_state d gate c ∙ e)) in
      let m = f.j * d.width + f.i in
      let inside : m < length d.cells = elim (cases_lt m (length d.cells)) [ inl less ↦ less | inr past ↦ absurd (f.full (get_or_past d.cells m Empty past)) ] in
      let u : m % d.width ≡ f.i = mod-mul-add f.j d.width f.i f.low in
      let v : m / d.width ≡ f.j = div-mul-add f.j d.width f.i f.low in
      let x : pos (gate.x + m % d.width) ≡ c.0 = let column = f.column in omega (arith, ints, u, column) in
      let y : pos (gate.y + m / d.width) ≡ c.1 = let row = f.row in omega (arith, ints, v, row) in
      place_there k m c low inside f.full (ap₂ (λ (a b : ℤ). (a, b)) x y)

  record IsListedCell (owner : Owner) (c : ℤ × ℤ) : Type 0 where
    pub number : ℕ
    pub low : number < length t.cells
    pub whose : own t number ≡ owner
    pub here : c ≡ listed_cell t.cells number

  listed_in_gate : (k : ℕ) → k < length t.gates → (c : ℤ × ℤ) → IsCellOfGate t states k c → IsListedCell (OfGate k) c
  listed_in_gate k low c is =
      let there = h.serials.some c is.number is.listed in
      record { number = is.number; low = there.0; whose = own_gate is.number k is.grouped low; here = there.1 }

  pub number_of_gate : (k : ℕ) (c : ℤ × ℤ) → IsGateCell (placed_gates t) k c → (k < length t.gates) × (cell_state (gate_plane (placed k)) c ≢ Empty)
  number_of_gate k c (p, at, full) = (
    within placed_of (sourced_gate t) t.gates no_gate k p at,
    subst (λ (q : PlacedGate). cell_state (gate_plane q) c ≢ Empty) (found placed_of (sourced_gate t) t.gates no_gate k p at) full,
  )

  gate_listed : (k : ℕ) (c : ℤ × ℤ) → IsGateCell (placed_gates t) k c → IsListedCell (OfGate k) c
  gate_listed k c drawn =
      let gate = number_of_gate k c drawn in
      listed_in_gate k gate.0 c (cell_of_gate k gate.0 c gate.1)

  -- the cells of a wire
  pub own_cell : (w i : ℕ) → i < (table_wire t w).size → wire_path t (table_wire t w) (suc i) ≡ listed_cell t.cells ((table_wire t w).start + i)
  own_cell w i low =
      let wire = table_wire t w in
      ap (λ b. cond b (listed_cell t.cells (wire.start + i)) (input_point t wire.to).0.0) (lt-ltb i wire.size low)

  wire_listed_at : (w i : ℕ) (c : ℤ × ℤ) → w < length t.wires → i < (table_wire t w).size → c ≡ wire_path t (table_wire t w) (suc i) → IsListedCell (OfWire w i) c
  wire_listed_at w i c low short e =
      let there = h.wires w low in
      let n = (table_wire t w).start + i in
      let grouped : group t n ≡ length t.gates + w = there.grouped i short in
      let inside : n < length t.cells = let all = there.inside in omega (arith, all, short) in
      let number : wire_number t n ≡ w = omega (arith, grouped) in
      let high : length t.gates ≤ group t n = omega (arith, grouped) in
      let at : place n ≡ i = ap (λ v. n - (table_wire t v).start) number ∙ (let less : n - (table_wire t w).start ≡ i = omega arith in less) in
      record { number = n; low = inside; whose = own_wire n high ∙ ap₂ (λ (a b : ℕ). OfWire a b) number at; here = e ∙ own_cell w i short }

  wire_listed : (w i : ℕ) (c : ℤ × ℤ) → IsWireCell wires w i c → IsListedCell (OfWire w i) c
  wire_listed w i c (wire, at, short, e) =
      let low = within (dark_wire t) (sourced_wire t) t.wires no_wire w wire at in
      let same : wire ≡ wire_at w = found (dark_wire t) (sourced_wire t) t.wires no_wire w wire at in
      wire_listed_at w i c low (subst (λ (v : Wire). i < v.size) same short) (e ∙ ap (λ (v : Wire). v.path (suc i)) same)

  of_gates : (n k : ℕ) → n < length t.cells → own t n ≡ OfGate k → IsGateCell (placed_gates t) k (listed_cell t.cells n)
  of_gates n k low e =
      let owned = gate_owned n k e in
      let below : group t n < length t.gates = omega (arith, owned.0, owned.1) in
      (placed k, mapped placed_of (sourced_gate t) t.gates no_gate k owned.1, subst (λ j. cell_state (gate_plane (placed j)) (listed_cell t.cells n) ≢ Empty) owned.0 (h.in_gates n low below))

  of_wires : (n w i : ℕ) → n < length t.cells → own t n ≡ OfWire w i → IsWireCell wires w i (listed_cell t.cells n)
  of_wires n w i low e =
      let owned = wire_owned n w i e in
      let on = h.on_wires n low owned.high in
      let start : (table_wire t (wire_number t n)).start ≡ (table_wire t w).start = ap (λ v. (table_wire t v).start) owned.wire in
      let size : (table_wire t (wire_number t n)).size ≡ (table_wire t w).size = ap (λ v. (table_wire t v).size) owned.wire in
      let at = owned.at in
      let few : w < length t.wires = let wire = owned.wire in omega (arith, wire, on.0) in
      let short : i < (table_wire t w).size = omega (arith, at, start, size, on.1, on.2) in
      let number : n ≡ (table_wire t w).start + i = omega (arith, at, start, on.1) in
      (wire_at w, mapped (dark_wire t) (sourced_wire t) t.wires no_wire w few, short, ap (listed_cell t.cells) number ∙ sym (own_cell w i short))

  somebody : (n : ℕ) → own t n ≢ Nobody
  somebody n e =
      elim (cases_lt (group t n) (length t.gates)) [
        | inl low ↦ true≢false (sym (ap is_of_nobody (sym (own_gate n (group t n) refl low) ∙ e)))
        | inr high ↦ true≢false (sym (ap is_of_nobody (sym (own_wire n high) ∙ e)))
      ]

  wire_group : (n w i : ℕ) → own t n ≡ OfWire w i → length t.gates ≤ group t n
  wire_group n w i e = (wire_owned n w i e).high

  pub listing : IsListing (placed_gates t) wires t.cells t.groups (length t.gates) (own t)
  listing = record {
    gate_listed = λ k c drawn. (let l = gate_listed k c drawn in (l.number, l.low, l.whose, l.here));
    wire_listed = λ w i c on. (let l = wire_listed w i c on in (l.number, l.low, l.whose, l.here));
    of_gates = of_gates;
    of_wires = of_wires;
    somebody = λ n low. somebody n;
    gate_group = gate_owned;
    wire_group = wire_group;
  }
