-- In a labelled plane gates stand apart and wires are drawn.
use Rattle.std.proofs.Common.{ℤ, ◌-ℤ◌, ℕ, zero, suc, ◌+◌, ◌<◌, ◌≤◌, ◌≡◌, refl, sym, ap, ◌∙◌, inl, inr, Bool, true, false, List, [], ◌∷◌, arith, true≢false}
use Rattle.std.specs.Prelude.{Contains, ◌≢◌, Some, slice_get, if◌then◌else◌}
use Rattle.std.proofs.lemmas.Bool.{cases_lt}
use Rattle.std.proofs.lemmas.Option.{same_Some}
use Rattle.lists.proofs.Members.{in_from, contains_from, in_got, got_from}
use Rattle.ww_rule.specs.declared.pattern.State.TheVariants.{Empty, Head, Conductor}
use Rattle.ww_rule.specs.Wireworld.{Plane}
use Rattle.gate_laws.specs.Signals.{Signal, cell_state, is_lit}
use Rattle.gate_laws.specs.Wires.{Wire, IsNear, IsWireDrawn, IsLaid, ShareNoCell, AreDisjointWires, IsAwayFrom, AreWiresDrawn}
use Rattle.gate_laws.specs.Laws.{StandApart, or_state}
use Rattle.gate_laws.proofs.Dues.{cases_Empty}
use Rattle.routed_circuits.specs.Routed.{PlacedGate, gate_plane, gates_plane, StandAllApart}
use Rattle.routed_circuits.specs.Labels.{Owner, Nobody, OfGate, OfWire, IsGateCell, IsPathOf, IsLabelled, LabelledAreDrawn}

abbrev gate_number : Owner → ℕ
gate_number Nobody = 0
gate_number (OfGate k) = k
gate_number (OfWire w i) = 0

abbrev wire_number : Owner → ℕ
wire_number Nobody = 0
wire_number (OfGate k) = 0
wire_number (OfWire w i) = w

abbrev wire_place : Owner → ℕ
wire_place Nobody = 0
wire_place (OfGate k) = 0
wire_place (OfWire w i) = i

abbrev is_gate : Owner → Bool
is_gate Nobody = false
is_gate (OfGate k) = true
is_gate (OfWire w i) = false

gate_no_wire : (o : Owner) (k w i : ℕ) → o ≡ OfGate k → o ≡ OfWire w i → ⊥
gate_no_wire o k w i e f = true≢false (ap is_gate (sym e ∙ f))

gate_no_nobody : (o : Owner) (k : ℕ) → o ≡ OfGate k → o ≡ Nobody → ⊥
gate_no_nobody o k e f = true≢false (ap is_gate (sym e ∙ f))

Conductor≢Empty : Conductor ≢ Empty
Conductor≢Empty e = grind arith

got : {X : Type 0} (xs : List X) (k : ℕ) (x : X) → slice_get xs k ≡ Some x → Contains xs x
got xs k x e = contains_from xs x (in_got xs k x e)

-- a cell of all gates is one of some gate
pub some_gate : (gates : List PlacedGate) (c : ℤ × ℤ) → cell_state (gates_plane gates) c ≢ Empty → (k : ℕ) × IsGateCell gates k c
some_gate [] c full = absurd (full refl)
some_gate (placed ∷ gates) c full =
    elim (cases_Empty (cell_state (gate_plane placed) c)) [
      | inr there ↦ (0, (placed, refl, there))
      | inl none ↦
          let later = some_gate gates c (λ e. full (ap (λ s. or_state s (cell_state (gates_plane gates) c)) none ∙ e)) in
          (suc later.0, later.1)
    ]

-- a cell of one gate that is a conductor there is a conductor of all, if no other gate has it
gate_state : (gates : List PlacedGate) (k : ℕ) (placed : PlacedGate) (c : ℤ × ℤ) → slice_get gates k ≡ Some placed → cell_state (gate_plane placed) c ≡ Conductor → ((l : ℕ) → IsGateCell gates l c → l ≡ k) → cell_state (gates_plane gates) c ≡ Conductor
gate_state [] k placed c at is only = absurd (in_got [] k placed at)
gate_state (first ∷ gates) zero placed c at is only =
    ap (λ s. or_state s (cell_state (gates_plane gates) c)) (sym (ap (λ (p : PlacedGate). cell_state (gate_plane p) c) (same_Some placed first (sym at))) ∙ is)
gate_state (first ∷ gates) (suc k) placed c at is only =
    elim (cases_Empty (cell_state (gate_plane first) c)) [
      | inl none ↦ ap (λ s. or_state s (cell_state (gates_plane gates) c)) none ∙ gate_state gates k placed c at is (λ l cell. (let e : suc l ≡ suc k = only (suc l) cell in omega arith))
      | inr there ↦ let e : 0 ≡ suc k = only 0 (first, refl, there) in absurd (omega arith)
    ]

module _ (period : ℕ) (gates : List PlacedGate) (wires : List Wire) (ins : List Signal) (plane : Plane) (owner : ℤ × ℤ → Owner) (h : IsLabelled period gates wires ins plane owner) where
  one_gate : (k l : ℕ) (c : ℤ × ℤ) → owner c ≡ OfGate k → IsGateCell gates l c → l ≡ k
  one_gate k l c e cell = ap gate_number (sym (h.labels.gate_cells l c cell) ∙ e)

  -- gates stand apart
  stand_apart : (k l : ℕ) (placed other : PlacedGate) → slice_get gates k ≡ Some placed → slice_get gates l ≡ Some other → k ≢ l → StandApart (gate_plane placed) (gate_plane other)
  stand_apart k l placed other at at_other apart c d full near =
      elim (cases_Empty (cell_state (gate_plane other) d)) [
        | inl none ↦ none
        | inr there ↦
            let same : l ≡ k = h.apart.beside_gates k l c d (h.labels.gate_cells k c (placed, at, full)) near (h.labels.gate_cells l d (other, at_other, there)) in
            absurd (apart (sym same))
      ]

  all_apart : (front : ℕ) (rest : List PlacedGate) → ((k : ℕ) (placed : PlacedGate) → slice_get rest k ≡ Some placed → slice_get gates (front + k) ≡ Some placed) → StandAllApart rest
  all_apart front [] at = tt
  all_apart front (placed ∷ rest) at = (
    λ other among. (let (k, is) = got_from rest other (in_from rest other among) in
        stand_apart (front + 0) (front + suc k) placed other (at 0 placed refl) (at (suc k) other is) (λ e. (let f : front + 0 ≡ front + suc k = e in omega arith))),
    all_apart (suc front) rest (λ k g is. (let e : front + suc k ≡ suc front + k = omega arith in ap (slice_get gates) (sym e) ∙ at (suc k) g is)),
  )

  -- a gate's cell is a conductor before the wires are laid
  before_gate : (k : ℕ) (c : ℤ × ℤ) → owner c ≡ OfGate k → cell_state (gates_plane gates) c ≡ Conductor
  before_gate k c e =
      let (placed, at, full) = h.labels.of_gates k c e in
      elim ((h.laws placed (got gates k placed at)).cells (c.0 -ℤ placed.x, c.1 -ℤ placed.y)) [
        | inl none ↦ absurd (full none)
        | inr there ↦ gate_state gates k placed c at there (λ l cell. one_gate k l c e cell)
      ]

  before_other : (c : ℤ × ℤ) → ((k : ℕ) → owner c ≢ OfGate k) → cell_state (gates_plane gates) c ≡ Empty
  before_other c none =
      elim (cases_Empty (cell_state (gates_plane gates) c)) [
        | inl e ↦ e
        | inr full ↦ let (k, cell) = some_gate gates c full in absurd (none k (h.labels.gate_cells k c cell))
      ]

  module _ (w : ℕ) (wire : Wire) (at : slice_get wires w ≡ Some wire) where
    its : IsPathOf wire owner
    its = h.paths wire (got wires w wire at)

    on : (i : ℕ) → i < wire.size → owner (wire.path (suc i)) ≡ OfWire w i
    on i l = h.labels.wire_cells w i (wire.path (suc i)) (wire, at, l, refl)

    free : (i : ℕ) → i < wire.size → cell_state (gates_plane gates) (wire.path (suc i)) ≡ Empty
    free i l = before_other (wire.path (suc i)) (λ k e. gate_no_wire _ k w i e (on i l))

    inner_once : (i j : ℕ) → i < wire.size → j < wire.size → wire.path (suc i) ≡ wire.path (suc j) → i ≡ j
    inner_once i j l m e = ap wire_place (sym (on i l) ∙ ap owner e ∙ on j m)

    no_end : (i : ℕ) (c : ℤ × ℤ) → i < wire.size → (k : ℕ) × (owner c ≡ OfGate k) → wire.path (suc i) ≢ c
    no_end i c l (k, g) e = gate_no_wire (owner c) k w i g (sym (ap owner e) ∙ on i l)

    once : (i j : ℕ) → i ≤ suc wire.size → j ≤ suc wire.size → wire.path i ≡ wire.path j → i ≡ j
    once zero zero l m e = refl
    once zero (suc j) l m e =
        elim (cases_lt j wire.size) [
          | inl lt ↦ absurd (no_end j wire.from.cell lt its.from_gate (sym e ∙ its.begins))
          | inr ge ↦ let last : suc j ≡ suc wire.size = omega (arith, m, ge) in absurd (its.two_ends (sym its.begins ∙ e ∙ ap wire.path last ∙ its.ends))
        ]
    once (suc i) zero l m e =
        elim (cases_lt i wire.size) [
          | inl lt ↦ absurd (no_end i wire.from.cell lt its.from_gate (e ∙ its.begins))
          | inr ge ↦ let last : suc i ≡ suc wire.size = omega (arith, l, ge) in absurd (its.two_ends (sym its.begins ∙ sym e ∙ ap wire.path last ∙ its.ends))
        ]
    once (suc i) (suc j) l m e =
        elim (cases_lt i wire.size) [
          | inl lt ↦
              elim (cases_lt j wire.size) [
                | inl lt' ↦ ap suc (inner_once i j lt lt' e)
                | inr ge ↦ let last : suc j ≡ suc wire.size = omega (arith, m, ge) in absurd (no_end i wire.to.cell lt its.to_gate (e ∙ ap wire.path last ∙ its.ends))
              ]
          | inr ge ↦
              let last : suc i ≡ suc wire.size = omega (arith, l, ge) in
              elim (cases_lt j wire.size) [
                | inl lt ↦ absurd (no_end j wire.to.cell lt its.to_gate (sym e ∙ ap wire.path last ∙ its.ends))
                | inr ge' ↦ omega (arith, l, m, ge, ge')
              ]
        ]

    is_drawn : IsWireDrawn wire
    is_drawn = record { some = its.some; along = record { once = once; goes_on = its.goes_on }; begins = its.begins; ends = its.ends }

    alone : (i : ℕ) → i < wire.size → (cell : ℤ × ℤ) → IsNear cell (wire.path (suc i)) → cell_state plane cell ≢ Empty → (j : ℕ) × (i ≤ j) × (j ≤ i + 2) × (cell ≡ wire.path j)
    alone i l cell near full =
        elim (h.apart.beside_wires w i wire cell at l near) [
          | inl nobody ↦ absurd (full (h.labels.of_nobody cell nobody))
          | inr on_path ↦ on_path
        ]

    is_laid : IsLaid period wire (gates_plane gates) plane
    is_laid = record {
      free = free;
      states = λ i rest place. h.states.on_wires wire (got wires w wire at) i rest place;
      alone = alone;
      end = h.states.ends wire (got wires w wire at) ∙ ap (λ s. if is_lit period wire.to 0 then Head else s) (sym (before_gate its.to_gate.0 wire.to.cell its.to_gate.1));
    }

  share_none : (w v : ℕ) (wire other : Wire) → slice_get wires w ≡ Some wire → slice_get wires v ≡ Some other → w ≢ v → ShareNoCell wire other
  share_none w v wire other at at_other apart = record {
    cells = λ i j l m e. apart (ap wire_number (sym (on w wire at i l) ∙ ap owner e ∙ on v other at_other j m));
    ends = λ e. apart (h.own_ends.one w v wire other at at_other e);
  }

  disjoint : (front : ℕ) (rest : List Wire) → ((k : ℕ) (wire : Wire) → slice_get rest k ≡ Some wire → slice_get wires (front + k) ≡ Some wire) → AreDisjointWires rest
  disjoint front [] at = tt
  disjoint front (wire ∷ rest) at = (
    λ other among. (let (k, is) = got_from rest other (in_from rest other among) in
        share_none (front + 0) (front + suc k) wire other (at 0 wire refl) (at (suc k) other is) (λ e. (let f : front + 0 ≡ front + suc k = e in omega arith))),
    disjoint (suc front) rest (λ k g is. (let e : front + suc k ≡ suc front + k = omega arith in ap (slice_get wires) (sym e) ∙ at (suc k) g is)),
  )

  place_of : (wire : Wire) → Contains wires wire → (w : ℕ) × (slice_get wires w ≡ Some wire)
  place_of wire among = got_from wires wire (in_from wires wire among)

  others : (c : ℤ × ℤ) → ((wire : Wire) → Contains wires wire → IsAwayFrom wire c) → cell_state plane c ≡ cell_state (gates_plane gates) c
  others c away = of_owner (owner c) refl
    where
      of_owner : (o : Owner) → owner c ≡ o → cell_state plane c ≡ cell_state (gates_plane gates) c
      of_owner Nobody e =
          h.labels.of_nobody c e ∙ sym (before_other c (λ k g. gate_no_nobody (owner c) k g e))
      of_owner (OfGate k) e =
          h.states.on_gates k c e (λ wire among. (away wire among).end) ∙ sym (before_gate k c e)
      of_owner (OfWire w i) e =
          let (wire, at, l, is) = h.labels.of_wires w i c e in absurd ((away wire (got wires w wire at)).cells i l is)

  pub drawn : AreWiresDrawn period wires ins (gates_plane gates) plane
  drawn = record {
    each = λ wire among. (let (w, at) = place_of wire among in is_drawn w wire at);
    own = λ wire s among is. h.own_ends.driven wire s among is;
    apart = disjoint 0 wires (λ k wire is. (let e : 0 + k ≡ k = omega arith in ap (slice_get wires) e ∙ is));
    laid = λ wire among. (let (w, at) = place_of wire among in is_laid w wire at);
    others = others;
  }

  pub apart_all : StandAllApart gates
  apart_all = all_apart 0 gates (λ k placed is. (let e : 0 + k ≡ k = omega arith in ap (slice_get gates) e ∙ is))

pub labelled_are_drawn : LabelledAreDrawn
labelled_are_drawn period gates wires ins plane owner h =
    (apart_all period gates wires ins plane owner h, drawn period gates wires ins plane owner h)
