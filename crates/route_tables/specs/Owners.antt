-- Whose the cells of a window are, by the numbers of a table.
use Rattle.std.specs.Prelude.{ℤ, ℕ, zero, suc, ◌<◌, ◌≤◌, ◌≡◌, ◌≢◌, List, length, get_or}
use Rattle.ww_rule.specs.declared.pattern.State.{State}
use Rattle.tile_timing.specs.Window.{shown}
use Rattle.gate_laws.specs.Wires.{Wire, IsNear}
use Rattle.routed_circuits.specs.Routed.{PlacedGate}
use Rattle.routed_circuits.specs.Labels.{Owner, Nobody, OfGate, OfWire, IsGateCell, IsWireCell, AreLabels}
use Rattle.route_tables.specs.Serials.{serial_at, listed_cell, AreSerials}

-- The listed cells are those of the gates and of the wires, and no others: `own` says whose each is.
-- A gate's number is the group of its cells, below the limit; wires have groups that are not.
pub record IsListing (gates : List PlacedGate) (wires : List Wire) (cells : List (ℕ × ℕ))
    (groups : List ℕ) (limit : ℕ) (own : ℕ → Owner) : Type 0 where
  pub gate_listed : (k : ℕ) (c : ℤ × ℤ) → IsGateCell gates k c
      → (n : ℕ) × (n < length cells) × (own n ≡ OfGate k) × (c ≡ listed_cell cells n)
  pub wire_listed : (w i : ℕ) (c : ℤ × ℤ) → IsWireCell wires w i c
      → (n : ℕ) × (n < length cells) × (own n ≡ OfWire w i) × (c ≡ listed_cell cells n)
  pub of_gates : (n k : ℕ) → n < length cells → own n ≡ OfGate k
      → IsGateCell gates k (listed_cell cells n)
  pub of_wires : (n w i : ℕ) → n < length cells → own n ≡ OfWire w i
      → IsWireCell wires w i (listed_cell cells n)
  pub somebody : (n : ℕ) → n < length cells → own n ≢ Nobody
  pub gate_group : (n k : ℕ) → own n ≡ OfGate k → (get_or groups n 0 ≡ k) × (k < limit)
  pub wire_group : (n w i : ℕ) → own n ≡ OfWire w i → limit ≤ get_or groups n 0

-- nobody's without a number, else whose the listed cell of the number is
abbrev pub owner_by : (own : ℕ → Owner) → ℕ → Owner
owner_by own zero = Nobody
owner_by own (suc n) = own n

abbrev pub owner_at : (own : ℕ → Owner) → List ℕ → (width : ℕ) → ℤ × ℤ → Owner
owner_at own serials width c = owner_by own (serial_at serials width c.0 c.1)

-- the tests of the serials give labels, and gates that stand apart
abbrev pub TablesAreLabels : Type 0
TablesAreLabels =
    (gates : List PlacedGate) (wires : List Wire) (cells : List (ℕ × ℕ)) (states : List State)
    (serials : List ℕ) (width : ℕ) (groups : List ℕ) (limit : ℕ) (own : ℕ → Owner)
    → AreSerials cells states serials width groups limit
    → IsListing gates wires cells groups limit own
    → AreLabels gates wires (shown states width) (owner_at own serials width)
    × ((k l : ℕ) (c d : ℤ × ℤ) → owner_at own serials width c ≡ OfGate k → IsNear d c
    → owner_at own serials width d ≡ OfGate l → l ≡ k)
