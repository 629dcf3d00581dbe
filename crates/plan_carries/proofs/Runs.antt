-- A sound flat netlist with an order has a run on all rows of input bits, from every state.
use Rattle.std.proofs.Common.{◌≡◌, subst, ℕ, zero, suc, Bool, false, List, [], ◌∷◌, length, replicate, get_or, arith}
use Rattle.std.specs.Prelude.{All}
use Rattle.std.proofs.lemmas.List.{length-map, length-replicate}
use Rattle.std.proofs.lemmas.Option.{get_or_from_slice_get}
use Rattle.netlist_core.specs.declared.flat.Flat.{Flat}
use Rattle.netlist_core.specs.declared.flat.FlatLatch.{FlatLatch}
use Rattle.netlist_meaning.specs.Flat.{IsSound, class_of}
use Rattle.netlist_meaning.specs.FlatOrder.{IsOrder}
use Rattle.netlist_meaning.specs.FlatValuation.{IsFlatValuation, IsFlatRun, AreFlatRows, flat_state_after, flat_state_in}
use Rattle.netlist_eval.proofs.Valuations.{one_valuation}

-- a row of a list whose rows have so many bits, and as many beyond it
row_long : (n : ℕ) (rows : List (List Bool)) (t : ℕ) → All (λ row. length row ≡ n) rows → length (get_or rows t (replicate n false)) ≡ n
row_long n [] t all = length-replicate n false
row_long n (first ∷ rows) zero all = all 0 first (omega arith)
row_long n (first ∷ rows) (suc t) all = row_long n rows t (λ k d lt. all (suc k) d (omega arith))

pub state_long : (flat : Flat) (start : List Bool) (run : ℕ → ℕ → Bool) (t : ℕ) → length start ≡ length flat.latches → length (flat_state_in flat start run t) ≡ length flat.latches
state_long flat start run zero long = long
state_long flat start run (suc t) long = length-map flat.latches (λ (latch : FlatLatch). run t (class_of flat latch.input))

-- the row of a cycle: beyond the rows it has a bit 0 for each input
abbrev pub row_onward : Flat → List (List Bool) → ℕ → List Bool
row_onward flat rows t = get_or rows t (replicate (length flat.ins) false)

-- there is a run on them that goes on without end
pub goes_on : (flat : Flat) → IsSound flat → (order : List ℕ) → IsOrder flat order → (start : List Bool) → length start ≡ length flat.latches
    → (rows : List (List Bool)) → AreFlatRows flat rows
    → (run : ℕ → ℕ → Bool) × ((t : ℕ) → IsFlatValuation flat (row_onward flat rows t) (flat_state_in flat start run t) (run t))
goes_on flat sound order ordered start long rows are = (run, solves)
  where
    row : ℕ → List Bool
    row t = row_onward flat rows t

    value : (state : List Bool) → length state ≡ length flat.latches → (t : ℕ) → (bits : ℕ → Bool) × IsFlatValuation flat (row t) state bits
    value state fits t = let (bits, is, alone) = one_valuation flat sound order ordered (row t) state (row_long (length flat.ins) rows t are) fits in (bits, is)

    after_long : (bits : ℕ → Bool) → length (flat_state_after flat bits) ≡ length flat.latches
    after_long bits = length-map flat.latches (λ (latch : FlatLatch). bits (class_of flat latch.input))

    run : ℕ → ℕ → Bool
    run zero = (value start long zero).0
    run (suc t) = (value (flat_state_after flat (run t)) (after_long (run t)) (suc t)).0

    solves : (t : ℕ) → IsFlatValuation flat (row t) (flat_state_in flat start run t) (run t)
    solves zero = (value start long zero).1
    solves (suc t) = (value (flat_state_after flat (run t)) (after_long (run t)) (suc t)).1

pub has_run : (flat : Flat) → IsSound flat → (order : List ℕ) → IsOrder flat order → (start : List Bool) → length start ≡ length flat.latches
    → (rows : List (List Bool)) → AreFlatRows flat rows → (run : ℕ → ℕ → Bool) × IsFlatRun flat start rows run
has_run flat sound order ordered start long rows are =
    let onward = goes_on flat sound order ordered start long rows are in
    (onward.0, λ t given e. subst (λ r. IsFlatValuation flat r (flat_state_in flat start onward.0 t) (onward.0 t)) (get_or_from_slice_get rows t given (replicate (length flat.ins) false) e) (onward.1 t))
