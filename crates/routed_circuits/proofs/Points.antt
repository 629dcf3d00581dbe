-- The signals at the points of gates.
use Rattle.std.proofs.Common.{ℕ, zero, suc, ◌<◌, ◌≡◌, refl, sym, ap, ap₂, ◌∙◌, subst, inl, inr, Bool, false, List, [], ◌∷◌, ◌++◌, length, map, flat_map, arith}
use Rattle.std.specs.Prelude.{Contains, ◌↔◌, Some, slice_get}
use Rattle.std.proofs.lemmas.List.{map-append}
use Rattle.std.proofs.lemmas.Option.{none-some, same_Some}
use Rattle.lists.proofs.Members.{In, in_from, contains_from, in_map, in_mapped}
use Rattle.gate_laws.specs.Rows.{Port, signals_at, signal_of}
use Rattle.gate_laws.specs.Gates.{front_bits, gate_answer}
use Rattle.routed_circuits.specs.Routed.{PlacedGate, signals_of}
use Rattle.cell_core.specs.declared.cells.Src.{Src}
use Rattle.cell_core.specs.declared.list.CellList.{CellList}
use Rattle.routed_circuits.specs.Runs.{src_at, list_bit}
use Rattle.routed_circuits.specs.Lists.{SourcedGate, placed_of, points_of, point_signal, ComputesSources}

-- lists with the same items have the same images
pub same_images : {X Y : Type 0} (f : X → Y) (xs ys : List X) → ((x : X) → Contains xs x ↔ Contains ys x) → (y : Y) → Contains (map f xs) y ↔ Contains (map f ys) y
same_images {X} {Y} f xs ys same y = (across xs ys (λ x. (same x).0), across ys xs (λ x. (same x).1))
  where
    across : (xs ys : List X) → ((x : X) → Contains xs x → Contains ys x) → Contains (map f xs) y → Contains (map f ys) y
    across xs ys has among =
        let found = in_mapped f xs y (in_from (map f xs) y among) in
        subst (Contains (map f ys)) (sym found.2) (contains_from (map f ys) (f found.0) (in_map f ys found.0 (in_from ys found.0 (has found.0 (contains_from xs found.0 found.1)))))

module _ (list : CellList) (rows : List (List Bool)) where
  -- the bits of the ports of gates, by the numbers of the gate and of the port
  abbrev pub sourced_bits : (SourcedGate → List Src) → List SourcedGate → ℕ → ℕ → ℕ → Bool
  sourced_bits pick [] k t i = false
  sourced_bits pick (gate ∷ gates) zero t i = list_bit list rows t (src_at (pick gate) i)
  sourced_bits pick (gate ∷ gates) (suc k) t i = sourced_bits pick gates k t i

  points_are : (ports : List Port) (sources : List Src) → length sources ≡ length ports → signals_at ports (λ t i. list_bit list rows t (src_at sources i)) ≡ map (point_signal list rows) (points_of ports sources)
  points_are [] sources same = refl
  points_are (port ∷ ports) [] same = absurd (omega (arith, same))
  points_are (port ∷ ports) (source ∷ sources) same =
      ap (λ rest. signal_of port (λ t. list_bit list rows t source) ∷ rest) (points_are ports sources (omega (arith, same)))

  pub signals_are : (ports : PlacedGate → List Port) (pick : SourcedGate → List Src) (gates : List SourcedGate) → ((gate : SourcedGate) → In gate gates → length (pick gate) ≡ length (ports gate.placed)) → signals_of ports (map placed_of gates) (sourced_bits pick gates) ≡ map (point_signal list rows) (flat_map (λ gate. points_of (ports gate.placed) (pick gate)) gates)
  signals_are ports pick [] each = refl
  signals_are ports pick (gate ∷ gates) each =
      ap₂ (λ a b. a ++ b) (points_are (ports gate.placed) (pick gate) (each gate (inl refl))) (signals_are ports pick gates (λ g i. each g (inr i)))
      ∙ sym (map-append (point_signal list rows) (points_of (ports gate.placed) (pick gate)) (flat_map (λ gate. points_of (ports gate.placed) (pick gate)) gates))

  first_are : (f : Src → Bool) (sources : List Src) → front_bits (length sources) (λ i. f (src_at sources i)) ≡ map f sources
  first_are f [] = refl
  first_are f (source ∷ sources) = ap (λ rest. f source ∷ rest) (first_are f sources)

  -- the bits of outputs are the gates' answers
  pub answers_are : (period : ℕ) (gates : List SourcedGate) → ((gate : SourcedGate) → In gate gates → ComputesSources period list gate) → (k : ℕ) (placed : PlacedGate) → slice_get (map placed_of gates) k ≡ Some placed → (t o : ℕ) → o < length placed.gate.outs → sourced_bits (λ gate. gate.outs) gates k t o ≡ gate_answer placed.gate (sourced_bits (λ gate. gate.ins) gates k t) o
  answers_are period [] each k placed e t o low = absurd (none-some placed e)
  answers_are period (gate ∷ gates) each zero placed e t o low =
      let computes = each gate (inl refl) in
      let same : gate.placed ≡ placed = same_Some gate.placed placed e in
      let low_here : o < length gate.placed.gate.outs = subst (λ (p : PlacedGate). o < length p.gate.outs) (sym same) low in
      let bit = list_bit list rows t in
      let many : length gate.ins ≡ length gate.placed.gate.ins = computes.ins in
      let row : map bit gate.ins ≡ front_bits (length gate.placed.gate.ins) (λ i. bit (src_at gate.ins i)) = sym (first_are bit gate.ins) ∙ ap (λ n. front_bits n (λ i. bit (src_at gate.ins i))) many in
      let outs : length gate.outs ≡ length gate.placed.gate.outs = computes.outs in
      computes.computes _ _ o (omega (arith, low_here, outs))
      ∙ ap (λ bits. gate.placed.gate.answer bits o) row
      ∙ ap (λ (p : PlacedGate). gate_answer p.gate (λ i. bit (src_at gate.ins i)) o) same
  answers_are period (gate ∷ gates) each (suc k) placed e t o low =
      answers_are period gates (λ g i. each g (inr i)) k placed e t o low
