-- What streams inject is in the order of its generations.
use Rattle.std.proofs.Common.{ℕ, zero, suc, ◌≡◌, ◌≤◌, ◌+◌, ◌*◌, ◌-◌, refl, sym, ap, ◌∙◌, subst, inl, inr, List, [], ◌∷◌, ◌++◌, Bool, true, false, length, arith}
use Rattle.std.specs.Prelude.{flat_map}
use Rattle.std.proofs.lemmas.Bool.{cases_lt}
use Rattle.std.specs.List.{range_with_len}
use Rattle.std.proofs.lemmas.List.{append_assoc, nil_from_length}
use Rattle.ww_rule.specs.declared.pattern.Injection.{Injection}
use Rattle.ww_rule.specs.Due.{AreInOrderFrom}
use Rattle.ww_rule.specs.Injections.{injections_of_row, injections_from}
use Rattle.ww_rule.proofs.Due.{from_earlier}
use Rattle.pattern_reading.specs.declared.ports.Ports.{Ports}
use Rattle.pattern_reading.specs.declared.ports.PortLine.{PortLine}
use Rattle.pattern_reading.specs.Ports.{cells_of}
use Rattle.streams.specs.declared.streams.Streams.{Streams}
use Rattle.drive.specs.Driving.{AreFor, cycle_rows, injections_of}
use Rattle.drive.proofs.CycleRows.{many_rows}
use Rattle.drive.proofs.Ranges.{no_pieces}

row_in_order : (g : ℕ) (cells : List (ℕ × ℕ)) (bits : List Bool) (later : List Injection) → AreInOrderFrom g later → AreInOrderFrom g (injections_of_row g cells bits ++ later)
row_in_order g [] bits later order = order
row_in_order g (c ∷ cells) [] later order = order
row_in_order g (c ∷ cells) (false ∷ bits) later order = row_in_order g cells bits later order
row_in_order g (c ∷ cells) (true ∷ bits) later order = (omega arith, row_in_order g cells bits later order)

-- the rows of contexts, before what comes when the last of them has come
rows_in_order : (g h : ℕ) (cells : List (ℕ × ℕ)) (rows : List (List Bool)) (later : List Injection) → g ≤ h → g + 32 * (length rows - 1) ≤ h
    → AreInOrderFrom h later → AreInOrderFrom g (injections_from g 32 cells rows ++ later)
rows_in_order g h cells [] later le last order = from_earlier g h later le order
rows_in_order g h cells (row ∷ []) later le last order =
    subst (AreInOrderFrom g) (sym (append_assoc (injections_of_row g cells row) [] later))
    (row_in_order g cells row later (from_earlier g h later le order))
rows_in_order g h cells (row ∷ next ∷ rows) later le last order =
    let others = injections_from (g + 32) 32 cells (next ∷ rows) in
    subst (AreInOrderFrom g) (sym (append_assoc (injections_of_row g cells row) others later))
    (row_in_order g cells row (others ++ later)
    (from_earlier g (g + 32) (others ++ later) (omega arith) (rows_in_order (g + 32) h cells (next ∷ rows) later (omega (arith, last)) (omega (arith, last)) order)))

-- the injections of a cycle
abbrev pub at_cycle : Ports → Streams → ℕ → List Injection
at_cycle ports streams cycle = injections_from (cycle * ports.p) 32 (cells_of ports.ins) (cycle_rows streams cycle)

module _ (ports : Ports) (streams : Streams) (are : AreFor ports streams) where
  -- so many cycles, from one on
  cycles_in_order : (cycle n g : ℕ) → g ≡ cycle * ports.p → AreInOrderFrom g (flat_map (at_cycle ports streams) (range_with_len cycle n))
  cycles_in_order cycle zero g at = tt
  cycles_in_order cycle (suc n) g at =
      let many = many_rows ports streams are cycle in
      let next : (cycle + 1) * ports.p ≡ g + ports.p = omega (arith, at) in
      let rows = cycle_rows streams cycle in
      let later = flat_map (at_cycle ports streams) (range_with_len (cycle + 1) n) in
      subst (λ (h : ℕ). AreInOrderFrom g (injections_from h 32 (cells_of ports.ins) rows ++ later)) at
      (rows_in_order g (g + ports.p) (cells_of ports.ins) rows later (omega arith) (within g many) (cycles_in_order (cycle + 1) n (g + ports.p) (sym next)))
    where
      within : (g : ℕ) → length (cycle_rows streams cycle) ≡ ports.c → g + 32 * (length (cycle_rows streams cycle) - 1) ≤ g + ports.p
      within g many =
          elim (cases_lt 1 ports.c) [
            | inl more ↦ let room = are.room more in omega (arith, many, room)
            | inr one ↦ omega (arith, many, one)
          ]

  pub injections_in_order : AreInOrderFrom 0 (injections_of ports streams)
  injections_in_order = cycles_in_order 0 streams.cycles 0 (omega arith)

no_cells : (g : ℕ) (rows : List (List Bool)) → injections_from g 32 [] rows ≡ []
no_cells g [] = refl
no_cells g (row ∷ rows) = no_cells (g + 32) rows

-- without inputs nothing is injected
pub none_injected : (ports : Ports) (streams : Streams) → length ports.ins ≡ 0 → injections_of ports streams ≡ []
none_injected ports streams none =
    no_pieces (at_cycle ports streams) (range_with_len 0 streams.cycles)
    (λ (cycle : ℕ). ap (λ (ins : List PortLine). injections_from (cycle * ports.p) 32 (cells_of ins) (cycle_rows streams cycle)) (nil_from_length ports.ins none)
    ∙ no_cells (cycle * ports.p) (cycle_rows streams cycle))
