-- The bits of cells in contexts, as rows and as columns.
use Rattle.std.proofs.Common.{pos, ℕ, ◌≡◌, ◌+◌, ◌*◌, sym, ap, ◌∙◌, Bool, List, All, map, length, subst, arith}
use Rattle.std.specs.Prelude.{flat_map}
use Rattle.std.specs.List.{range_with_len}
use Rattle.std.proofs.Math.Path.{fun_ext}
use Rattle.std.proofs.lemmas.List.FromFn.{length-map-range_with_len}
use Rattle.std.proofs.lemmas.Simd.{map-map}
use Rattle.ww_rule.specs.Wireworld.{Plane, is_head}
use Rattle.streams.specs.Rows.{bits_across}
use Rattle.streams.proofs.Across.{columns_are, rows_long}
use Rattle.drive.specs.Shown.{bits_on, row_of_cycle, rows_of_cycles, columns_of_cells}
use Rattle.drive.proofs.Ranges.{map-flat_map}

module _ (planes : ℕ → Plane) (contexts period cycles first : ℕ) (cells : List (ℕ × ℕ)) where
  -- a cell in a context
  abbrev InContext : Type 0
  InContext = ℕ × (ℕ × ℕ)

  abbrev bit : InContext → ℕ → Bool
  bit at cycle = is_head (planes (first + 32 * at.0 + cycle * period) (pos at.1.0) (pos at.1.1))

  abbrev of_context : ℕ → List InContext
  of_context context = map (λ cell. (context, cell)) cells

  -- all cells in one context after the other
  abbrev pub in_contexts : List InContext
  in_contexts = flat_map of_context (range_with_len 0 contexts)

  row_is : (cycle : ℕ) → row_of_cycle planes contexts (first + cycle * period) cells ≡ map (λ at. bit at cycle) in_contexts
  row_is cycle =
      ap (λ (row : ℕ → List Bool). flat_map row (range_with_len 0 contexts))
      (fun_ext (λ context. ap (λ g. bits_on (planes g) cells) (let e : first + cycle * period + 32 * context ≡ first + 32 * context + cycle * period = omega arith in e)
      ∙ sym (map-map (λ (at : InContext). bit at cycle) (λ (cell : ℕ × ℕ). (context, cell)) cells)))
      ∙ sym (map-flat_map (λ (at : InContext). bit at cycle) of_context (range_with_len 0 contexts))

  rows_are : rows_of_cycles planes contexts period cycles first cells ≡ map (λ cycle. map (λ at. bit at cycle) in_contexts) (range_with_len 0 cycles)
  rows_are = ap (λ (row : ℕ → List Bool). map row (range_with_len 0 cycles)) (fun_ext row_is)

  -- the rows are as long as there are cells and contexts
  pub all_long : All (λ row. length row ≡ length in_contexts) (rows_of_cycles planes contexts period cycles first cells)
  all_long = subst (All (λ (row : List Bool). length row ≡ length in_contexts)) (sym rows_are) (rows_long bit in_contexts (range_with_len 0 cycles))

  -- there are as many as there are cycles
  pub many_rows : length (rows_of_cycles planes contexts period cycles first cells) ≡ cycles
  many_rows = length-map-range_with_len (λ (cycle : ℕ). row_of_cycle planes contexts (first + cycle * period) cells) 0 cycles

  -- and their columns are the bits of the cells
  pub columns_of_rows : map (bits_across (rows_of_cycles planes contexts period cycles first cells)) (range_with_len 0 (length in_contexts)) ≡ columns_of_cells planes contexts period cycles first cells
  columns_of_rows =
      ap (λ (rows : List (List Bool)). map (bits_across rows) (range_with_len 0 (length in_contexts))) rows_are
      ∙ columns_are bit in_contexts (range_with_len 0 cycles)
      ∙ map-flat_map (λ (at : InContext). map (bit at) (range_with_len 0 cycles)) of_context (range_with_len 0 contexts)
      ∙ ap (λ (column : ℕ → List (List Bool)). flat_map column (range_with_len 0 contexts))
      (fun_ext (λ context. map-map (λ (at : InContext). map (bit at) (range_with_len 0 cycles)) (λ (cell : ℕ × ℕ). (context, cell)) cells))
