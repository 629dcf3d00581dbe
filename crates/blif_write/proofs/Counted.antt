-- The lines of a lifted netlist are numbered from 1.
use Rattle.std.proofs.Common.{◌≡◌, refl, sym, ap, subst, ℕ, suc, ◌+◌, Bool, List, [], ◌∷◌, ◌++◌, map, length, arith}
use Rattle.std.specs.Prelude.{codes}
use Rattle.std.proofs.Math.Numerals.{add-one}
use Rattle.netlist_core.specs.Names.{Name}
use Rattle.blif_text.specs.declared.logical.Logical.{Logical}
use Rattle.cell_core.specs.declared.cells.Src.{Src}
use Rattle.cell_core.specs.declared.cells.Cell.{Cell}
use Rattle.cell_core.specs.declared.cells.Cell.TheVariants.{Or, Xor, AndNot}
use Rattle.cell_core.specs.declared.list.CellList.{CellList}
use Rattle.lifted_designs.specs.Names.{mark, zero_name, loop_name, gate_name, source_name}
use Rattle.lifted_designs.specs.Lifted.{cell_rows, first_of, second_of, line_past_cells}
use Rattle.lifted_designs.specs.Lines.{worded_line, row, rows_then, cell_lines, lines_of_outputs, start_word, latch_lines, lines_after_ports, lines_with_mark, lifted_lines}
use Rattle.lifted_designs.specs.Words.{counted_lines}

-- the lines are numbered from this one on
abbrev AreCounted : ℕ → List Logical → Type 0
AreCounted n lines = counted_lines n (map (λ line. line.words) lines) ≡ lines

counted_at : {n m : ℕ} (lines : List Logical) → n ≡ m → AreCounted m lines → AreCounted n lines
counted_at lines e h = subst (λ k. AreCounted k lines) (sym e) h

counted_line : (n : ℕ) (words : List (List ℕ)) (lines : List Logical) → AreCounted (n + 1) lines → AreCounted n (worded_line n words ∷ lines)
counted_line n words lines h = ap (λ more. worded_line n words ∷ more) h

counted_rows : (n : ℕ) (cell : Cell) (more : List Logical) → AreCounted (n + 1 + length (cell_rows cell)) more → AreCounted (n + 1) (rows_then n cell more)
counted_rows n (Or a b) more h =
    counted_line (n + 1) (codes "1-" ∷ codes "1" ∷ []) (row (n + 1 + 1) (codes "-1") (codes "1") ∷ more)
    (counted_line (n + 1 + 1) (codes "-1" ∷ codes "1" ∷ []) more (counted_at more (let e : n + 1 + 1 + 1 ≡ n + 1 + 2 = omega arith in e) h))
counted_rows n (Xor a b) more h =
    counted_line (n + 1) (codes "10" ∷ codes "1" ∷ []) (row (n + 1 + 1) (codes "01") (codes "1") ∷ more)
    (counted_line (n + 1 + 1) (codes "01" ∷ codes "1" ∷ []) more (counted_at more (let e : n + 1 + 1 + 1 ≡ n + 1 + 2 = omega arith in e) h))
counted_rows n (AndNot a b) more h = counted_line (n + 1) (codes "10" ∷ codes "1" ∷ []) more h

module _ (p : List ℕ) (ins : List Name) where
  counted_cells : (n number : ℕ) (cells : List Cell) (more : List Logical) → AreCounted (line_past_cells n cells) more → AreCounted n (cell_lines p ins n number cells more)
  counted_cells n number [] more h = h
  counted_cells n number (cell ∷ cells) more h =
      let later = cell_lines p ins (n + 1 + length (cell_rows cell)) (suc number) cells more in
      counted_line n (codes ".names" ∷ source_name p ins (first_of cell) ∷ source_name p ins (second_of cell) ∷ gate_name p number ∷ []) (rows_then n cell later)
      (counted_rows n cell later (counted_cells (n + 1 + length (cell_rows cell)) (suc number) cells more h))

  counted_outputs : (n : ℕ) (names : List Name) (sources : List Src) → AreCounted n (lines_of_outputs p ins n names sources)
  counted_outputs n [] sources = refl
  counted_outputs n (name ∷ names) [] = refl
  counted_outputs n (name ∷ names) (source ∷ sources) =
      let later = lines_of_outputs p ins (n + 2) names sources in
      counted_line n (codes ".names" ∷ source_name p ins source ∷ name ∷ []) (row (n + 1) (codes "1") (codes "1") ∷ later)
      (counted_line (n + 1) (codes "1" ∷ codes "1" ∷ []) later (counted_at later (let e : n + 1 + 1 ≡ n + 2 = omega arith in e) (counted_outputs (n + 2) names sources)))

  counted_latches : (n number : ℕ) (sources : List Src) (starts : List Bool) (more : List Logical) → length starts ≡ length sources → AreCounted (n + length sources) more
      → AreCounted n (latch_lines p ins n number sources starts more)
  counted_latches n number [] starts more e h = counted_at more (let e : n ≡ n + 0 = omega arith in e) h
  counted_latches n number (source ∷ sources) [] more e h = absurd (let f : 0 ≡ suc (length sources) = e in omega (arith, f))
  counted_latches n number (source ∷ sources) (start ∷ starts) more e h =
      let later = latch_lines p ins (suc n) (suc number) sources starts more in
      let f : suc (length starts) ≡ suc (length sources) = e in
      let past : suc n + length sources ≡ n + suc (length sources) = omega arith in
      counted_line n (codes ".latch" ∷ source_name p ins source ∷ loop_name p number ∷ start_word start ∷ []) later
      (counted_at later (add-one n) (counted_latches (suc n) (suc number) sources starts more (omega (arith, f)) (counted_at more past h)))

  counted_after_ports : (outs : List Name) (list : CellList) → AreCounted 5 (lines_after_ports p ins outs list)
  counted_after_ports outs list =
      let after_latches = 5 + length list.latches in
      let outputs = lines_of_outputs p ins (line_past_cells after_latches list.cells) outs list.outs in
      counted_latches 5 0 list.latches list.starts (cell_lines p ins after_latches 0 list.cells outputs) list.starts_fit
      (counted_cells after_latches 0 list.cells outputs (counted_outputs (line_past_cells after_latches list.cells) outs list.outs))

  counted_with_mark : (outs : List Name) (list : CellList) → AreCounted 1 (lines_with_mark p ins outs list)
  counted_with_mark outs list =
      let later = lines_after_ports p ins outs list in
      let zero_line = worded_line 4 (codes ".names" ∷ zero_name p ∷ []) in
      let outs_line = worded_line 3 (codes ".outputs" ∷ outs) in
      let ins_line = worded_line 2 (codes ".inputs" ∷ ins) in
      counted_line 1 (codes ".model" ∷ codes "lifted" ∷ []) (ins_line ∷ outs_line ∷ zero_line ∷ later)
      (counted_line 2 (codes ".inputs" ∷ ins) (outs_line ∷ zero_line ∷ later)
      (counted_line 3 (codes ".outputs" ∷ outs) (zero_line ∷ later)
      (counted_line 4 (codes ".names" ∷ zero_name p ∷ []) later (counted_after_ports outs list))))

-- they are what a text of their words has
pub lifted_are_counted : (ins outs : List Name) (list : CellList) → counted_lines 1 (map (λ line. line.words) (lifted_lines ins outs list)) ≡ lifted_lines ins outs list
lifted_are_counted ins outs list = counted_with_mark (mark (ins ++ outs)) ins outs list
