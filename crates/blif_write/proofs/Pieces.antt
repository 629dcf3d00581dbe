-- What is left of the text of lines, piece by piece.
use Rattle.std.proofs.Common.{◌≡◌, refl, sym, ap, ap₂, ◌∙◌, ℕ, suc, ◌+◌, ◌-◌, ◌<◌, ◌≤◌, Bool, List, [], ◌∷◌, ◌++◌, map, drop, length, replicate, arith, append_assoc, drop_of_length-le}
use Rattle.std.specs.Prelude.{Some, slice_get, codes}
use Rattle.std.proofs.Math.Numerals.{add-one}
use Rattle.std.proofs.lemmas.List.{drop_more}
use Rattle.std.proofs.lemmas.Option.{slice_get_within, get_or_from_slice_get}
use Rattle.netlist_core.specs.Names.{Name}
use Rattle.blif_text.specs.declared.logical.Logical.{Logical}
use Rattle.cell_core.specs.declared.cells.Src.{Src}
use Rattle.cell_core.specs.declared.cells.Cell.{Cell}
use Rattle.cell_core.specs.declared.cells.Cell.TheVariants.{Or, Xor, AndNot}
use Rattle.lifted_designs.specs.Names.{loop_name, gate_name, source_name}
use Rattle.lifted_designs.specs.Lifted.{cell_rows, first_of, second_of, line_past_cells}
use Rattle.lifted_designs.specs.Lines.{worded_line, row, rows_then, cell_lines, lines_of_outputs, start_word, latch_lines, lines_with_mark}
use Rattle.lifted_designs.specs.Words.{words_line}
use Rattle.blif_write.specs.Text.{worded_text}
use Rattle.blif_write.specs.Marks.{mark_after}
use Rattle.blif_write.specs.Words.{words_after_spaces, mark_in, head_then}
use Rattle.blif_write.specs.Lift.{text_of_lift}
use Rattle.blif_write.specs.declared.lift.Lift.{Lift}

-- the `_` of a mark
pub mark_next : (here : List ℕ) (most i : ℕ) (rest : List ℕ) → i < most → here ++ (mark_after (most - i) ++ rest) ≡ here ++ (95 ∷ (mark_after (most - (i + 1)) ++ rest))
mark_next here most i rest below =
    let e : most - i + 1 ≡ suc (most - (i + 1) + 1) = omega (arith, below) in
    ap (λ k. here ++ (replicate k 95 ++ rest)) e

pub mark_last : (here : List ℕ) (most i : ℕ) (rest : List ℕ) → most ≤ i → here ++ (mark_after (most - i) ++ rest) ≡ here ++ (95 ∷ rest)
mark_last here most i rest past =
    let e : most - i + 1 ≡ 1 = omega (arith, past) in
    ap (λ k. here ++ (replicate k 95 ++ rest)) e

pub name_joined : (here mark end rest : List ℕ) → here ++ ((mark ++ end) ++ rest) ≡ here ++ (mark ++ (end ++ rest))
name_joined here mark end rest = ap (λ l. here ++ l) (append_assoc mark end rest)

pub numbered_joined : (here mark : List ℕ) (letter : ℕ) {digits bytes : List ℕ} → digits ≡ bytes → (rest : List ℕ) → here ++ ((mark ++ (letter ∷ digits)) ++ rest) ≡ here ++ (mark ++ (letter ∷ (bytes ++ rest)))
numbered_joined here mark letter {digits = digits} e rest = name_joined here mark (letter ∷ digits) rest ∙ ap (λ d. here ++ (mark ++ (letter ∷ (d ++ rest)))) e

-- a line of words
words_spaced : {X : Type 0} (word : X → List ℕ) (w : List ℕ) (items : List X) (rest : List ℕ) → words_line w (map word items) ++ 10 ∷ rest ≡ w ++ (words_after_spaces word items ++ 10 ∷ rest)
words_spaced word w [] rest = refl
words_spaced word w (x ∷ items) rest =
    append_assoc w (32 ∷ words_line (word x) (map word items)) (10 ∷ rest)
    ∙ ap (λ l. w ++ 32 ∷ l) (words_spaced word (word x) items rest ∙ sym (append_assoc (word x) (words_after_spaces word items) (10 ∷ rest)))

pub line_joined : {X : Type 0} (word : X → List ℕ) (here : List ℕ) (n : ℕ) (w : List ℕ) (items : List X) (more : List Logical)
    → here ++ worded_text (worded_line n (w ∷ map word items) ∷ more) ≡ here ++ (w ++ (words_after_spaces word items ++ (10 ∷ worded_text more)))
line_joined word here n w items more = ap (λ l. here ++ l) (words_spaced word w items (worded_text more))

own_words : (ws : List (List ℕ)) → map (λ w. w) ws ≡ ws
own_words [] = refl
own_words (w ∷ ws) = ap (λ vs. w ∷ vs) (own_words ws)

pub names_joined : (here : List ℕ) (n : ℕ) (w : List ℕ) (names : List (List ℕ)) (more : List Logical)
    → here ++ worded_text (worded_line n (w ∷ names) ∷ more) ≡ here ++ (w ++ (words_after_spaces (λ name. name) names ++ (10 ∷ worded_text more)))
names_joined here n w names more =
    ap (λ ws. here ++ worded_text (worded_line n (w ∷ ws) ∷ more)) (sym (own_words names)) ∙ line_joined (λ name. name) here n w names more

-- what is left of a list begins with the item that is read
drop_at : {X : Type 0} (xs : List X) (i : ℕ) (x : X) → slice_get xs i ≡ Some x → drop i xs ≡ x ∷ drop (i + 1) xs
drop_at xs i x e = drop_more xs i x (slice_get_within xs i x e) ∙ ap (λ y. y ∷ drop (i + 1) xs) (get_or_from_slice_get xs i x x e)

-- The text of a line does not tell its number.
abbrev line_then : List ℕ → List (List ℕ) → List ℕ → List ℕ
line_then w ws rest = words_line w ws ++ 10 ∷ rest

module _ (p : List ℕ) (ins : List Name) where
  latches_anywhere : (n m number : ℕ) (sources : List Src) (starts : List Bool) (more : List Logical)
      → worded_text (latch_lines p ins n number sources starts more) ≡ worded_text (latch_lines p ins m number sources starts more)
  latches_anywhere n m number [] starts more = refl
  latches_anywhere n m number (source ∷ sources) [] more = refl
  latches_anywhere n m number (source ∷ sources) (start ∷ starts) more =
      ap (λ rest. line_then (codes ".latch") (source_name p ins source ∷ loop_name p number ∷ start_word start ∷ []) rest) (latches_anywhere (suc n) (suc m) (suc number) sources starts more)

  pub latches_next : (here : List ℕ) (n i : ℕ) (sources : List Src) (starts : List Bool) (source : Src) (start : Bool) (more : List Logical)
      → slice_get sources i ≡ Some source → slice_get starts i ≡ Some start
      → here ++ worded_text (latch_lines p ins n i (drop i sources) (drop i starts) more)
      ≡ here ++ worded_text (latch_lines p ins n i (source ∷ []) (start ∷ []) (latch_lines p ins n (i + 1) (drop (i + 1) sources) (drop (i + 1) starts) more))
  latches_next here n i sources starts source start more e f =
      ap (λ l. here ++ l)
      (ap₂ (λ ss bs. worded_text (latch_lines p ins n i ss bs more)) (drop_at sources i source e) (drop_at starts i start f)
      ∙ ap (λ rest. line_then (codes ".latch") (source_name p ins source ∷ loop_name p i ∷ start_word start ∷ []) rest)
      (latches_anywhere (suc n) n (suc i) (drop (i + 1) sources) (drop (i + 1) starts) more
      ∙ ap (λ k. worded_text (latch_lines p ins n k (drop (i + 1) sources) (drop (i + 1) starts) more)) (sym (add-one i))))

  pub latches_none : (here : List ℕ) (n i : ℕ) (sources : List Src) (starts : List Bool) (more : List Logical) → length sources ≤ i
      → here ++ worded_text (latch_lines p ins n i (drop i sources) (drop i starts) more) ≡ here ++ worded_text more
  latches_none here n i sources starts more past = ap (λ ss. here ++ worded_text (latch_lines p ins n i ss (drop i starts) more)) (drop_of_length-le sources past)

  rows_anywhere : (n m : ℕ) (cell : Cell) (more others : List Logical) → worded_text more ≡ worded_text others → worded_text (rows_then n cell more) ≡ worded_text (rows_then m cell others)
  rows_anywhere n m (Or a b) more others e = ap (λ rest. line_then (codes "1-") (codes "1" ∷ []) (line_then (codes "-1") (codes "1" ∷ []) rest)) e
  rows_anywhere n m (Xor a b) more others e = ap (λ rest. line_then (codes "10") (codes "1" ∷ []) (line_then (codes "01") (codes "1" ∷ []) rest)) e
  rows_anywhere n m (AndNot a b) more others e = ap (λ rest. line_then (codes "10") (codes "1" ∷ []) rest) e

  abbrev names_then : ℕ → Cell → List ℕ → List ℕ
  names_then number cell rest = line_then (codes ".names") (source_name p ins (first_of cell) ∷ source_name p ins (second_of cell) ∷ gate_name p number ∷ []) rest

  cells_anywhere : (n m number : ℕ) (cells : List Cell) (more : List Logical) → worded_text (cell_lines p ins n number cells more) ≡ worded_text (cell_lines p ins m number cells more)
  cells_anywhere n m number [] more = refl
  cells_anywhere n m number (cell ∷ cells) more =
      let past : ℕ → ℕ = λ k. k + 1 + length (cell_rows cell) in
      ap (names_then number cell)
      (rows_anywhere n m cell (cell_lines p ins (past n) (suc number) cells more) (cell_lines p ins (past m) (suc number) cells more) (cells_anywhere (past n) (past m) (suc number) cells more))

  pub cells_next : (here : List ℕ) (n i : ℕ) (cells : List Cell) (cell : Cell) (more : List Logical) → slice_get cells i ≡ Some cell
      → here ++ worded_text (cell_lines p ins n i (drop i cells) more) ≡ here ++ worded_text (cell_lines p ins n i (cell ∷ []) (cell_lines p ins n (i + 1) (drop (i + 1) cells) more))
  cells_next here n i cells cell more e =
      let past = n + 1 + length (cell_rows cell) in
      ap (λ l. here ++ l)
      (ap (λ cs. worded_text (cell_lines p ins n i cs more)) (drop_at cells i cell e)
      ∙ ap (names_then i cell)
      (rows_anywhere n n cell (cell_lines p ins past (suc i) (drop (i + 1) cells) more) (cell_lines p ins n (i + 1) (drop (i + 1) cells) more)
      (cells_anywhere past n (suc i) (drop (i + 1) cells) more ∙ ap (λ k. worded_text (cell_lines p ins n k (drop (i + 1) cells) more)) (sym (add-one i)))))

  pub cells_none : (here : List ℕ) (n i : ℕ) (cells : List Cell) (more : List Logical) → length cells ≤ i → here ++ worded_text (cell_lines p ins n i (drop i cells) more) ≡ here ++ worded_text more
  cells_none here n i cells more past = ap (λ cs. here ++ worded_text (cell_lines p ins n i cs more)) (drop_of_length-le cells past)

  outputs_anywhere : (n m : ℕ) (names : List Name) (sources : List Src) → worded_text (lines_of_outputs p ins n names sources) ≡ worded_text (lines_of_outputs p ins m names sources)
  outputs_anywhere n m [] sources = refl
  outputs_anywhere n m (name ∷ names) [] = refl
  outputs_anywhere n m (name ∷ names) (source ∷ sources) =
      ap (λ rest. line_then (codes ".names") (source_name p ins source ∷ name ∷ []) (line_then (codes "1") (codes "1" ∷ []) rest)) (outputs_anywhere (n + 2) (m + 2) names sources)

  pub outputs_next : (here : List ℕ) (n i : ℕ) (names : List Name) (sources : List Src) (name : Name) (source : Src) → slice_get names i ≡ Some name → slice_get sources i ≡ Some source
      → here ++ worded_text (lines_of_outputs p ins n (drop i names) (drop i sources))
      ≡ here ++ worded_text (worded_line n (codes ".names" ∷ source_name p ins source ∷ name ∷ []) ∷ row n (codes "1") (codes "1") ∷ lines_of_outputs p ins n (drop (i + 1) names) (drop (i + 1) sources))
  outputs_next here n i names sources name source e f =
      ap (λ l. here ++ l)
      (ap₂ (λ ns ss. worded_text (lines_of_outputs p ins n ns ss)) (drop_at names i name e) (drop_at sources i source f)
      ∙ ap (λ rest. line_then (codes ".names") (source_name p ins source ∷ name ∷ []) (line_then (codes "1") (codes "1" ∷ []) rest)) (outputs_anywhere (n + 2) n (drop (i + 1) names) (drop (i + 1) sources)))

  pub outputs_none : (here : List ℕ) (n i : ℕ) (names : List Name) (sources : List Src) → length names ≤ i
      → here ++ worded_text (lines_of_outputs p ins n (drop i names) (drop i sources)) ≡ here ++ worded_text (worded_line n (codes ".end" ∷ []) ∷ [])
  outputs_none here n i names sources past = ap (λ ns. here ++ worded_text (lines_of_outputs p ins n ns (drop i sources))) (drop_of_length-le names past)

-- an item by another name
pub same_at : {X : Type 0} (xs : List X) (i : ℕ) {x y : X} → slice_get xs i ≡ Some x → y ≡ x → slice_get xs i ≡ Some y
same_at xs i e same = e ∙ ap Some (sym same)

-- the first line of a gate
pub gate_line : (p : List ℕ) (ins : List Name) (here : List ℕ) (n number : ℕ) (cell : Cell) (more : List Logical) {a b : Src} → a ≡ first_of cell → b ≡ second_of cell
    → here ++ worded_text (cell_lines p ins n number (cell ∷ []) more)
    ≡ here ++ worded_text (worded_line n (codes ".names" ∷ source_name p ins a ∷ source_name p ins b ∷ gate_name p number ∷ []) ∷ rows_then n cell more)
gate_line p ins here n number cell more e f =
    ap₂ (λ x y. here ++ worded_text (worded_line n (codes ".names" ∷ source_name p ins x ∷ source_name p ins y ∷ gate_name p number ∷ []) ∷ rows_then n cell more)) (sym e) (sym f)

-- the lines of a lift, part by part
abbrev pub output_lines : Lift → List Logical
output_lines lift =
    lines_of_outputs (mark_in lift) lift.ins (line_past_cells (5 + length lift.list.latches) lift.list.cells) lift.outs lift.list.outs

abbrev pub gate_lines : Lift → List Logical
gate_lines lift = cell_lines (mark_in lift) lift.ins (5 + length lift.list.latches) 0 lift.list.cells (output_lines lift)

abbrev pub loop_lines : Lift → List Logical
loop_lines lift = latch_lines (mark_in lift) lift.ins 5 0 lift.list.latches lift.list.starts (gate_lines lift)

pub text_start : (lift : Lift) (here : List ℕ) → here ≡ [] → text_of_lift lift ≡ here ++ worded_text (head_then lift (loop_lines lift))
text_start lift here none =
    ap (λ most. worded_text (lines_with_mark (mark_after most) lift.ins lift.outs lift.list)) (sym lift.marked)
    ∙ ap (λ h. h ++ worded_text (head_then lift (loop_lines lift))) (sym none)
