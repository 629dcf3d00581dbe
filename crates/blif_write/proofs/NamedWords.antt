-- The words of lifted lines are words of a text, where the names of ports are.
use Rattle.std.proofs.Common.{◌≡◌, refl, ap, ap₂, ◌∙◌, ℕ, zero, suc, ◌+◌, ◌<◌, ◌≤◌, ◌^◌, Bool, true, false, ◌&&◌, ◌||◌, not, List, [], ◌∷◌, ◌++◌, map, length, replicate, arith, true≢false, sym}
use Rattle.std.specs.Prelude.{codes, decimal, nat_le, ◌==◌}
use Rattle.std.specs.List.{list_all, list_any}
use Rattle.std.specs.Char.{is_ascii_digit}
use Rattle.std.proofs.lemmas.Bool.{and_from, and_parts, leb-true, ltb-true, ne_eqb}
use Rattle.std.proofs.lemmas.List.Folds.{list_all-append}
use Rattle.std.proofs.lemmas.List.Sums.{AllPass-from_list_all}
use Rattle.std.proofs.lemmas.Fmt.{decimal_is_IsNumeral}
use Rattle.pattern_reading.proofs.PortText.{digits_pass}
use Rattle.blif_text.specs.LogicalLines.{is_space, is_newline, is_hash}
use Rattle.netlist_core.specs.Names.{Name}
use Rattle.blif_text.specs.declared.logical.Logical.{Logical}
use Rattle.cell_core.specs.declared.cells.Src.{Src}
use Rattle.cell_core.specs.declared.cells.Src.TheVariants.{Input, Latch, One, Zero, Cell as Made}
use Rattle.cell_core.specs.declared.cells.Cell.{Cell}
use Rattle.cell_core.specs.declared.cells.Cell.TheVariants.{Or, Xor, AndNot}
use Rattle.cell_core.specs.declared.list.CellList.{CellList}
use Rattle.cell_core.specs.Sources.{is_there, reads_there, are_in_order, are_there}
use Rattle.lifted_designs.specs.Names.{most_leading, zero_name, loop_name, gate_name, source_name}
use Rattle.lifted_designs.specs.Lifted.{cell_rows, first_of, second_of, line_past_cells}
use Rattle.lifted_designs.specs.Lines.{worded_line, row, rows_then, cell_lines, lines_of_outputs, start_word, latch_lines, lines_with_mark, lifted_lines}
use Rattle.lifted_designs.specs.Words.{ends_word, ends_well, is_word, is_line}

-- a byte that neither ends a word nor is a `\`
abbrev is_plain : ℕ → Bool
is_plain b = not (b == 92) && not (ends_word b)

not_or_left : (a b : Bool) → not (a || b) ≡ true → not a ≡ true
not_or_left true b e = e
not_or_left false b e = refl

plain_no_space : (b : ℕ) → is_plain b ≡ true → not (is_space b) ≡ true
plain_no_space b e =
    not_or_left (is_space b) (is_newline b) (not_or_left (is_space b || is_newline b) (is_hash b) (and_parts (not (b == 92)) (not (ends_word b)) e).1)

plain_ends_well : (b : ℕ) (w : List ℕ) → list_all is_plain (b ∷ w) ≡ true → ends_well (b ∷ w) ≡ true
plain_ends_well b [] e =
    let own : is_plain b ≡ true = (and_parts (is_plain b) true e).0 in
    and_from (not (b == 92)) (not (is_space b)) (and_parts (not (b == 92)) (not (ends_word b)) own).0 (plain_no_space b own)
plain_ends_well b (c ∷ w) e = plain_ends_well c w (and_parts (is_plain b) (list_all is_plain (c ∷ w)) e).1

not_true : (b : Bool) → not b ≡ true → b ≡ false
not_true true e = absurd (true≢false (sym e))
not_true false e = refl

plain_whole : (w : List ℕ) → list_all is_plain w ≡ true → list_any ends_word w ≡ false
plain_whole [] e = refl
plain_whole (b ∷ w) e =
    let parts = and_parts (is_plain b) (list_all is_plain w) e in
    let own : ends_word b ≡ false = not_true (ends_word b) (and_parts (not (b == 92)) (not (ends_word b)) parts.0).1 in
    ap₂ (λ x y. x || y) own (plain_whole w parts.1)

plain_is_word : (b : ℕ) (w : List ℕ) → list_all is_plain (b ∷ w) ≡ true → is_word (b ∷ w) ≡ true
plain_is_word b w e = and_from (ends_well (b ∷ w)) (not (list_any ends_word (b ∷ w))) (plain_ends_well b w e) (ap not (plain_whole (b ∷ w) e))

-- names with `_` in front
marked : (n : ℕ) → list_all is_plain (replicate n 95) ≡ true
marked zero = refl
marked (suc n) = marked n

some_is_word : (w : List ℕ) → 0 < length w → list_all is_plain w ≡ true → is_word w ≡ true
some_is_word [] some e = absurd (omega (arith, some))
some_is_word (b ∷ w) some e = plain_is_word b w e

digit_plain : (b : ℕ) → is_ascii_digit b ≡ true → is_plain b ≡ true
digit_plain b e =
    let low : 48 ≤ b = leb-true 48 b (and_parts (nat_le 48 b) (nat_le b 57) e).0 in
    let high : b ≤ 57 = leb-true b 57 (and_parts (nat_le 48 b) (nat_le b 57) e).1 in
    rw (
      ne_eqb b 92 (λ h. omega (arith, high, h)),
      ne_eqb b 9 (λ h. omega (arith, low, h)),
      ne_eqb b 11 (λ h. omega (arith, low, h)),
      ne_eqb b 12 (λ h. omega (arith, low, h)),
      ne_eqb b 13 (λ h. omega (arith, low, h)),
      ne_eqb b 32 (λ h. omega (arith, low, h)),
      ne_eqb b 10 (λ h. omega (arith, low, h)),
      ne_eqb b 35 (λ h. omega (arith, low, h)),
    ) refl

digits_plain : (w : List ℕ) → list_all is_ascii_digit w ≡ true → list_all is_plain w ≡ true
digits_plain [] e = refl
digits_plain (b ∷ w) e =
    let parts = and_parts (is_ascii_digit b) (list_all is_ascii_digit w) e in
    and_from (is_plain b) (list_all is_plain w) (digit_plain b parts.0) (digits_plain w parts.1)

decimal_plain : (n : ℕ) → n < 2 ^ 64 → list_all is_plain (decimal n) ≡ true
decimal_plain n small = digits_plain (decimal n) (digits_pass (decimal n) (decimal_is_IsNumeral n small).0.1)

marked_word : (n b : ℕ) (w : List ℕ) → is_plain b ≡ true → list_all is_plain w ≡ true → is_word (replicate n 95 ++ b ∷ w) ≡ true
marked_word n b w e f =
    some_is_word (replicate n 95 ++ b ∷ w) (some n)
    (list_all-append is_plain (replicate n 95) (b ∷ w) ∙ and_from (list_all is_plain (replicate n 95)) (list_all is_plain (b ∷ w)) (marked n) (and_from (is_plain b) (list_all is_plain w) e f))
  where
    some : (n : ℕ) → 0 < length (replicate n 95 ++ b ∷ w)
    some zero = omega arith
    some (suc n) = omega arith

-- the lines have words alone
abbrev AreWords : List Logical → Type 0
AreWords lines = list_all is_line (map (λ line. line.words) lines) ≡ true

word_line : (n : ℕ) (w : List ℕ) (ws : List (List ℕ)) (lines : List Logical) → is_word w ≡ true → list_all is_word ws ≡ true → AreWords lines → AreWords (worded_line n (w ∷ ws) ∷ lines)
word_line n w ws lines e f h =
    and_from (is_line (w ∷ ws)) (list_all is_line (map (λ line. line.words) lines)) (and_from (is_word w) (list_all is_word ws) e f) h

and_word : (w : List ℕ) (ws : List (List ℕ)) → is_word w ≡ true → list_all is_word ws ≡ true → list_all is_word (w ∷ ws) ≡ true
and_word w ws e f = and_from (is_word w) (list_all is_word ws) e f

word_rows : (n : ℕ) (cell : Cell) (more : List Logical) → AreWords more → AreWords (rows_then n cell more)
word_rows n (Or a b) more h =
    word_line (n + 1) (codes "1-") (codes "1" ∷ []) (row (n + 1 + 1) (codes "-1") (codes "1") ∷ more) refl refl (word_line (n + 1 + 1) (codes "-1") (codes "1" ∷ []) more refl refl h)
word_rows n (Xor a b) more h =
    word_line (n + 1) (codes "10") (codes "1" ∷ []) (row (n + 1 + 1) (codes "01") (codes "1") ∷ more) refl refl (word_line (n + 1 + 1) (codes "01") (codes "1" ∷ []) more refl refl h)
word_rows n (AndNot a b) more h = word_line (n + 1) (codes "10") (codes "1" ∷ []) more refl refl h

start_is_word : (start : Bool) → is_word (start_word start) ≡ true
start_is_word true = refl
start_is_word false = refl

module _ (k : ℕ) (ins : List Name) (inputs latches : ℕ) (long : length ins ≡ inputs) (few_latches : latches < 2 ^ 64) (own : list_all is_word ins ≡ true) where
  source_is_word : (made : ℕ) (source : Src) → made < 2 ^ 64 → is_there inputs latches made source ≡ true → is_word (source_name (replicate k 95) ins source) ≡ true
  source_is_word made (Input i) few h =
      let below : i < inputs = ltb-true i inputs h in
      AllPass-from_list_all is_word ins own i [] (omega (arith, below, long))
  source_is_word made (Latch i) few h =
      let below : i < latches = ltb-true i latches h in
      marked_word k 113 (decimal i) refl (decimal_plain i (omega (arith, below, few_latches)))
  source_is_word made One few h = marked_word k 122 [] refl refl
  source_is_word made Zero few h = marked_word k 122 [] refl refl
  source_is_word made (Made i) few h =
      let below : i < made = ltb-true i made h in
      marked_word k 103 (decimal i) refl (decimal_plain i (omega (arith, below, few)))

  first_there : (made : ℕ) (cell : Cell) → reads_there inputs latches made cell ≡ true → is_there inputs latches made (first_of cell) ≡ true
  first_there made (Or a b) h = (and_parts _ _ h).0
  first_there made (Xor a b) h = (and_parts _ _ h).0
  first_there made (AndNot a b) h = (and_parts _ _ h).0

  second_there : (made : ℕ) (cell : Cell) → reads_there inputs latches made cell ≡ true → is_there inputs latches made (second_of cell) ≡ true
  second_there made (Or a b) h = (and_parts _ _ h).1
  second_there made (Xor a b) h = (and_parts _ _ h).1
  second_there made (AndNot a b) h = (and_parts _ _ h).1

  word_cells : (n number : ℕ) (cells : List Cell) (more : List Logical) → number + length cells < 2 ^ 64 → are_in_order inputs latches number cells ≡ true → AreWords more
      → AreWords (cell_lines (replicate k 95) ins n number cells more)
  word_cells n number [] more few h e = e
  word_cells n number (cell ∷ cells) more few h e =
      let parts = and_parts (reads_there inputs latches number cell) (are_in_order inputs latches (suc number) cells) h in
      let all : number + suc (length cells) < 2 ^ 64 = few in
      let small : number < 2 ^ 64 = omega (arith, all) in
      let fewer : suc number + length cells < 2 ^ 64 = omega (arith, all) in
      let later = cell_lines (replicate k 95) ins (n + 1 + length (cell_rows cell)) (suc number) cells more in
      let a = source_name (replicate k 95) ins (first_of cell) in
      let b = source_name (replicate k 95) ins (second_of cell) in
      let o = gate_name (replicate k 95) number in
      word_line n (codes ".names") (a ∷ b ∷ o ∷ []) (rows_then n cell later) refl
      (and_word a (b ∷ o ∷ []) (source_is_word number (first_of cell) small (first_there number cell parts.0))
      (and_word b (o ∷ []) (source_is_word number (second_of cell) small (second_there number cell parts.0))
      (and_word o [] (marked_word k 103 (decimal number) refl (decimal_plain number small)) refl)))
      (word_rows n cell later (word_cells (n + 1 + length (cell_rows cell)) (suc number) cells more fewer parts.1 e))

  word_outputs : (made n : ℕ) (names : List Name) (sources : List Src) → made < 2 ^ 64 → list_all is_word names ≡ true → are_there inputs latches made sources ≡ true
      → AreWords (lines_of_outputs (replicate k 95) ins n names sources)
  word_outputs made n [] sources few e h = refl
  word_outputs made n (name ∷ names) [] few e h = refl
  word_outputs made n (name ∷ names) (source ∷ sources) few e h =
      let words = and_parts (is_word name) (list_all is_word names) e in
      let there = and_parts (is_there inputs latches made source) (are_there inputs latches made sources) h in
      let a = source_name (replicate k 95) ins source in
      let later = lines_of_outputs (replicate k 95) ins (n + 2) names sources in
      word_line n (codes ".names") (a ∷ name ∷ []) (row (n + 1) (codes "1") (codes "1") ∷ later) refl
      (and_word a (name ∷ []) (source_is_word made source few there.0) (and_word name [] words.0 refl))
      (word_line (n + 1) (codes "1") (codes "1" ∷ []) later refl refl (word_outputs made (n + 2) names sources few words.1 there.1))

  word_latches : (made n number : ℕ) (sources : List Src) (starts : List Bool) (more : List Logical) → made < 2 ^ 64 → number + length sources < 2 ^ 64 → are_there inputs latches made sources ≡ true
      → AreWords more → AreWords (latch_lines (replicate k 95) ins n number sources starts more)
  word_latches made n number [] starts more few some h e = e
  word_latches made n number (source ∷ sources) [] more few some h e = e
  word_latches made n number (source ∷ sources) (start ∷ starts) more few some h e =
      let all : number + suc (length sources) < 2 ^ 64 = some in
      let small : number < 2 ^ 64 = omega (arith, all) in
      let fewer : suc number + length sources < 2 ^ 64 = omega (arith, all) in
      let there = and_parts (is_there inputs latches made source) (are_there inputs latches made sources) h in
      let a = source_name (replicate k 95) ins source in
      let o = loop_name (replicate k 95) number in
      let later = latch_lines (replicate k 95) ins (suc n) (suc number) sources starts more in
      word_line n (codes ".latch") (a ∷ o ∷ start_word start ∷ []) later refl
      (and_word a (o ∷ start_word start ∷ []) (source_is_word made source few there.0)
      (and_word o (start_word start ∷ []) (marked_word k 113 (decimal number) refl (decimal_plain number small)) (and_word (start_word start) [] (start_is_word start) refl)))
      (word_latches made (suc n) (suc number) sources starts more few fewer there.1 e)

words_with_mark : (k : ℕ) (ins outs : List Name) (list : CellList) → length ins ≡ list.inputs → list_all is_word ins ≡ true → list_all is_word outs ≡ true → length list.cells < 2 ^ 64
    → length list.latches < 2 ^ 64 → AreWords (lines_with_mark (replicate k 95) ins outs list)
words_with_mark k ins outs list long ins_own outs_own few_cells few_latches =
    let p : List ℕ = replicate k 95 in
    let loops : length list.starts < 2 ^ 64 = omega (arith, few_latches, list.starts_fit) in
    let all_latches : 0 + length list.latches < 2 ^ 64 = omega (arith, few_latches) in
    let all_cells : 0 + length list.cells < 2 ^ 64 = omega (arith, few_cells) in
    let after_latches = 5 + length list.latches in
    let past = line_past_cells after_latches list.cells in
    let outputs = lines_of_outputs p ins past outs list.outs in
    let cells = cell_lines p ins after_latches 0 list.cells outputs in
    let latches = latch_lines p ins 5 0 list.latches list.starts cells in
    let zero_line = worded_line 4 (codes ".names" ∷ zero_name p ∷ []) in
    let outs_line = worded_line 3 (codes ".outputs" ∷ outs) in
    let ins_line = worded_line 2 (codes ".inputs" ∷ ins) in
    word_line 1 (codes ".model") (codes "lifted" ∷ []) (ins_line ∷ outs_line ∷ zero_line ∷ latches) refl refl
    (word_line 2 (codes ".inputs") ins (outs_line ∷ zero_line ∷ latches) refl ins_own
    (word_line 3 (codes ".outputs") outs (zero_line ∷ latches) refl outs_own
    (word_line 4 (codes ".names") (zero_name p ∷ []) latches refl (and_word (zero_name p) [] (marked_word k 122 [] refl refl) refl)
    (word_latches k ins list.inputs (length list.starts) long loops ins_own (length list.cells) 5 0 list.latches list.starts cells few_cells all_latches list.latches_there
    (word_cells k ins list.inputs (length list.starts) long loops ins_own after_latches 0 list.cells outputs all_cells list.in_order
    (word_outputs k ins list.inputs (length list.starts) long loops ins_own (length list.cells) past outs list.outs few_cells outs_own list.outs_there))))))

pub lifted_are_words : (ins outs : List Name) (list : CellList) → length ins ≡ list.inputs → list_all is_word ins ≡ true → list_all is_word outs ≡ true → length list.cells < 2 ^ 64
    → length list.latches < 2 ^ 64 → list_all is_line (map (λ line. line.words) (lifted_lines ins outs list)) ≡ true
lifted_are_words ins outs list long ins_own outs_own few_cells few_latches =
    words_with_mark (most_leading (ins ++ outs) + 1) ins outs list long ins_own outs_own few_cells few_latches
