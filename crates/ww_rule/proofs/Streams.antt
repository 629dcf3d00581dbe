-- What streams of bits make due.
use Rattle.std.proofs.Common.{ℤ, pos, ℕ, zero, suc, ◌+◌, ◌*◌, ◌<◌, ◌≡◌, refl, sym, ap, ◌∙◌, ◌↔◌, subst, inl, inr, Bool, true, false, ◌&&◌, ◌||◌, List, [], ◌∷◌, ◌++◌, length, get_or, arith, ◌==◌}
use Rattle.std.proofs.lemmas.Bool.{and_parts, and_from, or_cases, true≢false, eqb-true, eq-eqb}
use Rattle.std.proofs.lemmas.Bool.Decides.{Decides-int_eq}
use Rattle.std.proofs.lemmas.List.{get_or_past}
use Rattle.std.specs.Ordering.{int_eq}
use Rattle.ww_rule.specs.declared.pattern.Injection.{Injection}
use Rattle.ww_rule.specs.Injections.{due_of_list, due_of_streams, injections_of_row, injections_from}
use Rattle.ww_rule.specs.Laws.{IsBitOfStreams}
use Rattle.ww_rule.proofs.Finite.{due_of_cons}
use Rattle.std.proofs.lemmas.Bool.{or_left, or_right}
use Rattle.std.proofs.Math.Bool.{or_assoc}

pub due_of_append : (is js : List Injection) (g : ℕ) (x y : ℤ) → due_of_list (is ++ js) g x y ≡ (due_of_list is g x y || due_of_list js g x y)
due_of_append [] js g x y = refl
due_of_append (i ∷ is) js g x y =
    let here = i.generation == g && (int_eq (pos i.x) x && int_eq (pos i.y) y) in
    due_of_cons i (is ++ js) g x y
    ∙ ap (λ b. here || b) (due_of_append is js g x y)
    ∙ sym (or_assoc here (due_of_list is g x y) (due_of_list js g x y))
    ∙ sym (ap (λ b. b || due_of_list js g x y) (due_of_cons i is g x y))

-- input i of a row has bit 1, and its cell is x, y
record IsBitOfRow (cells : List (ℕ × ℕ)) (bits : List Bool) (x y : ℤ) : Type 0 where
  input : ℕ
  within : input < length cells
  one : get_or bits input false ≡ true
  column : pos (get_or cells input (0, 0)).0 ≡ x
  line : pos (get_or cells input (0, 0)).1 ≡ y

next_input : (cell : ℕ × ℕ) (cells : List (ℕ × ℕ)) (bit : Bool) (bits : List Bool) (x y : ℤ) → IsBitOfRow cells bits x y → IsBitOfRow (cell ∷ cells) (bit ∷ bits) x y
next_input cell cells bit bits x y h =
    record { input = suc h.input; within = let lt = h.within in omega (arith, lt); one = h.one; column = h.column; line = h.line }

abbrev one_injection : (h : ℕ) (cell : ℕ × ℕ) → Injection
one_injection h cell = record { generation = h; x = cell.0; y = cell.1 }

row_bit : (h g : ℕ) (cells : List (ℕ × ℕ)) (bits : List Bool) (x y : ℤ) → due_of_list (injections_of_row h cells bits) g x y ≡ true → (h ≡ g) × IsBitOfRow cells bits x y
row_bit h g [] bits x y e = absurd (true≢false (sym e))
row_bit h g (cell ∷ cells) [] x y e = absurd (true≢false (sym e))
row_bit h g (cell ∷ cells) (false ∷ bits) x y e =
    let rest = row_bit h g cells bits x y e in
    (rest.0, next_input cell cells false bits x y rest.1)
row_bit h g (cell ∷ cells) (true ∷ bits) x y e =
    let at_cell = int_eq (pos cell.0) x && int_eq (pos cell.1) y in
    elim (or_cases (h == g && at_cell) (due_of_list (injections_of_row h cells bits) g x y) (sym (due_of_cons (one_injection h cell) (injections_of_row h cells bits) g x y) ∙ e)) [
      | inl here ↦
          let now = and_parts (h == g) at_cell here in
          let at = and_parts (int_eq (pos cell.0) x) (int_eq (pos cell.1) y) now.1 in
          (eqb-true h g now.0, record { input = 0; within = omega arith; one = refl; column = (Decides-int_eq (pos cell.0) x).0 at.0; line = (Decides-int_eq (pos cell.1) y).0 at.1 })
      | inr later ↦
          let rest = row_bit h g cells bits x y later in
          (rest.0, next_input cell cells true bits x y rest.1)
    ]

bit_row : (h : ℕ) (cells : List (ℕ × ℕ)) (bits : List Bool) (x y : ℤ) (input : ℕ) → input < length cells → get_or bits input false ≡ true → pos (get_or cells input (0, 0)).0 ≡ x → pos (get_or cells input (0, 0)).1 ≡ y → due_of_list (injections_of_row h cells bits) h x y ≡ true
bit_row h [] bits x y input within one column line = absurd (omega arith)
bit_row h (cell ∷ cells) [] x y input within one column line =
    absurd (true≢false (sym one ∙ get_or_past [] input false (omega arith)))
bit_row h (cell ∷ cells) (false ∷ bits) x y zero within one column line = absurd (true≢false (sym one))
bit_row h (cell ∷ cells) (true ∷ bits) x y zero within one column line =
    let at_cell = int_eq (pos cell.0) x && int_eq (pos cell.1) y in
    due_of_cons (one_injection h cell) (injections_of_row h cells bits) h x y
    ∙ or_left (h == h && at_cell) (due_of_list (injections_of_row h cells bits) h x y) (and_from (h == h) at_cell (eq-eqb h h refl) (and_from (int_eq (pos cell.0) x) (int_eq (pos cell.1) y) ((Decides-int_eq (pos cell.0) x).1 column) ((Decides-int_eq (pos cell.1) y).1 line)))
bit_row h (cell ∷ cells) (false ∷ bits) x y (suc input) within one column line =
    bit_row h cells bits x y input (omega arith) one column line
bit_row h (cell ∷ cells) (true ∷ bits) x y (suc input) within one column line =
    let at_cell = int_eq (pos cell.0) x && int_eq (pos cell.1) y in
    due_of_cons (one_injection h cell) (injections_of_row h cells bits) h x y
    ∙ or_right (h == h && at_cell) (due_of_list (injections_of_row h cells bits) h x y) (bit_row h cells bits x y input (omega arith) one column line)

-- in a cycle of the rows, the first of which is at generation h, an input has bit 1, and its cell is x, y
record IsBitFrom (h period : ℕ) (cells : List (ℕ × ℕ)) (rows : List (List Bool)) (g : ℕ) (x y : ℤ) : Type 0 where
  cycle : ℕ
  in_time : h + cycle * period ≡ g
  bit : IsBitOfRow cells (get_or rows cycle []) x y

rows_bit : (h period : ℕ) (cells : List (ℕ × ℕ)) (rows : List (List Bool)) (g : ℕ) (x y : ℤ) → due_of_list (injections_from h period cells rows) g x y ≡ true → IsBitFrom h period cells rows g x y
rows_bit h period cells [] g x y e = absurd (true≢false (sym e))
rows_bit h period cells (row ∷ rows) g x y e =
    let first = injections_of_row h cells row in
    let others = injections_from (h + period) period cells rows in
    elim (or_cases (due_of_list first g x y) (due_of_list others g x y) (sym (due_of_append first others g x y) ∙ e)) [
      | inl here ↦
          let bit = row_bit h g cells row x y here in
          let now : h ≡ g = bit.0 in
          record { cycle = 0; in_time = omega arith; bit = bit.1 }
      | inr later ↦
          let rest = rows_bit (h + period) period cells rows g x y later in
          let t : h + period + rest.cycle * period ≡ g = rest.in_time in
          record { cycle = suc rest.cycle; in_time = omega arith; bit = rest.bit }
    ]

bit_rows : (h period : ℕ) (cells : List (ℕ × ℕ)) (rows : List (List Bool)) (g : ℕ) (x y : ℤ) (cycle : ℕ) → h + cycle * period ≡ g → IsBitOfRow cells (get_or rows cycle []) x y → due_of_list (injections_from h period cells rows) g x y ≡ true
bit_rows h period cells [] g x y cycle t bit =
    let none : get_or (get_or {A = List Bool} [] cycle []) bit.input false ≡ false = get_or_past [] bit.input false (omega arith) in
    absurd (true≢false (sym bit.one ∙ none))
bit_rows h period cells (row ∷ rows) g x y zero t bit =
    let first = injections_of_row h cells row in
    let others = injections_from (h + period) period cells rows in
    let now : h ≡ g = omega arith in
    due_of_append first others g x y
    ∙ or_left (due_of_list first g x y) (due_of_list others g x y) (subst (λ g. due_of_list first g x y ≡ true) now (bit_row h cells row x y bit.input bit.within bit.one bit.column bit.line))
bit_rows h period cells (row ∷ rows) g x y (suc cycle) t bit =
    let first = injections_of_row h cells row in
    let others = injections_from (h + period) period cells rows in
    let later : h + period + cycle * period ≡ g = omega arith in
    due_of_append first others g x y
    ∙ or_right (due_of_list first g x y) (due_of_list others g x y) (bit_rows (h + period) period cells rows g x y cycle later bit)

pub streams_injected : (period : ℕ) (cells : List (ℕ × ℕ)) (rows : List (List Bool)) (g : ℕ) (x y : ℤ) → (due_of_streams period cells rows g x y ≡ true) ↔ IsBitOfStreams period cells rows g x y
streams_injected period cells rows g x y = (
  λ e. let h = rows_bit 0 period cells rows g x y e in let t : 0 + h.cycle * period ≡ g = h.in_time in record { cycle = h.cycle; input = h.bit.input; in_time = omega arith; in_cells = h.bit.within; one = h.bit.one; column = h.bit.column; line = h.bit.line },
  λ h. let t : h.cycle * period ≡ g = h.in_time in bit_rows 0 period cells rows g x y h.cycle (omega arith) (record { input = h.input; within = h.in_cells; one = h.one; column = h.column; line = h.line }),
)
