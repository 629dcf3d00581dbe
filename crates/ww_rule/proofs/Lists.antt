-- What a list of injections makes due, and streams that go on.
use Rattle.std.proofs.Common.{ℤ, pos, ℕ, zero, suc, ◌-◌, ◌*◌, ◌<◌, ◌≤◌, ◌≡◌, refl, sym, ap, ◌∙◌, inl, inr, Bool, true, false, ◌&&◌, ◌==◌, List, [], ◌∷◌, ◌++◌, length, get_or, arith}
use Rattle.std.specs.Prelude.{All, Contains}
use Rattle.std.specs.Ordering.{int_eq}
use Rattle.std.proofs.lemmas.Bool.{and_parts, and_from, or_cases, cases_lt, true≢false, eqb-true, eq-eqb}
use Rattle.std.proofs.lemmas.Bool.Decides.{Decides-int_eq}
use Rattle.std.proofs.lemmas.List.{get_or_past}
use Rattle.std.proofs.lemmas.List.Elements.{All-get_or}
use Rattle.std.proofs.Math.Nat.{lt_of_mul-lt-mul_right}
use Rattle.std.proofs.Math.ListN.{get_or-append}
use Rattle.std.proofs.Math.Seq.{get_or-append_right}
use Rattle.ww_rule.specs.declared.pattern.Injection.{Injection}
use Rattle.ww_rule.specs.Wireworld.{Plane}
use Rattle.ww_rule.specs.Injections.{due_of_list, due_of_streams}
use Rattle.ww_rule.specs.Laws.{IsBitOfStreams}
use Rattle.ww_rule.specs.DrivenLaws.{IsInjectionOf, ListsAreInjected, StepsWithInjections, StreamsGoOn}
use Rattle.ww_rule.proofs.Finite.{due_of_cons}
use Rattle.ww_rule.proofs.Streams.{streams_injected}
use Rattle.std.proofs.lemmas.Bool.{or_left, or_right}
use Rattle.ww_rule.proofs.DrivenPlanes.{is_causal}
use Rattle.std.specs.Cmp.{both_ways}

pub steps_with_injections : (injections : List Injection) (p : Plane) → StepsWithInjections injections p
steps_with_injections injections p = record { begins = refl; steps = λ g. refl }

is_injection : (is : List Injection) (g : ℕ) (x y : ℤ) → due_of_list is g x y ≡ true → IsInjectionOf is g x y
is_injection [] g x y e = absurd (true≢false (sym e))
is_injection (i ∷ is) g x y e =
    elim (or_cases (i.generation == g && (int_eq (pos i.x) x && int_eq (pos i.y) y)) (due_of_list is g x y) (sym (due_of_cons i is g x y) ∙ e)) [
      | inl here ↦
          let now = and_parts (i.generation == g) (int_eq (pos i.x) x && int_eq (pos i.y) y) here in
          let at = and_parts (int_eq (pos i.x) x) (int_eq (pos i.y) y) now.1 in
          record { injection = i; is_in = (0, omega arith, refl); in_time = eqb-true i.generation g now.0; column = (Decides-int_eq (pos i.x) x).0 at.0; row = (Decides-int_eq (pos i.y) y).0 at.1 }
      | inr later ↦
          let h = is_injection is g x y later in
          record { injection = h.injection; is_in = (suc h.is_in.0, let lt = h.is_in.1 in omega (arith, lt), h.is_in.2); in_time = h.in_time; column = h.column; row = h.row }
    ]

is_due : (is : List Injection) (g : ℕ) (x y : ℤ) (i : Injection) (k : ℕ) → k < length is → get_or is k i ≡ i → i.generation ≡ g → pos i.x ≡ x → pos i.y ≡ y → due_of_list is g x y ≡ true
is_due [] g x y i k lt e t c r = absurd (omega arith)
is_due (j ∷ is) g x y i zero lt e t c r =
    let here = j.generation == g && (int_eq (pos j.x) x && int_eq (pos j.y) y) in
    due_of_cons j is g x y
    ∙ or_left here (due_of_list is g x y) (and_from (j.generation == g) (int_eq (pos j.x) x && int_eq (pos j.y) y) (eq-eqb j.generation g (ap (λ i. i.generation) e ∙ t)) (and_from (int_eq (pos j.x) x) (int_eq (pos j.y) y) ((Decides-int_eq (pos j.x) x).1 (ap (λ i. pos i.x) e ∙ c)) ((Decides-int_eq (pos j.y) y).1 (ap (λ i. pos i.y) e ∙ r))))
is_due (j ∷ is) g x y i (suc k) lt e t c r =
    let here = j.generation == g && (int_eq (pos j.x) x && int_eq (pos j.y) y) in
    due_of_cons j is g x y ∙ or_right here (due_of_list is g x y) (is_due is g x y i k (omega arith) e t c r)

of_injection : (is : List Injection) (g : ℕ) (x y : ℤ) → IsInjectionOf is g x y → due_of_list is g x y ≡ true
of_injection is g x y h =
    is_due is g x y h.injection h.is_in.0 h.is_in.1 (h.is_in.2) h.in_time h.column h.row

other_list : (is js : List Injection) → ((i : Injection) → Contains is i → Contains js i) → (g : ℕ) (x y : ℤ) → due_of_list is g x y ≡ true → due_of_list js g x y ≡ true
other_list is js all g x y e =
    let h = is_injection is g x y e in
    of_injection js g x y (record { injection = h.injection; is_in = all h.injection h.is_in; in_time = h.in_time; column = h.column; row = h.row })

pub lists_are_injected : ListsAreInjected
lists_are_injected =
    record {
      exactly = λ is g x y. (is_injection is g x y, of_injection is g x y);
      in_any_order = λ is js same p g.
          is_causal (due_of_list is) (due_of_list js) p g (λ h x y le. both_ways (due_of_list is h x y) (due_of_list js h x y) (other_list is js (λ i. (same i).0) h x y) (other_list js is (λ i. (same i).1) h x y));
    }

-- a bit of rows that stand before others, and one of the others
front_row : (rows later : List (List Bool)) (cycle : ℕ) → cycle < length rows → get_or (rows ++ later) cycle [] ≡ get_or rows cycle []
front_row rows later cycle h = get_or-append rows later [] cycle h

-- a bit that is 1 stands in one of the rows
row_of_bit : (rows : List (List Bool)) (cycle input : ℕ) → get_or (get_or rows cycle []) input false ≡ true → cycle < length rows
row_of_bit rows cycle input one =
    elim (cases_lt cycle (length rows)) [
      | inl lt ↦ lt
      | inr ge ↦ absurd (true≢false (sym one ∙ ap (λ row. get_or row input false) (get_or_past rows cycle [] ge)))
    ]

with_row : (period : ℕ) (cells : List (ℕ × ℕ)) (rows others : List (List Bool)) (g : ℕ) (x y : ℤ) (h : IsBitOfStreams period cells rows g x y) → get_or others h.cycle [] ≡ get_or rows h.cycle [] → IsBitOfStreams period cells others g x y
with_row period cells rows others g x y h e =
    record { cycle = h.cycle; input = h.input; in_time = h.in_time; in_cells = h.in_cells; one = ap (λ row. get_or row h.input false) e ∙ h.one; column = h.column; line = h.line }

-- where each bit that is due by the rows and the later ones stands in the rows, the later ones change nothing
due_of_front : (period : ℕ) (cells : List (ℕ × ℕ)) (rows later : List (List Bool)) (g : ℕ) (x y : ℤ) → ((h : IsBitOfStreams period cells (rows ++ later) g x y) → h.cycle < length rows) → due_of_streams period cells (rows ++ later) g x y ≡ due_of_streams period cells rows g x y
due_of_front period cells rows later g x y in_front =
    both_ways (due_of_streams period cells (rows ++ later) g x y) (due_of_streams period cells rows g x y)
    (λ e. let h = (streams_injected period cells (rows ++ later) g x y).0 e in (streams_injected period cells rows g x y).1 (with_row period cells (rows ++ later) rows g x y h (sym (front_row rows later h.cycle (in_front h)))))
    (λ e. let h = (streams_injected period cells rows g x y).0 e in (streams_injected period cells (rows ++ later) g x y).1 (with_row period cells rows (rows ++ later) g x y h (front_row rows later h.cycle (row_of_bit rows h.cycle h.input h.one))))

in_time : (period cycles cycle g h : ℕ) → cycle * period ≡ h → h ≤ g → g < cycles * period → cycle < cycles
in_time period cycles cycle g h e le lt = lt_of_mul-lt-mul_right period (omega arith)

pub no_bit : (later : List (List Bool)) (cycle input : ℕ) → All (λ row. All (λ bit. bit ≡ false) row) later → get_or (get_or later cycle []) input false ≡ false
no_bit later cycle input zeros =
    elim (cases_lt cycle (length later)) [
      | inr ge ↦ ap (λ row. get_or row input false) (get_or_past later cycle [] ge)
      | inl lt ↦
          let row = get_or later cycle [] in
          let zero_row : All (λ bit. bit ≡ false) row = All-get_or (λ row. All (λ bit. bit ≡ false) row) later cycle [] lt zeros in
          elim (cases_lt input (length row)) [
            | inr ge ↦ get_or_past row input false ge
            | inl here ↦ All-get_or (λ bit. bit ≡ false) row input false here zero_row
          ]
    ]

not_later : (period : ℕ) (cells : List (ℕ × ℕ)) (rows later : List (List Bool)) (g : ℕ) (x y : ℤ) → All (λ row. All (λ bit. bit ≡ false) row) later → (h : IsBitOfStreams period cells (rows ++ later) g x y) → h.cycle < length rows
not_later period cells rows later g x y zeros h =
    elim (cases_lt h.cycle (length rows)) [
      | inl lt ↦ lt
      | inr ge ↦ absurd (true≢false (sym h.one ∙ ap (λ row. get_or row h.input false) (get_or-append_right rows later h.cycle [] ge) ∙ no_bit later (h.cycle - length rows) h.input zeros))
    ]

pub streams_go_on : (period : ℕ) (cells : List (ℕ × ℕ)) (rows later : List (List Bool)) → StreamsGoOn period cells rows later
streams_go_on period cells rows later =
    record {
      before = λ p g lt. is_causal (due_of_streams period cells (rows ++ later)) (due_of_streams period cells rows) p g (λ h x y le. due_of_front period cells rows later h x y (λ b. in_time period (length rows) b.cycle g h b.in_time le lt));
      rest = λ zeros p g. is_causal (due_of_streams period cells (rows ++ later)) (due_of_streams period cells rows) p g (λ h x y le. due_of_front period cells rows later h x y (not_later period cells rows later h x y zeros));
    }
