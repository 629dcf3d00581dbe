-- What the rows of contexts make due.
use Rattle.std.proofs.Common.{ℤ, pos, ℕ, zero, suc, ◌+◌, ◌-◌, ◌*◌, ◌<◌, ◌≤◌, ◌≡◌, refl, sym, ap, ◌∙◌, Bool, true, false, ◌||◌, List, [], ◌∷◌, ◌++◌, map, length, get_or, ⊎_elim, arith}
use Rattle.std.specs.Prelude.{◌↔◌, nat_le, All, Contains}
use Rattle.std.specs.Cmp.{both_ways}
use Rattle.std.proofs.Math.Path.{fun_ext}
use Rattle.std.proofs.Math.Bool.{or-false, and-false}
use Rattle.std.proofs.Math.ListN.{get_or-append}
use Rattle.std.proofs.Math.Nat.{mul-le-mul_right, suc-mul}
use Rattle.std.proofs.Math.Seq.{get_or-append_right}
use Rattle.std.proofs.lemmas.Bool.{true≢false, and_parts, and_from, or_cases, or_left, or_right, cases_lt}
use Rattle.std.proofs.lemmas.Bool.Decides.{nat_tests}
use Rattle.std.proofs.lemmas.List.{get_or-map, get_or_past, length-map}
use Rattle.ww_rule.specs.declared.pattern.Injection.{Injection}
use Rattle.ww_rule.specs.Wireworld.{Due}
use Rattle.ww_rule.specs.Injections.{due_of_list, due_of_streams}
use Rattle.ww_rule.specs.Contexts.{due_later, due_of_contexts, context_row, IsBitOfContexts, ContextsAreInjected}
use Rattle.ww_rule.proofs.Streams.{streams_injected}
use Rattle.ww_rule.proofs.Lists.{lists_are_injected, no_bit}

-- what is due so many generations later is due after them
due_before : (generations : ℕ) (due : Due) (g : ℕ) (x y : ℤ) → due_later generations due g x y ≡ true → (generations ≤ g) × (due (g - generations) x y ≡ true)
due_before generations due g x y e =
    let parts = and_parts (nat_le generations g) (due (g - generations) x y) e in
    (grind (arith, nat_tests, parts.0), parts.1)

due_after : (generations : ℕ) (due : Due) (g : ℕ) (x y : ℤ) → generations ≤ g → due (g - generations) x y ≡ true → due_later generations due g x y ≡ true
due_after generations due g x y late e =
    and_from (nat_le generations g) (due (g - generations) x y) (grind (arith, nat_tests, late)) e

to_bit : (period : ℕ) (cells : List (ℕ × ℕ)) (contexts : List (List (List Bool))) (g : ℕ) (x y : ℤ) → due_of_contexts period cells contexts g x y ≡ true → IsBitOfContexts period cells contexts g x y
to_bit period cells [] g x y e = absurd (true≢false (sym e))
to_bit period cells (rows ∷ contexts) g x y e =
    ⊎_elim
    (λ here. (let b = (streams_injected period cells rows g x y).0 here in
    let time : b.cycle * period ≡ g = b.in_time in
    record { context = 0; cycle = b.cycle; input = b.input; in_contexts = omega arith; in_time = omega (arith, time); in_cells = b.in_cells; one = b.one; column = b.column; line = b.line }))
    (λ later. (let due = due_before 32 (due_of_contexts period cells contexts) g x y later in
    let b = to_bit period cells contexts (g - 32) x y due.1 in
    let time : 32 * b.context + b.cycle * period ≡ g - 32 = b.in_time in
    record { context = suc b.context; cycle = b.cycle; input = b.input; in_contexts = omega (arith, b.in_contexts); in_time = omega (arith, time, due.0); in_cells = b.in_cells; one = b.one; column = b.column; line = b.line }))
    (or_cases (due_of_streams period cells rows g x y) (due_later 32 (due_of_contexts period cells contexts) g x y) e)

of_bit : (period : ℕ) (cells : List (ℕ × ℕ)) (contexts : List (List (List Bool))) (g : ℕ) (x y : ℤ) (context cycle input : ℕ)
    → context < length contexts → 32 * context + cycle * period ≡ g → input < length cells → get_or (context_row contexts context cycle) input false ≡ true
    → pos (get_or cells input (0, 0)).0 ≡ x → pos (get_or cells input (0, 0)).1 ≡ y → due_of_contexts period cells contexts g x y ≡ true
of_bit period cells [] g x y context cycle input among time within one column line = absurd (omega (arith, among))
of_bit period cells (rows ∷ contexts) g x y zero cycle input among time within one column line =
    or_left _ _ ((streams_injected period cells rows g x y).1 (record { cycle = cycle; input = input; in_time = omega (arith, time); in_cells = within; one = one; column = column; line = line }))
of_bit period cells (rows ∷ contexts) g x y (suc context) cycle input among time within one column line =
    or_right _ _ (due_after 32 (due_of_contexts period cells contexts) g x y (omega (arith, time))
    (of_bit period cells contexts (g - 32) x y context cycle input (omega (arith, among)) (omega (arith, time)) within one column line))

pub contexts_injected : (period : ℕ) (cells : List (ℕ × ℕ)) (contexts : List (List (List Bool))) (g : ℕ) (x y : ℤ)
    → (due_of_contexts period cells contexts g x y ≡ true) ↔ IsBitOfContexts period cells contexts g x y
contexts_injected period cells contexts g x y = (
  to_bit period cells contexts g x y,
  λ b. of_bit period cells contexts g x y b.context b.cycle b.input b.in_contexts b.in_time b.in_cells b.one b.column b.line,
)

-- a list whose members are the injections of contexts
contexts_listed : (period : ℕ) (cells : List (ℕ × ℕ)) (contexts : List (List (List Bool))) (injections : List Injection)
    → ((i : Injection) → Contains injections i ↔ IsBitOfContexts period cells contexts i.generation (pos i.x) (pos i.y))
    → due_of_list injections ≡ due_of_contexts period cells contexts
contexts_listed period cells contexts injections members = fun_ext (λ g. fun_ext (λ x. fun_ext (λ y. both_ways _ _ (to g x y) (from g x y))))
  where
    to : (g : ℕ) (x y : ℤ) → due_of_list injections g x y ≡ true → due_of_contexts period cells contexts g x y ≡ true
    to g x y e =
        let h = (lists_are_injected.exactly injections g x y).0 e in
        let b = (members h.injection).0 h.is_in in
        of_bit period cells contexts g x y b.context b.cycle b.input b.in_contexts (b.in_time ∙ h.in_time) b.in_cells b.one (b.column ∙ h.column) (b.line ∙ h.row)

    from : (g : ℕ) (x y : ℤ) → due_of_contexts period cells contexts g x y ≡ true → due_of_list injections g x y ≡ true
    from g x y e =
        let b = to_bit period cells contexts g x y e in
        let cell = get_or cells b.input (0, 0) in
        let i : Injection = record { generation = g; x = cell.0; y = cell.1 } in
        let is_in = (members i).1 (record { context = b.context; cycle = b.cycle; input = b.input; in_contexts = b.in_contexts; in_time = b.in_time; in_cells = b.in_cells; one = b.one; column = refl; line = refl }) in
        (lists_are_injected.exactly injections g x y).1 (record { injection = i; is_in = is_in; in_time = refl; column = b.column; row = b.line })

-- rows of 0 bits at the end add no bit
same_bit : (rows zeros : List (List Bool)) (cycle input : ℕ) → All (λ row. All (λ bit. bit ≡ false) row) zeros → get_or (get_or (rows ++ zeros) cycle []) input false ≡ get_or (get_or rows cycle []) input false
same_bit rows zeros cycle input none =
    ⊎_elim
    (λ front. ap (λ row. get_or row input false) (get_or-append rows zeros [] cycle front))
    (λ late. ap (λ row. get_or row input false) (get_or-append_right rows zeros cycle [] late)
    ∙ no_bit zeros (cycle - length rows) input none
    ∙ sym (ap (λ row. get_or row input false) (get_or_past rows cycle [] late)))
    (cases_lt cycle (length rows))

contexts_rest : (period : ℕ) (cells : List (ℕ × ℕ)) (contexts : List (List (List Bool))) (zeros : List (List Bool)) → All (λ row. All (λ bit. bit ≡ false) row) zeros
    → due_of_contexts period cells (map (λ rows. rows ++ zeros) contexts) ≡ due_of_contexts period cells contexts
contexts_rest period cells contexts zeros none = fun_ext (λ g. fun_ext (λ x. fun_ext (λ y. both_ways _ _ (to g x y) (from g x y))))
  where
    longer : List (List (List Bool))
    longer = map (λ rows. rows ++ zeros) contexts

    many : length longer ≡ length contexts
    many = length-map contexts (λ rows. rows ++ zeros)

    row : (context cycle input : ℕ) → context < length contexts → get_or (context_row longer context cycle) input false ≡ get_or (context_row contexts context cycle) input false
    row context cycle input among =
        ap (λ (rows : List (List Bool)). get_or (get_or rows cycle []) input false) (get_or-map (λ rows. rows ++ zeros) contexts context [] [] among)
        ∙ same_bit (get_or contexts context []) zeros cycle input none

    to : (g : ℕ) (x y : ℤ) → due_of_contexts period cells longer g x y ≡ true → due_of_contexts period cells contexts g x y ≡ true
    to g x y e =
        let b = to_bit period cells longer g x y e in
        let among : b.context < length contexts = omega (arith, b.in_contexts, many) in
        of_bit period cells contexts g x y b.context b.cycle b.input among b.in_time b.in_cells (sym (row b.context b.cycle b.input among) ∙ b.one) b.column b.line

    from : (g : ℕ) (x y : ℤ) → due_of_contexts period cells contexts g x y ≡ true → due_of_contexts period cells longer g x y ≡ true
    from g x y e =
        let b = to_bit period cells contexts g x y e in
        of_bit period cells longer g x y b.context b.cycle b.input (omega (arith, b.in_contexts, many)) b.in_time b.in_cells (row b.context b.cycle b.input b.in_contexts ∙ b.one) b.column b.line

one_is_streams : (period : ℕ) (cells : List (ℕ × ℕ)) (rows : List (List Bool)) → due_of_contexts period cells (rows ∷ []) ≡ due_of_streams period cells rows
one_is_streams period cells rows = fun_ext (λ g. fun_ext (λ x. fun_ext (λ y.
    ap (λ b. due_of_streams period cells rows g x y || b) (and-false (nat_le 32 g)) ∙ or-false (due_of_streams period cells rows g x y))))

pub contexts_are_injected : ContextsAreInjected
contexts_are_injected = record { exactly = contexts_injected; listed = contexts_listed; rest = contexts_rest; one = one_is_streams }

not_sooner : (period c t c' t' : ℕ) → 32 * c < period → t < t' → 32 * c + t * period ≡ 32 * c' + t' * period → ⊥
not_sooner period c t c' t' low sooner same =
    let more : (t + 1) * period ≤ t' * period = mul-le-mul_right period (omega arith) in
    let one : (t + 1) * period ≡ t * period + period = (let s : t + 1 ≡ suc t = omega arith in ap (λ n. n * period) s ∙ suc-mul t period) in
    omega (arith, low, same, more, one)

-- a generation of a cycle of a context is one of no other
pub one_context : (period c t c' t' : ℕ) → 32 * c < period → 32 * c' < period → 32 * c + t * period ≡ 32 * c' + t' * period → (c ≡ c') × (t ≡ t')
one_context period c t c' t' low low' same =
    let no_less : t' ≤ t = ⊎_elim (λ less. absurd (not_sooner period c t c' t' low less same)) (λ more. more) (cases_lt t t') in
    let no_more : t ≤ t' = ⊎_elim (λ less. absurd (not_sooner period c' t' c t low' less (sym same))) (λ more. more) (cases_lt t' t) in
    let both : t ≡ t' = omega arith in
    let times : t * period ≡ t' * period = ap (λ n. n * period) both in
    (omega (arith, same, times), both)
