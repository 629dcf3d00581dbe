-- The two-bit adder of two full adders.
use Rattle.std.proofs.Common.{ℕ, zero, suc, ◌≡◌, ◌+◌, ◌++◌, List, [], ◌∷◌, Bool, true, false, cond, Some, slice_get, get_or, map, length, Contains, refl, sym, ap, ◌∙◌, subst, arith, bytes_eq, codes, inl, inr}
use Rattle.std.proofs.lemmas.Option.{none-some, same_Some}
use Rattle.std.specs.List.{AllByRecursion}
use Rattle.netlist_core.specs.declared.model.Design.{Design}
use Rattle.netlist_core.specs.declared.model.Model.{Model}
use Rattle.netlist_core.specs.declared.model.Cover.{Cover}
use Rattle.netlist_core.specs.declared.model.LatchRow.{LatchRow}
use Rattle.netlist_core.specs.declared.model.Subckt.{Subckt}
use Rattle.netlist_core.specs.declared.model.Pin.{Pin}
use Rattle.netlist_core.specs.Names.{Name}
use Rattle.netlist_meaning.specs.Places.{Place, model_at, latch_at, main_inputs}
use Rattle.netlist_meaning.specs.Nets.{Net, net_at, IsPinned, by_pin, IsControl, IsClockNet, IsInNames}
use Rattle.netlist_meaning.specs.CoverValue.{cover_value}
use Rattle.netlist_meaning.specs.Valuation.{Valuation, LatchState, IsValuation, latches_in, start_state, output_bits}
use Rattle.netlist_examples.specs.Parts.{pin_with}
use Rattle.netlist_examples.specs.Designs.{sum_cover, carry_cover, first_line, second_line, adder_main, adder_design, full_adder}
use Rattle.netlist_examples.specs.Instances.{AdderAdds, AdderHasClasses, number_spelled}
use Rattle.netlist_meaning.proofs.Names.{and_then-from}
use Rattle.netlist_meaning.proofs.SingleModel.{all_in_names}
use Rattle.netlist_meaning.proofs.Joined.{in_names_are_one, pins_are_enough}
use Rattle.netlist_examples.proofs.OneCover.{row_by_row}
use Rattle.lists.proofs.Members.{in_from, all_in}

-- a fact of each element
pub each-contains : {X : Type 0} (P : X → Type 0) (xs : List X) (x : X) → AllByRecursion P xs → Contains xs x → P x
each-contains P xs x each c = all_in P xs x each (in_from xs x c)

-- the adder's places
data IsAt : Place → Model → Type 0 where
  at_main : IsAt [] adder_main
  at_first : IsAt (0 ∷ []) full_adder
  at_second : IsAt (1 ∷ []) full_adder

is_at : (place : Place) (model : Model) → model_at adder_design place ≡ Some model → IsAt place model
is_at [] model h = subst (IsAt []) (same_Some _ _ h) at_main
is_at (zero ∷ []) model h = subst (IsAt (0 ∷ [])) (same_Some _ _ h) at_first
is_at (zero ∷ (number ∷ place)) model h = absurd (none-some model h)
is_at (suc zero ∷ []) model h = subst (IsAt (1 ∷ [])) (same_Some _ _ h) at_second
is_at (suc zero ∷ (number ∷ place)) model h = absurd (none-some model h)
is_at (suc (suc n) ∷ place) model h = absurd (none-some model h)

no_latch : (place : Place) (number : ℕ) (latch : LatchRow) → ¬ (latch_at adder_design place number ≡ Some latch)
no_latch place number latch h =
    let (model, is_model, is_latch) = and_then-from (λ m. slice_get m.latches number) (model_at adder_design place) latch h in
    none_there place model (is_at place model is_model) is_latch
  where
    none_there : (place : Place) (model : Model) → IsAt place model → slice_get model.latches number ≡ Some latch → ⊥
    none_there place model at_main e = none-some latch e
    none_there place model at_first e = none-some latch e
    none_there place model at_second e = none-some latch e

no_control : (net : Net) → ¬ IsControl adder_design net
no_control net (source, h, joined) = no_latch source.place h.number h.latch h.has_latch

no_clock : (net : Net) → ¬ IsClockNet adder_design net
no_clock net (source, inl h, joined) = no_latch source.place h.number h.latch h.has_latch
no_clock net (source, inr h, joined) = let (k, lt, is) = h.is_clock in absurd (omega arith)

in_names : IsInNames adder_design (main_inputs adder_design)
in_names = all_in_names adder_design no_control (main_inputs adder_design)

-- what two covers of a full adder give
sum_bit : Bool → Bool → Bool → Bool
sum_bit a b c = cover_value (codes "100" ∷ codes "010" ∷ codes "001" ∷ codes "111" ∷ []) true (a ∷ b ∷ c ∷ [])

carry_bit : Bool → Bool → Bool → Bool
carry_bit a b c = cover_value (codes "11-" ∷ codes "1-1" ∷ codes "-11" ∷ []) true (a ∷ b ∷ c ∷ [])

-- the bit of a name in a table
look_up : List (Name × Bool) → Name → Bool
look_up [] name = false
look_up (entry ∷ entries) name = cond (bytes_eq entry.0 name) entry.1 (look_up entries name)

full_adder_bits : Bool → Bool → Bool → Name → Bool
full_adder_bits a b c = look_up ((codes "a", a) ∷ (codes "b", b) ∷ (codes "c", c) ∷ (codes "s", sum_bit a b c) ∷ (codes "co", carry_bit a b c) ∷ [])

bits_of : Bool → Bool → Bool → Bool → Bool → Valuation
bits_of a0 a1 b0 b1 ci [] =
    look_up ((codes "a0", a0) ∷ (codes "a1", a1) ∷ (codes "b0", b0) ∷ (codes "b1", b1) ∷ (codes "ci", ci) ∷ (codes "k", carry_bit a0 b0 ci)
    ∷ (codes "s0", sum_bit a0 b0 ci) ∷ (codes "s1", sum_bit a1 b1 (carry_bit a0 b0 ci)) ∷ (codes "c", carry_bit a1 b1 (carry_bit a0 b0 ci)) ∷ [])
bits_of a0 a1 b0 b1 ci (zero ∷ place) = full_adder_bits a0 b0 ci
bits_of a0 a1 b0 b1 ci (suc number ∷ place) = full_adder_bits a1 b1 (carry_bit a0 b0 ci)

-- a pin's two nets agree where its two names do
pub pin_agrees : (design : Design) (bits : Valuation) (outer inner : Net) (h : IsPinned design outer inner) → bits outer.place h.pin.actual ≡ bits (outer.place ++ h.number ∷ []) h.pin.formal → bits outer.place outer.name ≡ bits inner.place inner.name
pin_agrees design bits outer inner h e =
    ap (bits outer.place) h.is_actual ∙ e ∙ sym (ap (λ place. bits place inner.name) h.is_deeper ∙ ap (bits (outer.place ++ h.number ∷ [])) h.is_formal)

solves : (a0 a1 b0 b1 ci : Bool) (state : LatchState) → IsValuation adder_design (a0 ∷ a1 ∷ b0 ∷ b1 ∷ ci ∷ []) state (bits_of a0 a1 b0 b1 ci)
unfolding bits_of full_adder_bits look_up sum_bit carry_bit
solves a0 a1 b0 b1 ci state =
    record {
      in_names = main_inputs adder_design;
      are_in_names = in_names;
      inputs_given = refl;
      joined_agree = (pins_are_enough adder_design bits).0 (λ outer inner h away. pin_agrees adder_design bits outer inner h (agree outer.place h.model h.number h.line h.pin (is_at outer.place h.model h.has_model) h.has_line h.has_pin));
      covers_hold = λ place model cover is_model has_cover. holds place model cover (is_at place model is_model) has_cover;
      latches_hold = λ place number latch h. absurd (no_latch place number latch h);
    }
  where
    bits : Valuation
    bits = bits_of a0 a1 b0 b1 ci

    Agrees : Place → ℕ → Pin → Type 0
    Agrees place number pin = bits place pin.actual ≡ bits (place ++ number ∷ []) pin.formal

    agree : (place : Place) (model : Model) (number : ℕ) (line : Subckt) (pin : Pin) → IsAt place model → slice_get model.subckts number ≡ Some line → Contains line.pins pin → Agrees place number pin
    agree place model zero line pin at_main e has_pin =
        each-contains (Agrees [] 0) first_line.pins pin (refl, (refl, (refl, (refl, (refl, tt))))) (subst (λ l. Contains l.pins pin) (sym (same_Some _ _ e)) has_pin)
    agree place model (suc zero) line pin at_main e has_pin =
        each-contains (Agrees [] 1) second_line.pins pin (refl, (refl, (refl, (refl, (refl, tt))))) (subst (λ l. Contains l.pins pin) (sym (same_Some _ _ e)) has_pin)
    agree place model (suc (suc number)) line pin at_main e has_pin = absurd (none-some line e)
    agree place model number line pin at_first e has_pin = absurd (none-some line e)
    agree place model number line pin at_second e has_pin = absurd (none-some line e)

    Holds : Place → Cover → Type 0
    Holds place cover = bits place cover.out ≡ cover_value cover.rows cover.on (map (bits place) cover.ins)

    holds : (place : Place) (model : Model) (cover : Cover) → IsAt place model → Contains model.covers cover → Holds place cover
    holds place model cover at_main has_cover = each-contains (Holds []) adder_main.covers cover (tt {0}) has_cover
    holds place model cover at_first has_cover = each-contains (Holds (0 ∷ [])) full_adder.covers cover (refl, (refl, tt)) has_cover
    holds place model cover at_second has_cover = each-contains (Holds (1 ∷ [])) full_adder.covers cover (refl, (refl, tt)) has_cover

-- five bits of a row
bit_at : ℕ → List Bool → Bool
bit_at n row = get_or row n false

five_bits : (row : List Bool) → length row ≡ 5 → row ≡ bit_at 0 row ∷ bit_at 1 row ∷ bit_at 2 row ∷ bit_at 3 row ∷ bit_at 4 row ∷ []
unfolding bit_at
five_bits (a ∷ (b ∷ (c ∷ (d ∷ (e ∷ []))))) h = refl
five_bits [] h = absurd (omega arith)
five_bits (a ∷ []) h = absurd (omega arith)
five_bits (a ∷ (b ∷ [])) h = absurd (omega arith)
five_bits (a ∷ (b ∷ (c ∷ []))) h = absurd (omega arith)
five_bits (a ∷ (b ∷ (c ∷ (d ∷ [])))) h = absurd (omega arith)
five_bits (a ∷ (b ∷ (c ∷ (d ∷ (e ∷ (f ∷ row)))))) h = absurd (omega arith)

-- the three outputs, by the five inputs
outputs_of : Bool → Bool → Bool → Bool → Bool → List Bool
outputs_of a0 a1 b0 b1 ci = sum_bit a0 b0 ci ∷ sum_bit a1 b1 (carry_bit a0 b0 ci) ∷ carry_bit a1 b1 (carry_bit a0 b0 ci) ∷ []

three : (f : Bool → Bool → Bool → Bool) (a b c d e g : Bool) → a ≡ d → b ≡ e → c ≡ g → f a b c ≡ f d e g
three f a b c d e g p q r = ap (λ x. f x b c) p ∙ ap (λ x. f d x c) q ∙ ap (f d e) r

-- a valuation's outputs
gives : (a0 a1 b0 b1 ci : Bool) (state : LatchState) (bits : Valuation) → IsValuation adder_design (a0 ∷ a1 ∷ b0 ∷ b1 ∷ ci ∷ []) state bits → output_bits adder_design bits ≡ outputs_of a0 a1 b0 b1 ci
unfolding outputs_of sum_bit carry_bit
gives a0 a1 b0 b1 ci state bits v = outputs
  where
    bit : (n : ℕ) → get_or (map (bits []) (main_inputs adder_design)) n false ≡ get_or (a0 ∷ a1 ∷ b0 ∷ b1 ∷ ci ∷ []) n false
    bit n = ap (λ row. get_or row n false) (ap (map (bits [])) (in_names_are_one adder_design (main_inputs adder_design) v.in_names in_names v.are_in_names) ∙ v.inputs_given)

    joins : (number : ℕ) (line : Subckt) (pin : Pin) → slice_get adder_main.subckts number ≡ Some line → Contains line.pins pin → bits [] pin.actual ≡ bits (number ∷ []) pin.formal
    joins number line pin is_line has_pin =
        v.joined_agree (net_at [] pin.actual) (net_at (number ∷ []) pin.formal)
        (by_pin (record { model = adder_main; line = line; pin = pin; number = number; has_model = refl; has_line = is_line; has_pin = has_pin; is_actual = refl; is_deeper = refl; is_formal = refl }))
        (no_clock (net_at [] pin.actual))

    first : (formal actual : Name) → Contains first_line.pins (pin_with formal actual) → bits [] actual ≡ bits (0 ∷ []) formal
    first formal actual = joins 0 first_line (pin_with formal actual) refl

    second : (formal actual : Name) → Contains second_line.pins (pin_with formal actual) → bits [] actual ≡ bits (1 ∷ []) formal
    second formal actual = joins 1 second_line (pin_with formal actual) refl

    sums : (place : Place) → model_at adder_design place ≡ Some full_adder → (a b c : Bool) → bits place (codes "a") ≡ a → bits place (codes "b") ≡ b → bits place (codes "c") ≡ c → bits place (codes "s") ≡ sum_bit a b c
    sums place is_model a b c p q r = v.covers_hold place full_adder sum_cover is_model (0, omega arith, refl) ∙ three sum_bit _ _ _ a b c p q r

    carries : (place : Place) → model_at adder_design place ≡ Some full_adder → (a b c : Bool) → bits place (codes "a") ≡ a → bits place (codes "b") ≡ b → bits place (codes "c") ≡ c → bits place (codes "co") ≡ carry_bit a b c
    carries place is_model a b c p q r = v.covers_hold place full_adder carry_cover is_model (1, omega arith, refl) ∙ three carry_bit _ _ _ a b c p q r

    a_0 : bits (0 ∷ []) (codes "a") ≡ a0
    a_0 = sym (first (codes "a") (codes "a0") (0, omega arith, refl)) ∙ bit 0

    b_0 : bits (0 ∷ []) (codes "b") ≡ b0
    b_0 = sym (first (codes "b") (codes "b0") (1, omega arith, refl)) ∙ bit 2

    c_0 : bits (0 ∷ []) (codes "c") ≡ ci
    c_0 = sym (first (codes "c") (codes "ci") (2, omega arith, refl)) ∙ bit 4

    carry : Bool
    carry = carry_bit a0 b0 ci

    k_is : bits [] (codes "k") ≡ carry
    k_is = first (codes "co") (codes "k") (4, omega arith, refl) ∙ carries (0 ∷ []) refl a0 b0 ci a_0 b_0 c_0

    s0_is : bits [] (codes "s0") ≡ sum_bit a0 b0 ci
    s0_is = first (codes "s") (codes "s0") (3, omega arith, refl) ∙ sums (0 ∷ []) refl a0 b0 ci a_0 b_0 c_0

    a_1 : bits (1 ∷ []) (codes "a") ≡ a1
    a_1 = sym (second (codes "a") (codes "a1") (0, omega arith, refl)) ∙ bit 1

    b_1 : bits (1 ∷ []) (codes "b") ≡ b1
    b_1 = sym (second (codes "b") (codes "b1") (1, omega arith, refl)) ∙ bit 3

    c_1 : bits (1 ∷ []) (codes "c") ≡ carry
    c_1 = sym (second (codes "c") (codes "k") (2, omega arith, refl)) ∙ k_is

    s1_is : bits [] (codes "s1") ≡ sum_bit a1 b1 carry
    s1_is = second (codes "s") (codes "s1") (3, omega arith, refl) ∙ sums (1 ∷ []) refl a1 b1 carry a_1 b_1 c_1

    c_is : bits [] (codes "c") ≡ carry_bit a1 b1 carry
    c_is = second (codes "co") (codes "c") (4, omega arith, refl) ∙ carries (1 ∷ []) refl a1 b1 carry a_1 b_1 c_1

    outputs : ◌≡◌ {A = List Bool} (bits [] (codes "s0") ∷ bits [] (codes "s1") ∷ bits [] (codes "c") ∷ []) (sum_bit a0 b0 ci ∷ sum_bit a1 b1 carry ∷ carry_bit a1 b1 carry ∷ [])
    outputs =
        ap (λ s. s ∷ bits [] (codes "s1") ∷ bits [] (codes "c") ∷ []) s0_is
        ∙ ap (λ s. sum_bit a0 b0 ci ∷ s ∷ bits [] (codes "c") ∷ []) s1_is
        ∙ ap (λ c. sum_bit a0 b0 ci ∷ sum_bit a1 b1 carry ∷ c ∷ []) c_is

-- the outputs as a number are the sum
Sums : Bool → Bool → Bool → Bool → Bool → Type 0
Sums a0 a1 b0 b1 ci = number_spelled (outputs_of a0 a1 b0 b1 ci) ≡ number_spelled (a0 ∷ a1 ∷ []) + number_spelled (b0 ∷ b1 ∷ []) + number_spelled (ci ∷ [])

sums_up : (a0 a1 b0 b1 ci : Bool) → Sums a0 a1 b0 b1 ci
unfolding Sums outputs_of sum_bit carry_bit
sums_up false false false false false = refl
sums_up false false false false true = refl
sums_up false false false true false = refl
sums_up false false false true true = refl
sums_up false false true false false = refl
sums_up false false true false true = refl
sums_up false false true true false = refl
sums_up false false true true true = refl
sums_up false true false false false = refl
sums_up false true false false true = refl
sums_up false true false true false = refl
sums_up false true false true true = refl
sums_up false true true false false = refl
sums_up false true true false true = refl
sums_up false true true true false = refl
sums_up false true true true true = refl
sums_up true false false false false = refl
sums_up true false false false true = refl
sums_up true false false true false = refl
sums_up true false false true true = refl
sums_up true false true false false = refl
sums_up true false true false true = refl
sums_up true false true true false = refl
sums_up true false true true true = refl
sums_up true true false false false = refl
sums_up true true false false true = refl
sums_up true true false true false = refl
sums_up true true false true true = refl
sums_up true true true false false = refl
sums_up true true true false true = refl
sums_up true true true true false = refl
sums_up true true true true true = refl

pub adder_adds : AdderAdds
unfolding Sums
adder_adds =
    record {
      runs = λ rows wide. ((λ cycle. run_of (get_or rows cycle [])), row_by_row adder_design 5 run_of solved rows wide);
      adds = λ rows run is_run cycle a0 a1 b0 b1 ci is_row. ap number_spelled (gives a0 a1 b0 b1 ci (latches_in adder_design (start_state adder_design) run cycle) (run cycle) (is_run cycle _ is_row)) ∙ added a0 a1 b0 b1 ci;
    }
  where
    run_of : List Bool → Valuation
    run_of row = bits_of (bit_at 0 row) (bit_at 1 row) (bit_at 2 row) (bit_at 3 row) (bit_at 4 row)

    solved : (row : List Bool) (state : LatchState) → length row ≡ 5 → IsValuation adder_design row state (run_of row)
    solved row state long =
        subst (λ r. IsValuation adder_design r state (run_of row)) (sym (five_bits row long)) (solves (bit_at 0 row) (bit_at 1 row) (bit_at 2 row) (bit_at 3 row) (bit_at 4 row) state)

    added : (a0 a1 b0 b1 ci : Bool) → number_spelled (outputs_of a0 a1 b0 b1 ci) ≡ number_spelled (a0 ∷ a1 ∷ []) + number_spelled (b0 ∷ b1 ∷ []) + number_spelled (ci ∷ [])
    added = sums_up

pub adder_has_classes : AdderHasClasses
adder_has_classes = refl
