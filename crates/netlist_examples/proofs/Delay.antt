-- Latches that delay the one input.
use Rattle.std.proofs.Common.{ℕ, zero, suc, ◌≡◌, ◌≢◌, ◌<◌, ◌==◌, List, [], ◌∷◌, Bool, false, cond, Some, option_and_then, slice_get, get_or, map, length, All, Contains, refl, sym, ap, ◌∙◌, subst, arith, bytes_eq, codes}
use Rattle.std.proofs.lemmas.Option.{none-some, same_Some, slice_get_within, get_or_from_slice_get, slice_get-get_or}
use Rattle.netlist_core.specs.declared.model.Design.{Design}
use Rattle.netlist_core.specs.declared.model.Model.{Model}
use Rattle.netlist_core.specs.declared.model.Cover.{Cover}
use Rattle.netlist_core.specs.declared.model.LatchRow.{LatchRow}
use Rattle.netlist_core.specs.Names.{Name}
use Rattle.netlist_meaning.specs.Places.{Place, latch_at, main_outputs}
use Rattle.netlist_meaning.specs.Nets.{IsInNames, none, kept}
use Rattle.netlist_meaning.specs.Valuation.{Valuation, LatchState, IsValuation, IsRun, latches_in, start_state, output_bits, start_bit, data_bit}
use Rattle.netlist_examples.specs.Designs.{latch_main, latch_design, clocked_main, clocked_design}
use Rattle.netlist_examples.specs.Instances.{delayed, IsDelay, LatchDelays, ClockedLatchDelays}
use Rattle.lists.proofs.Names.{bytes_eq-same, bytes_eq-other, apart_by}
use Rattle.netlist_meaning.proofs.SingleModel.{IsFlat, model_at-main, model_at-flat, joined-flat, latch_at-flat}
use Rattle.netlist_meaning.proofs.Joined.{in_names_are_one}
use Rattle.netlist_examples.proofs.ClockInstances.{control_is, control_is_no_input}
use Rattle.netlist_examples.proofs.OneCover.{first_bit}

-- a design of one latch, from d to q, whose one IN name is d
record IsOneLatch (d q : Name) (first : Bool) (design : Design) : Type 0 where
  main : Model
  latch : LatchRow
  flat : IsFlat design main
  covers : main.covers ≡ []
  latches : main.latches ≡ latch ∷ []
  input : latch.input ≡ d
  output : latch.output ≡ q
  starts : (latch.init == 1) ≡ first
  in_names : IsInNames design (d ∷ [])
  out_names : main_outputs design ≡ q ∷ []

-- the bits of the latch's two nets
bits_of : Name → Bool → Bool → Valuation
bits_of q state input place name = cond (bytes_eq name q) state input

-- the state of a cycle
state_of : Bool → List (List Bool) → ℕ → Bool
state_of first rows zero = first
state_of first rows (suc cycle) = first_bit (get_or rows cycle [])

run_on : Name → Bool → List (List Bool) → ℕ → Valuation
run_on q first rows cycle = bits_of q (state_of first rows cycle) (first_bit (get_or rows cycle []))

bits_at_q : (q : Name) (state input : Bool) (place : Place) → bits_of q state input place q ≡ state
unfolding bits_of
bits_at_q q state input place = ap (λ t. cond t state input) (bytes_eq-same q)

bits_at_d : (d q : Name) (state input : Bool) (place : Place) → d ≢ q → bits_of q state input place d ≡ input
unfolding bits_of
bits_at_d d q state input place apart = ap (λ t. cond t state input) (bytes_eq-other d q apart)

one_bit : (row : List Bool) → length row ≡ 1 → first_bit row ∷ [] ≡ row
one_bit [] e = absurd (omega arith)
one_bit (bit ∷ []) e = refl
one_bit (bit ∷ (other ∷ row)) e = absurd (omega arith)

the_latch_at : (d q : Name) (first : Bool) (design : Design) (h : IsOneLatch d q first design) → latch_at design [] 0 ≡ Some h.latch
the_latch_at d q first design h =
    ap (option_and_then (λ m. slice_get m.latches 0)) (model_at-main design h.main h.flat) ∙ ap (λ latches. slice_get latches 0) h.latches

latch_is : (d q : Name) (first : Bool) (design : Design) (h : IsOneLatch d q first design) (place : Place) (number : ℕ) (latch : LatchRow) → latch_at design place number ≡ Some latch → (place ≡ []) × (number ≡ 0) × (latch ≡ h.latch)
latch_is d q first design h place number latch e =
    let (is_top, is_latch) = latch_at-flat design h.main h.flat place number latch e in
    let (is_first, is_it) = only number (sym (ap (λ latches. slice_get latches number) h.latches) ∙ is_latch) in
    (is_top, is_first, is_it)
  where
    only : (number : ℕ) → slice_get (h.latch ∷ []) number ≡ Some latch → (number ≡ 0) × (latch ≡ h.latch)
    only zero e = (refl, same_Some _ _ (sym e))
    only (suc number) e = absurd (none-some latch e)

state_is : (d q : Name) (first : Bool) (design : Design) (h : IsOneLatch d q first design) → d ≢ q → (rows : List (List Bool)) (cycle : ℕ)
    → latches_in design (start_state design) (run_on q first rows) cycle [] 0 ≡ state_of first rows cycle
unfolding run_on state_of
state_is d q first design h apart rows zero = ap start_bit (the_latch_at d q first design h) ∙ h.starts
state_is d q first design h apart rows (suc cycle) =
    ap (data_bit (run_on q first rows cycle [])) (the_latch_at d q first design h)
    ∙ ap (run_on q first rows cycle []) h.input
    ∙ bits_at_d d q (state_of first rows cycle) (first_bit (get_or rows cycle [])) [] apart

solves : (d q : Name) (first : Bool) (design : Design) (h : IsOneLatch d q first design) → d ≢ q → (rows : List (List Bool)) (cycle : ℕ) → length (get_or rows cycle []) ≡ 1
    → IsValuation design (get_or rows cycle []) (latches_in design (start_state design) (run_on q first rows) cycle) (run_on q first rows cycle)
unfolding run_on
solves d q first design h apart rows cycle long =
    record {
      in_names = d ∷ [];
      are_in_names = h.in_names;
      inputs_given = ap (λ bit. bit ∷ []) (bits_at_d d q (state_of first rows cycle) (first_bit (get_or rows cycle [])) [] apart) ∙ one_bit (get_or rows cycle []) long;
      joined_agree = λ u v e away. ap (λ net. run_on q first rows cycle net.place net.name) (joined-flat design h.main h.flat e);
      covers_hold = λ place model cover is_model has_cover. no_cover model cover (model_at-flat design h.main h.flat place model is_model).1 has_cover;
      latches_hold = λ place number latch e. latched place number latch (latch_is d q first design h place number latch e);
    }
  where
    no_cover : {P : Type 0} (model : Model) (cover : Cover) → model ≡ h.main → Contains model.covers cover → P
    no_cover model cover is_main (k, lt, is) = let none : length model.covers ≡ 0 = ap (λ m. length m.covers) is_main ∙ ap length h.covers in absurd (omega arith)

    state : LatchState
    state = latches_in design (start_state design) (run_on q first rows) cycle

    latched : (place : Place) (number : ℕ) (latch : LatchRow) → (place ≡ []) × (number ≡ 0) × (latch ≡ h.latch) → run_on q first rows cycle place latch.output ≡ state place number
    latched place number latch (is_top, is_first, is_it) =
        ap (run_on q first rows cycle place) (ap (λ l. l.output) is_it ∙ h.output)
        ∙ bits_at_q q (state_of first rows cycle) (first_bit (get_or rows cycle [])) place
        ∙ sym (state_is d q first design h apart rows cycle)
        ∙ ap (state []) (sym is_first)
        ∙ ap (λ p. state p number) (sym is_top)

one_latch_delays : (d q : Name) (first : Bool) (design : Design) → d ≢ q → IsOneLatch d q first design → IsDelay first design
one_latch_delays d q first design apart h =
    record {
      runs = λ rows wide. (run_on q first rows, solved rows wide);
      gives = λ rows run is_run. given rows run is_run;
    }
  where
    solved : (rows : List (List Bool)) → All (λ row. length row ≡ 1) rows → IsRun design rows (run_on q first rows)
    solved rows wide cycle row is_row =
        subst (λ r. IsValuation design r (latches_in design (start_state design) (run_on q first rows) cycle) (run_on q first rows cycle)) (get_or_from_slice_get rows cycle row [] is_row)
        (solves d q first design h apart rows cycle (wide cycle [] (slice_get_within rows cycle row is_row)))

    outputs : (bits : Valuation) → output_bits design bits ≡ bits [] q ∷ []
    outputs bits = ap (map (bits [])) h.out_names

    at_q : (row : List Bool) (state : LatchState) (bits : Valuation) → IsValuation design row state bits → bits [] q ≡ state [] 0
    at_q row state bits v = ap (bits []) (sym h.output) ∙ v.latches_hold [] 0 h.latch (the_latch_at d q first design h)

    at_d : (row : List Bool) (state : LatchState) (bits : Valuation) → IsValuation design row state bits → bits [] d ∷ [] ≡ row
    at_d row state bits v = ap (map (bits [])) (in_names_are_one design (d ∷ []) v.in_names h.in_names v.are_in_names) ∙ v.inputs_given

    valued : (rows : List (List Bool)) (run : ℕ → Valuation) → IsRun design rows run → (cycle : ℕ) → cycle < length rows → IsValuation design (get_or rows cycle []) (latches_in design (start_state design) run cycle) (run cycle)
    valued rows run is_run cycle lt = is_run cycle (get_or rows cycle []) (slice_get-get_or rows cycle [] lt)

    given : (rows : List (List Bool)) (run : ℕ → Valuation) → IsRun design rows run → (cycle : ℕ) → cycle < length rows → output_bits design (run cycle) ≡ delayed first rows cycle
    given rows run is_run zero lt =
        outputs (run 0) ∙ ap (λ bit. bit ∷ []) (at_q _ _ _ (valued rows run is_run zero lt) ∙ ap start_bit (the_latch_at d q first design h) ∙ h.starts)
    given rows run is_run (suc cycle) lt =
        outputs (run (suc cycle))
        ∙ ap (λ bit. bit ∷ []) (at_q _ _ _ (valued rows run is_run (suc cycle) lt) ∙ ap (data_bit (run cycle [])) (the_latch_at d q first design h) ∙ ap (run cycle []) h.input)
        ∙ at_d _ _ _ (valued rows run is_run cycle (omega arith))

pub clocked_latch_delays : ClockedLatchDelays
clocked_latch_delays =
    one_latch_delays (codes "d") (codes "q") false clocked_design (apart_by _ _ refl)
    record {
      main = clocked_main;
      latch = _;
      flat = record { models = refl; subckts = refl };
      covers = refl;
      latches = refl;
      input = refl;
      output = refl;
      starts = refl;
      in_names = control_is_no_input;
      out_names = refl;
    }

pub latch_delays : LatchDelays
latch_delays init =
    one_latch_delays (codes "d") (codes "q") (init == 1) (latch_design init) (apart_by _ _ refl)
    record {
      main = latch_main init;
      latch = _;
      flat = record { models = refl; subckts = refl };
      covers = refl;
      latches = refl;
      input = refl;
      output = refl;
      starts = refl;
      in_names = kept (λ e. let (number, latch, is_latch, named) = control_is (latch_design init) (latch_main init) (record { models = refl; subckts = refl }) _ e in no_control number latch is_latch named) none;
      out_names = refl;
    }
  where
    no_control : (number : ℕ) (latch : LatchRow) → slice_get (latch_main init).latches number ≡ Some latch → latch.control ≡ Some (codes "d") → ⊥
    no_control zero latch is_latch named = none-some _ (ap (λ l. l.control) (same_Some _ latch is_latch) ∙ named)
    no_control (suc number) latch is_latch named = none-some latch is_latch
