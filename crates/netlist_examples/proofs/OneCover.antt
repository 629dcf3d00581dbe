-- One cover of two inputs.
use Rattle.std.proofs.Common.{ℕ, ◌≡◌, ◌≢◌, List, [], ◌∷◌, Bool, true, false, cond, not, ◌||◌, ◌&&◌, Some, get_or, codes, map, length, All, Contains, refl, sym, ap, ◌∙◌, subst, arith, bytes_eq}
use Rattle.std.proofs.lemmas.Option.{slice_get_within, get_or_from_slice_get}
use Rattle.netlist_core.specs.declared.model.Design.{Design}
use Rattle.netlist_core.specs.declared.model.Model.{Model}
use Rattle.netlist_core.specs.declared.model.Cover.{Cover}
use Rattle.netlist_core.specs.Names.{Name}
use Rattle.netlist_meaning.specs.Places.{Place, model_at, main_inputs, main_outputs}
use Rattle.netlist_meaning.specs.Nets.{Net, IsControl, IsInNames}
use Rattle.netlist_meaning.specs.CoverValue.{cover_value}
use Rattle.netlist_meaning.specs.Valuation.{Valuation, LatchState, IsValuation, IsRun, latches_in, start_state, output_bits}
use Rattle.netlist_examples.specs.OneCover.{or_main, or_design, IsOneCover, Computes, OneCoverComputes, or_cover_rows, OneCoverComputesOr, OneCoverComputesNand}
use Rattle.netlist_examples.specs.Parts.{cover_with}
use Rattle.lists.proofs.Names.{bytes_eq-same, bytes_eq-other, apart_by}
use Rattle.netlist_meaning.proofs.Names.{contains-one}
use Rattle.netlist_meaning.proofs.SingleModel.{IsFlat, model_at-main, model_at-flat, joined-flat, no_latch-flat, all_in_names}
use Rattle.netlist_meaning.proofs.Joined.{in_names_are_one}

flat_of : (a b y : Name) (rows : List (List ℕ)) (on : Bool) (design : Design) (h : IsOneCover a b y rows on design) → IsFlat design h.main
flat_of a b y rows on design h = record { models = h.models; subckts = h.subckts }

inputs_are : (a b y : Name) (rows : List (List ℕ)) (on : Bool) (design : Design) (h : IsOneCover a b y rows on design) → main_inputs design ≡ a ∷ b ∷ []
inputs_are a b y rows on design h = ap (λ models. main_inputs (record { models = models })) h.models ∙ h.inputs

outputs_are : (a b y : Name) (rows : List (List ℕ)) (on : Bool) (design : Design) (h : IsOneCover a b y rows on design) → main_outputs design ≡ y ∷ []
outputs_are a b y rows on design h = ap (λ models. main_outputs (record { models = models })) h.models ∙ h.outputs

no_control : (a b y : Name) (rows : List (List ℕ)) (on : Bool) (design : Design) (h : IsOneCover a b y rows on design) → (net : Net) → ¬ IsControl design net
no_control a b y rows on design h net (source, is_source, _) =
    no_latch-flat design h.main (flat_of a b y rows on design h) h.latches source.place is_source.number is_source.latch is_source.has_latch

pub in_names_are : (a b y : Name) (rows : List (List ℕ)) (on : Bool) (design : Design) (h : IsOneCover a b y rows on design) → IsInNames design (a ∷ b ∷ [])
in_names_are a b y rows on design h =
    subst (λ names. IsInNames design names) (inputs_are a b y rows on design h) (all_in_names design (no_control a b y rows on design h) (main_inputs design))

-- the bits of the three nets
bits_of : Name → Name → Bool → Bool → Bool → Valuation
bits_of a y value p q place name = cond (bytes_eq name y) value (cond (bytes_eq name a) p q)

bits_at_y : (a y : Name) (value p q : Bool) (place : Place) → bits_of a y value p q place y ≡ value
unfolding bits_of
bits_at_y a y value p q place = ap (λ t. cond t value (cond (bytes_eq y a) p q)) (bytes_eq-same y)

bits_at_a : (a y : Name) (value p q : Bool) (place : Place) → a ≢ y → bits_of a y value p q place a ≡ p
unfolding bits_of
bits_at_a a y value p q place ay =
    ap (λ t. cond t value (cond (bytes_eq a a) p q)) (bytes_eq-other a y ay) ∙ ap (λ t. cond t p q) (bytes_eq-same a)

bits_at_b : (a b y : Name) (value p q : Bool) (place : Place) → a ≢ b → b ≢ y → bits_of a y value p q place b ≡ q
unfolding bits_of
bits_at_b a b y value p q place ab by =
    ap (λ t. cond t value (cond (bytes_eq b a) p q)) (bytes_eq-other b y by) ∙ ap (λ t. cond t p q) (bytes_eq-other b a (λ e. ab (sym e)))

-- the value of the one cover, by its two inputs
value_is : (a b y : Name) (rows : List (List ℕ)) (on : Bool) (design : Design) (h : IsOneCover a b y rows on design) (v : Name → Bool) → cover_value h.cover.rows h.cover.on (map v h.cover.ins) ≡ cover_value rows on (v a ∷ v b ∷ [])
value_is a b y rows on design h v =
    ap (λ r. cover_value r h.cover.on (map v h.cover.ins)) h.cover_rows
    ∙ ap (λ o. cover_value rows o (map v h.cover.ins)) h.cover_on
    ∙ ap (λ ins. cover_value rows on (map v ins)) h.cover_ins

two : (p q r s : Bool) → p ≡ r → q ≡ s → ◌≡◌ {A = List Bool} (p ∷ q ∷ []) (r ∷ s ∷ [])
two p q r s e f = ap (λ x. x ∷ q ∷ []) e ∙ ap (λ x. r ∷ x ∷ []) f

-- the bits solve the equations
solves : (a b y : Name) (rows : List (List ℕ)) (on : Bool) (design : Design) → a ≢ b → a ≢ y → b ≢ y → (h : IsOneCover a b y rows on design) → (p q : Bool) (state : LatchState)
    → IsValuation design (p ∷ q ∷ []) state (bits_of a y (cover_value rows on (p ∷ q ∷ [])) p q)
solves a b y rows on design ab ay by h p q state =
    record {
      in_names = a ∷ b ∷ [];
      are_in_names = in_names_are a b y rows on design h;
      inputs_given = ins_are;
      joined_agree = λ u v e away. ap (λ net. bits net.place net.name) (joined-flat design h.main flat e);
      covers_hold = λ place model cover is_model has_cover. holds place model cover (model_at-flat design h.main flat place model is_model).1 has_cover;
      latches_hold = λ place number latch is_latch. absurd (no_latch-flat design h.main flat h.latches place number latch is_latch);
    }
  where
    flat : IsFlat design h.main
    flat = flat_of a b y rows on design h

    value : Bool
    value = cover_value rows on (p ∷ q ∷ [])

    bits : Valuation
    bits = bits_of a y value p q

    ins_at : (place : Place) → ◌≡◌ {A = List Bool} (bits place a ∷ bits place b ∷ []) (p ∷ q ∷ [])
    ins_at place = two (bits place a) (bits place b) p q (bits_at_a a y value p q place ay) (bits_at_b a b y value p q place ab by)

    ins_are : map (bits []) (a ∷ b ∷ []) ≡ p ∷ q ∷ []
    ins_are = ins_at []

    the_one : (place : Place) → bits place h.cover.out ≡ cover_value h.cover.rows h.cover.on (map (bits place) h.cover.ins)
    the_one place =
        ap (bits place) h.cover_out
        ∙ bits_at_y a y value p q place
        ∙ sym (value_is a b y rows on design h (bits place) ∙ ap (cover_value rows on) (ins_at place))

    holds : (place : Place) (model : Model) (cover : Cover) → model ≡ h.main → Contains model.covers cover → bits place cover.out ≡ cover_value cover.rows cover.on (map (bits place) cover.ins)
    holds place model cover is_main has_cover =
        let is_cover : cover ≡ h.cover = contains-one model.covers h.cover cover (ap (λ m. m.covers) is_main ∙ h.covers) has_cover in
        subst (λ c. bits place c.out ≡ cover_value c.rows c.on (map (bits place) c.ins)) (sym is_cover) (the_one place)

-- a row of two bits
abbrev pub first_bit : List Bool → Bool
first_bit row = get_or row 0 false

abbrev second_bit : List Bool → Bool
second_bit row = get_or row 1 false

two_bits : (row : List Bool) → length row ≡ 2 → row ≡ first_bit row ∷ second_bit row ∷ []
two_bits [] e = absurd (omega arith)
two_bits (p ∷ []) e = absurd (omega arith)
two_bits (p ∷ q ∷ []) e = refl
two_bits (p ∷ q ∷ r ∷ row) e = absurd (omega arith)

-- a valuation's output
gives_value : (a b y : Name) (rows : List (List ℕ)) (on : Bool) (design : Design) → (h : IsOneCover a b y rows on design) → (p q : Bool) (state : LatchState) (bits : Valuation)
    → IsValuation design (p ∷ q ∷ []) state bits → output_bits design bits ≡ cover_value rows on (p ∷ q ∷ []) ∷ []
gives_value a b y rows on design h p q state bits v =
    ap (map (bits [])) (outputs_are a b y rows on design h)
    ∙ ap (λ bit. bit ∷ []) (ap (bits []) (sym h.cover_out) ∙ equation ∙ value_is a b y rows on design h (bits []) ∙ ap (cover_value rows on) ins_are)
  where
    main : model_at design [] ≡ Some h.main
    main = model_at-main design h.main (flat_of a b y rows on design h)

    has_cover : Contains h.main.covers h.cover
    has_cover = subst (λ covers. Contains covers h.cover) (sym h.covers) (0, omega arith, refl)

    equation : bits [] h.cover.out ≡ cover_value h.cover.rows h.cover.on (map (bits []) h.cover.ins)
    equation = v.covers_hold [] h.main h.cover main has_cover

    ins_are : ◌≡◌ {A = List Bool} (bits [] a ∷ bits [] b ∷ []) (p ∷ q ∷ [])
    ins_are = ap (map (bits [])) (in_names_are_one design (a ∷ b ∷ []) v.in_names (in_names_are a b y rows on design h) v.are_in_names) ∙ v.inputs_given

-- where a valuation fits each row of a width, rows of the width are a run
pub row_by_row : (design : Design) (width : ℕ) (run_of : List Bool → Valuation) → ((row : List Bool) (state : LatchState) → length row ≡ width → IsValuation design row state (run_of row))
    → (rows : List (List Bool)) → All (λ row. length row ≡ width) rows → IsRun design rows (λ cycle. run_of (get_or rows cycle []))
row_by_row design width run_of fits rows wide cycle row is_row =
    let is_at : get_or rows cycle [] ≡ row = get_or_from_slice_get rows cycle row [] is_row in
    let long : length row ≡ width = subst (λ r. length r ≡ width) is_at (wide cycle [] (slice_get_within rows cycle row is_row)) in
    let state : LatchState = latches_in design (start_state design) (λ cycle. run_of (get_or rows cycle [])) cycle in
    subst (λ r. IsValuation design row state (run_of r)) (sym is_at) (fits row state long)

pub one_cover_computes : OneCoverComputes
one_cover_computes a b y rows on design ab ay by h =
    record {
      runs = λ inputs wide. ((λ cycle. run_of (get_or inputs cycle [])), row_by_row design 2 run_of solved inputs wide);
      gives = λ inputs run is_run cycle p q is_row. gives_value a b y rows on design h p q (latches_in design (start_state design) run cycle) (run cycle) (is_run cycle (p ∷ q ∷ []) is_row);
    }
  where
    run_of : List Bool → Valuation
    run_of row = bits_of a y (cover_value rows on (first_bit row ∷ second_bit row ∷ [])) (first_bit row) (second_bit row)

    solved : (row : List Bool) (state : LatchState) → length row ≡ 2 → IsValuation design row state (run_of row)
    solved row state long = subst (λ r. IsValuation design r state (run_of row)) (sym (two_bits row long)) (solves a b y rows on design ab ay by h (first_bit row) (second_bit row) state)

or_value : (p q : Bool) → cover_value or_cover_rows true (p ∷ q ∷ []) ≡ (p || q)
or_value true true = refl
or_value true false = refl
or_value false true = refl
or_value false false = refl

pub one_cover_computes_or : OneCoverComputesOr
one_cover_computes_or a b y design ab ay by h =
    let computes : Computes design (λ p q. cover_value or_cover_rows true (p ∷ q ∷ [])) = one_cover_computes a b y or_cover_rows true design ab ay by h in
    record {
      runs = computes.runs;
      gives = λ rows run is_run cycle p q is_row. computes.gives rows run is_run cycle p q is_row ∙ ap (λ bit. bit ∷ []) (or_value p q);
    }

pub or_design_computes_or : Computes or_design (λ p q. p || q)
or_design_computes_or =
    one_cover_computes_or (codes "a") (codes "b") (codes "y") or_design (apart_by _ _ refl) (apart_by _ _ refl) (apart_by _ _ refl)
    record {
      main = or_main;
      cover = cover_with 4 (codes "a" ∷ codes "b" ∷ []) (codes "y") or_cover_rows;
      models = refl;
      inputs = refl;
      outputs = refl;
      clocks = refl;
      covers = refl;
      cover_ins = refl;
      cover_out = refl;
      cover_rows = refl;
      cover_on = refl;
      latches = refl;
      subckts = refl;
    }

nand_value : (p q : Bool) → cover_value (codes "11" ∷ []) false (p ∷ q ∷ []) ≡ not (p && q)
nand_value true true = refl
nand_value true false = refl
nand_value false true = refl
nand_value false false = refl

pub one_cover_computes_nand : OneCoverComputesNand
one_cover_computes_nand a b y design ab ay by h =
    let computes : Computes design (λ p q. cover_value (codes "11" ∷ []) false (p ∷ q ∷ [])) = one_cover_computes a b y (codes "11" ∷ []) false design ab ay by h in
    record {
      runs = computes.runs;
      gives = λ rows run is_run cycle p q is_row. computes.gives rows run is_run cycle p q is_row ∙ ap (λ bit. bit ∷ []) (nand_value p q);
    }
