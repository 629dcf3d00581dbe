-- A latch that takes the inverse of its output.
use Rattle.std.proofs.Common.{ℕ, zero, suc, ◌≡◌, ◌≢◌, ◌<◌, List, [], ◌∷◌, Bool, true, false, not, cond, Some, slice_get, get_or, map, length, All, Contains, refl, sym, ap, ◌∙◌, subst, arith, bytes_eq, codes}
use Rattle.std.proofs.lemmas.Option.{none-some, same_Some, slice_get_within, get_or_from_slice_get, slice_get-get_or}
use Rattle.netlist_core.specs.declared.model.Model.{Model}
use Rattle.netlist_core.specs.declared.model.Cover.{Cover}
use Rattle.netlist_core.specs.declared.model.LatchRow.{LatchRow}
use Rattle.netlist_core.specs.Names.{Name}
use Rattle.netlist_meaning.specs.Places.{Place, latch_at}
use Rattle.netlist_meaning.specs.Nets.{Net, net_at, none}
use Rattle.netlist_meaning.specs.CoverValue.{cover_value}
use Rattle.netlist_meaning.specs.Valuation.{Valuation, LatchState, IsValuation, IsRun, latches_in, start_state}
use Rattle.netlist_meaning.specs.Loop.{Feeds, FeedsThrough}
use Rattle.netlist_examples.specs.Designs.{toggle_main, toggle_design}
use Rattle.netlist_examples.specs.Parts.{cover_with, plain_latch}
use Rattle.netlist_examples.specs.Instances.{is_odd_cycle, LatchToggles, LatchBreaksLoop}
use Rattle.lists.proofs.Names.{bytes_eq-same, bytes_eq-other}
use Rattle.netlist_meaning.proofs.Names.{contains-one}
use Rattle.netlist_meaning.proofs.SingleModel.{IsFlat, model_at-flat, joined-flat, latch_at-flat}

flat : (n q : Name) → IsFlat (toggle_design n q) (toggle_main n q)
flat n q = record { models = refl; subckts = refl }

-- the cover inverts its input
inverts : (bit : Bool) → cover_value (codes "0" ∷ []) true (bit ∷ []) ≡ not bit
inverts true = refl
inverts false = refl

-- the bits of the two nets
bits_of : Name → Bool → Valuation
bits_of q value place name = cond (bytes_eq name q) value (not value)

bits_at_q : (q : Name) (value : Bool) (place : Place) → bits_of q value place q ≡ value
unfolding bits_of
bits_at_q q value place = ap (λ t. cond t value (not value)) (bytes_eq-same q)

bits_at_n : (n q : Name) (value : Bool) (place : Place) → n ≢ q → bits_of q value place n ≡ not value
unfolding bits_of
bits_at_n n q value place apart = ap (λ t. cond t value (not value)) (bytes_eq-other n q apart)

-- a latch is the one of the main model
latch_is : (n q : Name) (place : Place) (number : ℕ) (latch : LatchRow) → latch_at (toggle_design n q) place number ≡ Some latch → (place ≡ []) × (number ≡ 0) × (latch ≡ plain_latch 3 n q 0)
latch_is n q place number latch h =
    let (is_top, is_latch) = latch_at-flat (toggle_design n q) (toggle_main n q) (flat n q) place number latch h in
    let (is_first, is_it) = only number is_latch in
    (is_top, is_first, is_it)
  where
    only : (number : ℕ) → slice_get (plain_latch 3 n q 0 ∷ []) number ≡ Some latch → (number ≡ 0) × (latch ≡ plain_latch 3 n q 0)
    only zero e = (refl, same_Some latch (plain_latch 3 n q 0) (sym e))
    only (suc number) e = absurd (none-some latch e)

-- the run
run_of : Name → ℕ → Valuation
run_of q cycle = bits_of q (is_odd_cycle cycle)

state_is : (n q : Name) → n ≢ q → (cycle : ℕ) → latches_in (toggle_design n q) (start_state (toggle_design n q)) (run_of q) cycle [] 0 ≡ is_odd_cycle cycle
unfolding run_of
state_is n q apart zero = refl
state_is n q apart (suc cycle) = bits_at_n n q (is_odd_cycle cycle) [] apart

solves : (n q : Name) → n ≢ q → (cycle : ℕ) (row : List Bool) → length row ≡ 0 → IsValuation (toggle_design n q) row (latches_in (toggle_design n q) (start_state (toggle_design n q)) (run_of q) cycle) (run_of q cycle)
unfolding run_of
solves n q apart cycle row empty =
    record {
      in_names = [];
      are_in_names = none;
      inputs_given = nothing row empty;
      joined_agree = λ u v e away. ap (λ net. run_of q cycle net.place net.name) (joined-flat (toggle_design n q) (toggle_main n q) (flat n q) e);
      covers_hold = λ place model cover is_model has_cover. holds place model cover (model_at-flat (toggle_design n q) (toggle_main n q) (flat n q) place model is_model).1 has_cover;
      latches_hold = λ place number latch is_latch. latched place number latch (latch_is n q place number latch is_latch);
    }
  where
    nothing : (row : List Bool) → length row ≡ 0 → [] ≡ row
    nothing [] e = refl
    nothing (bit ∷ row) e = absurd (omega arith)

    the_one : (place : Place) → run_of q cycle place n ≡ cover_value (codes "0" ∷ []) true (run_of q cycle place q ∷ [])
    the_one place =
        bits_at_n n q (is_odd_cycle cycle) place apart
        ∙ ap not (sym (bits_at_q q (is_odd_cycle cycle) place))
        ∙ sym (inverts (bits_of q (is_odd_cycle cycle) place q))

    holds : (place : Place) (model : Model) (cover : Cover) → model ≡ toggle_main n q → Contains model.covers cover → run_of q cycle place cover.out ≡ cover_value cover.rows cover.on (map (run_of q cycle place) cover.ins)
    holds place model cover is_main has_cover =
        let is_cover : cover ≡ cover_with 4 (q ∷ []) n (codes "0" ∷ []) = contains-one model.covers (cover_with 4 (q ∷ []) n (codes "0" ∷ [])) cover (ap (λ m. m.covers) is_main) has_cover in
        subst (λ c. run_of q cycle place c.out ≡ cover_value c.rows c.on (map (run_of q cycle place) c.ins)) (sym is_cover) (the_one place)

    state : LatchState
    state = latches_in (toggle_design n q) (start_state (toggle_design n q)) (run_of q) cycle

    at_q : run_of q cycle [] q ≡ state [] 0
    at_q = bits_at_q q (is_odd_cycle cycle) [] ∙ sym (state_is n q apart cycle)

    latched : (place : Place) (number : ℕ) (latch : LatchRow) → (place ≡ []) × (number ≡ 0) × (latch ≡ plain_latch 3 n q 0) → run_of q cycle place latch.output ≡ state place number
    latched place number latch (is_top, is_first, is_it) =
        subst (λ p. run_of q cycle p latch.output ≡ state p number) (sym is_top)
        (subst (λ k. run_of q cycle [] latch.output ≡ state [] k) (sym is_first)
        (subst (λ l. run_of q cycle [] l.output ≡ state [] 0) (sym is_it) at_q))

-- in every run the output is 0 and 1 in turn
alternates : (n q : Name) (rows : List (List Bool)) (run : ℕ → Valuation) → IsRun (toggle_design n q) rows run → (cycle : ℕ) → cycle < length rows → run cycle [] q ≡ is_odd_cycle cycle
alternates n q rows run is_run = go
  where
    valued : (cycle : ℕ) → cycle < length rows → IsValuation (toggle_design n q) (get_or rows cycle []) (latches_in (toggle_design n q) (start_state (toggle_design n q)) run cycle) (run cycle)
    valued cycle lt = is_run cycle (get_or rows cycle []) (slice_get-get_or rows cycle [] lt)

    at_q : (cycle : ℕ) → cycle < length rows → run cycle [] q ≡ latches_in (toggle_design n q) (start_state (toggle_design n q)) run cycle [] 0
    at_q cycle lt = (valued cycle lt).latches_hold [] 0 (plain_latch 3 n q 0) refl

    at_n : (cycle : ℕ) → cycle < length rows → run cycle [] n ≡ not (run cycle [] q)
    at_n cycle lt = (valued cycle lt).covers_hold [] (toggle_main n q) (cover_with 4 (q ∷ []) n (codes "0" ∷ [])) refl (0, omega arith, refl) ∙ inverts (run cycle [] q)

    go : (cycle : ℕ) → cycle < length rows → run cycle [] q ≡ is_odd_cycle cycle
    go zero lt = at_q zero lt
    go (suc cycle) lt = at_q (suc cycle) lt ∙ at_n cycle (omega arith) ∙ ap not (go cycle (omega arith))

pub latch_toggles : LatchToggles
latch_toggles n q apart =
    record {
      runs = λ rows empty. (run_of q, λ cycle row is_row. solves n q apart cycle row (emptied rows empty cycle row is_row));
      gives = λ rows run is_run cycle lt. ap (λ bit. bit ∷ []) (alternates n q rows run is_run cycle lt);
    }
  where
    emptied : (rows : List (List Bool)) → All (λ row. length row ≡ 0) rows → (cycle : ℕ) (row : List Bool) → slice_get rows cycle ≡ Some row → length row ≡ 0
    emptied rows empty cycle row is_row =
        subst (λ r. length r ≡ 0) (get_or_from_slice_get rows cycle row [] is_row) (empty cycle [] (slice_get_within rows cycle row is_row))

-- the one step is from q to n
step_is : (n q : Name) (read written : Net) → Feeds (toggle_design n q) read written → (read ≡ net_at [] q) × (written ≡ net_at [] n)
step_is n q read written h =
    let (is_top, is_main) = model_at-flat (toggle_design n q) (toggle_main n q) (flat n q) h.place h.model h.has_model in
    let is_cover : h.cover ≡ cover_with 4 (q ∷ []) n (codes "0" ∷ []) = contains-one h.model.covers (cover_with 4 (q ∷ []) n (codes "0" ∷ [])) h.cover (ap (λ m. m.covers) is_main) h.has_cover in
    let is_input : h.input ≡ q = contains-one h.cover.ins q h.input (ap (λ c. c.ins) is_cover) h.has_input in
    let is_output : h.cover.out ≡ n = ap (λ c. c.out) is_cover in (
      joined-flat (toggle_design n q) (toggle_main n q) (flat n q) h.reads ∙ ap (λ p. net_at p h.input) is_top ∙ ap (net_at []) is_input,
      sym (joined-flat (toggle_design n q) (toggle_main n q) (flat n q) h.writes) ∙ ap (λ p. net_at p h.cover.out) is_top ∙ ap (net_at []) is_output,
    )

ends_are : (n q : Name) (start : Net) (nets : List Net) (end : Net) → FeedsThrough (toggle_design n q) start nets end → (start ≡ net_at [] q) × (end ≡ net_at [] n)
ends_are n q start [] end h = step_is n q start end h
ends_are n q start (net ∷ nets) end h = ((step_is n q start net h.0).0, (ends_are n q net nets end h.1).1)

pub latch_breaks_loop : LatchBreaksLoop
latch_breaks_loop n q apart [] h = h
latch_breaks_loop n q apart (net ∷ nets) h =
    let (begins, ends) = ends_are n q net nets net h in
    apart (ap (λ x. x.name) (sym ends ∙ begins))
