-- The cells that a plan's columns make compute what the plan computes.
use Rattle.std.proofs.Common.{◌≡◌, refl, sym, ◌∙◌, ap, ap₂, ℕ, zero, suc, ◌+◌, ◌-◌, ◌<◌, ◌≤◌, Bool, true, false, ◌||◌, cond, List, [], ◌∷◌, ◌++◌, map, length, get_or, set, drop, reverse, replicate, arith}
use Rattle.std.specs.List.{range_with_len, list_any}
use Rattle.std.proofs.lemmas.Bool.{and_parts, and_from, lt-ltb, or_parts}
use Rattle.std.proofs.lemmas.List.{ext_get_or, length-map, length-drop, length-reverse, get_or-reverse, get_or-drop, append-nil}
use Rattle.std.proofs.lemmas.List.FromFn.{length-map-range_with_len, get_or-map-range_with_len}
use Rattle.std.proofs.lemmas.Simd.{map-map}
use Rattle.lane_core.specs.Instrs.{bit_on}
use Rattle.lane_core.specs.Columns.{after_columns}
use Rattle.lane_core.specs.Plans.{IsAdmissible}
use Rattle.lane_core.specs.Entering.{first_loop_lane, entry_bits, leaving, bits_after}
use Rattle.lane_core.specs.declared.plan.Plan.{Plan}
use Rattle.cell_core.specs.declared.cells.Src.{Src}
use Rattle.cell_core.specs.declared.cells.Src.TheVariants.{Input, Latch, Zero}
use Rattle.cell_core.specs.declared.cells.Cell.{Cell}
use Rattle.cell_core.specs.declared.list.CellList.{CellList}
use Rattle.cell_core.specs.Sources.{are_in_order, are_there, is_one, read_one}
use Rattle.cell_core.specs.Meaning.{bit_in, bit_of, Fits}
use Rattle.cell_core.specs.Loops.{names_one, loop_state}
use Rattle.cell_meaning.specs.Computes.{ComputesByPlan}
use Rattle.circuit_plans.specs.Circuits.{starts_with_one, first_bits, without_nets}
use Rattle.circuit_plans.specs.Lifted.{Lanes, source_on, sources_with_inputs, entry_sources, entry_lanes, lift_columns, sources_on, sources_leaving}
use Rattle.circuit_plans.specs.Lists.{IsListOf}
use Rattle.circuit_plans.proofs.Steps.{IsSound, IsLifted, columns_lifted, there_at, there_set, plain_at, plain_set, both_false, lift_length}
use Rattle.circuit_plans.proofs.EntryBits.{entry_is, length-entry_sources}

-- the entry is sound
inputs_there : (inputs latches i : ℕ) (ins : List ℕ) (sources : List Src) → i + length ins ≤ inputs → are_there inputs latches 0 sources ≡ true → are_there inputs latches 0 (sources_with_inputs i ins sources) ≡ true
inputs_there inputs latches i [] sources fits h = h
inputs_there inputs latches i (lane ∷ ins) sources fits h =
    inputs_there inputs latches (i + 1) ins (set sources lane (Input i)) (omega (arith, fits))
    (there_set inputs latches 0 sources lane (Input i) h (lt-ltb i inputs (omega (arith, fits))))

inputs_plain : (i : ℕ) (ins : List ℕ) (sources : List Src) → list_any is_one sources ≡ false → list_any is_one (sources_with_inputs i ins sources) ≡ false
inputs_plain i [] sources h = h
inputs_plain i (lane ∷ ins) sources h = inputs_plain (i + 1) ins (set sources lane (Input i)) (plain_set sources lane (Input i) h refl)

dark_there : (inputs latches n : ℕ) → are_there inputs latches 0 (replicate n Zero) ≡ true
dark_there inputs latches zero = refl
dark_there inputs latches (suc n) = dark_there inputs latches n

dark_plain : (n : ℕ) → list_any is_one (replicate n Zero) ≡ false
dark_plain zero = refl
dark_plain (suc n) = dark_plain n

loops_there : (inputs latches first count : ℕ) → first + count ≤ latches → are_there inputs latches 0 (map Latch (range_with_len first count)) ≡ true
loops_there inputs latches first zero fits = refl
loops_there inputs latches first (suc count) fits =
    and_from _ _ (lt-ltb first latches (omega (arith, fits))) (loops_there inputs latches (first + 1) count (omega (arith, fits)))

loops_plain : (first count : ℕ) → list_any is_one (map Latch (range_with_len first count)) ≡ false
loops_plain first zero = refl
loops_plain first (suc count) = loops_plain (first + 1) count

there_append : (inputs latches : ℕ) (xs ys : List Src) → are_there inputs latches 0 xs ≡ true → are_there inputs latches 0 ys ≡ true → are_there inputs latches 0 (xs ++ ys) ≡ true
there_append inputs latches [] ys h k = k
there_append inputs latches (x ∷ xs) ys h k = and_from _ _ (and_parts _ _ h).0 (there_append inputs latches xs ys (and_parts _ _ h).1 k)

plain_append : (xs ys : List Src) → list_any is_one xs ≡ false → list_any is_one ys ≡ false → list_any is_one (xs ++ ys) ≡ false
plain_append [] ys h k = k
plain_append (x ∷ xs) ys h k = both_false _ _ (or_parts _ _ h).0 (plain_append xs ys (or_parts _ _ h).1 k)

entry_sound : (plan : Plan) → IsSound (length plan.ins) plan.latches (entry_lanes plan)
entry_sound plan =
    let free = first_loop_lane plan.lanes plan.latches in
    record {
      order = refl;
      there = there_append (length plan.ins) plan.latches (sources_with_inputs 0 plan.ins (replicate (first_loop_lane plan.lanes plan.latches) Zero)) (map Latch (range_with_len 0 plan.latches))
          (inputs_there (length plan.ins) plan.latches 0 plan.ins (replicate (first_loop_lane plan.lanes plan.latches) Zero) (omega arith) (dark_there (length plan.ins) plan.latches (first_loop_lane plan.lanes plan.latches)))
          (loops_there (length plan.ins) plan.latches 0 plan.latches (omega arith));
      cells_plain = refl;
      plain = plain_append (sources_with_inputs 0 plan.ins (replicate (first_loop_lane plan.lanes plan.latches) Zero)) (map Latch (range_with_len 0 plan.latches))
          (inputs_plain 0 plan.ins (replicate (first_loop_lane plan.lanes plan.latches) Zero) (dark_plain (first_loop_lane plan.lanes plan.latches))) (loops_plain 0 plan.latches);
    }

pub lifted : (plan : Plan) → IsLifted (length plan.ins) plan.latches (entry_lanes plan) (lift_columns (entry_lanes plan) plan.columns) (after_columns plan.columns)
lifted plan = columns_lifted (length plan.ins) plan.latches (entry_lanes plan) (entry_sound plan) plan.columns

pub there_on : (inputs latches made : ℕ) (sources : List Src) (lanes : List ℕ) → are_there inputs latches made sources ≡ true → are_there inputs latches made (sources_on sources lanes) ≡ true
there_on inputs latches made sources [] h = refl
there_on inputs latches made sources (lane ∷ lanes) h = and_from _ _ (there_at inputs latches made sources lane h) (there_on inputs latches made sources lanes h)

plain_on : (sources : List Src) (lanes : List ℕ) → list_any is_one sources ≡ false → list_any is_one (sources_on sources lanes) ≡ false
plain_on sources [] h = refl
plain_on sources (lane ∷ lanes) h = both_false _ _ (plain_at sources lane h) (plain_on sources lanes h)

leaving_is : (sources : List Src) (lanes loops : ℕ) → sources_leaving sources lanes loops ≡ sources_on sources (map (λ number. lanes - 1 - number) (range_with_len 0 loops))
leaving_is sources lanes loops = sym (map-map (source_on sources) (λ number. lanes - 1 - number) (range_with_len 0 loops))

pub there_leaving : (inputs latches made : ℕ) (sources : List Src) (lanes loops : ℕ) → are_there inputs latches made sources ≡ true → are_there inputs latches made (sources_leaving sources lanes loops) ≡ true
there_leaving inputs latches made sources lanes loops h =
    ap (are_there inputs latches made) (leaving_is sources lanes loops) ∙ there_on inputs latches made sources (map (λ number. lanes - 1 - number) (range_with_len 0 loops)) h

plain_leaving : (sources : List Src) (lanes loops : ℕ) → list_any is_one sources ≡ false → list_any is_one (sources_leaving sources lanes loops) ≡ false
plain_leaving sources lanes loops h = ap (list_any is_one) (leaving_is sources lanes loops) ∙ plain_on sources (map (λ number. lanes - 1 - number) (range_with_len 0 loops)) h

or_none : (a b c d : Bool) → a ≡ false → b ≡ false → c ≡ false → d ≡ false → (((a || b) || c) || d) ≡ false
or_none true b c d e f g h = e
or_none false true c d e f g h = f
or_none false false true d e f g h = g
or_none false false false true e f g h = h
or_none false false false false e f g h = refl

pub is_plain : (plan : Plan) (list : CellList) → IsListOf plan list → names_one list ≡ false
is_plain plan list is =
    let sound = (lifted plan).sound in
    or_none (read_one list.cells) (list_any is_one list.outs) (list_any is_one list.latches) (list_any is_one list.nets)
    (ap read_one is.cells ∙ sound.cells_plain)
    (ap (list_any is_one) is.outs ∙ plain_on (lift_columns (entry_lanes plan) plan.columns).sources plan.outs sound.plain)
    (ap (list_any is_one) is.latches ∙ plain_leaving (lift_columns (entry_lanes plan) plan.columns).sources plan.lanes plan.latches sound.plain)
    (ap (list_any is_one) is.nets)

bits_on : (f : Src → Bool) (sources : List Src) (lane : ℕ) → f Zero ≡ false → bit_on (map f sources) lane ≡ f (source_on sources lane)
bits_on f [] lane dark = sym dark
bits_on f (s ∷ sources) zero dark = refl
bits_on f (s ∷ sources) (suc lane) dark = bits_on f sources lane dark

outs_on : (f : Src → Bool) (sources : List Src) (lanes : List ℕ) → f Zero ≡ false → map (bit_on (map f sources)) lanes ≡ map f (sources_on sources lanes)
outs_on f sources [] dark = refl
outs_on f sources (lane ∷ lanes) dark = ap₂ (λ b bs. b ∷ bs) (bits_on f sources lane dark) (outs_on f sources lanes dark)

leaving_on : (f : Src → Bool) (sources : List Src) (lanes loops : ℕ) → f Zero ≡ false → length sources ≡ lanes → loops ≤ lanes
    → leaving (first_loop_lane lanes loops) (map f sources) ≡ map f (sources_leaving sources lanes loops)
leaving_on f sources lanes loops dark long fit =
    let last : List Bool = drop (lanes - loops) (map f sources) in
    let many : length (drop (lanes - loops) (map f sources)) ≡ loops = simp (length-drop, length-map) (omega (arith, long, fit)) in
    let turned : length (reverse (drop (lanes - loops) (map f sources))) ≡ loops = length-reverse (drop (lanes - loops) (map f sources)) ∙ many in
    let same : map f (sources_leaving sources lanes loops) ≡ map (λ number. f (source_on sources (lanes - 1 - number))) (range_with_len 0 loops) =
    map-map f (λ number. source_on sources (lanes - 1 - number)) (range_with_len 0 loops) in
    ext_get_or false (reverse (drop (lanes - loops) (map f sources))) (map (λ number. f (source_on sources (lanes - 1 - number))) (range_with_len 0 loops))
    (turned ∙ sym (length-map-range_with_len (λ number. f (source_on sources (lanes - 1 - number))) 0 loops))
    (λ number lt. (let low : number < loops = omega (arith, lt, turned) in
    let place : lanes - loops + (length (drop (lanes - loops) (map f sources)) - 1 - number) ≡ lanes - 1 - number = omega (arith, many, low, fit) in
    get_or-reverse (drop (lanes - loops) (map f sources)) number false (omega (arith, many, low))
    ∙ get_or-drop (lanes - loops) (map f sources) (length (drop (lanes - loops) (map f sources)) - 1 - number) false
    ∙ ap (λ n. get_or (map f sources) n false) place
    ∙ bits_on f sources (lanes - 1 - number) dark
    ∙ sym (get_or-map-range_with_len (λ n. f (source_on sources (lanes - 1 - n))) 0 loops number number false low (omega arith))))
    ∙ sym same

length-fold : (plan : Plan) → length (entry_sources plan) ≡ first_loop_lane plan.lanes plan.latches + plan.latches → IsAdmissible plan → length (entry_sources plan) ≡ plan.lanes
length-fold plan long h = omega (arith, long, h.size.loops_on_lanes)

many_bits : (plan : Plan) → length (first_bits plan) ≡ plan.latches
many_bits plan = length-map-range_with_len (starts_with_one plan.starts.list plan.lanes plan.latches) 0 plan.latches

no_more : (n : ℕ) → n + 0 ≡ n
no_more n = omega arith

pub computes : (plan : Plan) → IsAdmissible plan → plan.nets ≡ [] → (list : CellList) → IsListOf plan list → ComputesByPlan list plan
computes plan h bare list is = record {
  loops = sym (length-map-range_with_len (starts_with_one plan.starts.list plan.lanes plan.latches) 0 plan.latches) ∙ sym (ap length is.starts) ∙ sym (ap (λ b. length list.starts + cond b 1 0) (is_plain plan list is) ∙ no_more (length list.starts));
  inputs = sym is.inputs;
  bits = record {
    outs_have = λ inputs state fits.
        ap (λ bits. map (bit_on bits) plan.outs) (at_end inputs state fits)
        ∙ outs_on (bit_of list inputs state) sources plan.outs refl
        ∙ ap (map (bit_of list inputs state)) (sym is.outs);
    loops_leave = λ inputs state fits.
        ap (leaving (first_loop_lane plan.lanes plan.latches)) (at_end inputs state fits)
        ∙ leaving_on (bit_of list inputs state) sources plan.lanes plan.latches refl long h.size.loops_on_lanes
        ∙ ap (map (bit_of list inputs state)) (sym is.latches)
        ∙ sym (whole (map (bit_of list inputs state) list.latches));
    nets_have = λ inputs state fits.
        ap (map (λ place. bit_on (bits_after after_columns plan.columns place.after (entry_bits (first_loop_lane plan.lanes plan.latches) plan.ins inputs (loop_state list state))) place.lane)) bare
        ∙ ap (map (bit_of list inputs state)) (sym is.nets);
  };
}
  where
    sources : List Src
    sources = (lift_columns (entry_lanes plan) plan.columns).sources

    whole : (state : List Bool) → loop_state list state ≡ state
    whole state = ap (λ b. state ++ cond b (true ∷ []) []) (is_plain plan list is) ∙ append-nil state

    -- what enters, and what leaves, by the cells
    at_end : (inputs state : List Bool) → Fits list inputs state
        → after_columns plan.columns (entry_bits (first_loop_lane plan.lanes plan.latches) plan.ins inputs (loop_state list state)) ≡ map (bit_of list inputs state) sources
    at_end inputs state fits =
        ap (λ s. after_columns plan.columns (entry_bits (first_loop_lane plan.lanes plan.latches) plan.ins inputs s)) (whole state)
        ∙ ap (after_columns plan.columns) (sym (entry_is plan inputs state (fits.row ∙ is.inputs) (fits.latches ∙ ap length is.starts ∙ many_bits plan) h.ins.distinct h.ins.below))
        ∙ sym ((lifted plan).bits inputs state)
        ∙ ap (λ cells. map (bit_in cells inputs state) sources) (sym is.cells)

    long : length sources ≡ plan.lanes
    long = lift_length plan.columns (entry_lanes plan) ∙ length-fold plan (length-entry_sources plan) h

-- and whatever its nets, what the plan without them computes
pub computes_bare : (plan : Plan) → IsAdmissible plan → (list : CellList) → IsListOf plan list → ComputesByPlan list (without_nets plan)
computes_bare plan h list is =
    computes (without_nets plan)
    (record { size = record { lanes = h.size.lanes; columns = h.size.columns; both = h.size.both; loops_on_lanes = h.size.loops_on_lanes; loops_in_columns = h.size.loops_in_columns }; instrs = h.instrs; apart = h.apart; ins = h.ins; outs = h.outs; nets = λ k d lt. absurd (omega (arith, lt)); tape = record { each_input = h.tape.each_input; lists = record { range = h.tape.lists.range; alike = h.tape.lists.alike } } })
    refl list
    (record { inputs = is.inputs; cells = is.cells; outs = is.outs; latches = is.latches; starts = is.starts; nets = is.nets })

-- what the type of lists asks of that list
pub record IsKept (inputs : ℕ) (cells : List Cell) (outs latches : List Src) (starts : List Bool) : Type 0 where
  pub in_order : are_in_order inputs (length starts) 0 cells ≡ true
  pub outs_there : are_there inputs (length starts) (length cells) outs ≡ true
  pub latches_there : are_there inputs (length starts) (length cells) latches ≡ true
  pub starts_fit : length starts ≡ length latches

pub is_kept : (plan : Plan) → IsAdmissible plan → (inputs : ℕ) (cells : List Cell) (outs latches : List Src) (starts : List Bool) → inputs ≡ length plan.ins
    → cells ≡ (lift_columns (entry_lanes plan) plan.columns).cells → outs ≡ sources_on (lift_columns (entry_lanes plan) plan.columns).sources plan.outs
    → latches ≡ sources_leaving (lift_columns (entry_lanes plan) plan.columns).sources plan.lanes plan.latches → starts ≡ first_bits plan → IsKept inputs cells outs latches starts
is_kept plan h inputs cells outs latches starts e f g k l =
    let sound = (lifted plan).sound in
    let loops : length starts ≡ plan.latches = ap length l ∙ many_bits plan in
    let after : Lanes = lift_columns (entry_lanes plan) plan.columns in
    record {
      in_order = ap (λ n. are_in_order n (length starts) 0 cells) e ∙ ap (λ n. are_in_order (length plan.ins) n 0 cells) loops ∙ ap (are_in_order (length plan.ins) plan.latches 0) f ∙ sound.order;
      outs_there = ap (λ n. are_there n (length starts) (length cells) outs) e ∙ ap (λ n. are_there (length plan.ins) n (length cells) outs) loops
          ∙ ap₂ (λ (cs : List Cell) os. are_there (length plan.ins) plan.latches (length cs) os) f g
          ∙ there_on (length plan.ins) plan.latches (length (lift_columns (entry_lanes plan) plan.columns).cells) (lift_columns (entry_lanes plan) plan.columns).sources plan.outs sound.there;
      latches_there = ap (λ n. are_there n (length starts) (length cells) latches) e ∙ ap (λ n. are_there (length plan.ins) n (length cells) latches) loops
          ∙ ap₂ (λ (cs : List Cell) os. are_there (length plan.ins) plan.latches (length cs) os) f k
          ∙ there_leaving (length plan.ins) plan.latches (length (lift_columns (entry_lanes plan) plan.columns).cells) (lift_columns (entry_lanes plan) plan.columns).sources plan.lanes plan.latches sound.there;
      starts_fit = loops ∙ sym (length-map-range_with_len (λ number. source_on (lift_columns (entry_lanes plan) plan.columns).sources (plan.lanes - 1 - number)) 0 plan.latches) ∙ ap length (sym k);
    }

pub entry_long : (plan : Plan) → IsAdmissible plan → length (entry_sources plan) ≡ plan.lanes
entry_long plan h = length-fold plan (length-entry_sources plan) h
