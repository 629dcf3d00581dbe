-- The bits of homes at the start.
use Rattle.std.proofs.Common.{◌≡◌, ◌≢◌, refl, sym, ◌∙◌, ap, ap₂, ℕ, zero, suc, ◌+◌, ◌-◌, ◌<◌, Bool, true, false, cond, ⊎_elim, List, [], ◌∷◌, length, get_or, map, arith}
use Rattle.std.specs.Prelude.{◌&&◌, ◌||◌, AllPairs}
use Rattle.std.proofs.lemmas.List.{append_assoc}
use Rattle.std.specs.List.{range_with_len}
use Rattle.std.proofs.lemmas.Bool.{cases_lt, eq-eqb as eq_yes}
use Rattle.std.proofs.lemmas.List.{get_or_append_left, get_or-append-add}
use Rattle.std.proofs.lemmas.List.FromFn.{length-map-range_with_len, get_or-map-range_with_len}
use Rattle.lane_core.specs.declared.plan.Program.{Program}
use Rattle.lane_core.specs.Instrs.{bit_on}
use Rattle.cell_core.specs.declared.list.CellList.{CellList}
use Rattle.cell_core.specs.declared.cells.Src.TheVariants.{Zero}
use Rattle.cell_core.specs.Loops.{loop_state, loop_count, names_one}
use Rattle.cell_core.specs.Meaning.{cell_bits}
use Rattle.cell_core.specs.Meaning.{Fits}
use Rattle.lane_core.specs.Entering.{lane_bit}
use Rattle.row_placer.specs.Programs.{program_bits, free_lanes}
use Rattle.row_placer.specs.Placed.{AreHomes, HomesHold}
use Rattle.row_placer.proofs.Values.{value_bit, numbered}
use Rattle.row_placer.proofs.Whole.{free_but_loops, length-loops}
use Rattle.std.proofs.lemmas.Bool.{ne_eqb as eq_no}
use Rattle.std.proofs.Math.Bool.{or-false as or_false}

lane_bit_none : (ins : List ℕ) (bits : List Bool) (lane : ℕ) → ((i : ℕ) → i < length ins → get_or ins i 0 ≢ lane) → lane_bit ins bits lane ≡ false
lane_bit_none [] bits lane apart = refl
lane_bit_none (a ∷ ins) [] lane apart = refl
lane_bit_none (a ∷ ins) (b ∷ bits) lane apart =
    ap₂ (λ x y. (x && b) || y) (eq_no a lane (apart 0 (omega arith))) (lane_bit_none ins bits lane (λ i below. apart (suc i) (omega (arith, below))))

lane_bit_at : (ins : List ℕ) (bits : List Bool) (i : ℕ) → AllPairs (λ a b. a ≢ b) ins → i < length ins → length bits ≡ length ins → lane_bit ins bits (get_or ins i 0) ≡ get_or bits i false
lane_bit_at [] bits i apart below long = absurd (omega (arith, below))
lane_bit_at (a ∷ ins) [] i apart below long = absurd (omega (arith, long))
lane_bit_at (a ∷ ins) (b ∷ bits) zero apart below long =
    ap₂ (λ x y. (x && b) || y) (eq_yes a a refl) (lane_bit_none ins bits a (λ j low e. apart 0 (suc j) 0 (omega arith) (omega (arith, low)) (sym e))) ∙ or_false b
lane_bit_at (a ∷ ins) (b ∷ bits) (suc i) apart below long =
    ap₂ (λ x y. (x && b) || y) (eq_no a (get_or ins i 0) (apart 0 (suc i) 0 (omega arith) below)) (lane_bit_at ins bits i (λ j k d lt low. apart (suc j) (suc k) d (omega (arith, lt)) (omega (arith, low))) (omega (arith, below)) (omega (arith, long)))

upper_bit_is : (list : CellList) (p : Program) (inputs state : List Bool) (lane : ℕ) → lane < free_lanes p → bit_on (program_bits list p inputs state) lane ≡ lane_bit p.ins inputs lane
upper_bit_is list p inputs state lane below =
    get_or_append_left (map (lane_bit p.ins inputs) (range_with_len 0 (free_lanes p))) (loop_state list state) false lane (omega (arith, below, length-map-range_with_len (lane_bit p.ins inputs) 0 (free_lanes p)))
    ∙ get_or-map-range_with_len (lane_bit p.ins inputs) 0 (free_lanes p) lane lane false below (omega arith)

loop_bit_is : (list : CellList) (p : Program) (inputs state : List Bool) (s : ℕ) → bit_on (program_bits list p inputs state) (free_lanes p + s) ≡ get_or (loop_state list state) s false
loop_bit_is list p inputs state s =
    ap (λ n. get_or (program_bits list p inputs state) (n + s) false) (sym (length-map-range_with_len (lane_bit p.ins inputs) 0 (free_lanes p)))
    ∙ get_or-append-add (map (lane_bit p.ins inputs) (range_with_len 0 (free_lanes p))) (loop_state list state) s false

-- values of inputs and loops
input_value : (list : CellList) (inputs state : List Bool) (i : ℕ) → i < length inputs → value_bit list inputs state i ≡ get_or inputs i false
input_value list inputs state i below = get_or_append_left inputs _ false i below

loop_value : (list : CellList) (inputs state : List Bool) (s : ℕ) → Fits list inputs state → s < loop_count list → value_bit list inputs state (list.inputs + s) ≡ get_or (loop_state list state) s false
loop_value list inputs state s f below =
    ap (λ n. value_bit list inputs state (n + s)) (sym f.row)
    ∙ get_or-append-add inputs _ s false
    ∙ ap (λ bits. get_or bits s false) (sym (append_assoc state (cond (names_one list) (true ∷ []) []) (false ∷ cell_bits inputs state list.cells)))
    ∙ get_or_append_left (loop_state list state) (false ∷ cell_bits inputs state list.cells) false s (omega (arith, below, length-loops list state f.latches))

pub homes_hold : (list : CellList) (p : Program) (homes : List ℕ) → AreHomes list p.lanes p.ins homes → p.latches ≡ loop_state list list.starts → HomesHold list p homes (value_bit list)
homes_hold list p homes h latches inputs state f v below =
    ⊎_elim
    (λ low. ap (bit_on (program_bits list p inputs state)) (h.inputs v low)
    ∙ upper_bit_is list p inputs state (get_or p.ins v 0) (let b = h.ins_apart.below v 0 (omega (arith, low, h.ins_long)) in omega (arith, b, free_but_loops list p latches))
    ∙ lane_bit_at p.ins inputs v h.ins_apart.distinct (omega (arith, low, h.ins_long)) (f.row ∙ sym h.ins_long)
    ∙ sym (input_value list inputs state v (omega (arith, low, f.row))))
    (λ high. ⊎_elim
    (λ low. let s = v - list.inputs in
    let at : list.inputs + s ≡ v = omega (arith, high) in
    let small : s < loop_count list = omega (arith, high, low) in
    ap (λ n. bit_on (program_bits list p inputs state) (get_or homes n 0)) (sym at)
    ∙ ap (bit_on (program_bits list p inputs state)) (h.loops s small ∙ ap (λ n. n + s) (sym (free_but_loops list p latches)))
    ∙ loop_bit_is list p inputs state s
    ∙ sym (loop_value list inputs state s f small)
    ∙ ap (value_bit list inputs state) at)
    (λ past. let at : v ≡ list.inputs + loop_count list = omega (arith, past, below, h.most) in
    let dark = h.dark (omega (arith, below, at)) in
    ap (λ n. bit_on (program_bits list p inputs state) (get_or homes n 0)) at
    ∙ upper_bit_is list p inputs state (get_or homes (list.inputs + loop_count list) 0) (omega (arith, dark.0, free_but_loops list p latches))
    ∙ lane_bit_none p.ins inputs (get_or homes (list.inputs + loop_count list) 0) (λ i low. dark.1 i (omega (arith, low, h.ins_long)))
    ∙ sym (numbered list inputs state 0 Zero f (record {}))
    ∙ ap (value_bit list inputs state) (sym at))
    (cases_lt v (list.inputs + loop_count list)))
    (cases_lt v list.inputs)
