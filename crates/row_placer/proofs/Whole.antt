-- A program that is placed computes its list.
use Rattle.std.proofs.Common.{◌≡◌, refl, sym, ◌∙◌, ap, ap₂, subst, ℕ, zero, suc, ◌+◌, ◌-◌, ◌<◌, ◌≤◌, Bool, true, false, cond, List, [], ◌∷◌, ◌++◌, length, get_or, map, drop, reverse, arith}
use Rattle.std.specs.Prelude.{All, None}
use Rattle.std.specs.List.{range_with_len}
use Rattle.std.proofs.lemmas.List.{ext_get_or, length-append, length-map, get_or-map, map-append, get_or_append_left, get_or-append-add, get_or-reverse, length-reverse, length-drop, get_or-drop}
use Rattle.std.proofs.lemmas.List.Elements.{All-append}
use Rattle.std.proofs.lemmas.List.FromFn.{length-map-range_with_len}
use Rattle.lists.proofs.Numbers.{length_if}
use Rattle.lane_core.specs.declared.plan.NetPlace.{NetPlace}
use Rattle.lane_core.specs.declared.plan.Program.{Program}
use Rattle.lane_core.specs.Entering.{bits_after}
use Rattle.lane_core.specs.Instrs.{bit_on, after_instrs}
use Rattle.cell_core.specs.declared.cells.Src.{Src}
use Rattle.cell_core.specs.declared.cells.Src.TheVariants.{Input, Latch, One, Zero, Cell as Made}
use Rattle.cell_core.specs.declared.list.CellList.{CellList}
use Rattle.row_placer.specs.declared.roles.Role.{Role}
use Rattle.row_placer.specs.declared.roles.Role.TheVariants.{Port}
use Rattle.row_placer.specs.declared.roles.Tag.{Tag}
use Rattle.row_placer.specs.declared.job.Job.{Job}
use Rattle.row_placer.specs.Told.{role_code, tag, free_tag, HoldsTags}
use Rattle.cell_core.specs.Loops.{loop_data, loop_state, loop_count, names_one}
use Rattle.cell_core.specs.Meaning.{bit_of}
use Rattle.row_placer.specs.Numbers.{number, IsThere, ReadsWhatIsThere}
use Rattle.cell_core.specs.Meaning.{Fits}
use Rattle.lane_core.specs.Entering.{lane_bit}
use Rattle.cell_meaning.specs.Computes.{ComputesByProgram}
use Rattle.row_placer.specs.Programs.{program_bits, free_lanes}
use Rattle.row_placer.specs.Placed.{IsPlaced, HomesHold, net_place_of}
use Rattle.row_placer.proofs.Values.{value_bit, numbered, agrees}
use Rattle.lane_core.proofs.Lengths.{length-after_instrs as length-after}

pub length-loops : (list : CellList) (state : List Bool) → length state ≡ length list.starts → length (loop_state list state) ≡ loop_count list
length-loops list state long = length-append state (cond (names_one list) (true ∷ []) []) ∙ ap₂ (λ a b. a + b) long (length_if (names_one list) true)

-- as many lanes are free at the start as are no loops'
pub free_but_loops : (list : CellList) (p : Program) → p.latches ≡ loop_state list list.starts → free_lanes p ≡ p.lanes - loop_count list
free_but_loops list p latches = ap (λ n. p.lanes - n) (ap length latches ∙ length-loops list list.starts refl)

pub length-data : (list : CellList) → length list.latches ≡ length list.starts → length (loop_data list) ≡ loop_count list
length-data list long = length-append list.latches (cond (names_one list) (One ∷ []) []) ∙ ap₂ (λ a b. a + b) long (length_if (names_one list) One)

pub wide : (list : CellList) (p : Program) (inputs state : List Bool) → p.latches ≡ loop_state list list.starts → loop_count list ≤ p.lanes → Fits list inputs state → length (program_bits list p inputs state) ≡ p.lanes
wide list p inputs state latches room f =
    let left : length (map (lane_bit p.ins inputs) (range_with_len 0 (free_lanes p))) ≡ free_lanes p = length-map-range_with_len (lane_bit p.ins inputs) 0 (free_lanes p) in
    let all = length-append (map (lane_bit p.ins inputs) (range_with_len 0 (free_lanes p))) (loop_state list state) in
    let right = length-loops list state f.latches in
    let loops : length p.latches ≡ loop_count list = ap length latches ∙ length-loops list list.starts refl in
    omega (arith, left, all, right, loops, room)

data_bits : (list : CellList) (inputs state : List Bool) → map (bit_of list inputs state) (loop_data list) ≡ loop_state list (map (bit_of list inputs state) list.latches)
data_bits list inputs state = map-append (bit_of list inputs state) list.latches (cond (names_one list) (One ∷ []) []) ∙ ap (λ l. map (bit_of list inputs state) list.latches ++ l) (by (names_one list))
  where
    by : (b : Bool) → map (bit_of list inputs state) (cond b (One ∷ []) []) ≡ cond b (true ∷ []) []
    by true = refl
    by false = refl

pub data_there : (list : CellList) → All (IsThere list (length list.cells)) list.latches → All (IsThere list (length list.cells)) (loop_data list)
data_there list all = All-append (IsThere list (length list.cells)) list.latches (cond (names_one list) (One ∷ []) []) all (by (names_one list) refl)
  where
    by : (b : Bool) → (names_one list) ≡ b → All (IsThere list (length list.cells)) (cond b (One ∷ []) [])
    by true e zero d below = e
    by true e (suc i) d below = absurd (omega (arith, below))
    by false e i d below = absurd (omega (arith, below))

-- the bits at the start are those of the tags
start_holds : (list : CellList) (job : Job) (p : Program) (homes : List ℕ) (tags : List Tag) (made : List NetPlace) → IsPlaced list job p homes tags made → HomesHold list p homes (value_bit list)
    → (inputs state : List Bool) → Fits list inputs state → HoldsTags (value_bit list inputs state) job.start (program_bits list p inputs state)
start_holds list job p homes tags made x hold inputs state f lane some =
    let h = x.home lane some in
    ap (bit_on (program_bits list p inputs state)) (sym h.2) ∙ hold inputs state f h.0 h.1 ∙ ap (λ (t : Tag). value_bit list inputs state t.value) (sym h.3)

-- a lane with a port's tag has the port's bit
port_bit : (list : CellList) (job : Job) (p : Program) (homes : List ℕ) (tags : List Tag) (made : List NetPlace) → ReadsWhatIsThere list → IsPlaced list job p homes tags made → HomesHold list p homes (value_bit list)
    → (inputs state : List Bool) → Fits list inputs state → (src : Src) (lane : ℕ) (role : Role) → IsThere list (length list.cells) src → 0 < role_code role → get_or tags lane free_tag ≡ tag (number list src) role
    → bit_on (after_instrs p.instrs (program_bits list p inputs state)) lane ≡ bit_of list inputs state src
port_bit list job p homes tags made sound x hold inputs state f src lane role there some here =
    let bits = program_bits list p inputs state in
    let all = x.told (value_bit list inputs state) (agrees list job inputs state sound x.job_of.base x.job_of.gates f) bits (wide list p inputs state x.latches x.room f ∙ sym x.start) (start_holds list job p homes tags made x hold inputs state f) in
    all lane (subst (λ (t : Tag). 0 < role_code t.role) (sym here) some) ∙ ap (λ (t : Tag). value_bit list inputs state t.value) here ∙ numbered list inputs state (length list.cells) src f there

-- the ports, in order: loops' data, outputs
port_value : (list : CellList) (job : Job) (i : ℕ) (all : List Src) → job.ports ≡ map (number list) all → i < length all → get_or job.ports i 0 ≡ number list (get_or all i Zero)
port_value list job i all is below = ap (λ ps. get_or ps i 0) is ∙ get_or-map (number list) all i Zero 0 below

-- the places of nets
abbrev net_at : Program → List Bool → NetPlace → Bool
net_at p bits place = bit_on (bits_after after_instrs p.instrs place.after bits) place.lane

net_bit : (list : CellList) (job : Job) (p : Program) (homes : List ℕ) (tags : List Tag) (made : List NetPlace) → ReadsWhatIsThere list → IsPlaced list job p homes tags made → HomesHold list p homes (value_bit list)
    → (inputs state : List Bool) → Fits list inputs state → (src : Src) → IsThere list (length list.cells) src → (src ≡ Zero → list.inputs + loop_count list < length homes)
    → net_at p (program_bits list p inputs state) (net_place_of list homes made src) ≡ bit_of list inputs state src
net_bit list job p homes tags made sound x hold inputs state f (Input i) there home =
    hold inputs state f i (omega (arith, there, x.known_home)) ∙ numbered list inputs state (length list.cells) (Input i) f there
net_bit list job p homes tags made sound x hold inputs state f (Latch i) there home =
    hold inputs state f (list.inputs + i) (omega (arith, there, x.known_home)) ∙ numbered list inputs state (length list.cells) (Latch i) f there
net_bit list job p homes tags made sound x hold inputs state f One there home =
    let one : cond {A = ℕ} (names_one list) 1 0 ≡ 1 = ap (λ b. cond {A = ℕ} b 1 0) there in
    hold inputs state f (list.inputs + length list.starts) (omega (arith, one, x.known_home)) ∙ numbered list inputs state (length list.cells) One f there
net_bit list job p homes tags made sound x hold inputs state f Zero there home =
    hold inputs state f (list.inputs + loop_count list) (home refl) ∙ numbered list inputs state (length list.cells) Zero f there
net_bit list job p homes tags made sound x hold inputs state f (Made i) there home =
    x.made_told (value_bit list inputs state) (agrees list job inputs state sound x.job_of.base x.job_of.gates f) (program_bits list p inputs state) (wide list p inputs state x.latches x.room f ∙ sym x.start)
    (start_holds list job p homes tags made x hold inputs state f) i (record { lane = 0; after = None }) (omega (arith, there, x.all_made))
    ∙ ap (λ b. value_bit list inputs state (b + i)) x.job_of.base ∙ numbered list inputs state (length list.cells) (Made i) f there

pub computes : (list : CellList) (job : Job) (p : Program) (homes : List ℕ) (tags : List Tag) (made : List NetPlace) → ReadsWhatIsThere list → IsPlaced list job p homes tags made → HomesHold list p homes (value_bit list)
    → ComputesByProgram list p
computes list job p homes tags made sound x hold = record {
  starts = x.latches;
  inputs = x.ins_long;
  bits = record {
    outs_have = λ inputs state f. ext_get_or false _ _ (length-map p.outs _ ∙ x.outs_long ∙ sym (length-map list.outs _)) (each_out inputs state f);
    loops_leave = λ inputs state f. ext_get_or false _ _ (long inputs state f ∙ sym (length-map (loop_data list) (bit_of list inputs state) ∙ datas)) (each_loop inputs state f) ∙ data_bits list inputs state;
    nets_have = λ inputs state f. ext_get_or false _ _ (length-map p.nets _ ∙ ap length x.nets ∙ length-map list.nets (net_place_of list homes made) ∙ sym (length-map list.nets _)) (each_net inputs state f);
  };
}
  where
    k : ℕ
    k = loop_count list

    datas : length (loop_data list) ≡ loop_count list
    datas = length-data list sound.fits

    long : (inputs state : List Bool) → Fits list inputs state → length (reverse (drop (free_lanes p) (after_instrs p.instrs (program_bits list p inputs state)))) ≡ loop_count list
    long inputs state f =
        let after = after_instrs p.instrs (program_bits list p inputs state) in
        let e = length-after p.instrs (program_bits list p inputs state) in
        omega (arith, length-reverse (drop (free_lanes p) after), length-drop (free_lanes p) after, e, wide list p inputs state x.latches x.room f, free_but_loops list p x.latches, x.room)

    each_out : (inputs state : List Bool) → Fits list inputs state → (o : ℕ) → o < length (map (bit_on (after_instrs p.instrs (program_bits list p inputs state))) p.outs)
        → get_or (map (bit_on (after_instrs p.instrs (program_bits list p inputs state))) p.outs) o false ≡ get_or (map (bit_of list inputs state) list.outs) o false
    each_out inputs state f o below =
        let low : o < length p.outs = omega (arith, below, length-map p.outs (bit_on (after_instrs p.instrs (program_bits list p inputs state)))) in
        let low' : o < length list.outs = omega (arith, low, x.outs_long) in
        let value : get_or job.ports (loop_count list + o) 0 ≡ number list (get_or list.outs o Zero) =
        port_value list job (loop_count list + o) (loop_data list ++ list.outs) x.job_of.ports (omega (arith, low', datas, length-append (loop_data list) list.outs))
        ∙ ap (number list) (ap (λ n. get_or (loop_data list ++ list.outs) (n + o) Zero) (sym datas) ∙ get_or-append-add (loop_data list) list.outs o Zero) in
        get_or-map (bit_on (after_instrs p.instrs (program_bits list p inputs state))) p.outs o 0 false low
        ∙ port_bit list job p homes tags made sound x hold inputs state f (get_or list.outs o Zero) (get_or p.outs o 0) (Port (loop_count list + o)) (sound.outs o Zero low') (let some : 0 < 4 + (loop_count list + o) = omega arith in some)
        (x.outs o low' ∙ ap (λ v. tag v (Port (loop_count list + o))) value)
        ∙ sym (get_or-map (bit_of list inputs state) list.outs o Zero false low')

    each_loop : (inputs state : List Bool) → Fits list inputs state → (s : ℕ) → s < length (reverse (drop (free_lanes p) (after_instrs p.instrs (program_bits list p inputs state))))
        → get_or (reverse (drop (free_lanes p) (after_instrs p.instrs (program_bits list p inputs state)))) s false ≡ get_or (map (bit_of list inputs state) (loop_data list)) s false
    each_loop inputs state f s below =
        let after = after_instrs p.instrs (program_bits list p inputs state) in
        let e = length-after p.instrs (program_bits list p inputs state) in
        let w = wide list p inputs state x.latches x.room f in
        let low : s < loop_count list = omega (arith, below, long inputs state f) in
        let inside : s < length (drop (free_lanes p) after) = omega (arith, low, length-drop (free_lanes p) after, e, w, free_but_loops list p x.latches, x.room) in
        let lane : free_lanes p + (length (drop (free_lanes p) after) - 1 - s) ≡ length tags - 1 - s = omega (arith, low, length-drop (free_lanes p) after, e, w, free_but_loops list p x.latches, x.room, x.lanes) in
        let value : get_or job.ports s 0 ≡ number list (get_or (loop_data list) s Zero) =
        port_value list job s (loop_data list ++ list.outs) x.job_of.ports (omega (arith, low, datas, length-append (loop_data list) list.outs))
        ∙ ap (number list) (get_or_append_left (loop_data list) list.outs Zero s (omega (arith, low, datas))) in
        get_or-reverse (drop (free_lanes p) after) s false inside
        ∙ get_or-drop (free_lanes p) after (length (drop (free_lanes p) after) - 1 - s) false
        ∙ ap (bit_on after) lane
        ∙ port_bit list job p homes tags made sound x hold inputs state f (get_or (loop_data list) s Zero) (length tags - 1 - s) (Port s) (data_there list sound.latches s Zero (omega (arith, low, datas))) (omega arith)
        (x.settled s low ∙ ap (λ v. tag v (Port s)) value)
        ∙ sym (get_or-map (bit_of list inputs state) (loop_data list) s Zero false (omega (arith, low, datas)))

    each_net : (inputs state : List Bool) → Fits list inputs state → (i : ℕ) → i < length (map (λ place. bit_on (bits_after after_instrs p.instrs place.after (program_bits list p inputs state)) place.lane) p.nets)
        → get_or (map (λ place. bit_on (bits_after after_instrs p.instrs place.after (program_bits list p inputs state)) place.lane) p.nets) i false ≡ get_or (map (bit_of list inputs state) list.nets) i false
    each_net inputs state f i below =
        let low : i < length p.nets = omega (arith, below, length-map p.nets (net_at p (program_bits list p inputs state))) in
        let low' : i < length list.nets = omega (arith, low, ap length x.nets, length-map list.nets (net_place_of list homes made)) in
        get_or-map (net_at p (program_bits list p inputs state)) p.nets i (record { lane = 0; after = None }) false low
        ∙ ap (net_at p (program_bits list p inputs state)) (ap (λ ns. get_or ns i (record { lane = 0; after = None })) x.nets ∙ get_or-map (net_place_of list homes made) list.nets i Zero (record { lane = 0; after = None }) low')
        ∙ net_bit list job p homes tags made sound x hold inputs state f (get_or list.nets i Zero) (sound.nets i Zero low') (x.zero_home i Zero low')
        ∙ sym (get_or-map (bit_of list inputs state) list.nets i Zero false low')
