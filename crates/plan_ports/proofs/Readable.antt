-- The port table of an admissible plan can be written, and read back.
use Rattle.std.proofs.Common.{◌≡◌, ◌≢◌, refl, sym, ◌∙◌, ap, subst, ℕ, suc, ◌+◌, ◌-◌, ◌*◌, ◌<◌, ◌≤◌, ◌^◌, Bool, true, false, cond, List, [], ◌∷◌, length, map, get_or, arith}
use Rattle.std.specs.Prelude.{◌==◌, if◌then◌else◌}
use Rattle.std.specs.List.{All, AllByRecursion, AllPairs}
use Rattle.std.proofs.lemmas.Bool.{eqb-true, eqb-false}
use Rattle.std.proofs.lemmas.List.{get_or-map, length-map}
use Rattle.std.proofs.lemmas.List.Elements.{All-head, All-tail, All-map}
use Rattle.std.proofs.Math.Nat.{mul-le-mul_right}
use Rattle.lane_core.specs.declared.plan.Plan.{Plan}
use Rattle.lane_core.specs.Plans.{IsAdmissible, left_of, row_of, period_of, size_of}
use Rattle.lane_core.specs.Places.{AreDistinctBelow}
use Rattle.lane_core.specs.Tape.{cycles_of, tape_cycles, cycle_tiles, tape_shift}
use Rattle.netlist_core.specs.declared.flat.FlatPort.{FlatPort}
use Rattle.netlist_core.specs.declared.flat.Flat.{Flat}
use Rattle.netlist_meaning.specs.Flat.{names_of_ports}
use Rattle.pattern_reading.specs.declared.ports.PortLine.{PortLine}
use Rattle.pattern_reading.specs.Numbers.{greatest_number}
use Rattle.pattern_reading.specs.Ports.{cells_of, names_of}
use Rattle.pattern_reading.specs.Spelling.{IsPortName}
use Rattle.pattern_reading.specs.SoundTable.{IsSoundPort}
use Rattle.pattern_reading.specs.Laws.{IsPortInside}
use Rattle.plan_ports.proofs.NetLines.{nets_sound, nets_inside, one_net}
use Rattle.plan_ports.specs.Laws.{HasRoom, TablesAreReadable}
use Rattle.plan_ports.specs.Tables.{drawn_input_cells}

-- lines have what their cells and their names give
each_line : (P : ℕ × ℕ → Type 0) (Q : List ℕ → Type 0) (R : PortLine → Type 0) → ((line : PortLine) → P (line.x, line.y) → Q line.name → R line)
    → (lines : List PortLine) → All P (cells_of lines) → All Q (names_of lines) → AllByRecursion R lines
each_line P Q R both [] p q = tt
each_line P Q R both (line ∷ lines) p q =
    (both line (All-head P (line.x, line.y) (cells_of lines) p) (All-head Q line.name (names_of lines) q), each_line P Q R both lines (All-tail P (line.x, line.y) (cells_of lines) p) (All-tail Q line.name (names_of lines) q))

-- The cells of ports.

abbrev Inside : ℕ × ℕ → ℕ × ℕ → Type 0
Inside size cell = (cell.0 < size.0) × (cell.1 < size.1)

box : (empty : Bool) (lanes loops columns shift x lane : ℕ) → (empty ≡ true → lanes ≡ 0) → lane < lanes - loops → x ≤ columns + loops
    → Inside (if empty then (0, 0) else (32 * (shift + (columns + 2 * loops)) + 1, 16 * (lanes + loops))) (32 * shift + 32 * x, 16 * lane + 8)
box true lanes loops columns shift x lane none low near = absurd (omega (arith, none refl, low))
box false lanes loops columns shift x lane none low near = (omega (arith, near), omega (arith, low))

inside : (plan : Plan) (x lane : ℕ) → lane < plan.lanes - plan.latches → x ≤ length plan.columns + plan.latches → Inside (size_of plan) (32 * tape_shift plan + 32 * x, row_of lane)
inside plan x lane low near = box (plan.lanes == 0) plan.lanes plan.latches (length plan.columns) (tape_shift plan) x lane (eqb-true plan.lanes 0) low near

lanes_inside : (plan : Plan) (column : ℕ) (lanes : List ℕ) → AreDistinctBelow (plan.lanes - plan.latches) lanes → column ≤ length plan.columns
    → All (Inside (size_of plan)) (map (λ lane. (32 * tape_shift plan + left_of plan column, row_of lane)) lanes)
lanes_inside plan column lanes d near =
    All-map (Inside (size_of plan)) (λ lane. (32 * tape_shift plan + left_of plan column, row_of lane)) lanes
    (λ k e lt. inside plan (plan.latches + column) (get_or lanes k e) (d.below k e lt) (omega (arith, near)))

abbrev pub Small : ℕ × ℕ → Type 0
Small size = (size.0 ≤ greatest_number) × (size.1 ≤ greatest_number)

small_box : (none : Bool) (size : ℕ × ℕ) → Small size → Small (if none then (0, 0) else size)
small_box true size s = (omega arith, omega arith)
small_box false size s = s

-- a tape has at most 4,096 cycles
few_cycles : (plan : Plan) → IsAdmissible plan → tape_cycles plan ≤ 4096
few_cycles plan h = by plan.tape h.tape.lists.range
  where
    by : (lists : List (List Bool)) → All (λ bits. (1 ≤ length bits) × (length bits ≤ 4096)) lists → cycles_of lists ≤ 4096
    by [] range = omega arith
    by (bits ∷ lists) range = (range 0 [] (omega arith)).1

few_tiles : (plan : Plan) → IsAdmissible plan → cycle_tiles plan < 2 ^ 42
few_tiles plan h = omega (arith, by (plan.latches == 0) (32 * (2 * length plan.columns + 4 * plan.latches)) (omega (arith, h.size.columns, h.size.loops_on_lanes, h.size.lanes)))
  where
    by : (none : Bool) (x : ℕ) → x < 2 ^ 47 → cond none 32 x < 2 ^ 47
    by true x few = omega arith
    by false x few = few

-- so the drawing is moved by fewer than 2^54 tile columns
pub shift_few : (plan : Plan) → IsAdmissible plan → tape_shift plan ≤ 2 ^ 54
shift_few plan h =
    let most : (tape_cycles plan - 1) * cycle_tiles plan ≤ 4095 * cycle_tiles plan = mul-le-mul_right (cycle_tiles plan) (omega (arith, few_cycles plan h)) in
    omega (arith, most, few_tiles plan h)

-- an admissible plan's box is no larger than a table may write
pub small_size : (plan : Plan) → IsAdmissible plan → Small (size_of plan)
small_size plan h =
    small_box (plan.lanes == 0) (32 * (tape_shift plan + (length plan.columns + 2 * plan.latches)) + 1, 16 * (plan.lanes + plan.latches))
    (omega (arith, shift_few plan h, h.size.lanes, h.size.columns, h.size.loops_on_lanes), omega (arith, h.size.lanes, h.size.loops_on_lanes))

-- The period.

abbrev FitsPeriod : ℕ → Type 0
FitsPeriod p = (p ≢ 0) × (p ≤ greatest_number)

cycle_fits : (none : Bool) (columns loops : ℕ) → (none ≡ false → loops ≢ 0) → columns < 2 ^ 40 → loops < 2 ^ 32 → FitsPeriod (cond none 32 (32 * (2 * columns + 4 * loops)))
cycle_fits true columns loops some low few = (λ e. omega (arith, e), omega arith)
cycle_fits false columns loops some low few = (λ e. some refl (omega (arith, e)), omega (arith, low, few))

period_fits : (plan : Plan) → IsAdmissible plan → FitsPeriod (period_of plan)
period_fits plan h =
    cycle_fits (plan.latches == 0) (length plan.columns) plan.latches (eqb-false plan.latches 0) h.size.columns (omega (arith, h.size.lanes, h.size.loops_on_lanes))

-- The names of ports.

distinct : (lines : List PortLine) → AllPairs (λ a b. a ≢ b) (names_of lines) → AllPairs (λ a b. a.name ≢ b.name) lines
distinct lines h i j d before within =
    let first = get_or-map (λ (line : PortLine). line.name) lines i d d.name (omega (arith, before, within)) in
    let second = get_or-map (λ (line : PortLine). line.name) lines j d d.name within in
    λ same. h i j d.name before (omega (arith, within, length-map lines (λ (line : PortLine). line.name))) (first ∙ same ∙ sym second)

-- Port lines with such cells and names.
module _ (flat : Flat) (plan : Plan) (h : IsAdmissible plan) (ports : List FlatPort) (names : All IsPortName (names_of_ports flat ports))
    (lines : List PortLine) (column : ℕ) (lanes : List ℕ) (below : AreDistinctBelow (plan.lanes - plan.latches) lanes) (near : column ≤ length plan.columns)
    (cells : cells_of lines ≡ map (λ lane. (32 * tape_shift plan + left_of plan column, row_of lane)) lanes) (named : names_of lines ≡ names_of_ports flat ports) where
  abbrev Each : (PortLine → Type 0) → Type 0
  Each R = ((line : PortLine) → Inside (size_of plan) (line.x, line.y) → IsPortName line.name → R line) → AllByRecursion R lines

  each : (R : PortLine → Type 0) → Each R
  each R both =
      each_line (Inside (size_of plan)) IsPortName R both lines (subst (All (Inside (size_of plan))) (sym cells) (lanes_inside plan column lanes below near))
      (subst (All IsPortName) (sym named) names)

  lines_sound : AllByRecursion IsSoundPort lines
  lines_sound = each IsSoundPort (λ line at name. record {
    x = omega (arith, at.0, (small_size plan h).0);
    y = omega (arith, at.1, (small_size plan h).1);
    name = name;
  })

  lines_inside : AllByRecursion (IsPortInside (size_of plan).0 (size_of plan).1) lines
  lines_inside = each (IsPortInside (size_of plan).0 (size_of plan).1) (λ line at name. at)

-- each period has room for one context
pub one_has_room : (plan : Plan) → HasRoom plan 1
one_has_room plan = record { some = λ e. omega (arith, e); room = λ more. omega (arith, more) }

-- The lines of inputs, where there are any.
module _ (flat : Flat) (plan : Plan) (h : IsAdmissible plan) (names : All IsPortName (names_of_ports flat flat.ins)) (apart : AllPairs (λ a b. a ≢ b) (names_of_ports flat flat.ins)) where
  record AreInputLines (lines : List PortLine) : Type 0 where
    pub sound : AllByRecursion IsSoundPort lines
    pub inside : AllByRecursion (IsPortInside (size_of plan).0 (size_of plan).1) lines
    pub distinct : AllPairs (λ (a b : PortLine). a.name ≢ b.name) lines

  no_lines : (lines : List PortLine) → cells_of lines ≡ [] → AreInputLines lines
  no_lines [] e = record { sound = tt; inside = tt; distinct = λ i j d before within. absurd (omega (arith, within)) }
  no_lines (line ∷ rest) e = let many : suc (length (cells_of rest)) ≡ 0 = ap length e in absurd (omega (arith, many))

  input_lines : (b : Bool) (lines : List PortLine) → cells_of lines ≡ (if b then drawn_input_cells plan else []) → names_of lines ≡ (if b then names_of_ports flat flat.ins else []) → AreInputLines lines
  input_lines false lines cells words = no_lines lines cells
  input_lines true lines cells words = record {
    sound = lines_sound flat plan h flat.ins names lines 0 plan.ins h.ins (omega arith) cells words;
    inside = lines_inside flat plan h flat.ins names lines 0 plan.ins h.ins (omega arith) cells words;
    distinct = distinct lines (subst (AllPairs (λ a b. a ≢ b)) (sym words) apart);
  }

pub tables_are_readable : TablesAreReadable
tables_are_readable flat plan c ports range named names places h room t =
    let ins = input_lines flat plan h names.ins named.ins.distinct (length plan.tape == 0) ports.ins t.in_cells t.in_names in
    record {
      sound = record {
        period = λ e. (period_fits plan h).0 (sym t.period ∙ e);
        p = subst (λ n. n ≤ greatest_number) (sym t.period) (period_fits plan h).1;
        l = subst (λ n. n ≤ greatest_number) (sym t.latency) (omega (arith, h.size.columns));
        contexts = λ e. room.some (sym t.contexts ∙ e);
        room = rw (t.contexts, t.period) (room.room);
        ins = ins.sound;
        outs = lines_sound flat plan h flat.outs names.outs ports.outs (length plan.columns) plan.outs h.outs (omega arith) t.out_cells t.out_names;
        nets = nets_sound flat plan h names places ports.nets t.net_cells t.net_names (small_size plan h).0 (small_size plan h).1;
        one_input = ins.distinct;
        one_output = distinct ports.outs (subst (AllPairs (λ a b. a ≢ b)) (sym t.out_names) named.outs.distinct);
        one_net = one_net flat plan h names places ports.nets t.net_cells t.net_names;
      };
      inside = record {
        ins = ins.inside;
        outs = lines_inside flat plan h flat.outs names.outs ports.outs (length plan.columns) plan.outs h.outs (omega arith) t.out_cells t.out_names;
        nets = nets_inside flat plan h names places ports.nets t.net_cells t.net_names;
      };
    }
