-- The text reads as the design.
use Rattle.std.proofs.Common.{◌≡◌, ◌≢◌, refl, sym, ap, ◌∙◌, subst, ℕ, zero, suc, ◌+◌, ◌-◌, ◌*◌, ◌/◌, ◌<◌, ◌≤◌, List, [], ◌∷◌, ◌++◌, Bool, true, false, not, ◌||◌, arith, map, true≢false}
use Rattle.std.specs.Prelude.{bytes_eq, ◌==◌, None, filter_map, flat_map, Option}
use Rattle.std.specs.Bool.{then_some}
use Rattle.std.specs.Option.{option_or, option_map}
use Rattle.std.specs.List.{list_any, range_with_len, AllByRecursion, cons_option}
use Rattle.std.specs.Fmt.{digits}
use Rattle.std.proofs.lemmas.Bool.{eq-eqb, eqb-true, or_right as or_true}
use Rattle.std.proofs.lemmas.List.{append-nil}
use Rattle.std.proofs.lemmas.Nat.{mod_below}
use Rattle.std.proofs.lemmas.Slice.Eq.{bytes_eq-Decides}
use Rattle.netlist_core.specs.declared.model.Port.{Port}
use Rattle.netlist_core.specs.declared.model.Model.{Model}
use Rattle.blif_text.specs.LogicalLines.{logical_lines}
use Rattle.blif_text.specs.Models.{models_of}
use Rattle.blif_text.specs.LineFaults.{line_fault}
use Rattle.netlist_rules.specs.declared.fault.FaultKind.TheVariants.{DuplicatePort, MultipleDrivers, Undriven, NoSuchModel, NoSuchPin, PinTwice, PinMissing}
use Rattle.netlist_rules.specs.declared.fault.Fault.{Fault}
use Rattle.netlist_rules.specs.declared.fault.FaultKind.{FaultKind}
use Rattle.netlist_rules.specs.ModelFaults.{duplicate_ports, earliest, fault_of_port, first_broken_by, model_fault, second_drivers, undriven_readings, unless_named}
use Rattle.netlist_rules.proofs.CircleLemmas.{no_circle}
use Rattle.made_netlists.specs.Text.{latch_data, made_text, drawn_gate, drawn_gates, net_name, net_of_gate}
use Rattle.made_netlists.specs.Design.{made_model, ReadsAsMade, gate_cover, covers_from, line_after, model_from}
use Rattle.made_netlists.proofs.Lines.{IsNear, made_lines, made_lines_are}
use Rattle.made_netlists.proofs.LineRules.{no_line_fault}
use Rattle.made_netlists.proofs.Models.{made_models}
use Rattle.netlist_core.specs.Names.{at_line, is_named}
use Rattle.netlist_rules.specs.Drivers.{cover_output, cover_readings, drivers_of, readings_of}
use Rattle.made_netlists.specs.declared.gate.GateKind.{GateKind}
use Rattle.made_netlists.specs.declared.gate.GateKind.TheVariants.{And, Or, Xor, Nand}
use Rattle.made_netlists.specs.declared.gate.Gate.{Gate}
use Rattle.made_netlists.specs.Draws.{draw_after, state_after}
use Rattle.made_netlists.proofs.ModelRules.{AreFresh, fresh_from, is_same, names_fresh, nets, nets_from, no_repeats, others, own_ports, IsFresh}
use Rattle.netlist_rules.proofs.Faultless.{port_name}

-- draws are below their bounds
pub draw_below : (seed i n : ℕ) → 0 < n → draw_after seed i n < n
draw_below seed i n h = mod_below (state_after seed (i + 1) / 65536) n h

-- the drivers' names are those of all nets
out_of : (k : GateKind) (n : ℕ) (a b o : List ℕ) → port_name (cover_output (gate_cover k n a b o)) ≡ o
out_of And n a b o = refl
out_of Or n a b o = refl
out_of Xor n a b o = refl
out_of Nand n a b o = refl

abbrev latch_ports : List Port
latch_ports = at_line 4 (net_name 4) ∷ at_line 5 (net_name 5) ∷ []

outs_are : (seed k j b n : ℕ) → 6 + j ≡ b → map port_name (map cover_output (covers_from n (map (drawn_gate seed) (range_with_len j k))) ++ latch_ports) ≡ map net_name (nets_from b k)
outs_are seed zero j b n e = refl
outs_are seed (suc k) j b n e =
    let g : Gate = drawn_gate seed j in
    let next : 6 + (j + 1) ≡ b + 1 = omega (arith, e) in
    let rest : List (List ℕ) = map port_name (map cover_output (covers_from (line_after g.kind n) (map (drawn_gate seed) (range_with_len (j + 1) k))) ++ latch_ports) in
    ap (λ v. v ∷ rest) (out_of g.kind n (net_name g.first) (net_name g.second) (net_name g.out) ∙ ap net_name e)
    ∙ ap (λ v. net_name b ∷ v) (outs_are seed k (j + 1) (b + 1) (line_after g.kind n) next)

module _ (seed size last data0 data1 : ℕ) where
  abbrev model : Model
  model = model_from last data0 data1 (drawn_gates seed size)

  abbrev drivers : List Port
  drivers = drivers_of (model ∷ []) model

  abbrev gate_ports : List Port
  gate_ports = map cover_output (covers_from 6 (drawn_gates seed size)) ++ latch_ports

  input_ports : drivers ≡ at_line 2 (net_name 0) ∷ at_line 2 (net_name 1) ∷ at_line 2 (net_name 2) ∷ at_line 2 (net_name 3) ∷ (gate_ports ++ [])
  unfolding digits
  input_ports = refl

  drivers_are : map port_name drivers ≡ map net_name (nets size)
  drivers_are = ap (map port_name) (input_ports ∙ ap (λ v. at_line 2 (net_name 0) ∷ at_line 2 (net_name 1) ∷ at_line 2 (net_name 2) ∷ at_line 2 (net_name 3) ∷ v) (append-nil gate_ports)) ∙ ap (λ v. net_name 0 ∷ net_name 1 ∷ net_name 2 ∷ net_name 3 ∷ v) (outs_are seed size 0 6 6 refl)

fresh : (size : ℕ) → size ≤ 128 → AreFresh [] (nets size)
fresh size h =
    let inside : 6 + size ≤ 134 = omega arith in (
      omega arith,
      tt,
      ((omega arith, λ e. absurd (omega (arith, e))), ((omega arith, λ e. absurd (omega (arith, e))), ((omega arith, λ e. absurd (omega (arith, e))), others size 6 0 (omega arith) (λ e. absurd (omega (arith, e))) (λ e. absurd (omega (arith, e))) inside))),
      (
        omega arith,
        ((omega arith, λ e. absurd (omega (arith, e))), tt),
        ((omega arith, λ e. absurd (omega (arith, e))), ((omega arith, λ e. absurd (omega (arith, e))), others size 6 1 (omega arith) (λ e. absurd (omega (arith, e))) (λ e. absurd (omega (arith, e))) inside)),
        (
          omega arith,
          ((omega arith, λ e. absurd (omega (arith, e))), ((omega arith, λ e. absurd (omega (arith, e))), tt)),
          ((omega arith, λ e. absurd (omega (arith, e))), others size 6 2 (omega arith) (λ e. absurd (omega (arith, e))) (λ e. absurd (omega (arith, e))) inside),
          (
            omega arith,
            ((omega arith, λ e. absurd (omega (arith, e))), ((omega arith, λ e. absurd (omega (arith, e))), ((omega arith, λ e. absurd (omega (arith, e))), tt))),
            others size 6 3 (omega arith) (λ e. absurd (omega (arith, e))) (λ e. absurd (omega (arith, e))) inside,
            fresh_from size 6 (3 ∷ 2 ∷ 1 ∷ 0 ∷ []) (omega arith) inside
                ((omega arith, λ e. absurd (omega (arith, e)), λ e. absurd (omega (arith, e))), ((omega arith, λ e. absurd (omega (arith, e)), λ e. absurd (omega (arith, e))), ((omega arith, λ e. absurd (omega (arith, e)), λ e. absurd (omega (arith, e))), ((omega arith, λ e. absurd (omega (arith, e)), λ e. absurd (omega (arith, e))), tt)))),
          ),
        ),
      ),
    )

no_second : (seed size last data0 data1 : ℕ) → size ≤ 128 → second_drivers (model seed size last data0 data1 ∷ []) (model seed size last data0 data1) ≡ []
no_second seed size last data0 data1 h =
    no_repeats [] (drivers seed size last data0 data1) (subst (λ ns. IsFresh [] ns) (sym (drivers_are seed size last data0 data1)) (names_fresh [] (nets size) (fresh size h)))

abbrev is_here : ℕ → ℕ → Bool
is_here r m = m == r

here_or_later : (k b r : ℕ) (c : Bool) → (b == r) ≡ c → (b ≢ r → list_any (is_here r) (nets_from (b + 1) k) ≡ true) → (c || list_any (is_here r) (nets_from (b + 1) k)) ≡ true
here_or_later k b r true e later = refl
here_or_later k b r false e later = later (λ q. true≢false (sym (eq-eqb b r q) ∙ e))

among_from : (k b r : ℕ) → b ≤ r → r < b + k → list_any (is_here r) (nets_from b k) ≡ true
among_from zero b r h l = absurd (omega arith)
among_from (suc k) b r h l = here_or_later k b r (b == r) refl (λ ne. among_from k (b + 1) r (omega (arith, ne)) (omega arith))

latch_among : (k b r : ℕ) → list_any (is_here r) (4 ∷ 5 ∷ []) ≡ true → list_any (is_here r) (nets_from b k) ≡ true
latch_among zero b r e = e
latch_among (suc k) b r e = or_true (b == r) _ (latch_among k (b + 1) r e)

after_inputs : (size r : ℕ) → list_any (is_here r) (nets_from 6 size) ≡ true → list_any (is_here r) (nets size) ≡ true
after_inputs size r e = or_true (0 == r) _ (or_true (1 == r) _ (or_true (2 == r) _ (or_true (3 == r) _ e)))

among : (size r : ℕ) → r < 6 + size → list_any (is_here r) (nets size) ≡ true
among size zero h = refl
among size (suc zero) h = refl
among size (suc (suc zero)) h = refl
among size (suc (suc (suc zero))) h = refl
among size (suc (suc (suc (suc zero)))) h = after_inputs size 4 (latch_among size 6 4 refl)
among size (suc (suc (suc (suc (suc zero))))) h = after_inputs size 5 (latch_among size 6 5 refl)
among size (suc (suc (suc (suc (suc (suc r)))))) h = after_inputs size (suc (suc (suc (suc (suc (suc r)))))) (among_from size 6 (suc (suc (suc (suc (suc (suc r)))))) (omega arith) h)

same_at : (m r : ℕ) (ms : List ℕ) (c : Bool) → (m == r) ≡ c → (c || list_any (is_here r) ms) ≡ true → (list_any (is_here r) ms ≡ true → list_any (is_same (net_name r)) (map net_name ms) ≡ true) → list_any (is_same (net_name r)) (map net_name (m ∷ ms)) ≡ true
same_at m r ms true f e later = ap (λ b. b || list_any (is_same (net_name r)) (map net_name ms)) ((bytes_eq-Decides (net_name m) (net_name r)).1 (ap net_name (eqb-true m r f)))
same_at m r ms false f e later = or_true (bytes_eq (net_name m) (net_name r)) _ (later e)

same_names : (r : ℕ) (ns : List ℕ) → list_any (is_here r) ns ≡ true → list_any (is_same (net_name r)) (map net_name ns) ≡ true
same_names r [] e = absurd (true≢false (sym e))
same_names r (m ∷ ms) e = same_at m r ms (m == r) refl e (same_names r ms)

named_by : (name : List ℕ) (ds : List Port) → is_named ds name ≡ list_any (is_same name) (map port_name ds)
named_by name [] = refl
named_by name (p ∷ ps) = ap (λ b. bytes_eq p.name name || b) (named_by name ps)

abbrev IsDriven : List Port → Port → Type 0
IsDriven ds p = is_named ds p.name ≡ true

all_driven : (ds ps : List Port) → AllByRecursion (IsDriven ds) ps → filter_map (unless_named ds) ps ≡ []
all_driven ds [] h = refl
all_driven ds (p ∷ ps) h = ap (λ b. cons_option (then_some (not b) p) (filter_map (unless_named ds) ps)) h.0 ∙ all_driven ds ps h.1

reads : (k : GateKind) (n : ℕ) (a b o : List ℕ) → cover_readings (gate_cover k n a b o) ≡ at_line n a ∷ at_line n b ∷ []
reads And n a b o = refl
reads Or n a b o = refl
reads Xor n a b o = refl
reads Nand n a b o = refl

abbrev ReadsBelow : ℕ → Gate → Type 0
ReadsBelow n g = (g.first < n) × (g.second < n)

gates_driven : (ds : List Port) (bound : ℕ) → ((line r : ℕ) → r < bound → IsDriven ds (at_line line (net_name r))) → (n : ℕ) (gs : List Gate) (tail : List Port) → AllByRecursion (ReadsBelow bound) gs → AllByRecursion (IsDriven ds) tail → AllByRecursion (IsDriven ds) (flat_map cover_readings (covers_from n gs) ++ tail)
gates_driven ds bound f n [] tail h t = t
gates_driven ds bound f n (g ∷ gs) tail h t =
    subst (λ rs. AllByRecursion (IsDriven ds) ((rs ++ flat_map cover_readings (covers_from (line_after g.kind n) gs)) ++ tail)) (sym (reads g.kind n (net_name g.first) (net_name g.second) (net_name g.out)))
    (f n g.first h.0.0, (f n g.second h.0.1, gates_driven ds bound f (line_after g.kind n) gs tail h.1 t))

-- the gates of a seed
gates_near : (seed k j size : ℕ) → j + k ≤ size → size ≤ 128 → AllByRecursion IsNear (map (drawn_gate seed) (range_with_len j k))
gates_near seed zero j size h l = tt
gates_near seed (suc k) j size h l =
    let more : j + 1 + k ≤ size = omega arith in
    let a = draw_below seed (3 * j + 1) (net_of_gate j) (omega arith) in
    let b = draw_below seed (3 * j + 2) (net_of_gate j) (omega arith) in
    ((omega (arith, a), omega (arith, b), omega arith), gates_near seed k (j + 1) size more l)

gates_read : (seed k j size : ℕ) → j + k ≤ size → AllByRecursion (ReadsBelow (6 + size)) (map (drawn_gate seed) (range_with_len j k))
gates_read seed zero j size h = tt
gates_read seed (suc k) j size h =
    let more : j + 1 + k ≤ size = omega arith in
    let a = draw_below seed (3 * j + 1) (net_of_gate j) (omega arith) in
    let b = draw_below seed (3 * j + 2) (net_of_gate j) (omega arith) in
    ((omega (arith, a), omega (arith, b)), gates_read seed k (j + 1) size more)

module _ (seed size last data0 data1 : ℕ) (small : size ≤ 128) (h : last < 6 + size) (i : data0 < 6 + size) (j : data1 < 6 + size) where
  abbrev m : Model
  m = model seed size last data0 data1

  driven : (line r : ℕ) → r < 6 + size → IsDriven (drivers seed size last data0 data1) (at_line line (net_name r))
  driven line r l =
      named_by (net_name r) (drivers seed size last data0 data1)
      ∙ ap (list_any (is_same (net_name r))) (drivers_are seed size last data0 data1)
      ∙ same_names r (nets size) (among size r l)

  abbrev inner_readings : List Port
  inner_readings = flat_map cover_readings (covers_from 6 (drawn_gates seed size)) ++ (at_line 4 (net_name data0) ∷ at_line 5 (net_name data1) ∷ [])

  abbrev readings : List Port
  readings = at_line 3 (net_name last) ∷ at_line 3 (net_name 4) ∷ at_line 3 (net_name 5) ∷ inner_readings

  all_readings : AllByRecursion (IsDriven (drivers seed size last data0 data1)) readings
  all_readings = (
    driven 3 last h,
    (
      driven 3 4 (omega arith),
      (
        driven 3 5 (omega arith),
        gates_driven (drivers seed size last data0 data1) (6 + size) driven 6 (drawn_gates seed size) (at_line 4 (net_name data0) ∷ at_line 5 (net_name data1) ∷ []) (gates_read seed size 0 size (omega arith)) (driven 4 data0 i, (driven 5 data1 j, tt)),
      ),
    ),
  )

  readings_are : readings_of (m ∷ []) m ≡ readings
  readings_are = ap (λ v. at_line 3 (net_name last) ∷ at_line 3 (net_name 4) ∷ at_line 3 (net_name 5) ∷ v) (append-nil inner_readings)

  no_undriven : undriven_readings (m ∷ []) m ≡ []
  no_undriven =
      ap (λ ds. filter_map (unless_named ds) (readings_of (m ∷ []) m)) (append-nil (drivers seed size last data0 data1))
      ∙ ap (filter_map (unless_named (drivers seed size last data0 data1))) readings_are
      ∙ all_driven (drivers seed size last data0 data1) readings all_readings

-- a rule that is broken nowhere, before others
unbroken : (kind : FaultKind) (words : List Port) (later : Option Fault) → words ≡ [] → option_or (option_map (fault_of_port kind) (earliest (words ++ []))) later ≡ later
unbroken kind words later e = ap (λ ws. option_or (option_map (fault_of_port kind) (earliest (ws ++ []))) later) e

no_model_fault : (seed size last data0 data1 : ℕ) → duplicate_ports (model seed size last data0 data1) ≡ [] → second_drivers (model seed size last data0 data1 ∷ []) (model seed size last data0 data1) ≡ [] → undriven_readings (model seed size last data0 data1 ∷ []) (model seed size last data0 data1) ≡ [] → model_fault (model seed size last data0 data1 ∷ []) ≡ None
no_model_fault seed size last data0 data1 e f g =
    let m : Model = model seed size last data0 data1 in
    unbroken DuplicatePort (duplicate_ports m) (first_broken_by (MultipleDrivers ∷ Undriven ∷ NoSuchModel ∷ NoSuchPin ∷ PinTwice ∷ PinMissing ∷ []) (m ∷ [])) e
    ∙ unbroken MultipleDrivers (second_drivers (m ∷ []) m) (first_broken_by (Undriven ∷ NoSuchModel ∷ NoSuchPin ∷ PinTwice ∷ PinMissing ∷ []) (m ∷ [])) f
    ∙ unbroken Undriven (undriven_readings (m ∷ []) m) (first_broken_by (NoSuchModel ∷ NoSuchPin ∷ PinTwice ∷ PinMissing ∷ []) (m ∷ [])) g

pub reads_as_made : ReadsAsMade
reads_as_made seed size some few =
    let last : ℕ = net_of_gate (size - 1) in
    let data0 : ℕ = latch_data seed size 0 in
    let data1 : ℕ = latch_data seed size 1 in
    let bound : 0 < net_of_gate size = omega arith in
    let h : last < 6 + size = omega (arith, some) in
    let i : data0 < 6 + size = draw_below seed (3 * size + 0) (net_of_gate size) bound in
    let j : data1 < 6 + size = draw_below seed (3 * size + 1) (net_of_gate size) bound in
    let inside : size - 1 < 128 = omega (arith, some, few) in
    let near : AllByRecursion IsNear (drawn_gates seed size) = gates_near seed size 0 size (omega arith) few in
    let lines : logical_lines (made_text seed size) ≡ made_lines last data0 data1 (drawn_gates seed size) =
    made_lines_are last data0 data1 (drawn_gates seed size) (omega (arith, h, few)) (omega (arith, i, few)) (omega (arith, j, few)) near in
    record {
      models = record {
        no_fault = ap line_fault lines ∙ no_line_fault last data0 data1 (drawn_gates seed size);
        are_models = sym (ap models_of lines ∙ made_models last data0 data1 (drawn_gates seed size));
      };
      faultless = record {
        no_fault = no_model_fault seed size last data0 data1 (own_ports (size - 1) data0 data1 (drawn_gates seed size) inside) (no_second seed size last data0 data1 few) (no_undriven seed size last data0 data1 few h i j);
        no_circle = no_circle (made_model seed size ∷ []) refl;
      };
    }
