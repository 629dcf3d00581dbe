-- A plan has no lane where there are no nets but clock nets, and some where nets are listed.
use Rattle.std.proofs.Common.{◌≡◌, ◌≢◌, refl, sym, ◌∙◌, ap, ℕ, zero, suc, ◌<◌, ◌≤◌, Bool, true, false, not, cond, List, [], ◌∷◌, length, get_or, map, replicate, arith}
use Rattle.std.specs.Prelude.{None, filter, sum_by}
use Rattle.std.specs.List.{list_any}
use Rattle.std.proofs.lemmas.Bool.{not-false}
use Rattle.std.proofs.lemmas.List.{length-map, length-replicate, nil_from_length}
use Rattle.std.proofs.lemmas.Option.{slice_get-get_or}
use Rattle.lane_core.specs.declared.plan.Plan.{Plan}
use Rattle.lane_core.specs.declared.plan.NetPlace.{NetPlace}
use Rattle.lane_core.specs.Plans.{IsAdmissible}
use Rattle.netlist_core.specs.declared.flat.Flat.{Flat}
use Rattle.netlist_core.specs.declared.flat.FlatPort.{FlatPort}
use Rattle.netlist_core.specs.declared.flat.FlatLatch.{FlatLatch}
use Rattle.netlist_core.specs.declared.flat.NetId.{NetId}
use Rattle.netlist_core.specs.declared.flat.Net.{Net as FlatNet}
use Rattle.netlist_core.specs.declared.flat.Node.{Node}
use Rattle.netlist_core.specs.OwnWeight.{rows_weight}
use Rattle.netlist_meaning.specs.Flat.{IsSound, IsWeighed, IsNetId, IsClockClass, FlatDriver, FlatDrives, class_of, is_clock_class, no_net, no_node, node_at, listed_nets, nets_but_clocks}
use Rattle.netlist_meaning.proofs.ClockTest.{is_clock_class-Decides}
use Rattle.cell_core.specs.declared.list.CellList.{CellList}
use Rattle.cell_core.specs.Loops.{names_one}
use Rattle.cell_core.specs.Meaning.{Fits}
use Rattle.cell_meaning.specs.Computes.{ComputesByPlan}
use Rattle.row_placer.specs.Empty.{IsEmpty}
use Rattle.cell_meaning.specs.Mapped.{IsMapped}
use Rattle.cell_meaning.specs.Needs.{covers_weight, needs_one}
use Rattle.netlist_plans.specs.Planned.{HasLanes}
use Rattle.netlist_plans.proofs.Bounds.{none_named, outs_many, starts_many}

not_empty : {X : Type 0} (x : X) (xs : List X) → x ∷ xs ≡ [] → ⊥
not_empty x xs e = (let h : suc (length xs) ≡ 0 = ap length e in omega (arith, h))

none_passes : {X : Type 0} (p : X → Bool) (xs : List X) → filter p xs ≡ [] → (k : ℕ) (d : X) → k < length xs → p (get_or xs k d) ≡ false
none_passes p [] e k d lt = absurd (omega arith)
none_passes p (x ∷ xs) e k d lt = by (p x) refl (λ later i less. none_passes p xs later i d less) k lt
  where
    by : (b : Bool) → p x ≡ b → (filter p xs ≡ [] → (i : ℕ) → i < length xs → p (get_or xs i d) ≡ false) → (k : ℕ) → k < length (x ∷ xs) → p (get_or (x ∷ xs) k d) ≡ false
    by true f rest k lt = absurd (not_empty x (filter p xs) (sym (ap (λ b. cond b (x ∷ filter p xs) (filter p xs)) f) ∙ e))
    by false f rest zero lt = f
    by false f rest (suc k) lt = rest (sym (ap (λ b. cond b (x ∷ filter p xs) (filter p xs)) f) ∙ e) k (omega (arith, lt))

nothing : {X : Type 0} (xs : List X) → (0 < length xs → ⊥) → length xs ≡ 0
nothing [] f = refl
nothing (x ∷ xs) f = absurd (f (omega arith))

pub nets_many : (flat : Flat) (list : CellList) → IsMapped flat list → length list.nets ≡ length (listed_nets flat)
nets_many flat list m = ap length m.nets ∙ length-map (map (λ (net : FlatNet). net.class) (listed_nets flat)) m.sources ∙ length-map (listed_nets flat) (λ (net : FlatNet). net.class)

module _ (flat : Flat) (sound : IsSound flat) (none : nets_but_clocks flat ≡ []) where
  -- each net is a clock net
  all_clocks : (id : NetId) → IsNetId flat id → IsClockClass flat (class_of flat id)
  all_clocks id is =
      (is_clock_class-Decides flat (class_of flat id)).0
      (not-false (is_clock_class flat (class_of flat id)) (none_passes (λ (net : FlatNet). not (is_clock_class flat net.class)) flat.nets none id.0 no_net is))

  none_listed : (listed : Bool) → cond listed (nets_but_clocks flat) [] ≡ []
  none_listed true = none
  none_listed false = refl

  undriven : (id : NetId) → IsNetId flat id → (d : FlatDriver) → FlatDrives flat d (class_of flat id) → ⊥
  undriven id is d drives = sound.clocks_undriven (class_of flat id) d drives (all_clocks id is)

  no_ins : length flat.ins ≡ 0
  no_ins = nothing flat.ins (λ some.
      (let d : FlatPort = record { line = 0; net = record { 0 = 0 } } in
      let port : FlatPort = get_or flat.ins 0 d in
      undriven port.net (sound.in_range.ins 0 d some) (FlatDriver.input 0) (port, slice_get-get_or flat.ins 0 d some, refl)))

  no_outs : length flat.outs ≡ 0
  no_outs = nothing flat.outs (λ some.
      (let d : FlatPort = record { line = 0; net = record { 0 = 0 } } in
      sound.clocks_no_outs 0 d some (all_clocks (get_or flat.outs 0 d).net (sound.in_range.outs 0 d some))))

  no_latches : length flat.latches ≡ 0
  no_latches = nothing flat.latches (λ some.
      (let d : FlatLatch = record { line = 0; input = record { 0 = 0 }; output = record { 0 = 0 }; kind = None; control = None; init = 0 } in
      let latch : FlatLatch = get_or flat.latches 0 d in
      undriven latch.output (sound.in_range.latches 0 d some).1 (FlatDriver.latch 0) (latch, slice_get-get_or flat.latches 0 d some, refl)))

  no_nodes : flat.nodes ≡ []
  no_nodes = nil_from_length flat.nodes (nothing flat.nodes (λ some. undriven (node_at flat 0).out (sound.in_range.node_outs 0 no_node some) (FlatDriver.node 0) (some, refl)))

  module _ (list : CellList) (m : IsMapped flat list) where
    pub is_empty : IsWeighed flat → IsEmpty list
    is_empty w =
        let one : cond {A = ℕ} (names_one list) 1 0 ≡ 0 = ap (λ b. cond {A = ℕ} b 1 0) (none_named flat list m w (ap (list_any needs_one) no_nodes)) in
        let light : covers_weight flat ≡ 0 = ap (sum_by (λ (node : Node). rows_weight node.rows)) no_nodes in
        let nets : length list.nets ≡ 0 = nets_many flat list m ∙ ap length (none_listed flat.listed) in
        omega (arith, m.inputs, no_ins, outs_many flat list m w, no_outs, starts_many flat list m w, no_latches, one, light, m.few, nets)

some_net : (nets : List FlatNet) → nets ≢ [] → 0 < length nets
some_net [] f = absurd (f refl)
some_net (net ∷ nets) f = omega arith

module _ (flat : Flat) (list : CellList) (m : IsMapped flat list) (plan : Plan) (h : IsAdmissible plan) (c : ComputesByPlan list plan) where
  inputs : List Bool
  inputs = replicate list.inputs false

  state : List Bool
  state = replicate (length list.starts) false

  fits : Fits list inputs state
  unfolding inputs state
  fits = record { row = length-replicate list.inputs false; latches = length-replicate (length list.starts) false }

  places_many : length plan.nets ≡ length list.nets
  places_many = sym (length-map plan.nets _) ∙ ap length (c.bits.nets_have inputs state fits) ∙ length-map list.nets _

  have_lanes : listed_nets flat ≢ [] → (1 ≤ plan.lanes) × (1 ≤ length plan.columns)
  have_lanes f =
      let some : 0 < length plan.nets = omega (arith, places_many, nets_many flat list m, some_net (listed_nets flat) f) in
      let place : NetPlace = record { lane = 0; after = None } in
      let lane = (h.nets 0 place some).lane in
      let lanes : 1 ≤ plan.lanes = omega (arith, lane) in
      (lanes, at_least (length plan.columns) (λ e. absurd (omega (arith, lanes, h.size.both.1 e))))
    where
      at_least : (n : ℕ) → (n ≡ 0 → ⊥) → 1 ≤ n
      at_least zero f = absurd (f refl)
      at_least (suc n) f = omega arith

  pub has_lanes : IsSound flat → IsWeighed flat → (IsEmpty list → plan.lanes ≡ 0) → HasLanes flat plan
  has_lanes sound w empty = record {
    none = λ e. (let lanes = empty (is_empty flat sound e list m w) in (lanes, nil_from_length plan.columns (h.size.both.0 lanes)));
    some = have_lanes;
  }
