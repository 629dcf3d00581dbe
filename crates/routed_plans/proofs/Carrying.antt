-- The text of a plane that shows the runs of a flat netlist's list carries the netlist's designs.
use Rattle.std.proofs.Common.{◌≡◌, refl, sym, ap, ap₂, ◌∙◌, subst, ℕ, zero, suc, ◌<◌, ◌≤◌, Bool, false, List, [], ◌∷◌, length, map, get_or, arith, ◌==◌}
use Rattle.std.specs.Prelude.{Option, Some, slice_get, Contains}
use Rattle.std.proofs.lemmas.List.{get_or-map, length-map}
use Rattle.std.proofs.lemmas.Option.{none-some, slice_get-get_or, slice_get_within, get_or_from_slice_get}
use Rattle.std.proofs.lemmas.Simd.{map-map}
use Rattle.ww_rule.specs.Wireworld.{Plane, driven}
use Rattle.ww_rule.specs.Grid.{Grid, plane_of}
use Rattle.pattern_reading.specs.declared.ports.Ports.{Ports}
use Rattle.netlist_core.specs.declared.model.Design.{Design}
use Rattle.netlist_core.specs.declared.flat.Flat.{Flat}
use Rattle.netlist_core.specs.declared.flat.FlatPort.{FlatPort}
use Rattle.netlist_core.specs.declared.flat.FlatLatch.{FlatLatch}
use Rattle.netlist_core.specs.declared.flat.Net.{Net as FlatNet}
use Rattle.netlist_meaning.specs.Nets.{IsInNames}
use Rattle.netlist_meaning.specs.Flat.{IsSound, class_of, listed_nets}
use Rattle.netlist_meaning.specs.FlatOf.{IsFlatOf, flat_net}
use Rattle.netlist_meaning.specs.FlatOrder.{IsOrder}
use Rattle.netlist_meaning.specs.FlatValuation.{IsFlatRun, flat_output_bit, flat_state_in, start_bits}
use Rattle.netlist_meaning.specs.Valuation.{start_state}
use Rattle.netlist_rules.specs.ModelFaults.{AreFaultless}
use Rattle.netlist_rules.specs.Clocks.{HasNoClockFault}
use Rattle.lists.proofs.Members.{contains_from}
use Rattle.flat_designs.proofs.Lists.{all_of}
use Rattle.flat_designs.proofs.Valuations.{valuations_are_flat}
use Rattle.flat_designs.proofs.Whole.{ports_are_flat}
use Rattle.cell_core.specs.declared.cells.Cell.{Cell}
use Rattle.cell_core.specs.declared.cells.Src.{Src}
use Rattle.cell_core.specs.declared.cells.Src.TheVariants.{Zero}
use Rattle.cell_core.specs.declared.list.CellList.{CellList}
use Rattle.cell_core.specs.Meaning.{bit_in, bit_of}
use Rattle.cell_meaning.specs.Listed.{listed_classes}
use Rattle.cell_meaning.specs.Mapped.{HasBits}
use Rattle.carries.specs.Carries.{Carries, ShowsRuns}
use Rattle.carries.specs.Cells.{Spells, drive}
use Rattle.carries.specs.Nets.{NamesNets, ShowsNets}
use Rattle.carries.specs.FlatContexts.{ShowsFlatContexts}
use Rattle.carries.specs.FlatNets.{ShowsFlatRuns}
use Rattle.carries.proofs.OneContext.{flat_to_contexts, from_contexts}
use Rattle.plan_carries.specs.Compiled.{ComputesFlat}
use Rattle.plan_carries.proofs.Designs.{shows_contexts}
use Rattle.plan_carries.proofs.Runs.{has_run}
use Rattle.plan_carries.proofs.SeenNets.{seen_nets, are_seen, seen_are_flat}
use Rattle.routed_circuits.specs.Runs.{src_at, list_state, list_bit}
use Rattle.routed_circuits.specs.Tables.{ShowsListRuns}
use Rattle.routed_circuits.specs.Flats.{HasFlatRuns}
use Rattle.routed_circuits.proofs.Flats.{first_shown, mapped_at}
use Rattle.routed_plans.specs.declared.nets.SeenPort.{SeenPort}
use Rattle.routed_plans.specs.declared.nets.ShownNets.{ShownNets}
use Rattle.routed_plans.specs.declared.nets.ShownNets.TheVariants as which
use Rattle.routed_plans.specs.Drawn.{items_drawn, AreAllDrawn}
use Rattle.routed_plans.specs.Nets.{ShowsNetsOf}
use Rattle.routed_plans.specs.Wanted.{IsWanted}
use Rattle.routed_plans.specs.Tables.{NamesRouted}
use Rattle.routed_plans.specs.Carried.{CarriesDesignsOf}
use Rattle.routed_plans.proofs.Drawn.{drawn-map, drawn_whole, in_drawn}
use Rattle.routed_plans.proofs.DesignNets.{ShowsDrawnNets, design_nets_shown, drawn_are_named}

-- a sound flat netlist with an order has a run on all rows of input bits
flat_runs : (flat : Flat) → IsSound flat → (order : List ℕ) → IsOrder flat order → HasFlatRuns flat
flat_runs flat sound order ordered rows are =
    has_run flat sound order ordered (start_bits flat) (length-map flat.latches (λ (latch : FlatLatch). latch.init == 1)) rows are

-- ---- the runs of a wanted list are those of the flat netlist that the list computes
module _ (flat : Flat) (shown : List (Option SeenPort)) (list wanted : CellList) (is : IsWanted shown wanted list) (computes : ComputesFlat flat list) (rows : List (List Bool)) (run : ℕ → ℕ → Bool) (runs : IsFlatRun flat (start_bits flat) rows run) where
  abbrev row_at : ℕ → List Bool
  row_at t = get_or rows t []

  same_bits : (inputs state : List Bool) (sources others : List Src) → sources ≡ others → map (bit_of wanted inputs state) sources ≡ map (bit_of list inputs state) others
  same_bits inputs state sources others e = ap₂ (λ (cells : List Cell) (srcs : List Src). map (bit_in cells inputs state) srcs) is.cells e

  has_at : (t : ℕ) → t < length rows → flat_state_in flat (start_bits flat) run t ≡ list_state wanted rows t → HasBits flat list (row_at t) (list_state wanted rows t) (run t)
  has_at t lt e =
      subst (λ state. HasBits flat list (row_at t) state (run t)) e
      (computes.bits (row_at t) (flat_state_in flat (start_bits flat) run t) (run t) (runs t (row_at t) (slice_get-get_or rows t [] lt)))

  -- while rows last, the latches have the bits of the list's run
  state_is : (t : ℕ) → t ≤ length rows → flat_state_in flat (start_bits flat) run t ≡ list_state wanted rows t
  state_is zero low = sym (is.starts ∙ computes.mapped.starts)
  state_is (suc t) low =
      sym (same_bits (row_at t) (list_state wanted rows t) wanted.latches list.latches is.latches ∙ (has_at t (omega arith) (state_is t (omega arith))).latches)

  has : (t : ℕ) → t < length rows → HasBits flat list (row_at t) (list_state wanted rows t) (run t)
  has t lt = has_at t lt (state_is t (omega (arith, lt)))

  out_is : (o t : ℕ) → t < length rows → list_bit wanted rows t (src_at wanted.outs o) ≡ flat_output_bit flat (run t) o
  out_is o t lt =
      sym (mapped_at (bit_of wanted (row_at t) (list_state wanted rows t)) wanted.outs o Zero false refl)
      ∙ ap (λ bits. get_or bits o false) (same_bits (row_at t) (list_state wanted rows t) wanted.outs list.outs is.ends ∙ (has t lt).outs)
      ∙ ap (λ bits. get_or bits o false) (map-map (run t) (λ (port : FlatPort). class_of flat port.net) flat.outs)

  -- the bits of the nets that are drawn
  drawn_bits : (t : ℕ) → t < length rows → map (bit_of wanted (row_at t) (list_state wanted rows t)) wanted.nets ≡ map (λ (net : FlatNet). run t net.class) (items_drawn shown (listed_nets flat))
  drawn_bits t lt =
      same_bits (row_at t) (list_state wanted rows t) wanted.nets (items_drawn shown list.nets) is.net_ends
      ∙ sym (drawn-map (bit_of list (row_at t) (list_state wanted rows t)) shown list.nets)
      ∙ ap (items_drawn shown) ((has t lt).nets ∙ map-map (run t) (λ (net : FlatNet). net.class) (listed_nets flat))
      ∙ drawn-map (λ (net : FlatNet). run t net.class) shown (listed_nets flat)

  net_is : (k t : ℕ) (net : FlatNet) → slice_get (items_drawn shown (listed_nets flat)) k ≡ Some net → t < length rows → list_bit wanted rows t (src_at wanted.nets k) ≡ run t net.class
  net_is k t net at lt =
      sym (mapped_at (bit_of wanted (row_at t) (list_state wanted rows t)) wanted.nets k Zero false refl)
      ∙ ap (λ bits. get_or bits k false) (drawn_bits t lt)
      ∙ get_or-map (λ (net : FlatNet). run t net.class) (items_drawn shown (listed_nets flat)) k net false (slice_get_within (items_drawn shown (listed_nets flat)) k net at)
      ∙ ap (λ (net : FlatNet). run t net.class) (get_or_from_slice_get (items_drawn shown (listed_nets flat)) k net net at)

-- the table without its NET lines
abbrev without_nets : Ports → Ports
without_nets ports = record { p = ports.p; l = ports.l; c = ports.c; ins = ports.ins; outs = ports.outs; nets = [] }

module _ (flat : Flat) (shown : List (Option SeenPort)) (list wanted : CellList) (is : IsWanted shown wanted list) (computes : ComputesFlat flat list) (plane : Plane) (ports : Ports) (shows : ShowsListRuns plane ports wanted) where
  -- so a plane shows the flat netlist's runs at its outputs
  flat_shown : HasFlatRuns flat → ShowsFlatRuns plane (without_nets ports) flat
  flat_shown has_runs = record {
    conductors = λ rows are. shows.conductors rows;
    runs = has_runs;
    heads = λ rows are run runs o line at g early.
        first_shown ports.p ports.l (length rows) g (λ t. list_bit wanted rows t (src_at wanted.outs o)) (λ t. flat_output_bit flat (run t) o) (driven (drive ports rows) plane g) line.x line.y early
        (λ t lt. out_is flat shown list wanted is computes rows run runs o t lt) (shows.outs rows o line at g);
    nets = λ rows are run runs k net line is_net at g early. absurd (none-some line at);
  }

  -- and the bits of the nets that are drawn
  nets_shown : ShowsDrawnNets plane ports flat shown
  nets_shown rows run runs k net line is_net at g early =
      first_shown ports.p line.offset (length rows) g (λ t. list_bit wanted rows t (src_at wanted.nets k)) (λ t. run t net.class) (driven (drive ports rows) plane g) line.x line.y early
      (λ t lt. net_is flat shown list wanted is computes rows run runs k t net is_net lt) (shows.nets rows k line at g)

-- and those of each of its designs
design_shown : (plane : Plane) (ports : Ports) (design : Design) (flat : Flat) → AreFaultless design.models → HasNoClockFault design → IsFlatOf design flat → ShowsFlatRuns plane ports flat
    → ShowsRuns plane ports design
design_shown plane ports design flat faultless clean h shows =
    let starts = (valuations_are_flat design flat faultless clean h).starts in
    from_contexts plane ports design
    (shows_contexts design flat faultless clean h plane ports (start_state design ∷ [])
    (subst (λ (bits : List Bool). ShowsFlatContexts plane ports flat (bits ∷ [])) starts (flat_to_contexts plane ports flat shows)))

module _ (text : List ℕ) (flat : Flat) (grid : Grid) (ports : Ports) (shown : List (Option SeenPort)) (list wanted : CellList) (sound : IsSound flat) (order : List ℕ) (ordered : IsOrder flat order)
    (spells : Spells text grid ports) (names : NamesRouted flat shown ports) (is : IsWanted shown wanted list) (computes : ComputesFlat flat list) (shows : ShowsListRuns (plane_of grid.rows) ports wanted) where
  module _ (design : Design) (faultless : AreFaultless design.models) (clean : HasNoClockFault design) (h : IsFlatOf design flat) where
    design_runs : ShowsRuns (plane_of grid.rows) ports design
    design_runs =
        let bare = design_shown (plane_of grid.rows) (without_nets ports) design flat faultless clean h
        (flat_shown flat shown list wanted is computes (plane_of grid.rows) ports shows (flat_runs flat sound order ordered)) in
        record { conductors = bare.conductors; runs = bare.runs; heads = bare.heads }

    carried : Carries text design
    carried =
        let flat_ports = ports_are_flat design flat faultless h in
        record {
          grid = grid;
          ports = ports;
          spells = spells;
          contexts = names.contexts;
          names = record { ins = subst (IsInNames design) (sym names.ins) flat_ports.ins; outs = names.outs ∙ flat_ports.outs };
          shows = design_runs;
        }

    drawn_shown : ShowsNets (plane_of grid.rows) ports design (items_drawn shown (seen_nets design flat))
    drawn_shown = design_nets_shown design flat faultless clean h (plane_of grid.rows) ports shown (nets_shown flat shown list wanted is computes (plane_of grid.rows) ports shows)

    named : NamesNets ports (items_drawn shown (seen_nets design flat))
    named = names.nets ∙ drawn_are_named design flat h shown

  -- the text carries the designs of the flat netlist
  pub carries_designs : CarriesDesignsOf text flat
  carries_designs design faultless clean h = carried design faultless clean h

  -- and shows those of their nets that are drawn
  drawn_nets : ShowsNetsOf which.Drawn text flat
  unfolding carried
  drawn_nets design faultless clean h = record {
    carried = carried design faultless clean h;
    seen = seen_nets design flat;
    are_seen = are_seen design flat faultless clean h;
    nets = items_drawn shown (seen_nets design flat);
    among = all_of (Contains (seen_nets design flat)) (items_drawn shown (seen_nets design flat)) (λ net i. contains_from (seen_nets design flat) net (in_drawn shown (seen_nets design flat) net i));
    names = named design faultless clean h;
    shows = drawn_shown design faultless clean h;
  }

  -- or all of them
  all_nets : AreAllDrawn shown (length list.nets) → ShowsNetsOf which.All text flat
  unfolding carried
  all_nets whole design faultless clean h =
      let many : length list.nets ≡ length (seen_nets design flat) = net_count design flat h computes in
      let same : items_drawn shown (seen_nets design flat) ≡ seen_nets design flat =
      drawn_whole shown (seen_nets design flat) (subst (AreAllDrawn shown) many whole) in
      record {
        carried = carried design faultless clean h;
        nets = seen_nets design flat;
        are_nets = are_seen design flat faultless clean h;
        names = subst (NamesNets ports) same (named design faultless clean h);
        shows = subst (ShowsNets (plane_of grid.rows) ports design) same (drawn_shown design faultless clean h);
      }
    where
      net_count : (design : Design) (flat : Flat) → IsFlatOf design flat → ComputesFlat flat list → length list.nets ≡ length (seen_nets design flat)
      net_count design flat h computes =
          ap length computes.mapped.nets ∙ length-map (listed_classes flat) computes.mapped.sources ∙ length-map (listed_nets flat) (λ (net : FlatNet). net.class)
          ∙ ap length (seen_are_flat design flat h) ∙ length-map (seen_nets design flat) (flat_net design)

  pub shows_nets : (by : ShownNets) → (by ≡ which.All → AreAllDrawn shown (length list.nets)) → ShowsNetsOf by text flat
  shows_nets which.Drawn whole = drawn_nets
  shows_nets which.All whole = all_nets (whole refl)
