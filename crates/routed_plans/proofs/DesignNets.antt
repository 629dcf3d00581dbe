-- What shows nets of a flat netlist shows those of its designs.
use Rattle.std.proofs.Common.{◌≡◌, sym, ◌∙◌, ap, subst, ℕ, zero, suc, ◌<◌, ◌≤◌, Bool, List, [], length, map, get_or, arith}
use Rattle.std.specs.Prelude.{Contains, Option, Some, slice_get, option_map}
use Rattle.std.proofs.lemmas.Option.{slice_get-map, slice_get-get_or, slice_get_within}
use Rattle.std.proofs.lemmas.Simd.{map-map}
use Rattle.ww_rule.specs.Wireworld.{Plane, driven}
use Rattle.netlist_core.specs.declared.model.Design.{Design}
use Rattle.netlist_core.specs.declared.flat.Flat.{Flat}
use Rattle.netlist_core.specs.declared.flat.Net.{Net as FlatNet}
use Rattle.netlist_meaning.specs.Nets.{Net}
use Rattle.netlist_meaning.specs.Flat.{listed_nets}
use Rattle.netlist_meaning.specs.FlatOf.{class_of_net, flat_net, IsFlatOf}
use Rattle.netlist_meaning.specs.FlatValuation.{IsFlatValuation, IsFlatRun, flat_state_in, start_bits}
use Rattle.netlist_meaning.specs.Valuation.{Valuation, LatchState, IsValuation, IsRun, start_state, latches_in}
use Rattle.netlist_rules.specs.ModelFaults.{AreFaultless}
use Rattle.netlist_rules.specs.Clocks.{HasNoClockFault}
use Rattle.flat_designs.specs.Laws.{state_in_order, class_bits, net_bits, HasValuations}
use Rattle.flat_designs.proofs.Valuations.{valuations_are_flat}
use Rattle.flat_designs.proofs.Lists.{all_of}
use Rattle.lists.proofs.Members.{contains_from, in_got, got_from}
use Rattle.place_paths.specs.Paths.{name_and_path}
use Rattle.plan_ports.specs.Tables.{named_paths}
use Rattle.pattern_reading.specs.declared.ports.Ports.{Ports}
use Rattle.carries.specs.Cells.{ShowsNetLines, drive}
use Rattle.carries.specs.Carries.{Carries}
use Rattle.carries.specs.Nets.{ShowsNets, CarriesNets}
use Rattle.carries.proofs.Cycles.{same_from}
use Rattle.plan_carries.proofs.Alike.{latches_alike}
use Rattle.plan_carries.proofs.SeenNets.{seen_nets, seen_are_flat, seen_has_bit}
use Rattle.routed_plans.specs.declared.nets.SeenPort.{SeenPort}
use Rattle.routed_plans.specs.declared.nets.ShownNets.{ShownNets}
use Rattle.routed_plans.specs.declared.nets.ShownNets.TheVariants as which
use Rattle.routed_plans.specs.Drawn.{items_drawn}
use Rattle.routed_plans.specs.Nets.{ShowsNetsBy}
use Rattle.routed_plans.proofs.Drawn.{drawn-map, in_drawn}

-- what shows nets carries the design
pub carried_by : (nets : ShownNets) (text : List ℕ) (design : Design) → ShowsNetsBy nets text design → Carries text design
carried_by which.Drawn text design shows = shows.carried
carried_by which.All text design shows = shows.carried

-- what shows all nets shows those that are to be shown
pub nets_are_shown : (nets : ShownNets) (text : List ℕ) (design : Design) → CarriesNets text design → ShowsNetsBy nets text design
nets_are_shown which.Drawn text design carries = record {
  carried = carries.carried;
  seen = carries.nets;
  are_seen = carries.are_nets;
  nets = carries.nets;
  among = all_of (Contains carries.nets) carries.nets (contains_from carries.nets);
  names = carries.names;
  shows = carries.shows;
}
nets_are_shown which.All text design carries = carries

-- in each run of the flat netlist the cells of NET lines show the nets that are drawn
abbrev pub ShowsDrawnNets : Plane → Ports → Flat → List (Option SeenPort) → Type 0
ShowsDrawnNets plane ports flat shown =
    (rows : List (List Bool)) (run : ℕ → ℕ → Bool) → IsFlatRun flat (start_bits flat) rows run
    → ShowsNetLines plane ports rows (items_drawn shown (listed_nets flat)) (λ t net. run t net.class)

-- the design has those nets that are drawn
drawn_are_flat : (design : Design) (flat : Flat) → IsFlatOf design flat → (shown : List (Option SeenPort)) → items_drawn shown (listed_nets flat) ≡ map (flat_net design) (items_drawn shown (seen_nets design flat))
drawn_are_flat design flat h shown = ap (items_drawn shown) (seen_are_flat design flat h) ∙ drawn-map (flat_net design) shown (seen_nets design flat)

pub drawn_are_named : (design : Design) (flat : Flat) → IsFlatOf design flat → (shown : List (Option SeenPort))
    → named_paths (items_drawn shown (listed_nets flat)) ≡ map (λ (net : Net). name_and_path net.place net.name) (items_drawn shown (seen_nets design flat))
drawn_are_named design flat h shown =
    ap named_paths (drawn_are_flat design flat h shown)
    ∙ map-map (λ (net : FlatNet). name_and_path net.place net.name) (flat_net design) (items_drawn shown (seen_nets design flat))

module _ (design : Design) (flat : Flat) (faultless : AreFaultless design.models) (clean : HasNoClockFault design) (h : IsFlatOf design flat) where
  have : HasValuations design flat
  have = valuations_are_flat design flat faultless clean h

  -- a run of the design is one of the flat netlist
  module _ (rows : List (List Bool)) (run : ℕ → Valuation) (is : IsRun design rows run) where
    abbrev own : ℕ → ℕ → Bool
    own t = class_bits design (run t)

    abbrev row : ℕ → List Bool
    row t = get_or rows t []

    abbrev latches : ℕ → LatchState
    latches t = latches_in design (start_state design) run t

    solves : (t : ℕ) → t < length rows → IsValuation design (row t) (latches t) (run t)
    solves t lt = is t (row t) (slice_get-get_or rows t [] lt)

    own_state : (t : ℕ) → t ≤ length rows → flat_state_in flat (start_bits flat) own t ≡ state_in_order design (latches t)
    own_state zero low = have.starts
    own_state (suc t) low =
        have.next (own t)
        ∙ latches_alike design faultless clean (net_bits design flat (own t)) (run t) (have.same_bits (row t) (latches t) (run t) (solves t (omega arith)))

    own_run : IsFlatRun flat (start_bits flat) rows own
    own_run t given e =
        let within : t < length rows = slice_get_within rows t given e in
        subst (λ state. IsFlatValuation flat given state (own t)) (sym (own_state t (omega (arith, within)))) (have.is_flat given (latches t) (run t) (is t given e))

  -- in which its nets have their bits
  pub design_nets_shown : (plane : Plane) (ports : Ports) (shown : List (Option SeenPort)) → ShowsDrawnNets plane ports flat shown → ShowsNets plane ports design (items_drawn shown (seen_nets design flat))
  design_nets_shown plane ports shown shows rows are run is number net line is_net is_line g early =
      same_from line.offset ports.p (length rows) (λ t. own rows run is t (class_of_net design net)) (λ t. run t net.place net.name) g (driven (drive ports rows) plane g) line.x line.y
      (λ t lt. seen_has_bit design flat faultless clean h (row rows run is t) (latches rows run is t) (run t) (solves rows run is t lt) place.0 net place.1)
      (shows rows (own rows run is) (own_run rows run is) number (flat_net design net) line there is_line g early)
    where
      place : (k : ℕ) × (slice_get (seen_nets design flat) k ≡ Some net)
      place = got_from (seen_nets design flat) net (in_drawn shown (seen_nets design flat) net (in_got (items_drawn shown (seen_nets design flat)) number net is_net))

      there : slice_get (items_drawn shown (listed_nets flat)) number ≡ Some (flat_net design net)
      there =
          ap (λ (nets : List FlatNet). slice_get nets number) (drawn_are_flat design flat h shown)
          ∙ slice_get-map (flat_net design) (items_drawn shown (seen_nets design flat)) number
          ∙ ap (option_map (flat_net design)) is_net
