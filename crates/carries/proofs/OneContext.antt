-- What carries in one context is what carries.
use Rattle.std.proofs.Common.{◌≡◌, ◌↔◌, refl, sym, ◌∙◌, ap, subst, ℕ, zero, suc, Bool, List, [], ◌∷◌, length, arith}
use Rattle.std.proofs.lemmas.List.Elements.{All-nil, All-cons}
use Rattle.std.proofs.lemmas.Option.{none-some, same_Some}
use Rattle.ww_rule.specs.Wireworld.{Plane, driven}
use Rattle.ww_rule.specs.Grid.{plane_of}
use Rattle.ww_rule.specs.Injections.{MeetsConductors}
use Rattle.ww_rule.proofs.Contexts.{contexts_are_injected}
use Rattle.pattern_reading.specs.Ports.{cells_of}
use Rattle.pattern_reading.specs.declared.ports.Ports.{Ports}
use Rattle.netlist_core.specs.declared.flat.Flat.{Flat}
use Rattle.netlist_core.specs.declared.flat.Net.{Net as FlatNet}
use Rattle.netlist_core.specs.declared.model.Design.{Design}
use Rattle.netlist_meaning.specs.Nets.{Net}
use Rattle.netlist_meaning.specs.Flat.{listed_nets}
use Rattle.netlist_meaning.specs.FlatValuation.{AreFlatRows, IsFlatRun, start_bits, flat_output_bit}
use Rattle.netlist_meaning.specs.Valuation.{Valuation, LatchState, AreInputRows, IsRunFrom, start_state, output_bit}
use Rattle.carries.specs.Cells.{ShowsBitsFrom, ShowsOutputs, ShowsNetLines, drive}
use Rattle.carries.specs.Carries.{ShowsRuns}
use Rattle.carries.specs.Nets.{ShowsNets}
use Rattle.carries.specs.FlatNets.{ShowsFlatRuns}
use Rattle.carries.specs.Contexts.{AreContextRows, AreRunsFrom, context_drive, ShowsBitsInContexts, ShowsOutputsInContexts, ShowsNetLinesInContexts}
use Rattle.carries.specs.FlatContexts.{ShowsFlatContexts}
use Rattle.carries.specs.DesignContexts.{ShowsContexts, ShowsNetsInContexts}
use Rattle.carries.specs.ContextLaws.{OneContextCarries, OneContextCarriesNets, OneContextCarriesFlat}

-- rows for one context
by_one : (P : ℕ → List (List (List Bool)) → Type 0) (AreRows : List (List Bool) → Type 0) → ((rows : List (List Bool)) → AreRows rows → P (length rows) (rows ∷ []))
    → (cycles : ℕ) (contexts : List (List (List Bool))) → AreContextRows AreRows 1 cycles contexts → P cycles contexts
by_one P AreRows of cycles [] are = absurd (omega (arith, are.many))
by_one P AreRows of cycles (rows ∷ []) are = subst (λ (n : ℕ). P n (rows ∷ [])) (are.long 0 [] (omega arith)) (of rows (are.each 0 [] (omega arith)))
by_one P AreRows of cycles (rows ∷ second ∷ rest) are = absurd (omega (arith, are.many))

are_one : (AreRows : List (List Bool) → Type 0) (rows : List (List Bool)) → AreRows rows → AreContextRows AreRows 1 (length rows) (rows ∷ [])
are_one AreRows rows are = record {
  many = refl;
  long = All-cons (λ (context : List (List Bool)). length context ≡ length rows) rows [] refl (All-nil (λ (context : List (List Bool)). length context ≡ length rows));
  each = All-cons AreRows rows [] are (All-nil AreRows);
}

one_drive : (ports : Ports) (rows : List (List Bool)) → context_drive ports (rows ∷ []) ≡ drive ports rows
one_drive ports rows = contexts_are_injected.one ports.p (cells_of ports.ins) rows

-- the bits of one context
one_shows : (first period cycles : ℕ) (bit : ℕ → ℕ → Bool) (g : ℕ) (plane : Plane) (x y : ℕ)
    → ShowsBitsFrom first period cycles (bit 0) g plane x y ↔ ShowsBitsInContexts first period 1 cycles bit g plane x y
one_shows first period cycles bit g plane x y = (
  λ shown. (
    λ head. (let f = shown.0 head in (0, f.0, omega arith, f.1, omega (arith, f.2), f.3)),
    λ b. (let none : b.0 ≡ 0 = omega (arith, b.2) in
        shown.1 (b.1, b.3, omega (arith, b.4, none), ap (λ n. bit n b.1) (sym none) ∙ b.5)),
  ),
  λ shown. (
    λ head. (let f = shown.0 head in
        let none : f.0 ≡ 0 = omega (arith, f.2) in
        (f.1, f.3, omega (arith, f.4, none), ap (λ n. bit n f.1) (sym none) ∙ f.5)),
    λ b. shown.1 (0, b.0, omega arith, b.1, omega (arith, b.2), b.3),
  ),
)

-- runs on rows from a start on, of whatever kind, and what a plane shows of them
module _ (Start Bits : Type 0) (AreRows : List (List Bool) → Type 0) (IsRun : Start → List (List Bool) → (ℕ → Bits) → Type 0) (start : Start) (plane : Plane) (ports : Ports) where
  abbrev are_of : ℕ → List (List (List Bool)) → Type 0
  are_of cycles contexts = AreContextRows AreRows 1 cycles contexts

  abbrev runs_of : List (List (List Bool)) → (ℕ → ℕ → Bits) → Type 0
  runs_of contexts runs = AreRunsFrom IsRun (start ∷ []) contexts runs

  -- one run is the run of one context
  one_run : (rows : List (List Bool)) (run : ℕ → Bits) → IsRun start rows run → runs_of (rows ∷ []) (λ c. run)
  one_run rows run is zero other e = subst (λ (s : Start). IsRun s rows run) (same_Some start other e) is
  one_run rows run is (suc c) other e = absurd (none-some other e)

  conductors_to : ((rows : List (List Bool)) → AreRows rows → MeetsConductors (drive ports rows) plane) → (cycles : ℕ) (contexts : List (List (List Bool))) → are_of cycles contexts → MeetsConductors (context_drive ports contexts) plane
  conductors_to meets = by_one (λ cycles contexts. MeetsConductors (context_drive ports contexts) plane) AreRows
      (λ rows are. subst (λ due. MeetsConductors due plane) (sym (one_drive ports rows)) (meets rows are))

  conductors_from : ((cycles : ℕ) (contexts : List (List (List Bool))) → are_of cycles contexts → MeetsConductors (context_drive ports contexts) plane) → (rows : List (List Bool)) → AreRows rows → MeetsConductors (drive ports rows) plane
  conductors_from meets rows are = subst (λ due. MeetsConductors due plane) (one_drive ports rows) (meets (length rows) (rows ∷ []) (are_one AreRows rows are))

  runs_to : ((rows : List (List Bool)) → AreRows rows → (run : ℕ → Bits) × IsRun start rows run) → (cycles : ℕ) (contexts : List (List (List Bool))) → are_of cycles contexts → (runs : ℕ → ℕ → Bits) × runs_of contexts runs
  runs_to has = by_one (λ cycles contexts. (runs : ℕ → ℕ → Bits) × runs_of contexts runs) AreRows
      (λ rows are. (let r = has rows are in ((λ c. r.0), one_run rows r.0 r.1)))

  runs_from : ((cycles : ℕ) (contexts : List (List (List Bool))) → are_of cycles contexts → (runs : ℕ → ℕ → Bits) × runs_of contexts runs) → (rows : List (List Bool)) → AreRows rows → (run : ℕ → Bits) × IsRun start rows run
  runs_from has rows are = let r = has (length rows) (rows ∷ []) (are_one AreRows rows are) in (r.0 0, r.1 0 start refl)

  heads_to : (bit : Bits → ℕ → Bool) → ((rows : List (List Bool)) → AreRows rows → (run : ℕ → Bits) → IsRun start rows run → ShowsOutputs plane ports rows (λ t. bit (run t)))
      → (cycles : ℕ) (contexts : List (List (List Bool))) → are_of cycles contexts → (runs : ℕ → ℕ → Bits) → runs_of contexts runs → ShowsOutputsInContexts plane ports cycles contexts (λ c t. bit (runs c t))
  heads_to bit shows = by_one (λ cycles contexts. (runs : ℕ → ℕ → Bits) → runs_of contexts runs → ShowsOutputsInContexts plane ports cycles contexts (λ c t. bit (runs c t))) AreRows
      (λ rows are runs each output cell e g early.
      subst (λ due. ShowsBitsInContexts ports.l ports.p 1 (length rows) (λ c t. bit (runs c t) output) g (driven due plane g) cell.x cell.y) (sym (one_drive ports rows))
      ((one_shows ports.l ports.p (length rows) (λ c t. bit (runs c t) output) g (driven (drive ports rows) plane g) cell.x cell.y).0 (shows rows are (runs 0) (each 0 start refl) output cell e g early)))

  heads_from : (bit : Bits → ℕ → Bool) → ((cycles : ℕ) (contexts : List (List (List Bool))) → are_of cycles contexts → (runs : ℕ → ℕ → Bits) → runs_of contexts runs → ShowsOutputsInContexts plane ports cycles contexts (λ c t. bit (runs c t)))
      → (rows : List (List Bool)) → AreRows rows → (run : ℕ → Bits) → IsRun start rows run → ShowsOutputs plane ports rows (λ t. bit (run t))
  heads_from bit shows rows are run is output cell e g early =
      subst (λ due. ShowsBitsFrom ports.l ports.p (length rows) (λ t. bit (run t) output) g (driven due plane g) cell.x cell.y) (one_drive ports rows)
      ((one_shows ports.l ports.p (length rows) (λ c t. bit (run t) output) g (driven (context_drive ports (rows ∷ [])) plane g) cell.x cell.y).1
      (shows (length rows) (rows ∷ []) (are_one AreRows rows are) (λ c. run) (one_run rows run is) output cell e g early))

  module _ (X : Type 0) (nets : List X) (bit : Bits → X → Bool) where
    nets_to : ((rows : List (List Bool)) → AreRows rows → (run : ℕ → Bits) → IsRun start rows run → ShowsNetLines plane ports rows nets (λ t. bit (run t)))
        → (cycles : ℕ) (contexts : List (List (List Bool))) → are_of cycles contexts → (runs : ℕ → ℕ → Bits) → runs_of contexts runs → ShowsNetLinesInContexts plane ports cycles contexts nets (λ c t. bit (runs c t))
    nets_to shows = by_one (λ cycles contexts. (runs : ℕ → ℕ → Bits) → runs_of contexts runs → ShowsNetLinesInContexts plane ports cycles contexts nets (λ c t. bit (runs c t))) AreRows
        (λ rows are runs each number net line is_net is_line g early.
        subst (λ due. ShowsBitsInContexts line.offset ports.p 1 (length rows) (λ c t. bit (runs c t) net) g (driven due plane g) line.x line.y) (sym (one_drive ports rows))
        ((one_shows line.offset ports.p (length rows) (λ c t. bit (runs c t) net) g (driven (drive ports rows) plane g) line.x line.y).0 (shows rows are (runs 0) (each 0 start refl) number net line is_net is_line g early)))

    nets_from : ((cycles : ℕ) (contexts : List (List (List Bool))) → are_of cycles contexts → (runs : ℕ → ℕ → Bits) → runs_of contexts runs → ShowsNetLinesInContexts plane ports cycles contexts nets (λ c t. bit (runs c t)))
        → (rows : List (List Bool)) → AreRows rows → (run : ℕ → Bits) → IsRun start rows run → ShowsNetLines plane ports rows nets (λ t. bit (run t))
    nets_from shows rows are run is number net line is_net is_line g early =
        subst (λ due. ShowsBitsFrom line.offset ports.p (length rows) (λ t. bit (run t) net) g (driven due plane g) line.x line.y) (one_drive ports rows)
        ((one_shows line.offset ports.p (length rows) (λ c t. bit (run t) net) g (driven (context_drive ports (rows ∷ [])) plane g) line.x line.y).1
        (shows (length rows) (rows ∷ []) (are_one AreRows rows are) (λ c. run) (one_run rows run is) number net line is_net is_line g early))

abbrev net_bit : Valuation → Net → Bool
net_bit bits net = bits net.place net.name

abbrev class_bit : (ℕ → Bool) → FlatNet → Bool
class_bit bits net = bits net.class

module _ (plane : Plane) (ports : Ports) (design : Design) where
  pub to_contexts : ShowsRuns plane ports design → ShowsContexts plane ports design (start_state design ∷ [])
  to_contexts shows = record {
    conductors = conductors_to LatchState Valuation (AreInputRows design) (IsRunFrom design) (start_state design) plane ports shows.conductors;
    runs = runs_to LatchState Valuation (AreInputRows design) (IsRunFrom design) (start_state design) plane ports shows.runs;
    heads = heads_to LatchState Valuation (AreInputRows design) (IsRunFrom design) (start_state design) plane ports (output_bit design) shows.heads;
  }

  pub from_contexts : ShowsContexts plane ports design (start_state design ∷ []) → ShowsRuns plane ports design
  from_contexts shows = record {
    conductors = conductors_from LatchState Valuation (AreInputRows design) (IsRunFrom design) (start_state design) plane ports shows.conductors;
    runs = runs_from LatchState Valuation (AreInputRows design) (IsRunFrom design) (start_state design) plane ports shows.runs;
    heads = heads_from LatchState Valuation (AreInputRows design) (IsRunFrom design) (start_state design) plane ports (output_bit design) shows.heads;
  }

  pub nets_to_contexts : (nets : List Net) → ShowsNets plane ports design nets → ShowsNetsInContexts plane ports design (start_state design ∷ []) nets
  nets_to_contexts nets shows = nets_to LatchState Valuation (AreInputRows design) (IsRunFrom design) (start_state design) plane ports Net nets net_bit shows

  pub nets_from_contexts : (nets : List Net) → ShowsNetsInContexts plane ports design (start_state design ∷ []) nets → ShowsNets plane ports design nets
  nets_from_contexts nets shows = nets_from LatchState Valuation (AreInputRows design) (IsRunFrom design) (start_state design) plane ports Net nets net_bit shows

module _ (plane : Plane) (ports : Ports) (flat : Flat) where
  pub flat_to_contexts : ShowsFlatRuns plane ports flat → ShowsFlatContexts plane ports flat (start_bits flat ∷ [])
  flat_to_contexts shows = record {
    conductors = conductors_to (List Bool) (ℕ → Bool) (AreFlatRows flat) (IsFlatRun flat) (start_bits flat) plane ports shows.conductors;
    runs = runs_to (List Bool) (ℕ → Bool) (AreFlatRows flat) (IsFlatRun flat) (start_bits flat) plane ports shows.runs;
    heads = heads_to (List Bool) (ℕ → Bool) (AreFlatRows flat) (IsFlatRun flat) (start_bits flat) plane ports (flat_output_bit flat) shows.heads;
    nets = nets_to (List Bool) (ℕ → Bool) (AreFlatRows flat) (IsFlatRun flat) (start_bits flat) plane ports FlatNet (listed_nets flat) class_bit shows.nets;
  }

  pub flat_from_contexts : ShowsFlatContexts plane ports flat (start_bits flat ∷ []) → ShowsFlatRuns plane ports flat
  flat_from_contexts shows = record {
    conductors = conductors_from (List Bool) (ℕ → Bool) (AreFlatRows flat) (IsFlatRun flat) (start_bits flat) plane ports shows.conductors;
    runs = runs_from (List Bool) (ℕ → Bool) (AreFlatRows flat) (IsFlatRun flat) (start_bits flat) plane ports shows.runs;
    heads = heads_from (List Bool) (ℕ → Bool) (AreFlatRows flat) (IsFlatRun flat) (start_bits flat) plane ports (flat_output_bit flat) shows.heads;
    nets = nets_from (List Bool) (ℕ → Bool) (AreFlatRows flat) (IsFlatRun flat) (start_bits flat) plane ports FlatNet (listed_nets flat) class_bit shows.nets;
  }

pub one_context_carries : OneContextCarries
one_context_carries text design = (
  λ k. record { grid = k.grid; ports = k.ports; spells = k.spells; contexts = k.contexts; names = k.names; shows = to_contexts (plane_of k.grid.rows) k.ports design k.shows },
  λ k. record { grid = k.grid; ports = k.ports; spells = k.spells; contexts = k.contexts; names = k.names; shows = from_contexts (plane_of k.grid.rows) k.ports design k.shows },
)

pub one_context_carries_nets : OneContextCarriesNets
unfolding one_context_carries
one_context_carries_nets text design = (
  λ k. record { carried = (one_context_carries text design).0 k.carried; nets = k.nets; are_nets = k.are_nets; names = k.names; shows = nets_to_contexts (plane_of k.carried.grid.rows) k.carried.ports design k.nets k.shows },
  λ k. record { carried = (one_context_carries text design).1 k.carried; nets = k.nets; are_nets = k.are_nets; names = k.names; shows = nets_from_contexts (plane_of k.carried.grid.rows) k.carried.ports design k.nets k.shows },
)

pub one_context_carries_flat : OneContextCarriesFlat
one_context_carries_flat text flat = (
  λ k. record { grid = k.grid; ports = k.ports; spells = k.spells; contexts = k.contexts; names = k.names; shows = flat_to_contexts (plane_of k.grid.rows) k.ports flat k.shows },
  λ k. record { grid = k.grid; ports = k.ports; spells = k.spells; contexts = k.contexts; names = k.names; shows = flat_from_contexts (plane_of k.grid.rows) k.ports flat k.shows },
)
