-- What follows for the flat netlist of a design without a fault.
use Rattle.std.specs.Prelude.{ℕ, suc, ◌≡◌, ◌≢◌, ◌<◌, ◌≤◌, ◌^◌, ◌↔◌, List, [], ◌∷◌, ◌++◌, bytes_eq, Bool, true, false, map, flat_map, length, get_or, option_map, unwrap_or, slice_get, Some, Contains, All, AllPairs, ◌==◌, ◌+◌, ◌*◌, sum_by}
use Rattle.netlist_core.specs.declared.model.Design.{Design}
use Rattle.netlist_core.specs.declared.model.Model.{Model}
use Rattle.netlist_core.specs.declared.model.LatchRow.{LatchRow}
use Rattle.netlist_core.specs.declared.model.Port.{Port}
use Rattle.std.specs.List.{list_any}
use Rattle.netlist_core.specs.Names.{Name}
use Rattle.netlist_meaning.specs.Places.{Place, model_at, main_outputs, main_clocks, IsPlace, IsBefore}
use Rattle.netlist_meaning.specs.Nets.{Net, net_at, model_names, IsNet, IsPinned, Joined, IsClockNet, IsInNames}
use Rattle.netlist_meaning.specs.Roots.{root}
use Rattle.netlist_rules.specs.Clocks.{HasNoClockFault}
use Rattle.netlist_meaning.specs.Valuation.{Valuation, LatchState, IsValuation, output_bits, latches_after, start_state, AgreeOnNets}
use Rattle.netlist_meaning.specs.Laws.{IsNotRecursive}
use Rattle.netlist_meaning.specs.Loop.{IsCombinationalLoop}
use Rattle.netlist_meaning.specs.Weight.{weight}
use Rattle.netlist_core.specs.OwnWeight.{rows_weight}
use Rattle.netlist_rules.specs.ModelFaults.{AreFaultless}
use Rattle.netlist_core.specs.declared.flat.Flat.{Flat}
use Rattle.netlist_core.specs.declared.flat.FlatPort.{FlatPort}
use Rattle.netlist_meaning.specs.Flat.{IsInRange, names_of_ports, IsNamed, IsWeighed, IsSound, class_of, no_net}
use Rattle.netlist_meaning.specs.FlatOrder.{IsFlatLoop, IsFirstOfClass, IsOrder}
use Rattle.netlist_meaning.specs.FlatValuation.{IsFlatValuation, IsCycle}
use Rattle.netlist_meaning.specs.InOrder.{of_some, places_in_order, by_line, words_on_line, first_names, names_in_order, nets_in_order}
use Rattle.netlist_meaning.specs.FlatOf.{id_of, class_of_net, IsFlatOf}

-- the list of places has each place once, in order
pub record ListsPlacesInOrder (design : Design) : Type 0 where
  pub all : (place : Place) → Contains (places_in_order design) place ↔ IsPlace design place
  pub ascend : AllPairs IsBefore (places_in_order design)

-- If the design is not recursive, the list of places has each place once, in order.
abbrev pub PlacesAreListed : Type 0
PlacesAreListed = (design : Design) → IsNotRecursive design → ListsPlacesInOrder design

-- the list of names has each name of the model once
pub record ListsNames (model : Model) : Type 0 where
  pub all : (name : Name) → Contains (names_in_order model) name ↔ Contains (model_names model) name
  pub once : AllPairs (λ a b. a ≢ b) (names_in_order model)

-- The list of names has each name of the model once.
abbrev pub NamesAreListed : Type 0
NamesAreListed = (model : Model) → ListsNames model

-- words by line: no line comes before an earlier one, and the words of each line stand as they
-- stood
pub record StandByLine (words sorted : List Port) : Type 0 where
  pub ascend : AllPairs (λ (p q : Port). p.line ≤ q.line) sorted
  pub stable : (line : ℕ) → words_on_line line sorted ≡ words_on_line line words

-- a list is the words by line exactly if it is `by_line` of them
abbrev pub WordsStandByLine : Type 0
WordsStandByLine = (words sorted : List Port) → StandByLine words sorted ↔ (sorted ≡ by_line words)

abbrev pub append_unless : Bool → List Name → Name → List Name
append_unless true names name = names
append_unless false names name = names ++ name ∷ []

-- when names are read one by one, a name is put last in the list unless it has stood before
abbrev pub NamesComeWhereFirst : Type 0
NamesComeWhereFirst =
    (names : List Name) (name : Name) → first_names (names ++ name ∷ []) ≡ append_unless
    (list_any (bytes_eq name) names) (first_names names) name

-- the list of nets has each net once
pub record ListsNets (design : Design) : Type 0 where
  pub all : (net : Net) → Contains (nets_in_order design) net ↔ IsNet design net
  pub once : AllPairs (λ a b. a ≢ b) (nets_in_order design)

-- If the design is not recursive, the list of nets has each net of the design once.
abbrev pub NetsAreListed : Type 0
NetsAreListed = (design : Design) → IsNotRecursive design → ListsNets design

-- nets are of one class exactly if they are joined
pub record HasClasses (design : Design) (flat : Flat) : Type 0 where
  pub is_there : (net : Net) → IsNet design net
      → slice_get (nets_in_order design) (id_of design net.place net.name).0 ≡ Some net
  pub is_class : (net : Net) → IsNet design net
      → class_of flat (id_of design net.place net.name) ≡ class_of_net design net
  pub joined : (a b : Net) → IsNet design a → IsNet design b
      → (class_of flat (id_of design a.place a.name) ≡ class_of flat (id_of design b.place b.name))
      ↔ Joined design a b

-- In a design without a fault, nets are of one class exactly if they are joined.
abbrev pub ClassesAreJoined : Type 0
ClassesAreJoined =
    (design : Design) (flat : Flat) → AreFaultless design.models → IsFlatOf design flat
    → HasClasses design flat

-- a net is the first of its class exactly if it is its own root: of all nets joined with it, the
-- one nearest the main model
abbrev pub FirstsAreRoots : Type 0
FirstsAreRoots =
    (design : Design) (flat : Flat) → AreFaultless design.models → IsFlatOf design flat
    → (net : Net) → IsNet design net
    → IsFirstOfClass flat (id_of design net.place net.name) ↔ (root design net ≡ net)

-- the bits of the latches' state, in the order of the flat latches
abbrev pub latch_bits_from : (ℕ → Bool) → ℕ → List LatchRow → List Bool
latch_bits_from state number [] = []
latch_bits_from state number (latch ∷ latches) =
    state number ∷ latch_bits_from state (suc number) latches

abbrev pub state_in_order : Design → LatchState → List Bool
state_in_order design state =
    flat_map (λ place. latch_bits_from (state place) 0
    (of_some (λ (model : Model). model.latches) (model_at design place))) (places_in_order design)

-- bits of classes from those of nets; and bits of nets from those of classes
abbrev pub bit_of_net : Valuation → Net → Bool
bit_of_net bits net = bits net.place net.name

abbrev pub class_bits : Design → Valuation → ℕ → Bool
class_bits design bits class =
    unwrap_or (option_map (bit_of_net bits) (slice_get (nets_in_order design) class)) false

abbrev pub net_bits : Design → Flat → (ℕ → Bool) → Valuation
net_bits design flat bits place name = bits (class_of flat (id_of design place name))

-- a valuation of the design is one of the flat netlist and the other way round, with the same bits,
-- outputs and next state
pub record HasValuations (design : Design) (flat : Flat) : Type 0 where
  pub is_flat : (inputs : List Bool) (state : LatchState) (bits : Valuation)
      → IsValuation design inputs state bits
      → IsFlatValuation flat inputs (state_in_order design state) (class_bits design bits)
  pub same_bits : (inputs : List Bool) (state : LatchState) (bits : Valuation)
      → IsValuation design inputs state bits → (net : Net) → IsNet design net
      → ¬ IsClockNet design net → net_bits design flat (class_bits design bits) net.place net.name
      ≡ bits net.place net.name
  pub of_flat : (inputs : List Bool) (state : LatchState) (bits : ℕ → Bool)
      → IsFlatValuation flat inputs (state_in_order design state) bits
      → IsValuation design inputs state (net_bits design flat bits)
  pub outputs : (bits : ℕ → Bool) → map (λ port. bits (class_of flat port.net)) flat.outs
      ≡ output_bits design (net_bits design flat bits)
  pub starts : map (λ latch. latch.init == 1) flat.latches
      ≡ state_in_order design (start_state design)
  pub next : (bits : ℕ → Bool) → map (λ latch. bits (class_of flat latch.input)) flat.latches
      ≡ state_in_order design (latches_after design (net_bits design flat bits))

abbrev pub ValuationsAreFlat : Type 0
ValuationsAreFlat =
    (design : Design) (flat : Flat) → AreFaultless design.models → HasNoClockFault design
    → IsFlatOf design flat → HasValuations design flat

abbrev pub FlatIsSound : Type 0
FlatIsSound =
    (design : Design) (flat : Flat) → AreFaultless design.models → HasNoClockFault design
    → IsFlatOf design flat → weight design < 2 ^ 32 → IsSound flat

-- the numbers of the flat netlist are in range, whatever its clocks are
abbrev pub FlatIsInRange : Type 0
FlatIsInRange =
    (design : Design) (flat : Flat) → AreFaultless design.models → IsFlatOf design flat
    → weight design < 2 ^ 32 → IsInRange flat

-- the net at a position
abbrev pub net_of_class : Design → ℕ → Net
net_of_class design class = get_or (nets_in_order design) class (net_at [] [])

abbrev pub class_of_listed : Design → Flat → Net → ℕ
class_of_listed design flat net = class_of flat (id_of design net.place net.name)

pub record HasLoops (design : Design) (flat : Flat) : Type 0 where
  pub of_flat : (classes : List ℕ) → IsFlatLoop flat classes
      → IsCombinationalLoop design (map (net_of_class design) classes)
  pub is_flat : (nets : List Net) → IsCombinationalLoop design nets
      → IsFlatLoop flat (map (class_of_listed design flat) nets)

abbrev pub LoopsAreFlat : Type 0
LoopsAreFlat =
    (design : Design) (flat : Flat) → AreFaultless design.models → IsFlatOf design flat
    → HasLoops design flat

-- A design without a fault has no more nets than its weight.
abbrev pub NetsAreFew : Type 0
NetsAreFew =
    (design : Design) → AreFaultless design.models → length (nets_in_order design) ≤ weight design

-- a design without a fault has a flat netlist
abbrev pub FlatIsThere : Type 0
FlatIsThere = (design : Design) → AreFaultless design.models → (flat : Flat) × IsFlatOf design flat

-- a design has at most one flat netlist
abbrev pub FlatIsOne : Type 0
FlatIsOne =
    (design : Design) (flat other : Flat) → IsFlatOf design flat → IsFlatOf design other
    → flat ≡ other

abbrev pub AreMainPorts : Flat → List FlatPort → Type 0
AreMainPorts flat ports = All (λ port. (get_or flat.nets port.net.0 no_net).place ≡ []) ports

-- the flat ports are the IN names, the main outputs and the main clocks, in order, at the main
-- model
pub record HasFlatPorts (design : Design) (flat : Flat) : Type 0 where
  pub ins : IsInNames design (names_of_ports flat flat.ins)
  pub outs : names_of_ports flat flat.outs ≡ main_outputs design
  pub clocks : names_of_ports flat flat.clocks ≡ main_clocks design
  pub main_ins : AreMainPorts flat flat.ins
  pub main_outs : AreMainPorts flat flat.outs
  pub main_clocks : AreMainPorts flat flat.clocks

-- The flat ports are the IN names, the main outputs and the main clocks.
abbrev pub PortsAreFlat : Type 0
PortsAreFlat =
    (design : Design) (flat : Flat) → AreFaultless design.models → IsFlatOf design flat
    → HasFlatPorts design flat

-- if the flat nodes have an order, the design has exactly one valuation for given input bits and a
-- given state
abbrev pub DesignsHaveOneValuation : Type 0
DesignsHaveOneValuation =
    (design : Design) (flat : Flat) → AreFaultless design.models → HasNoClockFault design
    → IsFlatOf design flat → weight design < 2 ^ 32 → (order : List ℕ) → IsOrder flat order
    → (names : List Name) → IsInNames design names → (inputs : List Bool)
    → length inputs ≡ length names → (state : LatchState)
    → (bits : Valuation) × IsValuation design inputs state bits
    × ((others : Valuation) → IsValuation design inputs state others
    → AgreeOnNets design bits others)

-- a cycle of the flat netlist is one of the design
abbrev pub CyclesAreFlat : Type 0
CyclesAreFlat =
    (design : Design) (flat : Flat) → AreFaultless design.models → HasNoClockFault design
    → IsFlatOf design flat → (inputs outputs next : List Bool) (state : LatchState)
    → IsCycle flat inputs (state_in_order design state) outputs next
    → (bits : Valuation) × IsValuation design inputs state bits
    × (outputs ≡ output_bits design bits)
    × (next ≡ state_in_order design (latches_after design bits))

-- the ports, latches and nodes of a flat netlist weigh no more than its design
abbrev pub PartsAreFew : Type 0
PartsAreFew =
    (design : Design) (flat : Flat) → IsFlatOf design flat
    → length flat.ins + length flat.outs + 2 * length flat.latches + sum_by
    (λ node. rows_weight node.rows) flat.nodes ≤ weight design

-- the weight of a design without a fault bounds the nets and the parts of its flat netlist
abbrev pub FlatIsWeighed : Type 0
FlatIsWeighed =
    (design : Design) (flat : Flat) → AreFaultless design.models → IsFlatOf design flat
    → weight design < 2 ^ 31 → IsWeighed flat

-- the inputs of the flat netlist have distinct names, and so have its outputs
abbrev pub FlatIsNamed : Type 0
FlatIsNamed =
    (design : Design) (flat : Flat) → AreFaultless design.models → IsFlatOf design flat
    → IsNamed flat

-- roots by pins, outermost first: a net of the main model is its own root, a formal that a pin
-- names has the root of its actual, and one that no pin names is its own root
pub record HasRootsByPins (design : Design) : Type 0 where
  pub main : (name : Name) → root design (net_at [] name) ≡ net_at [] name
  pub pinned : (outer inner : Net) → IsPinned design outer inner
      → root design inner ≡ root design outer
  pub unpinned : (outer : Place) (number : ℕ) (name : Name)
      → ((net : Net) → ¬ IsPinned design net (net_at (outer ++ number ∷ []) name))
      → root design (net_at (outer ++ number ∷ []) name) ≡ net_at (outer ++ number ∷ []) name

-- The root of a formal is that of its actual, and one that no pin names is its own root.
abbrev pub RootsAreByPins : Type 0
RootsAreByPins = (design : Design) → AreFaultless design.models → HasRootsByPins design
