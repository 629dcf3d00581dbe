-- Laws of start words, for every design.
use Rattle.std.specs.Prelude.{ℕ, ◌≡◌, List, [], Some, None, map, slice_get}
use Rattle.netlist_core.specs.declared.model.Design.{Design}
use Rattle.netlist_core.specs.declared.model.LatchRow.{LatchRow}
use Rattle.netlist_core.specs.declared.flat.Flat.{Flat}
use Rattle.netlist_core.specs.Names.{Name}
use Rattle.netlist_core.specs.LatchNames.{latch_named}
use Rattle.netlist_meaning.specs.Places.{Place, latch_at}
use Rattle.netlist_meaning.specs.Nets.{IsNet, Joined, net_at}
use Rattle.netlist_meaning.specs.FlatOf.{IsFlatOf, flat_latch}
use Rattle.netlist_meaning.specs.Valuation.{start_state}
use Rattle.netlist_rules.specs.ModelFaults.{AreFaultless}
use Rattle.flat_designs.specs.Laws.{state_in_order}
use Rattle.start_words.specs.Flats.{flat_latches, flat_starts}
use Rattle.start_words.specs.Starts.{latches_of, start_of_words, starts_of_words}

-- a latch of the design, at its position among the flat latches
pub record IsFlatLatch (design : Design) (flat : Flat) (position : ℕ) (place : Place)
    (latch : LatchRow) : Type 0 where
  pub number : ℕ
  pub is_latch : latch_at design place number ≡ Some latch
  pub is_flat : slice_get flat.latches position ≡ Some (flat_latch design place latch)

-- the flat latch at this position is one whose output is joined with the main model's net of that
-- name
pub record HasNamedLatch (design : Design) (flat : Flat) (name : Name) (position : ℕ) : Type 0 where
  pub place : Place
  pub latch : LatchRow
  pub is : IsFlatLatch design flat position place latch
  pub is_net : IsNet design (net_at [] name)
  pub joined : Joined design (net_at place latch.output) (net_at [] name)

-- a name names the flat latch whose output is joined with the main model's net of that name, and no
-- latch exactly if there is none
pub record NamesLatches (design : Design) (flat : Flat) (name : Name) : Type 0 where
  pub named : (position : ℕ) → latch_named flat name ≡ Some position
      → HasNamedLatch design flat name position
  pub unnamed : latch_named flat name ≡ None → (position : ℕ)
      → HasNamedLatch design flat name position → ⊥

abbrev pub NamedLatchesAreJoined : Type 0
NamedLatchesAreJoined =
    (design : Design) (flat : Flat) → AreFaultless design.models → IsFlatOf design flat
    → (name : Name) → NamesLatches design flat name

-- names name the same latches in the flat netlist of a design, so words have the same faults in
-- both
abbrev pub LatchesAreFlat : Type 0
LatchesAreFlat =
    (design : Design) (flat : Flat) → AreFaultless design.models → IsFlatOf design flat
    → (name : Name) → flat_latches flat name ≡ latches_of design name

-- the bits of the flat latches in each context, in order, are those of the states that the words
-- give
abbrev pub StartsAreFlat : Type 0
StartsAreFlat =
    (design : Design) (flat : Flat) → AreFaultless design.models → IsFlatOf design flat
    → (words : List (List ℕ)) (contexts : ℕ)
    → flat_starts flat words contexts ≡ map (state_in_order design)
    (starts_of_words design words contexts)

-- without words the latches start in the start state, in every context
abbrev pub NoWordsMeanStart : Type 0
NoWordsMeanStart =
    (design : Design) (context : ℕ) → start_of_words design [] context ≡ start_state design
