-- Nets, which pins join which, and the names of the main model's ports. By the BLIF report a pin
-- `formal=actual` of a `.subckt` line makes the actual, in the model in which the line stands, and
-- the formal, in the model that it places, one net.
use Rattle.std.specs.Prelude.{ℕ, ◌≡◌, ◌⊎◌, List, [], ◌∷◌, ◌++◌, Some, slice_get, map, flat_map, option_to_list, Contains}
use Rattle.netlist_core.specs.declared.model.Design.{Design}
use Rattle.netlist_core.specs.declared.model.Model.{Model}
use Rattle.netlist_core.specs.declared.model.Subckt.{Subckt}
use Rattle.netlist_core.specs.declared.model.Pin.{Pin}
use Rattle.netlist_core.specs.declared.model.LatchRow.{LatchRow}
use Rattle.netlist_core.specs.Names.{Name, port_names}
use Rattle.netlist_meaning.specs.Places.{Place, model_at, latch_at, main_inputs, main_clocks}

-- a net: a place and a name
pub record Net : Type 0 where
  pub place : Place
  pub name : Name

abbrev pub net_at : Place → Name → Net
net_at place name = record { place = place; name = name }

-- the names on a model's lines, in an order without meaning, and perhaps more than once
abbrev pub model_names : Model → List Name
model_names model =
    port_names model.ins
    ++ port_names model.outs
    ++ port_names model.clocks
    ++ flat_map (λ cover. cover.ins ++ cover.out ∷ []) model.covers
    ++ flat_map (λ latch. latch.input ∷ latch.output ∷ option_to_list latch.control) model.latches
    ++ flat_map (λ line. map (λ pin. pin.actual) line.pins) model.subckts

-- a net of the design: its name is one of the model at its place
abbrev pub IsNet : Design → Net → Type 0
IsNet design net =
    (model : Model) × (model_at design net.place ≡ Some model)
    × Contains (model_names model) net.name

-- a pin joins its actual, at the place of its line, with its formal, one place deeper
pub record IsPinned (design : Design) (outer inner : Net) : Type 0 where
  pub model : Model
  pub line : Subckt
  pub pin : Pin
  pub number : ℕ
  pub has_model : model_at design outer.place ≡ Some model
  pub has_line : slice_get model.subckts number ≡ Some line
  pub has_pin : Contains line.pins pin
  pub is_actual : outer.name ≡ pin.actual
  pub is_deeper : inner.place ≡ outer.place ++ number ∷ []
  pub is_formal : inner.name ≡ pin.formal

-- joined nets: the least equivalence in which each pin joins its actual with its formal
pub data Joined (design : Design) : Net → Net → Type 0 where
  by_pin : {outer inner : Net} → IsPinned design outer inner → Joined design outer inner
  itself : {net : Net} → Joined design net net
  reversed : {a b : Net} → Joined design a b → Joined design b a
  followed : {a b c : Net} → Joined design a b → Joined design b c → Joined design a c

-- a latch at the net's place names it as its control
pub record IsLatchControl (design : Design) (net : Net) : Type 0 where
  pub number : ℕ
  pub latch : LatchRow
  pub has_latch : latch_at design net.place number ≡ Some latch
  pub has_control : latch.control ≡ Some net.name

-- a `.clock` name of the main model that is not in its `.inputs`
pub record IsMainClock (design : Design) (net : Net) : Type 0 where
  pub is_main : net.place ≡ []
  pub is_clock : Contains (main_clocks design) net.name
  pub is_no_input : ¬ Contains (main_inputs design) net.name

-- the latches' control, with all nets joined to it (it is one control if the latches have one
-- clock)
abbrev pub IsControl : Design → Net → Type 0
IsControl design net = (source : Net) × IsLatchControl design source × Joined design source net

-- a clock net: the latches' control, or a `.clock` name of the main model that is not in its
-- `.inputs`, with all nets joined to them
abbrev pub IsClockNet : Design → Net → Type 0
IsClockNet design net =
    (source : Net) × (IsLatchControl design source ⊎ IsMainClock design source)
    × Joined design source net

-- the names of a list whose nets in the main model are not the control, in order
pub data WithoutControl (design : Design) : List Name → List Name → Type 0 where
  none : WithoutControl design [] []
  kept : {name : Name} {names rest : List Name} → ¬ IsControl design (net_at [] name)
      → WithoutControl design names rest → WithoutControl design (name ∷ names) (name ∷ rest)
  left_out : {name : Name} {names rest : List Name} → IsControl design (net_at [] name)
      → WithoutControl design names rest → WithoutControl design (name ∷ names) rest

-- the IN names: the names of the main model's `.inputs` without the control, in order. The OUT
-- names are `main_outputs`
abbrev pub IsInNames : Design → List Name → Type 0
IsInNames design names = WithoutControl design (main_inputs design) names
