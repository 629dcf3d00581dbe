-- The root of a net: of all nets that are joined with it, the one nearest the main model.
use Rattle.std.specs.Prelude.{ℕ, ◌<◌, ◌⊎◌, length, ◌≡◌, ◌↔◌, [], ◌∷◌, Option, Some, None, slice_get, find, option_and_then, option_map, unwrap_or, bytes_eq, Contains}
use Rattle.netlist_core.specs.declared.model.Design.{Design}
use Rattle.netlist_core.specs.declared.model.Model.{Model}
use Rattle.netlist_core.specs.declared.model.Subckt.{Subckt}
use Rattle.netlist_core.specs.declared.model.Pin.{Pin}
use Rattle.netlist_core.specs.Names.{Name}
use Rattle.netlist_meaning.specs.Places.{Place, main_model, model_placed, model_at}
use Rattle.netlist_meaning.specs.Nets.{Net, net_at, Joined}

-- the pin of a line that names the formal
abbrev pub pin_named : Name → Subckt → Option Pin
pin_named formal line = find (λ pin. bytes_eq pin.formal formal) line.pins

-- the actual of a pin, in the model of its line; without a pin, the net of that name in the model
-- that the line places
abbrev pub actual_or_formal : ℕ → Name → Option Pin → Net
actual_or_formal number formal None = net_at (number ∷ []) formal
actual_or_formal number formal (Some pin) = net_at [] pin.actual

-- a net inside the model that a line of that number places, seen from the line's model: a formal of
-- that model goes on to its actual
abbrev pub out_of_line : Option Subckt → ℕ → Place → Name → Net
out_of_line line number [] name =
    actual_or_formal number name (option_and_then (pin_named name) line)
out_of_line line number (first ∷ place) name = net_at (number ∷ (first ∷ place)) name

-- the root inside a model of a net inside that model
abbrev pub root_below : Design → Place → Name → Model → Net
root_below design [] name model = net_at [] name
root_below design (number ∷ place) name model =
    let inner : Net = unwrap_or (option_map (root_below design place name) (model_placed design model number)) (net_at place name) in
    out_of_line (slice_get model.subckts number) number inner.place inner.name

-- the root of a net
abbrev pub root : Design → Net → Net
root design net =
    unwrap_or (option_map (root_below design net.place net.name) (main_model design)) net

-- no line names a formal with two actuals
abbrev pub NamesFormalsOnce : Design → Type 0
NamesFormalsOnce design =
    (place : Place) (number : ℕ) (model : Model) (line : Subckt) (p q : Pin)
    → model_at design place ≡ Some model → slice_get model.subckts number ≡ Some line
    → Contains line.pins p → Contains line.pins q → p.formal ≡ q.formal → p.actual ≡ q.actual

-- if no line names a formal with two actuals, nets are joined exactly if they have the same root
abbrev pub JoinedIsSameRoot : Type 0
JoinedIsSameRoot =
    (design : Design) → NamesFormalsOnce design → (a b : Net) → Joined design a b
    ↔ (root design a ≡ root design b)

-- each net is joined with its root, which is the net of its class that is nearest the main model:
-- any other lies deeper
pub record RootIsNearest (design : Design) : Type 0 where
  pub joined : (net : Net) → Joined design net (root design net)
  pub nearest : (a b : Net) → Joined design a b
      → (b ≡ root design a) ⊎ (length (root design a).place < length b.place)

-- If no line names a formal with two actuals, the root of a net is joined with it, and any other
-- net that is joined with it lies deeper than the root.
abbrev pub RootsAreNearest : Type 0
RootsAreNearest = (design : Design) → NamesFormalsOnce design → RootIsNearest design
