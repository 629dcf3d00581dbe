-- Which of some items are drawn.
use denote.Ref.{Bor}
use Rattle.std.specs.Prelude.{ℕ, ◌≡◌, not, map, Bool, List, [], ◌∷◌, ◌++◌, length, Option, option_map, IsSome, All}
use Rattle.std.specs.Option.{option_to_list}
use Rattle.netlist_core.specs.declared.flat.Flat.{Flat}
use Rattle.netlist_core.specs.declared.flat.Net.{Net as FlatNet}
use Rattle.netlist_meaning.specs.Flat.{is_clock_class}

-- those of the items beside which the first list has something, in order
abbrev pub items_drawn : {X Y : Type 0} → List (Option X) → List Y → List Y
items_drawn [] items = []
items_drawn (port ∷ ports) [] = []
items_drawn (port ∷ ports) (item ∷ items) =
    option_to_list (option_map (λ _. item) port) ++ items_drawn ports items

-- the first list has something beside each of so many items
pub record AreAllDrawn {X : Type 0} (ports : List (Option X)) (count : ℕ) : Type 0 where
  pub long : length ports ≡ count
  pub all : All IsSome ports

-- the nets themselves
abbrev pub nets_now : List (Bor FlatNet) → List FlatNet
nets_now nets = map (λ net. net.now) nets

-- the net is no clock net
abbrev pub is_plain : Flat → FlatNet → Bool
is_plain flat net = not (is_clock_class flat net.class)
