-- The kinds of tiles.
use Rattle.std.specs.Prelude.{ℕ, Bool, false, ◌&&◌, ◌||◌, not, List, [], ◌∷◌}
use Rattle.tile_core.specs.declared.kind.Kind.{Kind}
use Rattle.tile_core.specs.declared.kind.Kind.TheVariants.{Swap, Xor, Or, AndNot, Fork, East, South, North, EastSouth, SouthWest, WestNorth, NorthEast, West, WestSwap}
use Rattle.tile_core.specs.Interface.{Interface}

-- one of two, and not both: exclusive or
abbrev pub one_of : Bool → Bool → Bool
one_of a b = (a || b) && not (a && b)

-- the height in lanes
abbrev pub lanes : Kind → ℕ
lanes Swap = 2
lanes Xor = 2
lanes Or = 2
lanes AndNot = 2
lanes Fork = 2
lanes East = 1
lanes South = 1
lanes North = 1
lanes EastSouth = 1
lanes SouthWest = 1
lanes WestNorth = 1
lanes NorthEast = 1
lanes West = 1
lanes WestSwap = 2

-- the middles of the sides of a lane's box, and those of the lane below
abbrev pub west_side : ℕ × ℕ
west_side = (0, 8)

abbrev pub east_side : ℕ × ℕ
east_side = (31, 8)

abbrev pub north_side : ℕ × ℕ
north_side = (16, 0)

abbrev pub south_side : ℕ × ℕ
south_side = (16, 15)

abbrev pub one : ℕ × ℕ → List (ℕ × ℕ)
one port = port ∷ (0, 0) ∷ []

abbrev pub west_sides : List (ℕ × ℕ)
west_sides = (0, 8) ∷ (0, 24) ∷ []

abbrev pub east_sides : List (ℕ × ℕ)
east_sides = (31, 8) ∷ (31, 24) ∷ []

-- where the kind is entered
abbrev pub entries : Kind → List (ℕ × ℕ)
entries Swap = west_sides
entries Xor = west_sides
entries Or = west_sides
entries AndNot = west_sides
entries Fork = west_sides
entries East = one west_side
entries South = one north_side
entries North = one south_side
entries EastSouth = one west_side
entries SouthWest = one north_side
entries WestNorth = one east_side
entries NorthEast = one south_side
entries West = one east_side
entries WestSwap = east_sides

-- where the kind is left
abbrev pub exits : Kind → List (ℕ × ℕ)
exits Swap = east_sides
exits Xor = east_sides
exits Or = east_sides
exits AndNot = east_sides
exits Fork = east_sides
exits East = one east_side
exits South = one south_side
exits North = one north_side
exits EastSouth = one south_side
exits SouthWest = one west_side
exits WestNorth = one north_side
exits NorthEast = one east_side
exits West = one west_side
exits WestSwap = west_sides

-- which exits are lit, the upper first, if `a` says whether the upper entry is lit and `b` whether
-- the lower one is
abbrev pub answer : Kind → Bool → Bool → List Bool
answer Swap a b = b ∷ a ∷ []
answer Xor a b = one_of a b ∷ false ∷ []
answer Or a b = (a || b) ∷ false ∷ []
answer AndNot a b = (a && not b) ∷ false ∷ []
answer Fork a b = a ∷ a ∷ []
answer East a b = a ∷ false ∷ []
answer South a b = a ∷ false ∷ []
answer North a b = a ∷ false ∷ []
answer EastSouth a b = a ∷ false ∷ []
answer SouthWest a b = a ∷ false ∷ []
answer WestNorth a b = a ∷ false ∷ []
answer NorthEast a b = a ∷ false ∷ []
answer West a b = a ∷ false ∷ []
answer WestSwap a b = b ∷ a ∷ []

-- the interface of the kind: its height, its ports and its answer
abbrev pub interface : Kind → Interface
interface kind =
    record { lanes = lanes kind; entries = entries kind; exits = exits kind; answer = answer kind }
