-- What follows from the form of a tile's ports.
use Rattle.std.specs.Prelude.{◌≡◌, ◌≢◌, get_or}
use Rattle.tile_core.specs.Interface.{Interface, IsInterface}

-- the two entries of a tile of two lanes are two cells, and so are its two exits
abbrev pub PortsDiffer : Type 0
PortsDiffer =
    (tile : Interface) → IsInterface tile → tile.lanes ≡ 2
    → (get_or tile.entries 0 (0, 0) ≢ get_or tile.entries 1 (0, 0))
    × (get_or tile.exits 0 (0, 0) ≢ get_or tile.exits 1 (0, 0))
