-- What the surroundings of a tile know of it: its height, its ports, and its answer.
use Rattle.std.specs.Prelude.{pos, negsuc, ℤ, ℕ, ◌+◌, ◌*◌, Bool, false, ◌&&◌, ◌||◌, ◌==◌, ltb, cond, List, [], ◌∷◌, map, take, length, get_or, Contains, ◌<◌, ◌≡◌, ◌⊎◌}
use Rattle.tile_core.specs.Drawing.{Cell}

-- a tile has as many entries and exits as it has lanes, and the lists of ports have two places, the
-- upper port first
pub record Interface : Type 0 where
  pub lanes : ℕ
  pub entries : List (ℕ × ℕ)
  pub exits : List (ℕ × ℕ)
  -- which exits are lit, if the first entry is lit and if the second is
  pub answer : Bool → Bool → List Bool

abbrev pub cell_at : ℕ × ℕ → Cell
cell_at place = record { x = pos place.0; y = pos place.1 }

-- the cells where the tile is entered, and where it is left
abbrev pub entry_cells : Interface → List Cell
entry_cells tile = map cell_at (take tile.lanes tile.entries)

abbrev pub exit_cells : Interface → List Cell
exit_cells tile = map cell_at (take tile.lanes tile.exits)

-- the cells whose bit is true
abbrev pub chosen : List Cell → List Bool → List Cell
chosen [] bits = []
chosen (c ∷ cs) [] = []
chosen (c ∷ cs) (b ∷ bs) = cond b (c ∷ chosen cs bs) (chosen cs bs)

-- the entries that are lit, by a bit for each of them
abbrev pub lit_entries : Interface → Bool → Bool → List Cell
lit_entries tile a b = chosen (entry_cells tile) (a ∷ b ∷ [])

-- the exits that the answer lights
abbrev pub lit_exits : Interface → Bool → Bool → List Cell
lit_exits tile a b = chosen (exit_cells tile) (tile.answer a b)

-- the tile's box: 32 columns, and 16 rows for each lane
abbrev pub is_in_box : Interface → ℤ → ℤ → Bool
is_in_box tile (pos x) (pos y) = ltb x 32 && ltb y (16 * tile.lanes)
is_in_box tile (pos x) (negsuc y) = false
is_in_box tile (negsuc x) y = false

-- the cells of the box that lie along its sides
abbrev pub is_on_border : Interface → ℤ → ℤ → Bool
is_on_border tile (pos x) (pos y) =
    is_in_box tile (pos x) (pos y) && (x == 0 || x == 31 || y == 0 || y + 1 == 16 * tile.lanes)
is_on_border tile (pos x) (negsuc y) = false
is_on_border tile (negsuc x) y = false

-- a port is the middle of one of the four sides of a lane, the upper lane being lane 0
abbrev pub side_ports : ℕ → List (ℕ × ℕ)
side_ports lane =
    (0, 16 * lane + 8) ∷ (31, 16 * lane + 8) ∷ (16, 16 * lane) ∷ (16, 16 * lane + 15) ∷ []

-- the port of each lane lies in the middle of a side of the lane's box of 32 columns and 16 rows
abbrev pub AreSidePorts : ℕ → List (ℕ × ℕ) → Type 0
AreSidePorts lanes ports =
    (lane : ℕ) → lane < lanes → Contains (side_ports lane) (get_or ports lane (0, 0))

-- There are two entries, two exits and two bits. In a tile of one lane the second port is (0, 0),
-- and the second bit false. Each lane's ports lie in the middles of its sides.
pub record IsInterface (tile : Interface) : Type 0 where
  pub height : (tile.lanes ≡ 1) ⊎ (tile.lanes ≡ 2)
  pub two_entries : length tile.entries ≡ 2
  pub two_exits : length tile.exits ≡ 2
  pub two_bits : (a b : Bool) → length (tile.answer a b) ≡ 2
  pub side_entries : AreSidePorts tile.lanes tile.entries
  pub side_exits : AreSidePorts tile.lanes tile.exits
  pub unused_entry : tile.lanes ≡ 1 → get_or tile.entries 1 (0, 0) ≡ (0, 0)
  pub unused_exit : tile.lanes ≡ 1 → get_or tile.exits 1 (0, 0) ≡ (0, 0)
  pub unused_bit : tile.lanes ≡ 1 → (a b : Bool) → get_or (tile.answer a b) 1 false ≡ false
