-- Where the electrons of a tile stand, port by port.
use Rattle.std.specs.Prelude.{ℕ, pos, Bool, ◌&&◌, get_or}
use Rattle.std.specs.Ordering.{int_eq}
use Rattle.tile_core.specs.declared.kind.Kind.{Kind}
use Rattle.tile_core.specs.Kinds.{interface, entries, exits}
use Rattle.tiling.specs.Tiling.{Lit, is_entry_lit, is_exit_lit}

-- x and y are the place of the port
abbrev pub is_port_at : ℕ → ℕ → ℕ × ℕ → Bool
is_port_at x y port = int_eq (pos x) (pos port.0) && int_eq (pos y) (pos port.1)

-- the n-th entry of a tile is at this place of its box, and lit, so a head stands there
abbrev pub head_at : Lit → ℕ → ℕ → Kind → ℕ → ℕ → ℕ → Bool
head_at lit q l kind n x y =
    is_entry_lit lit q l (interface kind) n && is_port_at x y (get_or (entries kind) n (0, 0))

-- the n-th exit of a tile is at this place of its box, and lit, so a tail stands there
abbrev pub tail_at : Lit → ℕ → ℕ → Kind → ℕ → ℕ → ℕ → Bool
tail_at lit q l kind n x y =
    is_exit_lit lit q l (interface kind) n && is_port_at x y (get_or (exits kind) n (0, 0))
