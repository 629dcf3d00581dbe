-- Which sources are there for a cell or a port to read.
use Rattle.std.specs.Prelude.{ℕ, suc, nat_lt, Bool, true, false, ◌&&◌, ◌||◌, List, [], ◌∷◌}
use Rattle.std.specs.List.{list_all, list_any}
use Rattle.cell_core.specs.declared.cells.Src.{Src}
use Rattle.cell_core.specs.declared.cells.Src.TheVariants.{Input, Latch, One, Zero, Cell as Made}
use Rattle.cell_core.specs.declared.cells.Cell.{Cell}
use Rattle.cell_core.specs.declared.cells.Cell.TheVariants.{Or, Xor, AndNot}

-- the source is there, if there are so many inputs, latches and cells
abbrev pub is_there : ℕ → ℕ → ℕ → Src → Bool
is_there inputs latches made (Input i) = nat_lt i inputs
is_there inputs latches made (Latch i) = nat_lt i latches
is_there inputs latches made One = true
is_there inputs latches made Zero = true
is_there inputs latches made (Made i) = nat_lt i made

-- both sources of the cell are there
abbrev pub reads_there : ℕ → ℕ → ℕ → Cell → Bool
reads_there inputs latches made (Or a b) =
    is_there inputs latches made a && is_there inputs latches made b
reads_there inputs latches made (Xor a b) =
    is_there inputs latches made a && is_there inputs latches made b
reads_there inputs latches made (AndNot a b) =
    is_there inputs latches made a && is_there inputs latches made b

-- each of the cells reads only what is there before it; so many cells stand before the first
abbrev pub are_in_order : ℕ → ℕ → ℕ → List Cell → Bool
are_in_order inputs latches made [] = true
are_in_order inputs latches made (cell ∷ cells) =
    reads_there inputs latches made cell && are_in_order inputs latches (suc made) cells

-- each of the sources is there
abbrev pub are_there : ℕ → ℕ → ℕ → List Src → Bool
are_there inputs latches made sources = list_all (is_there inputs latches made) sources

-- the source is constant 1
abbrev pub is_one : Src → Bool
is_one (Input i) = false
is_one (Latch i) = false
is_one One = true
is_one Zero = false
is_one (Made i) = false

-- the cell reads constant 1
abbrev pub reads_one : Cell → Bool
reads_one (Or a b) = is_one a || is_one b
reads_one (Xor a b) = is_one a || is_one b
reads_one (AndNot a b) = is_one a || is_one b

-- some cell reads constant 1
abbrev pub read_one : List Cell → Bool
read_one cells = list_any reads_one cells
