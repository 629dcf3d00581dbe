-- Patterns and their texts, letter by letter.
use Rattle.std.specs.Prelude.{ℕ, ◌==◌, if◌then◌else◌, List, [], ◌∷◌, ◌++◌, map, codes}
use Rattle.ww_rule.specs.declared.pattern.State.{State}
use Rattle.ww_rule.specs.declared.pattern.State.TheVariants.{Empty, Head, Tail, Conductor}
use Rattle.ww_rule.specs.Grid.{Grid}

-- a row as it is drawn here: a `C` is a conductor
abbrev pub drawn_row : List ℕ → List State
drawn_row = map (λ c. if c == 67 then Conductor else Empty)

-- an OR gate: two wires that meet behind their diodes
abbrev pub or_rows : List (List ℕ)
or_rows =
    codes "................................."
    ∷ codes "................................."
    ∷ codes "................................."
    ∷ codes "................................."
    ∷ codes "................................."
    ∷ codes "................................."
    ∷ codes "................................."
    ∷ codes "................................."
    ∷ codes "CCCCC..................CCCCCCCCCC"
    ∷ codes ".....C................C.........."
    ∷ codes "......C..............C..........."
    ∷ codes ".......C............C............"
    ∷ codes "........C..........C............."
    ∷ codes ".........C.CC.....C.............."
    ∷ codes "..........CC.C...C..............."
    ∷ codes "...........CC.C.C................"
    ∷ codes "...............C................."
    ∷ codes "...........CC.C.................."
    ∷ codes "..........CC.C..................."
    ∷ codes ".........C.CC...................."
    ∷ codes "........C........................"
    ∷ codes ".......C........................."
    ∷ codes "......C.........................."
    ∷ codes ".....C..........................."
    ∷ codes "CCCCC..........................C."
    ∷ codes "................................."
    ∷ codes "................................."
    ∷ codes "................................."
    ∷ codes "................................."
    ∷ codes "................................."
    ∷ codes "................................."
    ∷ codes "................................."
    ∷ []

abbrev pub or_grid : Grid
or_grid = record { width = 33; height = 32; rows = map drawn_row or_rows }

-- the lines that say where its ports are
abbrev pub or_port_lines : List (List ℕ)
or_port_lines =
    codes "#C BLIFWW 2 P 32 L 32 C 1"
    ∷ codes "#C BLIFWW IN 0 8 a"
    ∷ codes "#C BLIFWW IN 0 24 b"
    ∷ codes "#C BLIFWW OUT 32 8 y"
    ∷ []

-- the lines that say where its nets are
abbrev pub or_net_lines : List (List ℕ)
or_net_lines =
    codes "#C BLIFWW NET 0 8 0 a -"
    ∷ codes "#C BLIFWW NET 0 24 0 b -"
    ∷ codes "#C BLIFWW NET 31 8 31 y -"
    ∷ []

-- the header of the gate's text and its items, on lines of 70 and 55 bytes
abbrev pub or_items_text : List ℕ
or_items_text =
    codes "x = 33, y = 32, rule = WireWorld\n"
    ++ codes "8$5C18.10C$5.C16.C$6.C14.C$7.C12.C$8.C10.C$9.C.2C5.C$10.2C.C3.C$11.2C.\n"
    ++ codes "C.C$15.C$11.2C.C$10.2C.C$9.C.2C$8.C$7.C$6.C$5.C$5C26.C!\n"

-- the whole text with ports, of 246 bytes
abbrev pub or_text : List ℕ
or_text =
    codes "#C BLIFWW 2 P 32 L 32 C 1\n"
    ++ codes "#C BLIFWW IN 0 8 a\n"
    ++ codes "#C BLIFWW IN 0 24 b\n"
    ++ codes "#C BLIFWW OUT 32 8 y\n"
    ++ or_items_text

-- the whole text with ports and nets, of 321 bytes
abbrev pub or_text_with_nets : List ℕ
or_text_with_nets =
    codes "#C BLIFWW 2 P 32 L 32 C 1\n"
    ++ codes "#C BLIFWW IN 0 8 a\n"
    ++ codes "#C BLIFWW IN 0 24 b\n"
    ++ codes "#C BLIFWW OUT 32 8 y\n"
    ++ codes "#C BLIFWW NET 0 8 0 a -\n"
    ++ codes "#C BLIFWW NET 0 24 0 b -\n"
    ++ codes "#C BLIFWW NET 31 8 31 y -\n"
    ++ or_items_text

-- a box without cells
abbrev pub bare_grid : Grid
bare_grid = record { width = 0; height = 0; rows = [] }

abbrev pub bare_lines : List (List ℕ)
bare_lines = codes "#C BLIFWW 2 P 32 L 0 C 1" ∷ []

abbrev pub bare_text : List ℕ
bare_text = codes "#C BLIFWW 2 P 32 L 0 C 1\nx = 0, y = 0, rule = WireWorld\n!\n"

-- a box of cells of all states, whose empty ends of rows, empty rows and empty last row are left
-- out
abbrev pub mixed_grid : Grid
mixed_grid = record {
  width = 4;
  height = 5;
  rows =
      (Empty ∷ Head ∷ Tail ∷ Conductor ∷ [])
      ∷ (Empty ∷ Empty ∷ Empty ∷ Empty ∷ [])
      ∷ (Empty ∷ Empty ∷ Empty ∷ Empty ∷ [])
      ∷ (Head ∷ Empty ∷ Empty ∷ Empty ∷ [])
      ∷ (Empty ∷ Empty ∷ Empty ∷ Empty ∷ [])
      ∷ [];
}

abbrev pub mixed_text : List ℕ
mixed_text = codes "x = 4, y = 5, rule = WireWorld\n.ABC3$A!\n"

-- a box of empty cells alone
abbrev pub empty_grid : Grid
empty_grid = record { width = 3; height = 1; rows = (Empty ∷ Empty ∷ Empty ∷ []) ∷ [] }

abbrev pub empty_text : List ℕ
empty_text = codes "x = 3, y = 1, rule = WireWorld\n!\n"
