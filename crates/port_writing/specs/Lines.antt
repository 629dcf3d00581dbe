-- The lines of a port table.
use Rattle.std.specs.Prelude.{ℕ, List, [], ◌∷◌, ◌++◌, flat_map, get_or, codes, decimal}
use Rattle.std.specs.Borrow.{Bor}
use Rattle.std.specs.List.{join_with_byte}
use Rattle.pattern_reading.specs.declared.ports.PortLine.{PortLine}
use Rattle.pattern_reading.specs.declared.ports.Ports.{Ports}
use Rattle.pattern_reading.specs.Spelling.{escaped_name, port_lines}

-- fields, each after a space
abbrev pub spaced : List (Bor (List ℕ)) → List ℕ
spaced fields = flat_map (λ field. 32 ∷ field.now) fields

-- a line with fields, of which one is a name, and the bytes that follow the line
abbrev pub named_line : List (Bor (List ℕ)) → List ℕ → List (Bor (List ℕ)) → List ℕ → List ℕ
named_line before name after rest =
    codes "#C BLIFWW" ++ (spaced before
    ++ (32 ∷ (escaped_name name ++ (spaced after ++ (10 ∷ rest)))))

-- the line of an input or an output, with this word for its kind
abbrev pub port_text : List ℕ → PortLine → List ℕ
port_text kind port =
    codes "#C BLIFWW " ++ join_with_byte 32
    (kind ∷ decimal port.x ∷ decimal port.y ∷ escaped_name port.name ∷ [])

-- a line of a table, by its number from 0, with its line end
abbrev pub ended_line : Ports → ℕ → List ℕ
ended_line ports n = get_or (port_lines ports) n [] ++ 10 ∷ []
