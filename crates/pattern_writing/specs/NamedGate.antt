-- The text of an OR gate whose inputs and output have any names.
use Rattle.std.specs.Prelude.{◌≢◌, ℕ, List, [], ◌∷◌, ◌++◌}
use Rattle.pattern_reading.specs.PortLines.{PortForm, Version, In, Out}
use Rattle.pattern_reading.specs.Pattern.{ReadsAsPattern}
use Rattle.pattern_reading.specs.PortTable.{ReadsAsPorts, ports_of}
use Rattle.pattern_reading.specs.Spelling.{spelled_table}
use Rattle.pattern_writing.specs.Samples.{or_grid, or_items_text}
use Rattle.pattern_writing.specs.SamplePorts.{port_line_at}

-- the port lines of an OR gate whose inputs and output have these names
abbrev pub named_or_forms : List ℕ → List ℕ → List ℕ → List PortForm
named_or_forms a b y =
    Version 32 32 1 ∷ In (port_line_at 0 8 a) ∷ In (port_line_at 0 24 b) ∷ Out (port_line_at 32 8 y)
    ∷ []

abbrev pub named_or_text : List ℕ → List ℕ → List ℕ → List ℕ
named_or_text a b y = spelled_table (named_or_forms a b y) ++ or_items_text

-- The text reads as the gate's drawing, whatever its names are, and as its ports if the inputs have
-- different names.
abbrev pub HasNamedGate : List ℕ → List ℕ → List ℕ → Type 0
HasNamedGate a b y =
    ReadsAsPattern (named_or_text a b y) or_grid
    × (a ≢ b → ReadsAsPorts (named_or_text a b y) 33 32 (ports_of (named_or_forms a b y)))
