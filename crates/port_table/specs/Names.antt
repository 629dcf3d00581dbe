-- Names with escapes, byte by byte.
use Rattle.std.specs.Prelude.{ℕ, List, Option, Some, None}
use Rattle.std.specs.Borrow.{Bor}
use Rattle.pattern_reading.specs.Escapes.{onto, unescaped}

-- what a text with escapes stands for, by the first byte for which it stands and the text after
-- that
abbrev pub from_first : Option (ℕ × Bor (List ℕ)) → Option (List ℕ)
from_first None = None
from_first (Some first) = onto first.0 (unescaped first.1.now)
