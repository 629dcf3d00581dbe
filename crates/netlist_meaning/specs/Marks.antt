-- A mark for each class that tells whether it is a clock's.
use Rattle.std.specs.Prelude.{ℕ, ◌≡◌, ◌<◌, Bool, false, List, length, get_or}
use Rattle.netlist_core.specs.declared.flat.Flat.{Flat}
use Rattle.netlist_meaning.specs.Flat.{is_clock_class}

pub record MarksClocks (flat : Flat) (marks : List Bool) : Type 0 where
  pub all : length marks ≡ length flat.nets
  pub each : (class : ℕ) → class < length flat.nets
      → get_or marks class false ≡ is_clock_class flat class
