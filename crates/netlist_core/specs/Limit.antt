-- How much a netlist may weigh.
use Rattle.std.specs.Prelude.{ℕ}

-- the greatest weight of a netlist
abbrev pub weight_limit : ℕ
weight_limit = 8192
