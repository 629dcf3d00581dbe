-- Subckt lines behind references.
use Rattle.std.specs.Prelude.{List, map}
use denote.Ref.{Bor}
use Rattle.netlist_core.specs.declared.model.Subckt.{Subckt}

-- the lines themselves
abbrev pub lines_now : List (Bor Subckt) → List Subckt
lines_now lines = map (λ line. line.now) lines
