-- A law of instructions that share no lane.
use Rattle.std.specs.Prelude.{◌≡◌, Bool, List}
use Rattle.lane_core.specs.declared.instr.Instr.{Instr}
use Rattle.lane_core.specs.Instrs.{after_instr, AreApart}

-- two instructions that share no lane may be done in either order
abbrev pub CommuteWhenApart : Type 0
CommuteWhenApart =
    (i j : Instr) → AreApart i j → (bits : List Bool)
    → after_instr (after_instr bits i) j ≡ after_instr (after_instr bits j) i
