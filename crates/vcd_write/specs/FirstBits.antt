-- The first bits that nets show.
use Rattle.std.specs.Prelude.{ℕ, ◌+◌, ◌*◌, List, [], ◌∷◌}
use Rattle.vcd_write.specs.declared.due_bits.DueBit.{DueBit}
use Rattle.vcd_write.specs.NetWaves.{NetInContext}

-- the first bit of a net in a context, at this place
abbrev pub first_bit : (place : ℕ) → NetInContext → DueBit
first_bit place variable = record {
  generation = variable.net.offset + 32 * variable.context;
  place = place;
  x = variable.net.x;
  y = variable.net.y;
}

-- the first bits of variables, at places from this one on
abbrev pub first_due_bits : (place : ℕ) → List NetInContext → List DueBit
first_due_bits place [] = []
first_due_bits place (variable ∷ variables) =
    first_bit place variable ∷ first_due_bits (place + 1) variables
