-- The variables that are written, and parts of their text.
use Rattle.std.specs.Prelude.{ℕ, ◌+◌, ◌*◌, false, List, length, map, flat_map, get_or}
use Rattle.std.specs.List.{range_with_len}
use Rattle.pattern_writing.specs.Writer.{ended_lines}
use Rattle.vcd_write.specs.Reading.{var_line, value_line, block_lines}
use Rattle.vcd_write.specs.Writing.{Waves, var_of, value_of, block_of}
use Rattle.vcd_write.specs.declared.vcd.Vcd.{Vcd}

-- the variables, each with its bits: the bit of variable n in a cycle stands at place
-- cycle * count + n
abbrev pub waves_in : Vcd → Waves
waves_in vcd =
    record {
      cycles = vcd.cycles;
      references = vcd.references;
      bit = λ n cycle. get_or vcd.bits (cycle * length vcd.references + n) false;
    }

-- the lines of `many` variables, from n on
abbrev pub vars_text : Waves → (n many : ℕ) → List ℕ
vars_text w n many = ended_lines (map var_line (map (var_of w) (range_with_len n many)))

-- the value lines of `many` variables in a cycle, from n on
abbrev pub values_text : Waves → (cycle n many : ℕ) → List ℕ
values_text w cycle n many =
    ended_lines (map value_line (flat_map (value_of w cycle) (range_with_len n many)))

-- the blocks of `many` cycles
abbrev pub blocks_text : Waves → (cycle many : ℕ) → List ℕ
blocks_text w cycle many =
    ended_lines (flat_map block_lines (map (block_of w) (range_with_len cycle many)))
