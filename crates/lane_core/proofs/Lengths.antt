-- Instructions leave the number of bits as it is.
use Rattle.std.proofs.Common.{◌≡◌, refl, ◌∙◌, ◌+◌, Bool, List, [], ◌∷◌, length, set}
use Rattle.std.proofs.lemmas.List.{length-set}
use Rattle.lane_core.specs.declared.instr.Instr.{Instr}
use Rattle.lane_core.specs.Instrs.{lane_of, after_instr, after_instrs}

pub length-after_instr : (bits : List Bool) (x : Instr) → length (after_instr bits x) ≡ length bits
length-after_instr bits x = length-set (set bits (lane_of x) _) (lane_of x + 1) _ ∙ length-set bits (lane_of x) _

pub length-after_instrs : (xs : List Instr) (bits : List Bool) → length (after_instrs xs bits) ≡ length bits
length-after_instrs [] bits = refl
length-after_instrs (x ∷ xs) bits = length-after_instrs xs (after_instr bits x) ∙ length-after_instr bits x
