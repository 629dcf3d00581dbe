-- The bytes of a step.
use Rattle.std.specs.Prelude.{ℕ, List, take}
use Rattle.rle_write.specs.declared.step_bytes.StepBytes.{StepBytes}

-- the bytes that a step has
abbrev pub bytes_in : StepBytes → List ℕ
bytes_in step = take step.used step.bytes
