-- The bytes of a lap.
use Rattle.std.specs.Prelude.{ℕ, List, take}
use Rattle.rle_write.specs.declared.lap_sink.Lap.{Lap}

-- the bytes that a lap holds
abbrev pub bytes_of : Lap → List ℕ
bytes_of lap = take lap.used lap.bytes
