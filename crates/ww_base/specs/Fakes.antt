-- What the source and the sink in memory hold, and which of their calls fail.
use Rattle.std.specs.Prelude.{ℕ, ◌+◌, ◌-◌, ◌^◌, min, List, drop}
use Rattle.ww_base.specs.declared.fakes.MemSource.{MemSource}
use Rattle.ww_base.specs.declared.fakes.MemSink.{MemSink}

-- the number after this one, up to the greatest u64, where it stays
abbrev pub next_count : ℕ → ℕ
next_count n = min (n + 1) (2 ^ 64 - 1)

-- the bytes that the source has still to give
abbrev pub bytes_left : MemSource → List ℕ
bytes_left s = drop s.at s.bytes.items

-- the number of the source's next call, from 0
abbrev pub source_call : MemSource → ℕ
source_call s = s.call

-- the numbers of the source's calls that fail
abbrev pub source_fails : MemSource → List ℕ
source_fails s = s.fails.items

-- the most bytes that a call gives
abbrev pub source_chunk : MemSource → ℕ
source_chunk s = s.chunk

-- how often the source has failed
abbrev pub source_faults : MemSource → ℕ
source_faults s = s.faults

-- the bytes that the sink has taken
abbrev pub held_of : MemSink → List ℕ
held_of s = s.held.items

-- the number of the sink's next call, from 0
abbrev pub sink_call : MemSink → ℕ
sink_call s = s.call

-- the numbers of the sink's calls that fail
abbrev pub sink_fails : MemSink → List ℕ
sink_fails s = s.fails.items

-- the most bytes that a call takes
abbrev pub sink_chunk : MemSink → ℕ
sink_chunk s = s.chunk

-- the most bytes that the sink takes in all
abbrev pub sink_room : MemSink → ℕ
sink_room s = s.room

-- how often the sink has failed
abbrev pub sink_faults : MemSink → ℕ
sink_faults s = s.faults
