-- The streams of the adapters, and how often they have failed.
use Rattle.std.specs.Prelude.{ℕ}
use Rattle.ww_base.specs.declared.standard.StdSource.{StdSource}
use Rattle.ww_base.specs.declared.standard.StdSink.{StdSink}

-- the stream that a source reads from
abbrev pub source_stream : {R : Type 0} → StdSource R → R
source_stream s = s.stream

abbrev pub source_faults : {R : Type 0} → StdSource R → ℕ
source_faults s = s.faults

-- the stream that a sink writes to
abbrev pub sink_stream : {W : Type 0} → StdSink W → W
sink_stream s = s.stream

abbrev pub sink_faults : {W : Type 0} → StdSink W → ℕ
sink_faults s = s.faults
