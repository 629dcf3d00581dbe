-- Lists of bits, read across.
use Rattle.std.specs.Prelude.{ℕ, ◌*◌, ◌/◌, Bool, false, List, length, map, take, drop, slice_get, unwrap_or}
use Rattle.std.specs.List.{range_with_len}
use Rattle.streams.specs.declared.streams.Streams.{Streams}

-- the bit at a place of each list
abbrev pub bits_across : List (List Bool) → ℕ → List Bool
bits_across lists place = map (λ bits. unwrap_or (slice_get bits place) false) lists

-- the bits of all inputs in a cycle, if there is one context
abbrev pub stream_row : Streams → ℕ → List Bool
stream_row streams cycle = bits_across streams.bits cycle

-- a row of input bits for each cycle, if there is one context
abbrev pub rows_of : Streams → List (List Bool)
rows_of streams = map (stream_row streams) (range_with_len 0 streams.cycles)

-- the number of inputs of each context
abbrev pub inputs_each : Streams → ℕ
inputs_each streams = length streams.bits / streams.c

-- the streams of a context's inputs, as streams of one context
abbrev pub in_context : Streams → (context : ℕ) → Streams
in_context streams context = record {
  cycles = streams.cycles;
  c = 1;
  bits = take (inputs_each streams) (drop (context * inputs_each streams) streams.bits);
}

-- the rows of input bits of each context
abbrev pub contexts_of : Streams → List (List (List Bool))
contexts_of streams =
    map (λ context. rows_of (in_context streams context)) (range_with_len 0 streams.c)
