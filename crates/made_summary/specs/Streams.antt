-- The streams that are drawn after a made text.
use Rattle.std.specs.Prelude.{ℕ, ◌==◌, ◌+◌, ◌*◌, Bool, List, map}
use Rattle.std.specs.List.{range_with_len}
use Rattle.made_netlists.specs.Draws.{draw_after}
use Rattle.made_netlists.specs.Text.{made_state}
use Rattle.streams.specs.declared.streams.Streams.{Streams}

-- The bits of an input are draws below 2, one for each cycle, which come from a state after
-- `before` other draws.
abbrev pub stream_after : (state before cycles : ℕ) → List Bool
stream_after state before cycles =
    map (λ cycle. draw_after state (before + cycle) 2 == 1) (range_with_len 0 cycles)

-- A state gives the bits of i0, and then as many of i1, of i2 and of i3.
abbrev pub streams_after : (state cycles : ℕ) → Streams
streams_after state cycles =
    record {
      cycles = cycles;
      c = 1;
      bits = map
          (λ input. stream_after state (input * cycles) cycles) (range_with_len 0 4);
    }

-- the streams that are drawn after the text of a seed and a number of gates
abbrev pub drawn_streams : (seed size cycles : ℕ) → Streams
drawn_streams seed size cycles = streams_after (made_state seed size) cycles
