use Rattle.std.proofs.Common.{◌≡◌, ◌<◌, ◌*◌, ◌^◌, map}
use Rattle.std.specs.List.{range_with_len}
use Rattle.made_netlists.specs.Draws.{state_after}
use Rattle.made_summary.specs.Streams.{stream_after}
use Rattle.made_summary.proofs.drawing.draw_streams.Given as goal

abbrev pub invariant-loop-input : goal.invariant-loop-input
invariant-loop-input l =
    record {
      bits : l.bits.items ≡ map (λ input. stream_after l.fn.state (input * l.cycles) l.cycles) (range_with_len 0 l.input);
      state : l.state ≡ state_after l.fn.state (l.input * l.cycles);
      range : l.state < 2 ^ 31;
    }
