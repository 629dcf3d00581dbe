use Rattle.std.proofs.Common.{◌≡◌, ◌<◌, ◌^◌}
use Rattle.made_netlists.specs.Draws.{state_after}
use Rattle.made_summary.specs.Streams.{stream_after}
use Rattle.made_summary.proofs.drawing.draw_stream.Given as goal

abbrev pub invariant-loop-cycle : goal.invariant-loop-cycle
invariant-loop-cycle l =
    record {
      stream : l.stream.items ≡ stream_after l.initial.state 0 l.cycle;
      state : l.state ≡ state_after l.initial.state l.cycle;
      range : l.state < 2 ^ 31;
    }
