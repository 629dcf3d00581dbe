use Rattle.std.proofs.Common.{◌≡◌, ◌<◌, ◌^◌, ◌*◌}
use Rattle.made_netlists.specs.Draws.{state_after}
use Rattle.made_netlists.specs.Text.{drawn_gates}
use Rattle.made_netlists.proofs.gate.draw_gates.Given as goal

abbrev pub invariant-loop-j : goal.invariant-loop-j
invariant-loop-j l =
    record {
      gates : l.gates.items ≡ drawn_gates l.initial.state l.j;
      state : l.state ≡ state_after l.initial.state (3 * l.j);
      range : l.state < 2 ^ 31;
    }
