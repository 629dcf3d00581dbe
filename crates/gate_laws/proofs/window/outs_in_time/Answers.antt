use Rattle.std.proofs.Common.{arith}
use Rattle.std.proofs.lemmas.List.Elements.{All-from_get_or}
use Rattle.tile_timing.specs.Window.{shown}
use Rattle.gate_laws.specs.Drawings.{IsOutputInTime}
use Rattle.gate_laws.proofs.BitNumbers.{no_out}
use Rattle.gate_laws.proofs.window.outs_in_time.Goals as goal

pub returns : goal.returns
returns c = λ t.
    All-from_get_or (IsOutputInTime (shown c.args.now.now c.args.width) c.args.number c.args.generation) c.args.outs.now no_out (λ k h. c.loop-out.invariant k (omega arith))
