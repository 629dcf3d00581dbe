use Rattle.std.proofs.Common.{pos, ◌<◌, ◌≡◌, arith, below_more}
use Rattle.std.proofs.lemmas.List.Elements.{All-from_get_or}
use Rattle.ww_rule.specs.declared.pattern.State.TheVariants.{Conductor}
use Rattle.tile_timing.specs.Window.{shown}
use Rattle.gate_laws.specs.declared.window.OutCell.{OutCell}
use Rattle.gate_laws.proofs.BitNumbers.{no_out}
use Rattle.gate_laws.proofs.window.has_outputs.Goals as goal

pub returns : goal.returns
returns c = λ t.
    All-from_get_or (λ (out : OutCell). (shown c.args.cells.now c.args.width (pos out.x) (pos out.y) ≡ Conductor) × (out.delay < c.args.time)) c.args.outs.now no_out (λ k h. c.loop-out.invariant k (omega arith))

pub loop-out-preserved : goal.loop-out-preserved
loop-out-preserved c = below_more _ _ c.loop-out.invariant (c.has_output.ensures c.if-not-has_output.false)
