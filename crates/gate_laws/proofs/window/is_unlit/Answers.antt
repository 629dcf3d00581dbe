use Rattle.std.proofs.Common.{◌≡◌, arith, below_more}
use Rattle.std.specs.Prelude.{◌⊎◌}
use Rattle.std.proofs.lemmas.List.Elements.{All-from_get_or}
use Rattle.ww_rule.specs.declared.pattern.State.TheVariants.{Empty, Conductor}
use Rattle.gate_laws.proofs.window.is_unlit.Goals as goal

pub returns : goal.returns
returns c = λ t.
    All-from_get_or (λ cell. (cell ≡ Empty) ⊎ (cell ≡ Conductor)) c.args.cells.now Empty (λ k h. c.loop-cell.invariant k (omega arith))

pub loop-cell-preserved : goal.loop-cell-preserved
loop-cell-preserved c = below_more _ _ c.loop-cell.invariant (c.is_unlit_cell.ensures c.if-not-is_unlit_cell.false)
