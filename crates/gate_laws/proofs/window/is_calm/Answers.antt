use Rattle.std.proofs.Common.{inl, inr, below_more}
use Rattle.gate_laws.proofs.window.is_calm.Goals as goal

pub loop-k-preserved : goal.loop-k-preserved
loop-k-preserved c =
    below_more _ _ c.loop-k.invariant
    (
    elim (c.is_calm_cell.ensures c.if-not-is_calm_cell.false) [
      | inl same ↦ inl same
      | inr (tail, there, none) ↦ inr (tail, there, c.is_beside_any.ensures none)
    ]
    )
