use Rattle.std.proofs.Common.{◌∙◌, sym, inl, inr, below_more}
use Rattle.gate_laws.proofs.window.is_alone.Goals as goal

pub loop-k-preserved : goal.loop-k-preserved
loop-k-preserved c =
    below_more _ _ c.loop-k.invariant
    (
    elim (c.is_ready_cell.ensures c.if-not-is_ready_cell.false) [
      | inl other ↦ inl other
      | inr none ↦ inr (sym c.is_beside.ensures ∙ none)
    ]
    )
