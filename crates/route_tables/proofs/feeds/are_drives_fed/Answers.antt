use Rattle.std.proofs.Common.{◌∙◌, sym, subst, below_more}
use Rattle.std.proofs.lemmas.Option.{same_Some}
use Rattle.route_tables.specs.Cells.{IsDrivenInput}
use Rattle.route_tables.proofs.feeds.are_drives_fed.Goals as goal

pub loop-d-preserved : goal.loop-d-preserved
loop-d-preserved c =
    below_more _ _ c.loop-d.invariant
    (λ at there. subst (IsDrivenInput c.args.tables.now c.loop-d.d) (same_Some _ _ (sym c.get-at.ensures ∙ there)) (c.is_driven_input.ensures c.if-not-is_driven_input.false))
