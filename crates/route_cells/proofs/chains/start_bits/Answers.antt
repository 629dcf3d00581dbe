use Rattle.std.proofs.Common.{sym, ◌∙◌, ap, subst, ◌+◌, length}
use Rattle.std.proofs.lemmas.List.{length_push}
use Rattle.route_cells.specs.Chains.{LatchesLeadBack}
use Rattle.route_cells.proofs.Latches.{one_more_latch}
use Rattle.route_cells.proofs.chains.start_bits.Goals as goal

pub loop-latch-preserved : goal.loop-latch-preserved
loop-latch-preserved c = (
  subst (λ items. LatchesLeadBack c.args.list.now c.args.to items c.in-Some.row.reads) (sym c.in_ok-push.ensures.items)
      (one_more_latch c.args.list.now c.args.to c.loop-latch.bits.items c.loop-latch.at c.in-Some.row.reads c.in-Some.row.start c.loop-latch.invariant.0 c.in-Some.ensures),
  ap length c.in_ok-push.ensures.items ∙ length_push c.loop-latch.bits.items c.in-Some.row.start ∙ ap (λ n. n + 1) c.loop-latch.invariant.1,
)
