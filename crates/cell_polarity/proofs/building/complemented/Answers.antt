use Rattle.std.proofs.Common.{sym, subst}
use Rattle.std.proofs.lemmas.Result.{IfOk-weaker}
use Rattle.cell_meaning.specs.Moved.{NewSources}
use Rattle.cell_polarity.specs.Raised.{HaveOwn, IsPorted}
use Rattle.cell_polarity.proofs.Ports.{have_own}
use Rattle.cell_polarity.proofs.Whole.{whole}
use Rattle.cell_polarity.proofs.building.complemented.Goals as goal

pub ported-requires : goal.ported-requires
ported-requires c =
    let g = c.in-Ok.ensures in
    subst (HaveOwn c.args.list.now c.args.kept.now c.grow.new.low.list) (sym c.deref.ensures.value)
    (have_own c.args.list.now c.args.kept.now g.low c.grow.new.low.list g.lows g.zeros g.marks g.stays c.in-Ok.news.items g.are_low g.are_marked g.are_stays g.are_raised)

pub returns-in-Ok : goal.returns-in-Ok
returns-in-Ok c =
    let g = c.in-Ok.ensures in
    IfOk-weaker c.ported.result _ _ (λ made ported.
    whole c.args.list.now g.low c.grow.new.low.list made.list c.args.kept.now g.lows made.kept.items g.zeros g.marks g.stays c.in-Ok.news.items g.are_low g.are_marked g.are_stays g.are_raised
    (subst (λ (news : NewSources). IsPorted c.args.list.now c.args.kept.now c.grow.new.low.list news made.list made.kept.items) c.deref.ensures.value ported)) c.ported.ensures
