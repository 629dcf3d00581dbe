use Rattle.std.proofs.lemmas.Result.{IfOk-weaker}
use Rattle.cover_cells.proofs.Single.{single_is_for, single_answers}
use Rattle.cover_cells.proofs.covers.add_single.Goals as goal

pub share-requires : goal.share-requires
share-requires c = (single_is_for c.args.sources.now c.args.rows.now c.args.on c.args.cell c.requires.single).there _ _ _ c.requires.there

pub returns-clause-value : goal.returns-clause-value
returns-clause-value c =
    IfOk-weaker c.share.result _ _ (λ src h. single_answers c.args.list.now c.share.new.list c.args.sources.now c.args.rows.now c.args.on c.args.cell src c.requires.single h) c.share.ensures.value
