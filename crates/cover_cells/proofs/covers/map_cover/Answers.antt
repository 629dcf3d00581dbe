use Rattle.std.proofs.Common.{sym, ◌∙◌}
use Rattle.cover_cells.proofs.Constant.{constant_answers}
use Rattle.cover_cells.proofs.covers.map_cover.Goals as goal

pub returns-in-Some-clause-value : goal.returns-in-Some-clause-value
returns-in-Some-clause-value c =
    constant_answers c.args.list.now c.args.sources.now c.args.rows.now c.args.on c.in-Some.src (sym c.constant_source.ensures ∙ c.in-Some.is)
