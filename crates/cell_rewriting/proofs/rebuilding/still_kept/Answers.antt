use Rattle.std.proofs.Common.{rules, ◌≡◌, true}
use Rattle.std.proofs.lemmas.Result.{IfOk-weaker}
use Rattle.cell_meaning.proofs.Moves.{keeps_moved}
use Rattle.cell_rewriting.proofs.Keeping.{some_weaker}
use Rattle.cell_rewriting.proofs.rebuilding.still_kept.Goals as goal

pub returns : goal.returns
returns c =
    let yes : c.stay_cells.result ≡ true = search rules in
    IfOk-weaker c.new_sources.result _ _
    (λ o h. some_weaker o _ _ (λ still found. keeps_moved c.args.list.now c.args.new.now c.args.news.now c.args.kept.now still.items c.requires found (c.stay_cells.ensures yes)) h)
    c.new_sources.ensures
