use Rattle.std.proofs.Common.{◌≡◌, sym, ◌∙◌, ap₂, subst, List, [], ◌∷◌, ◌++◌, map, arith}
use Rattle.std.proofs.lemmas.List.{map_more, take_all}
use Rattle.std.proofs.lemmas.Result.{err_from_is_err_and}
use Rattle.cell_core.specs.declared.cells.Src.{Src}
use Rattle.cell_meaning.specs.Moved.{goes_to}
use Rattle.cell_polarity.proofs.high.all_gone.Goals as goal

pub returns-in_err-found : goal.returns-in_err-found
returns-in_err-found c = rw ((err_from_is_err_and c.from_residual.result c.from_residual.ensures.1).1) tt

pub loop-src-init : goal.loop-src-init
loop-src-init c = c.in_ok-found.ensures.items

pub returns-in_err-push : goal.returns-in_err-push
returns-in_err-push c = rw ((err_from_is_err_and c.from_residual-in_err-push.result c.from_residual-in_err-push.ensures.1).1) tt

pub returns : goal.returns
returns c =
    subst (λ (sources : List Src). c.loop-src.found.items ≡ map (goes_to c.args.news.now) sources)
    (take_all c.loop-src.src-index c.args.sources.now (omega (arith, c.loop-src-test.false))) c.loop-src.invariant

pub loop-src-preserved : goal.loop-src-preserved
loop-src-preserved c =
    c.in_ok-push.ensures.items
    ∙ ap₂ (λ (found : List Src) (new : Src). found ++ new ∷ []) c.loop-src.invariant c.gone.ensures
    ∙ sym (map_more (goes_to c.args.news.now) c.args.sources.now c.loop-src.src-index _ c.loop-src-test.true)
