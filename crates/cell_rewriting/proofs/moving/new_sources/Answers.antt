use Rattle.std.proofs.Common.{sym, ◌∙◌, ap, ap₂, map, List, Option, Some, [], ◌∷◌, ◌++◌}
use Rattle.std.proofs.lemmas.List.{map_more, map_push, take_all}
use Rattle.std.proofs.lemmas.Result.{err_from_is_err_and}
use Rattle.cell_core.specs.declared.cells.Src.{Src}
use Rattle.cell_core.specs.declared.cells.Src.TheVariants.{Input}
use Rattle.cell_meaning.specs.Moved.{new_source}
use Rattle.cell_rewriting.proofs.moving.new_sources.Goals as goal

pub returns-in_err-found : goal.returns-in_err-found
returns-in_err-found c = rw ((err_from_is_err_and c.from_residual.result c.from_residual.ensures.1).1) tt

pub loop-src-init : goal.loop-src-init
loop-src-init c = ap (map (λ (s : Src). Some s)) (sym c.in_ok-found.ensures.items)

pub returns : goal.returns
returns c = sym (ap (map (new_source c.args.news.now)) (take_all c.loop-src.src-index c.args.sources.now c.loop-src-test.false)) ∙ c.loop-src.invariant

pub loop-src-preserved : goal.loop-src-preserved
loop-src-preserved c =
    map_more (new_source c.args.news.now) c.args.sources.now c.loop-src.src-index (Input 0) c.loop-src-test.true
    ∙ ap₂ (λ (all : List (Option Src)) (one : Option Src). all ++ one ∷ []) c.loop-src.invariant (sym c.new_source.ensures ∙ c.in-Some.is)
    ∙ sym (map_push (λ (s : Src). Some s) c.loop-src.found.items c.in-Some.new)
    ∙ sym (ap (map (λ (s : Src). Some s)) c.in_ok-push-in-Some.ensures.items)
