use Rattle.std.proofs.Common.{◌++◌, ◌∙◌, ap, ap₂, sym, refl, ◌<◌, [], length, arith}
use Rattle.std.proofs.lemmas.Result.{err_from_is_err_and}
use Rattle.std.proofs.lemmas.List.{take_all}
use Rattle.std.specs.Option.{option_to_list}
use Rattle.routed_plans.specs.Drawn.{items_drawn}
use Rattle.routed_plans.proofs.Drawn.{drawn_none, drawn_more}
use Rattle.routed_plans.proofs.wanted.drawn_sources.Goals as goal

pub loop-k-init : goal.loop-k-init
loop-k-init c = c.new-sources.ensures.items ∙ sym (drawn_none c.args.ports.now [] refl)

pub returns-in_err-offer : goal.returns-in_err-offer
returns-in_err-offer c = rw ((err_from_is_err_and c.from_residual.result c.from_residual.ensures.1).1) tt

pub returns : goal.returns
returns c = c.loop-k.invariant ∙ ap (items_drawn c.args.ports.now) (take_all c.loop-k.k c.args.nets.now (omega (arith, c.loop-k-test.false)))

pub loop-k-preserved : goal.loop-k-preserved
loop-k-preserved c =
    let within : c.loop-k.k < length c.args.nets.now = omega (arith, c.loop-k-test.true, c.loop-k.auto.k-end) in
    c.in_ok-offer.ensures
    ∙ ap₂ (λ sources source. sources ++ option_to_list source) c.loop-k.invariant c.drawn_source.ensures
    ∙ sym (drawn_more c.args.ports.now c.args.nets.now c.loop-k.k _ within)
