use Rattle.std.proofs.Common.{◌≡◌, ◌<◌, ◌∙◌, sym, ap, List, [], ◌∷◌, ◌++◌, length, map, arith}
use Rattle.std.specs.List.{range_with_len}
use Rattle.std.proofs.lemmas.Result.{err_from_is_err_and}
use Rattle.std.proofs.lemmas.List.FromFn.{map-range_with_len_more}
use Rattle.made_summary.specs.Summaries.{output_at}
use Rattle.made_summary.specs.declared.summarizing.OutputBits.{OutputBits}
use Rattle.made_summary.proofs.Summarized.{output_is}
use Rattle.made_summary.proofs.summarizing.outputs_by_name.Goals as goal

pub returns-in_err-outputs : goal.returns-in_err-outputs
returns-in_err-outputs c = rw ((err_from_is_err_and c.from_residual.result c.from_residual.ensures.1).1) tt

pub returns-in_err-output_of : goal.returns-in_err-output_of
returns-in_err-output_of c = rw ((err_from_is_err_and c.from_residual-in_err-output_of.result c.from_residual-in_err-output_of.ensures.1).1) tt

pub returns-in_err-push : goal.returns-in_err-push
returns-in_err-push c = rw ((err_from_is_err_and c.from_residual-in_err-push.result c.from_residual-in_err-push.ensures.1).1) tt

pub loop-k-init : goal.loop-k-init
loop-k-init c = c.in_ok-outputs.ensures.items

pub loop-k-preserved : goal.loop-k-preserved
loop-k-preserved c =
    let k = c.loop-k.k in
    let names = c.args.names.now in
    let simulated = c.args.simulated.now in
    let evaluated = c.args.evaluated.now in
    let less : k < length names = omega (arith, c.loop-k-test.true) in
    let last : c.in_ok-output_of.field-0 ≡ output_at names simulated evaluated k =
    output_is names simulated evaluated k c.index-names-k.result c.index-simulated-k.result c.index-evaluated-k.result c.in_ok-output_of.field-0 less c.requires.simulated c.requires.evaluated
    c.index-names-k.is c.index-simulated-k.is c.index-evaluated-k.is
    (c.in_ok-output_of.ensures.name ∙ c.as_slice-name.ensures) (c.in_ok-output_of.ensures.simulated ∙ c.as_slice-shown.ensures) (c.in_ok-output_of.ensures.evaluated ∙ c.as_slice-given.ensures) in
    c.in_ok-push.ensures.items
    ∙ ap (λ (outputs : List OutputBits). outputs ++ c.in_ok-output_of.field-0 ∷ []) c.loop-k.invariant
    ∙ ap (λ (output : OutputBits). map (output_at names simulated evaluated) (range_with_len 0 k) ++ output ∷ []) last
    ∙ sym (map-range_with_len_more (output_at names simulated evaluated) 0 k k (omega arith))
