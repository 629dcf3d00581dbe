use Rattle.std.proofs.Common.{◌<◌, ◌∙◌, ap, length, slice_set, arith}
use Rattle.std.proofs.lemmas.List.Edits.{map_over_more}
use Rattle.std.proofs.lemmas.List.{get_or_default}
use Rattle.ww_rule.specs.Turns.{injection_turned}
use Rattle.drive.proofs.run.turn_each.Goals as goal

pub loop-injection-preserved : goal.loop-injection-preserved
loop-injection-preserved c =
    let old = c.args.injections.now in
    let now = c.loop-injection.injections in
    let i = c.loop-injection.injection-index in
    let lt : i < length old = omega arith in
    ap (slice_set now i) c.turned.ensures
    ∙ map_over_more injection_turned old now i _ lt c.loop-injection.invariant (get_or_default now i _ _ (omega arith))
