use Rattle.std.proofs.Common.{◌≡◌, ◌∙◌, ap, subst, Bool, List, [], map, arith}
use Rattle.std.proofs.lemmas.List.{take_all}
use Rattle.std.proofs.lemmas.Result.{err_from_is_err_and}
use Rattle.lists.proofs.Cuts.{added_more}
use Rattle.netlist_plans.specs.Contexts.{loop_starting_bits}
use Rattle.netlist_plans.proofs.contexts.all_loop_bits.Goals as goal

pub returns-in_err-loop_starting_bits : goal.returns-in_err-loop_starting_bits
returns-in_err-loop_starting_bits c = rw ((err_from_is_err_and c.from_residual.result c.from_residual.ensures.1).1) tt

pub returns-in_err-push : goal.returns-in_err-push
returns-in_err-push c = rw ((err_from_is_err_and c.from_residual-in_err-push.result c.from_residual-in_err-push.ensures.1).1) tt

pub loop-latches-init : goal.loop-latches-init
loop-latches-init c = c.new-all.ensures.items

pub returns : goal.returns
returns c =
    subst (λ (starts : List (List Bool)). c.loop-latches.all.items ≡ map (loop_starting_bits c.args.plan.now) starts)
    (take_all c.loop-latches.latches-index c.args.starts.now (omega (arith, c.loop-latches-test.false))) c.loop-latches.invariant

pub loop-latches-preserved : goal.loop-latches-preserved
loop-latches-preserved c =
    let bits = loop_starting_bits c.args.plan.now in
    added_more bits [] c.loop-latches.all.items c.push.new.self.items c.args.starts.now c.loop-latches.latches-index c.latches-item.result c.in_ok-loop_starting_bits.field-0 c.loop-latches-test.true
    c.in_ok-push.ensures.items (c.in_ok-loop_starting_bits.ensures ∙ ap bits c.latches-item.is) c.loop-latches.invariant
