use Rattle.std.proofs.Common.{rules, ◌≡◌, sym, ◌∙◌, ap, subst, ℕ, ◌+◌, ◌-◌, ◌++◌, [], ◌∷◌, true, false, cond, length, get_or, List, arith, append_assoc, append-nil}
use Rattle.lane_core.specs.declared.starts.Start.{Start}
use Rattle.lane_core.specs.Starts.{are_starts_in_order}
use Rattle.circuit_plans.specs.Circuits.{loop_start, starts_from, starts_where}
use Rattle.circuit_plans.proofs.Ordered.{one_loop, where_in_order}
use Rattle.circuit_plans.proofs.loops.starts_of_bits.Goals as goal

pub loop-number-preserved : goal.loop-number-preserved
loop-number-preserved c =
    let n : ℕ = c.loop-number.number in
    let pushed : c.push_if.new.found.items ≡ c.loop-number.found.items ++ cond (get_or c.args.bits.now c.loop-number.number false) (loop_start c.args.lanes (length c.args.bits.now) c.loop-number.number ∷ []) [] = search rules in
    let left : length c.args.bits.now - c.loop-number.number ≡ length c.args.bits.now - (c.loop-number.number + 1) + 1 = omega (arith, c.loop-number-test.true) in
    ap (λ xs. xs ++ starts_from c.args.lanes (length c.args.bits.now) (λ loop. get_or c.args.bits.now loop false) (length c.args.bits.now - (c.loop-number.number + 1)) (c.loop-number.number + 1)) pushed
    ∙ append_assoc c.loop-number.found.items (cond (get_or c.args.bits.now c.loop-number.number false) (loop_start c.args.lanes (length c.args.bits.now) c.loop-number.number ∷ []) [])
    (starts_from c.args.lanes (length c.args.bits.now) (λ loop. get_or c.args.bits.now loop false) (length c.args.bits.now - (c.loop-number.number + 1)) (c.loop-number.number + 1))
    ∙ ap (λ xs. c.loop-number.found.items ++ xs)
    (sym (one_loop c.args.lanes (length c.args.bits.now) (λ loop. get_or c.args.bits.now loop false) (length c.args.bits.now - c.loop-number.number) (length c.args.bits.now - (c.loop-number.number + 1)) c.loop-number.number left))
    ∙ c.loop-number.invariant

pub invariant_of-result : goal.invariant_of-result
invariant_of-result c =
    let none : length c.args.bits.now - c.loop-number.number ≡ 0 = omega (arith, c.loop-number-test.false) in
    let all : c.loop-number.found.items ≡ starts_where c.args.lanes (length c.args.bits.now) (λ loop. get_or c.args.bits.now loop false) =
    sym (append-nil c.loop-number.found.items)
    ∙ ap (λ k. c.loop-number.found.items ++ starts_from c.args.lanes (length c.args.bits.now) (λ loop. get_or c.args.bits.now loop false) k c.loop-number.number) (sym none)
    ∙ c.loop-number.invariant in
    record {
      in_order = subst (λ (xs : List Start). are_starts_in_order xs ≡ true) (sym (c.of.ensures ∙ all)) (where_in_order c.args.lanes (length c.args.bits.now) (λ loop. get_or c.args.bits.now loop false));
    }
