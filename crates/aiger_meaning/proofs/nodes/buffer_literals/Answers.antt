use Rattle.std.proofs.Common.{◌<◌, ◌≤◌, ℕ, List, [], ◌++◌, ◌∙◌, ap, ap₂, get_or, length, map, arith}
use Rattle.std.proofs.lemmas.List.{take_all}
use Rattle.lists.proofs.Cuts.{added_more}
use Rattle.aiger_text.specs.declared.aig.AigLatch.{AigLatch}
use Rattle.std.proofs.lemmas.Result.{err_from_is_err_and}
use Rattle.aiger_meaning.proofs.nodes.buffer_literals.Goals as goal

abbrev no_latch : AigLatch
no_latch = record { lit = 0; next = 0; reset = 0 }

pub returns-in_err-push : goal.returns-in_err-push
returns-in_err-push c = rw ((err_from_is_err_and c.from_residual.result c.from_residual.ensures.1).1) tt

pub returns-in_err-extend_from_slice : goal.returns-in_err-extend_from_slice
returns-in_err-extend_from_slice c = rw ((err_from_is_err_and c.from_residual-in_err-extend_from_slice.result c.from_residual-in_err-extend_from_slice.ensures.1).1) tt

pub loop-latch-init : goal.loop-latch-init
loop-latch-init c = c.new-lits.ensures.items

pub loop-latch-preserved : goal.loop-latch-preserved
loop-latch-preserved c =
    let low : c.loop-latch.latch-index < length c.args.aig.now.latches = omega (arith, c.loop-latch-test.true, ap length c.as_slice-latch-items.ensures) in
    added_more (λ (latch : AigLatch). latch.next) [] c.loop-latch.lits.items c.push.new.self.items c.args.aig.now.latches c.loop-latch.latch-index no_latch _
    low c.in_ok-push.ensures.items (ap (λ ls. (get_or ls c.loop-latch.latch-index no_latch).next) c.as_slice-latch-items.ensures) c.loop-latch.invariant

pub returns : goal.returns
returns c =
    let past : length c.args.aig.now.latches ≤ c.loop-latch.latch-index = omega (arith, c.loop-latch-test.false, ap length c.as_slice-latch-items.ensures) in
    c.in_ok-extend_from_slice.ensures.items
    ∙ ap₂ (λ (nexts outputs : List ℕ). nexts ++ outputs)
    (c.loop-latch.invariant ∙ ap (map (λ (latch : AigLatch). latch.next)) (take_all c.loop-latch.latch-index c.args.aig.now.latches past)) c.as_slice.ensures
