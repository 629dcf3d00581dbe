use Rattle.std.proofs.Common.{◌≡◌, ◌==◌, refl, subst, [], List, None, map, arith}
use Rattle.std.proofs.lemmas.List.{take_all}
use Rattle.std.proofs.lemmas.Result.{err_from_is_err_and}
use Rattle.lists.proofs.Cuts.{added_more}
use Rattle.netlist_core.specs.declared.flat.FlatLatch.{FlatLatch}
use Rattle.cover_mapper.proofs.start.starts_of.Goals as goal

abbrev no_latch : FlatLatch
no_latch = record { line = 0; input = record { 0 = 0 }; output = record { 0 = 0 }; kind = None; control = None; init = 0 }

pub returns-in_err-starts : goal.returns-in_err-starts
returns-in_err-starts c = rw ((err_from_is_err_and c.from_residual.result c.from_residual.ensures.1).1) tt

pub loop-latch-init : goal.loop-latch-init
loop-latch-init c = c.in_ok-starts.ensures.items

pub returns-in_err-push : goal.returns-in_err-push
returns-in_err-push c = rw ((err_from_is_err_and c.from_residual-in_err-push.result c.from_residual-in_err-push.ensures.1).1) tt

pub loop-latch-preserved : goal.loop-latch-preserved
loop-latch-preserved c =
    added_more (λ (latch : FlatLatch). latch.init == 1) [] c.loop-latch.starts.items c.push.new.self.items c.args.latches.now c.loop-latch.latch-index no_latch _
    (omega (arith, c.loop-latch-test.true)) c.in_ok-push.ensures.items refl c.loop-latch.invariant

pub returns : goal.returns
returns c =
    subst (λ (latches : List FlatLatch). c.loop-latch.starts.items ≡ map (λ (latch : FlatLatch). latch.init == 1) latches)
    (take_all c.loop-latch.latch-index c.args.latches.now (omega (arith, c.loop-latch-test.false))) c.loop-latch.invariant
