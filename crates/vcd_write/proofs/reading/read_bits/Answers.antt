use Rattle.std.proofs.Common.{◌≡◌, ◌≤◌, ◌<◌, ◌+◌, ◌*◌, ◌∙◌, subst, ℕ, Option, arith}
use Rattle.std.proofs.lemmas.Result.{err_from_is_err_and}
use Rattle.ww_rule.specs.declared.pattern.Injection.{Injection}
use Rattle.drive.specs.Driving.{HasRunCause}
use Rattle.drive.proofs.LaterMisses.{later_cause}
use Rattle.vcd_write.proofs.DueSteps.{all_right, begin_with, fewer_left, step, taken_was}
use Rattle.vcd_write.proofs.Packed.{zeros_at, zeros_long}
use Rattle.vcd_write.proofs.reading.read_bits.Goals as goal

pub bits-init : goal.bits-init
bits-init c =
    let raster = c.args.raster.now in
    begin_with raster c.args.first.items c.args.run.now c.of-due.result c.in_ok-bits.bits c.requires.run c.requires.near c.requires.order c.requires.within
    c.of-due.ensures.unbegun c.of-due.ensures.begun (zeros_long c.in_ok-bits.bits raster.bits c.in_ok-bits.ensures) (zeros_at c.in_ok-bits.bits raster.bits c.in_ok-bits.ensures)

pub read_bit-requires : goal.read_bit-requires
read_bit-requires c =
    let p = c.bits.invariant in
    let bit = c.in-Some.bit in
    let order = c.in-Some.ensures.order p.at c.args.raster.now.period p.order in
    let place = (p.within bit (taken_was bit c.bits.due c.take_earliest.new.self c.in-Some.ensures.taken)).place in
    record { run = p.gone.run; order = (let o = order.0 in let a = p.after in omega (arith, o, a)); place = (let long = p.long in omega (arith, place, long)) }

pub put_next-requires : goal.put_next-requires
put_next-requires c = c.bits.invariant.within c.in-Some.bit (taken_was c.in-Some.bit c.bits.due c.take_earliest.new.self c.in-Some.ensures.taken)

pub bits-preserved : goal.bits-preserved
bits-preserved c =
    let p = c.bits.invariant in
    let bit = c.in-Some.bit in
    let order = c.in-Some.ensures.order p.at c.args.raster.now.period p.order in
    step c.args.raster.now bit c.bits.due c.take_earliest.new.self c.put_next.new.self c.in-Some.ensures.taken c.in_ok-put_next.ensures.unbegun c.in_ok-put_next.ensures.begun
    c.args.first.items c.args.run.now c.bits.run c.read_bit.new.run c.bits.bits c.read_bit.new.bits p order.1 c.read_bit.ensures.gone c.read_bit.ensures.long c.read_bit.ensures.bits

pub bits-smaller : goal.bits-smaller
bits-smaller c =
    let p = c.bits.invariant in
    let bit = c.in-Some.bit in
    fewer_left c.args.raster.now bit c.bits.due c.take_earliest.new.self c.put_next.new.self (p.within bit (taken_was bit c.bits.due c.take_earliest.new.self c.in-Some.ensures.taken))
    c.in-Some.ensures.taken c.in_ok-put_next.ensures.unbegun c.in_ok-put_next.ensures.begun

pub returns-clause-gone : goal.returns-clause-gone
returns-clause-gone c = c.bits.invariant.gone

pub returns-clause-long : goal.returns-clause-long
returns-clause-long c = c.bits.invariant.long

pub returns-clause-bits : goal.returns-clause-bits
returns-clause-bits c shown at_first k low =
    all_right c.args.raster.now c.args.first.items c.args.run.now c.bits.run c.bits.due c.bits.bits c.bits.invariant c.in_default.ensures.taken.0 c.in_default.ensures.taken.1 shown at_first k low

pub returns-in_err-quiet-clause-refused : goal.returns-in_err-quiet-clause-refused
returns-in_err-quiet-clause-refused c =
    let p = c.bits.invariant in
    let raster = c.args.raster.now in
    let bit = c.in-Some.bit in
    let here = p.within bit (taken_was bit c.bits.due c.take_earliest.new.self c.in-Some.ensures.taken) in
    let low = here.place in
    let early : bit.generation + 0 * raster.period ≤ raster.last = here.early 0 (omega (arith, low)) in
    let went = c.read_bit.ensures.gone in
    let order = went.order in
    let new = c.read_bit.new.run in
    let error = c.in_err-quiet.field-0.0 in
    let cause = later_cause new new.generation raster.last error went.run (omega (arith, order, early)) c.in_err-quiet.ensures.refused in
    let q = err_from_is_err_and c.from_residual-in_err-quiet.result c.from_residual-in_err-quiet.ensures.1 in
    rw (q.1, q.2)
    (subst (λ (m : ℕ → Option Injection). HasRunCause (m raster.last) error) (went.misses ∙ p.gone.misses) cause)

pub returns-in_err-bits-clause-gone : goal.returns-in_err-bits-clause-gone
returns-in_err-bits-clause-gone c = rw ((err_from_is_err_and c.from_residual.result c.from_residual.ensures.1).1) tt

pub returns-in_err-bits-clause-long : goal.returns-in_err-bits-clause-long
returns-in_err-bits-clause-long c = rw ((err_from_is_err_and c.from_residual.result c.from_residual.ensures.1).1) tt

pub returns-in_err-bits-clause-bits : goal.returns-in_err-bits-clause-bits
returns-in_err-bits-clause-bits c = rw ((err_from_is_err_and c.from_residual.result c.from_residual.ensures.1).1) tt

pub returns-in_err-quiet-clause-gone : goal.returns-in_err-quiet-clause-gone
returns-in_err-quiet-clause-gone c = rw ((err_from_is_err_and c.from_residual-in_err-quiet.result c.from_residual-in_err-quiet.ensures.1).1) tt

pub returns-in_err-quiet-clause-long : goal.returns-in_err-quiet-clause-long
returns-in_err-quiet-clause-long c = rw ((err_from_is_err_and c.from_residual-in_err-quiet.result c.from_residual-in_err-quiet.ensures.1).1) tt

pub returns-in_err-quiet-clause-bits : goal.returns-in_err-quiet-clause-bits
returns-in_err-quiet-clause-bits c = rw ((err_from_is_err_and c.from_residual-in_err-quiet.result c.from_residual-in_err-quiet.ensures.1).1) tt

pub returns-in_err-put_next-clause-gone : goal.returns-in_err-put_next-clause-gone
returns-in_err-put_next-clause-gone c = rw ((err_from_is_err_and c.from_residual-in_err-put_next.result c.from_residual-in_err-put_next.ensures.1).1) tt

pub returns-in_err-put_next-clause-long : goal.returns-in_err-put_next-clause-long
returns-in_err-put_next-clause-long c = rw ((err_from_is_err_and c.from_residual-in_err-put_next.result c.from_residual-in_err-put_next.ensures.1).1) tt

pub returns-in_err-put_next-clause-bits : goal.returns-in_err-put_next-clause-bits
returns-in_err-put_next-clause-bits c = rw ((err_from_is_err_and c.from_residual-in_err-put_next.result c.from_residual-in_err-put_next.ensures.1).1) tt
