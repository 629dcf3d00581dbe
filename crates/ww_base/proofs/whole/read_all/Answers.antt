use Rattle.std.proofs.Common.{rules, ◌≤◌, ◌++◌, take, length, arith, length-append, length-take-le}
use Rattle.std.proofs.KnownBytes.{Consumes-trans}
use Rattle.lists.proofs.Results.{on_err}
use Rattle.ww_base.proofs.whole.read_all.Goals as goal

pub returns-then-count-limit-clause-too_long : goal.returns-then-count-limit-clause-too_long
returns-then-count-limit-clause-too_long g c =
    let before = c.reads.bytes.items in
    let count = c.in_ok-count.count in
    let buf = c.read.new.buf in
    let fits : count ≤ length buf = search rules in
    λ _. (
      before ++ take count buf,
      Consumes-trans _ _ _ _ _ c.reads.invariant.given c.in_ok-count.ensures.bytes.0,
      omega (arith, length-append before (take count buf), length-take-le count buf fits, c.reads.bytes.ok),
    )

pub returns-then-count-limit-clause-front : goal.returns-then-count-limit-clause-front
returns-then-count-limit-clause-front g c =
    (c.reads.bytes.items ++ take c.in_ok-count.count c.read.new.buf, Consumes-trans _ _ _ _ _ c.reads.invariant.given c.in_ok-count.ensures.bytes.0)

pub returns-in_err-extend_from_slice-clause-front :
    goal.returns-in_err-extend_from_slice-clause-front
returns-in_err-extend_from_slice-clause-front g c =
    on_err c.from_residual-in_err-extend_from_slice.result
    (c.reads.bytes.items ++ take c.in_ok-count.count c.read.new.buf, Consumes-trans _ _ _ _ _ c.reads.invariant.given c.in_ok-count.ensures.bytes.0)
