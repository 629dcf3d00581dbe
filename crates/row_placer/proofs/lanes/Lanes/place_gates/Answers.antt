use Rattle.std.proofs.Common.{◌∙◌, ap, length, arith}
use Rattle.std.proofs.lemmas.Result.{err_from_is_err_and}
use Rattle.row_placer.specs.declared.job.Job.{Job}
use Rattle.row_placer.proofs.Gates.{all_gates}
use Rattle.row_placer.proofs.lanes.Lanes.place_gates.Goals as goal

pub returns-in_err-next : goal.returns-in_err-next
returns-in_err-next c =
    let p = (err_from_is_err_and c.from_residual.result c.from_residual.ensures.1).1 in
    record { ready = rw p tt; adds = rw p tt; made = rw p tt; job = c.next.ensures.job ∙ c.loop-self.invariant.job; left = rw p tt }

pub returns-clause-ready : goal.returns-clause-ready
returns-clause-ready c =
    let s = c.loop-self.self in
    let i = c.loop-self.invariant in
    all_gates c.args.self.now.job (length s.made.items) s.tags.items c.loop-self.left (omega (arith, c.loop-self-test.false, c.len.ensures, c.len-in-loop-self.ensures, s.made.ok.0, i.within, ap (λ (j : Job). length j.gates) i.job)) i.ready
