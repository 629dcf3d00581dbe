use Rattle.std.proofs.Common.{sym, subst, arith}
use Rattle.lane_kernel.proofs.Places.{Fit}
use Rattle.band_rows.specs.Fields.{crossed, IsFieldStepped}
use Rattle.band_rows.proofs.GoneOn.{gone_further, gone_one}
use Rattle.band_rows.proofs.field.Field.step_pair.Goals as goal

pub returns-then-self-len : goal.returns-then-self-len
returns-then-self-len c =
    let self = c.args.self.now in
    let fits = subst Fit c.deref.ensures.value c.all_fit.ensures in
    let mid = crossed c.step_over.new.self in
    let first = c.step_over.ensures in
    let one = gone_one self mid fits c.requires.closed first in
    gone_further 1 1 self mid c.step_back.new.self (omega arith) one
    (gone_one mid c.step_back.new.self (subst Fit (sym first.cells) fits) one.closed c.step_back.ensures)

pub returns : goal.returns
returns c =
    let self = c.args.self.now in
    let fits = subst Fit c.deref.ensures.value c.all_fit.ensures in
    let mid = crossed c.step_over.new.self in
    let first = c.step_over.ensures in
    let one = gone_one self mid fits c.requires.closed first in
    let second = subst (λ f. IsFieldStepped f c.step.new.self) c.cross.ensures c.step.ensures.stepped in
    gone_further 1 1 self mid c.step.new.self (omega arith) one
    (gone_one mid c.step.new.self (subst Fit (sym first.cells) fits) one.closed second)
