use Rattle.std.proofs.Common.{◌*◌, ◌+◌, ◌≡◌, subst, arith}
use Rattle.band_rows.specs.Fields.{HasRunAlone}
use Rattle.band_rows.proofs.GoneOn.{gone_further}
use Rattle.band_rows.proofs.field.Field.run_pairs.Goals as goal

pub loop-done-preserved : goal.loop-done-preserved
loop-done-preserved c =
    let v = c.loop-done.invariant in
    let test = c.loop-done-test.true in
    let e : 2 * c.loop-done.done + 2 ≡ 2 * (c.loop-done.done + 1) = omega arith in
    record {
      some = omega arith;
      few = omega arith;
      gone = subst (λ n. HasRunAlone n c.args.self.now c.step_pair-in-loop-done.new.self) e
          (gone_further (2 * c.loop-done.done) 2 c.args.self.now c.loop-done.self c.step_pair-in-loop-done.new.self (omega arith) v.gone c.step_pair-in-loop-done.ensures);
    }
