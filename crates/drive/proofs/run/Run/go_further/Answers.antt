use Rattle.std.proofs.Common.{◌+◌, subst, drop, List, arith}
use Rattle.ww_rule.specs.declared.pattern.Injection.{Injection}
use Rattle.ww_rule.specs.Due.{AreInOrderFrom}
use Rattle.drive.proofs.run.Run.go_further.Goals as goal

pub pass-requires : goal.pass-requires
pass-requires c =
    let run = c.args.self.now in
    let few = c.calm_count-calm.ensures.few in
    let order = c.requires.order in
    let later =
    subst (λ (is : List Injection). AreInOrderFrom (run.generation + 1) (drop run.next_injection is) → AreInOrderFrom (run.generation + c.calm_count-calm.result + 1) (drop run.next_injection is)) c.injections-injections.ensures
    c.calm_count-calm.ensures.later in
    record {
      run = c.requires.run;
      room = omega (arith, few, order);
      calm = later c.requires.run.left.in_order;
    }
