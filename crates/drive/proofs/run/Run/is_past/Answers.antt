use Rattle.std.proofs.Common.{◌≤◌, length, subst, List}
use Rattle.std.proofs.lemmas.Bool.{leb-true}
use Rattle.ww_rule.specs.declared.pattern.Injection.{Injection}
use Rattle.drive.proofs.FirstMisses.{all_past}
use Rattle.drive.proofs.run.Run.is_past.Goals as goal

pub returns : goal.returns
returns c = λ e.
    let run = c.args.self.now in
    let none_left = subst (λ (is : List Injection). length is ≤ run.next_injection) c.injections.ensures (leb-true (length c.injections.result.now) run.next_injection e) in
    all_past run.generation run.next_injection run.bands.injections c.requires.left none_left
