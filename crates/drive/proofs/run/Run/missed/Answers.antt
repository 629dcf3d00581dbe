use Rattle.std.proofs.Common.{◌≤◌, sym, subst, ◌∙◌}
use Rattle.ww_rule.specs.declared.pattern.Injection.{Injection}
use Rattle.drive.specs.Runs.{injection_misses}
use Rattle.drive.proofs.FirstMisses.{found_early}
use Rattle.drive.proofs.run.Run.missed.Goals as goal

pub returns-in-Upright-clause-early : goal.returns-in-Upright-clause-early
returns-in-Upright-clause-early c =
    let run = c.args.self.now in
    found_early (injection_misses run.bands) run.generation c.in_ok-injection.injection run.bands.injections (sym c.requires.missed ∙ c.in_ok-injection.was)

pub returns-in-Turned-clause-early : goal.returns-in-Turned-clause-early
returns-in-Turned-clause-early c =
    let run = c.args.self.now in
    let early = found_early (injection_misses run.bands) run.generation c.in_ok-injection.injection run.bands.injections (sym c.requires.missed ∙ c.in_ok-injection.was) in
    subst (λ (i : Injection). i.generation ≤ run.generation) (sym c.turned.ensures) early
