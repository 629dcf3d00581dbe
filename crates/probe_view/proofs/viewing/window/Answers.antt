use Rattle.std.proofs.Common.{ℕ, Option, ap, sym, ◌∙◌}
use Rattle.ww_rule.specs.declared.pattern.Injection.{Injection}
use Rattle.ww_rule.specs.Wireworld.{Plane}
use Rattle.probe_view.specs.Windows.{window_text}
use Rattle.probe_view.proofs.viewing.window.Goals as goal

pub returns-clause-text : goal.returns-clause-text
returns-clause-text c =
    let planes = c.go_on.ensures.planes ∙ c.in_ok-run.ensures.planes in
    c.of.ensures
    ∙ c.in_ok-text.ensures
    ∙ ap (λ (plane : Plane). window_text plane c.args.x c.args.y c.args.width c.args.height) (c.go_on.ensures.shows ∙ ap (λ (e : ℕ → Plane). e c.args.generation) planes)

pub returns-in-Some-clause-refused : goal.returns-in-Some-clause-refused
returns-in-Some-clause-refused c =
    let misses = c.go_on.ensures.misses ∙ c.in_ok-run.ensures.misses in
    sym (c.in-Some.ensures.first ∙ c.go_on.ensures.missed ∙ ap (λ (m : ℕ → Option Injection). m c.args.generation) misses)

pub returns-clause-quiet : goal.returns-clause-quiet
returns-clause-quiet c =
    let misses = c.go_on.ensures.misses ∙ c.in_ok-run.ensures.misses in
    sym (c.in_default.ensures.first ∙ c.go_on.ensures.missed ∙ ap (λ (m : ℕ → Option Injection). m c.args.generation) misses)
