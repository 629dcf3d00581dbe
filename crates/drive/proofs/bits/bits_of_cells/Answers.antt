use Rattle.std.proofs.Common.{◌≡◌, sym, ap, subst, ◌∙◌, arith, ℕ, Option}
use Rattle.ww_rule.specs.declared.pattern.Injection.{Injection}
use Rattle.ww_rule.specs.Grid.{plane_of}
use Rattle.ww_rule.specs.Wireworld.{Plane}
use Rattle.drive.specs.Driving.{HasRunCause, first_miss, last_from}
use Rattle.drive.specs.Shown.{columns_of_cells}
use Rattle.std.proofs.lemmas.Result.{err_from_is_err_and}
use Rattle.drive.proofs.LaterMisses.{simulate_cause}
use Rattle.drive.proofs.bits.bits_of_cells.Goals as goal

pub returns-in_err-bits-clause-refused : goal.returns-in_err-bits-clause-refused
returns-in_err-bits-clause-refused c =
    let ports = c.args.ports.now in
    let streams = c.args.streams.now in
    let plane = plane_of c.args.pattern.rows in
    let last = last_from c.args.first ports streams in
    let near = c.if-generations-gt-GREATEST_GENERATION.false in
    let error = c.in_err-bits.field-0.0 in
    let p = err_from_is_err_and c.from_residual-in_err-bits.result c.from_residual-in_err-bits.ensures.1 in
    rw (p.1, p.2)
    (simulate_cause ports streams plane last error (omega (arith, near))
    (subst (λ (m : ℕ → Option Injection). HasRunCause (m last) error) c.in_ok-run.ensures.misses c.in_err-bits.ensures.refused))

pub returns-in_err-quiet-clause-refused : goal.returns-in_err-quiet-clause-refused
returns-in_err-quiet-clause-refused c =
    let ports = c.args.ports.now in
    let streams = c.args.streams.now in
    let plane = plane_of c.args.pattern.rows in
    let last = last_from c.args.first ports streams in
    let generations = c.last_from-generations.result in
    let same : generations ≡ last = c.last_from-generations.ensures in
    let near = c.if-generations-gt-GREATEST_GENERATION.false in
    let error = c.in_err-quiet.field-0.0 in
    let misses = c.pass_injections.ensures.misses ∙ c.in_ok-bits.ensures.gone.misses ∙ c.in_ok-run.ensures.misses in
    let seen = c.pass_injections.ensures.missed ∙ ap (λ (m : ℕ → Option Injection). m generations) misses ∙ ap (first_miss ports streams plane) same in
    let p = err_from_is_err_and c.from_residual-in_err-quiet.result c.from_residual-in_err-quiet.ensures.1 in
    rw (p.1, p.2)
    (simulate_cause ports streams plane last error (omega (arith, near))
    (subst (λ (m : Option Injection). HasRunCause m error) seen c.in_err-quiet.ensures.refused))

pub returns-clause-quiet : goal.returns-clause-quiet
returns-clause-quiet c =
    let ports = c.args.ports.now in
    let streams = c.args.streams.now in
    let plane = plane_of c.args.pattern.rows in
    let last = last_from c.args.first ports streams in
    let generations = c.last_from-generations.result in
    let same : generations ≡ last = c.last_from-generations.ensures in
    ap (first_miss ports streams plane) (sym same)
    ∙ sym (c.pass_injections.ensures.missed
    ∙ ap (λ (m : ℕ → Option Injection). m generations) (c.pass_injections.ensures.misses ∙ c.in_ok-bits.ensures.gone.misses ∙ c.in_ok-run.ensures.misses))
    ∙ c.in_ok-quiet.ensures.quiet

pub returns-clause-bits : goal.returns-clause-bits
returns-clause-bits c =
    let ports = c.args.ports.now in
    c.in_ok-bits.ensures.bits ∙ ap (λ (planes : ℕ → Plane). columns_of_cells planes ports.c ports.p c.args.streams.now.cycles c.args.first c.args.cells.now) c.in_ok-run.ensures.planes
