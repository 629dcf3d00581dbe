use Rattle.std.proofs.Common.{subst, ℕ, map, string_bytes}
use Rattle.std.proofs.lemmas.Result.{err_from_is_err_and}
use Rattle.blifww_tool.specs.Driven.{simulation_of}
use Rattle.blifww_tool.specs.Simulation.{HasStreamsCause, IsSimulation}
use Rattle.blifww_tool.proofs.ViewRefused.{simulation_refused, miss_refused}
use Rattle.blifww_tool.proofs.window.window.Goals as goal

pub returns-in_err-driven-clause-refused : goal.returns-in_err-driven-clause-refused
returns-in_err-driven-clause-refused c =
    let p = err_from_is_err_and c.from_residual.result c.from_residual.ensures.1 in
    let words = map string_bytes c.args.words.now in
    let e = c.in_err-driven.field-0.0 in
    let cause = subst (λ (n : ℕ). HasStreamsCause n words c.args.text.now e) c.cycles_in.ensures c.in_err-driven.ensures.refused in
    rw (p.1, p.2) (simulation_refused c.args.view words c.args.text.now e cause)

pub returns-in_err-lines-clause-refused : goal.returns-in_err-lines-clause-refused
returns-in_err-lines-clause-refused c =
    let p = err_from_is_err_and c.from_residual-in_err-lines.result c.from_residual-in_err-lines.ensures.1 in
    let words = map string_bytes c.args.words.now in
    let s = simulation_of c.in_ok-driven.driven in
    let is = subst (λ (n : ℕ). IsSimulation n words c.args.text.now s) c.cycles_in.ensures c.in_ok-driven.ensures.is in
    rw (p.1, p.2) (miss_refused c.args.view words c.args.text.now s c.in_err-lines.field-0.0 is c.in_err-lines.ensures.refused)

pub returns-clause-printed : goal.returns-clause-printed
returns-clause-printed c =
    let words = map string_bytes c.args.words.now in
    let s = simulation_of c.in_ok-driven.driven in
    let is = subst (λ (n : ℕ). IsSimulation n words c.args.text.now s) c.cycles_in.ensures c.in_ok-driven.ensures.is in
    record { simulation = s; has = record { is = is; quiet = c.in_ok-lines.ensures.quiet }; lines = c.in_ok-lines.ensures.text }
