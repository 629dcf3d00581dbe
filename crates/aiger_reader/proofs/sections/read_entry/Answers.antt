use Rattle.std.proofs.lemmas.Result.{err_from_is_err_and}
use Rattle.aiger_reader.proofs.sections.read_entry.Goals as goal

pub returns-in_err-entry-clause-says : goal.returns-in_err-entry-clause-says
returns-in_err-entry-clause-says c = rw ((err_from_is_err_and c.from_residual.result c.from_residual.ensures.1).1) tt

pub returns-in_err-entry-clause-sound : goal.returns-in_err-entry-clause-sound
returns-in_err-entry-clause-sound c = rw ((err_from_is_err_and c.from_residual.result c.from_residual.ensures.1).1) tt

pub returns-in_err-entry-clause-known : goal.returns-in_err-entry-clause-known
returns-in_err-entry-clause-known c = rw ((err_from_is_err_and c.from_residual.result c.from_residual.ensures.1).1) tt

pub returns-in_err-entry-clause-refused : goal.returns-in_err-entry-clause-refused
returns-in_err-entry-clause-refused c =
    let p = err_from_is_err_and c.from_residual.result c.from_residual.ensures.1 in
    rw (p.1, p.2) (λ before k. tt)

pub returns-in_err-kind-clause-says : goal.returns-in_err-kind-clause-says
returns-in_err-kind-clause-says c = rw ((err_from_is_err_and c.from_residual-in_err-kind.result c.from_residual-in_err-kind.ensures.1).1) tt

pub returns-in_err-kind-clause-sound : goal.returns-in_err-kind-clause-sound
returns-in_err-kind-clause-sound c = rw ((err_from_is_err_and c.from_residual-in_err-kind.result c.from_residual-in_err-kind.ensures.1).1) tt

pub returns-in_err-kind-clause-known : goal.returns-in_err-kind-clause-known
returns-in_err-kind-clause-known c = rw ((err_from_is_err_and c.from_residual-in_err-kind.result c.from_residual-in_err-kind.ensures.1).1) tt

pub returns-in_err-kind-clause-refused : goal.returns-in_err-kind-clause-refused
returns-in_err-kind-clause-refused c =
    let p = err_from_is_err_and c.from_residual-in_err-kind.result c.from_residual-in_err-kind.ensures.1 in
    rw (p.1, p.2) (λ before k. tt)
