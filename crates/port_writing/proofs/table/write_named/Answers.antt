use Rattle.std.proofs.Common.{ℕ, List, ◌∷◌, ◌++◌}
use Rattle.std.proofs.lemmas.Result.{on_ok_weaker, on_err_weaker}
use Rattle.lists.proofs.Results.{on_err}
use Rattle.pattern_reading.specs.Spelling.{escaped_name}
use Rattle.port_writing.specs.Lines.{spaced}
use Rattle.ww_base.proofs.Steps.{wrote_then, wrote_broke}
use Rattle.port_writing.proofs.table.write_named.Goals as goal

pub returns-in_err-put-clause-err : goal.returns-in_err-put-clause-err
returns-in_err-put-clause-err g c =
    let f = λ (rest : List ℕ).
    let ended : List ℕ = spaced c.args.after.now ++ (10 ∷ rest) in
    let named : List ℕ = escaped_name c.args.name.now ++ ended in
    wrote_broke (c.in_ok-begin_line.ensures.ok (32 ∷ named)) (c.in_err-put.ensures.err named) in
    on_err _ f

pub returns-in_err-put_name-clause-err : goal.returns-in_err-put_name-clause-err
returns-in_err-put_name-clause-err g c =
    let f = λ (rest : List ℕ).
    let ended : List ℕ = spaced c.args.after.now ++ (10 ∷ rest) in
    let named : List ℕ = escaped_name c.args.name.now ++ ended in
    wrote_broke (wrote_then (c.in_ok-begin_line.ensures.ok (32 ∷ named)) (c.in_ok-put.ensures.ok named)) (c.in_err-put_name.ensures.err ended) in
    on_err _ f

pub returns-clause-ok : goal.returns-clause-ok
returns-clause-ok g c =
    on_ok_weaker c.end_line.result
    (λ wrote rest.
    let ended : List ℕ = spaced c.args.after.now ++ (10 ∷ rest) in
    let named : List ℕ = escaped_name c.args.name.now ++ ended in
    wrote_then (wrote_then (wrote_then (c.in_ok-begin_line.ensures.ok (32 ∷ named)) (c.in_ok-put.ensures.ok named)) (c.in_ok-put_name.ensures.ok ended)) (wrote rest))
    c.end_line.ensures.ok

pub returns-clause-err : goal.returns-clause-err
returns-clause-err g c =
    on_err_weaker c.end_line.result
    (λ broke rest.
    let ended : List ℕ = spaced c.args.after.now ++ (10 ∷ rest) in
    let named : List ℕ = escaped_name c.args.name.now ++ ended in
    wrote_broke (wrote_then (wrote_then (c.in_ok-begin_line.ensures.ok (32 ∷ named)) (c.in_ok-put.ensures.ok named)) (c.in_ok-put_name.ensures.ok ended)) (broke rest))
    c.end_line.ensures.err
