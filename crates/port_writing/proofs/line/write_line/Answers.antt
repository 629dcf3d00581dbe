use Rattle.std.proofs.Common.{[]}
use Rattle.std.proofs.lemmas.Result.{on_ok_weaker, on_err_weaker}
use Rattle.port_writing.specs.Lines.{ended_line}
use Rattle.ww_base.specs.Pages.{held}
use Rattle.lists.proofs.Results.{on_err}
use Rattle.ww_base.proofs.Steps.{begun, wrote_then, wrote_broke, wrote_as, wrote_whole, broke_as, front_of, broke_cause, cause_of}
use Rattle.port_writing.proofs.line.write_line.Goals as goal

pub returns-in_err-put_line-clause-front : goal.returns-in_err-put_line-clause-front
returns-in_err-put_line-clause-front g c =
    let start = begun (held c.new-page.result) (ended_line c.args.ports.now c.args.n) c.new-page.ensures.held in
    on_err _ (front_of (broke_as start (c.in_err-put_line.ensures.err [])))

pub returns-in_err-put_line-clause-cause : goal.returns-in_err-put_line-clause-cause
returns-in_err-put_line-clause-cause g c = broke_cause _ _ c.from_residual.ensures.1 (c.in_err-put_line.ensures.err [])

pub returns-clause-ok : goal.returns-clause-ok
returns-clause-ok g c =
    let start = begun (held c.new-page.result) (ended_line c.args.ports.now c.args.n) c.new-page.ensures.held in
    on_ok_weaker c.flush.result (λ wrote. wrote_whole (wrote_as start (wrote_then (c.in_ok-put_line.ensures.ok []) (wrote [])))) c.flush.ensures.ok

pub returns-clause-front : goal.returns-clause-front
returns-clause-front g c =
    let start = begun (held c.new-page.result) (ended_line c.args.ports.now c.args.n) c.new-page.ensures.held in
    on_err_weaker c.flush.result (λ broke. front_of (broke_as start (wrote_broke (c.in_ok-put_line.ensures.ok []) (broke [])))) c.flush.ensures.err

pub returns-clause-cause : goal.returns-clause-cause
returns-clause-cause g c =
    let done = c.in_ok-put_line.ensures.ok [] in
    cause_of c.flush.result (λ wrote. (wrote_then done (wrote [])).kept) (λ broke. (wrote_broke done (broke [])).rose)
    c.flush.ensures.ok c.flush.ensures.err
