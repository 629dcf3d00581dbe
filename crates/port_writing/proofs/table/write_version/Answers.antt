use Rattle.std.proofs.Common.{◌≡◌, [], ◌∷◌, codes, decimal}
use Rattle.std.proofs.lemmas.Result.{on_ok_weaker, on_err_weaker}
use Rattle.ww_base.specs.Pages.{held}
use Rattle.ww_base.proofs.Steps.{wrote_as, broke_as}
use Rattle.port_writing.proofs.PortLines.{line_is}
use Rattle.port_writing.proofs.table.write_version.Goals as goal

pub returns-clause-ok : goal.returns-clause-ok
returns-clause-ok g c =
    let e : codes "P" ∷ decimal c.args.period ∷ codes "L" ∷ decimal c.args.latency ∷ codes "C" ∷ decimal c.args.contexts ∷ [] ≡ codes "P" ∷ c.as_bytes-p.result.now ∷ codes "L" ∷ c.as_bytes-l.result.now ∷ codes "C" ∷ c.as_bytes-c.result.now ∷ [] = cc in
    on_ok_weaker c.write_unnamed.result (λ wrote rest. wrote_as (line_is (held c.args.page.now) (codes "2") _ _ (10 ∷ rest) e) (wrote rest)) c.write_unnamed.ensures.ok

pub returns-clause-err : goal.returns-clause-err
returns-clause-err g c =
    let e : codes "P" ∷ decimal c.args.period ∷ codes "L" ∷ decimal c.args.latency ∷ codes "C" ∷ decimal c.args.contexts ∷ [] ≡ codes "P" ∷ c.as_bytes-p.result.now ∷ codes "L" ∷ c.as_bytes-l.result.now ∷ codes "C" ∷ c.as_bytes-c.result.now ∷ [] = cc in
    on_err_weaker c.write_unnamed.result (λ broke rest. broke_as (line_is (held c.args.page.now) (codes "2") _ _ (10 ∷ rest) e) (broke rest)) c.write_unnamed.ensures.err
