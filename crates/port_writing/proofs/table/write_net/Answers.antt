use Rattle.std.proofs.Common.{◌≡◌, [], ◌∷◌, codes, decimal}
use Rattle.std.proofs.lemmas.Result.{on_ok_weaker, on_err_weaker}
use Rattle.ww_base.specs.Pages.{held}
use Rattle.ww_base.proofs.Steps.{wrote_as, broke_as}
use Rattle.port_writing.proofs.PortLines.{named_line_is}
use Rattle.port_writing.proofs.table.write_net.Goals as goal

pub returns-clause-ok : goal.returns-clause-ok
returns-clause-ok g c =
    let net = c.args.net.now in
    let e : decimal net.x ∷ decimal net.y ∷ decimal net.offset ∷ [] ≡ c.as_bytes-x.result.now ∷ c.as_bytes-y.result.now ∷ c.as_bytes-offset.result.now ∷ [] = cc in
    let name : net.name ≡ c.as_slice-name.result.now = cc in
    let path : net.path ∷ [] ≡ c.as_slice-path.result.now ∷ [] = cc in
    on_ok_weaker c.write_named.result (λ wrote rest. wrote_as (named_line_is (held c.args.page.now) (codes "NET") _ _ net.name _ (net.path ∷ []) _ (10 ∷ rest) e name path) (wrote rest)) c.write_named.ensures.ok

pub returns-clause-err : goal.returns-clause-err
returns-clause-err g c =
    let net = c.args.net.now in
    let e : decimal net.x ∷ decimal net.y ∷ decimal net.offset ∷ [] ≡ c.as_bytes-x.result.now ∷ c.as_bytes-y.result.now ∷ c.as_bytes-offset.result.now ∷ [] = cc in
    let name : net.name ≡ c.as_slice-name.result.now = cc in
    let path : net.path ∷ [] ≡ c.as_slice-path.result.now ∷ [] = cc in
    on_err_weaker c.write_named.result (λ broke rest. broke_as (named_line_is (held c.args.page.now) (codes "NET") _ _ net.name _ (net.path ∷ []) _ (10 ∷ rest) e name path) (broke rest)) c.write_named.ensures.err
