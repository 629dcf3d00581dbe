use Rattle.std.proofs.Common.{◌≡◌, refl, [], ◌∷◌, decimal}
use Rattle.std.proofs.lemmas.Result.{on_ok_weaker, on_err_weaker}
use Rattle.ww_base.specs.Pages.{held}
use Rattle.ww_base.proofs.Steps.{wrote_as, broke_as}
use Rattle.port_writing.proofs.PortLines.{named_line_is}
use Rattle.port_writing.proofs.table.write_port.Goals as goal

pub returns-clause-ok : goal.returns-clause-ok
returns-clause-ok g c =
    let port = c.args.port.now in
    let e : decimal port.x ∷ decimal port.y ∷ [] ≡ c.as_bytes-x.result.now ∷ c.as_bytes-y.result.now ∷ [] = cc in
    let name : port.name ≡ c.as_slice.result.now = cc in
    on_ok_weaker c.write_named.result (λ wrote rest. wrote_as (named_line_is (held c.args.page.now) c.args.kind.now _ _ port.name _ [] [] (10 ∷ rest) e name refl) (wrote rest)) c.write_named.ensures.ok

pub returns-clause-err : goal.returns-clause-err
returns-clause-err g c =
    let port = c.args.port.now in
    let e : decimal port.x ∷ decimal port.y ∷ [] ≡ c.as_bytes-x.result.now ∷ c.as_bytes-y.result.now ∷ [] = cc in
    let name : port.name ≡ c.as_slice.result.now = cc in
    on_err_weaker c.write_named.result (λ broke rest. broke_as (named_line_is (held c.args.page.now) c.args.kind.now _ _ port.name _ [] [] (10 ∷ rest) e name refl) (broke rest)) c.write_named.ensures.err
