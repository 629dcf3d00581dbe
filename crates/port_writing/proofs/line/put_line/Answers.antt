use Rattle.std.proofs.Common.{◌≡◌, ◌-◌, ap, [], get_or, codes, arith}
use Rattle.std.proofs.lemmas.Result.{on_ok_weaker, on_err_weaker}
use Rattle.pattern_reading.specs.PortLines.{Version, Net}
use Rattle.pattern_reading.specs.Spelling.{spelled_line, port_lines}
use Rattle.port_writing.specs.Lines.{port_text}
use Rattle.ww_base.specs.Pages.{held}
use Rattle.ww_base.proofs.Steps.{wrote_as, broke_as}
use Rattle.port_writing.proofs.PortLines.{input_line, output_line, net_line, line_with_end}
use Rattle.port_writing.proofs.line.put_line.Goals as goal

pub returns-then-n-eq0-clause-ok : goal.returns-then-n-eq0-clause-ok
returns-then-n-eq0-clause-ok g c =
    let line : get_or (port_lines c.args.ports.now) c.args.n [] ≡ spelled_line (Version c.args.ports.now.p c.args.ports.now.l c.args.ports.now.c) = ap (λ n. get_or (port_lines c.args.ports.now) n []) c.if-n-eq0.true in
    on_ok_weaker c.write_version.result (λ wrote rest. wrote_as (line_with_end (held c.args.page.now) c.args.ports.now c.args.n _ rest line) (wrote rest)) c.write_version.ensures.ok

pub returns-then-n-eq0-clause-err : goal.returns-then-n-eq0-clause-err
returns-then-n-eq0-clause-err g c =
    let line : get_or (port_lines c.args.ports.now) c.args.n [] ≡ spelled_line (Version c.args.ports.now.p c.args.ports.now.l c.args.ports.now.c) = ap (λ n. get_or (port_lines c.args.ports.now) n []) c.if-n-eq0.true in
    on_err_weaker c.write_version.result (λ broke rest. broke_as (line_with_end (held c.args.page.now) c.args.ports.now c.args.n _ rest line) (broke rest)) c.write_version.ensures.err

pub returns-then-input-len-clause-ok : goal.returns-then-input-len-clause-ok
returns-then-input-len-clause-ok g c =
    let line : get_or (port_lines c.args.ports.now) c.args.n [] ≡ port_text (codes "IN") c.get.result.now = input_line c.args.ports.now c.args.n c.get.result.now c.if-n-eq0.false c.get.ensures in
    on_ok_weaker c.write_port.result (λ wrote rest. wrote_as (line_with_end (held c.args.page.now) c.args.ports.now c.args.n _ rest line) (wrote rest)) c.write_port.ensures.ok

pub returns-then-input-len-clause-err : goal.returns-then-input-len-clause-err
returns-then-input-len-clause-err g c =
    let line : get_or (port_lines c.args.ports.now) c.args.n [] ≡ port_text (codes "IN") c.get.result.now = input_line c.args.ports.now c.args.n c.get.result.now c.if-n-eq0.false c.get.ensures in
    on_err_weaker c.write_port.result (λ broke rest. broke_as (line_with_end (held c.args.page.now) c.args.ports.now c.args.n _ rest line) (broke rest)) c.write_port.ensures.err

pub returns-then-output-len-clause-ok : goal.returns-then-output-len-clause-ok
returns-then-output-len-clause-ok g c =
    let line : get_or (port_lines c.args.ports.now) c.args.n [] ≡ port_text (codes "OUT") c.get-then-output-len.result.now =
    output_line c.args.ports.now c.args.n (c.args.n - 1 - c.len-2.result) c.get-then-output-len.result.now c.if-n-eq0.false (omega (arith, c.len.ensures, c.len-2.ensures, c.if-input-len.false)) c.get-then-output-len.ensures in
    on_ok_weaker c.write_port-then-output-len.result (λ wrote rest. wrote_as (line_with_end (held c.args.page.now) c.args.ports.now c.args.n _ rest line) (wrote rest)) c.write_port-then-output-len.ensures.ok

pub returns-then-output-len-clause-err : goal.returns-then-output-len-clause-err
returns-then-output-len-clause-err g c =
    let line : get_or (port_lines c.args.ports.now) c.args.n [] ≡ port_text (codes "OUT") c.get-then-output-len.result.now =
    output_line c.args.ports.now c.args.n (c.args.n - 1 - c.len-2.result) c.get-then-output-len.result.now c.if-n-eq0.false (omega (arith, c.len.ensures, c.len-2.ensures, c.if-input-len.false)) c.get-then-output-len.ensures in
    on_err_weaker c.write_port-then-output-len.result (λ broke rest. broke_as (line_with_end (held c.args.page.now) c.args.ports.now c.args.n _ rest line) (broke rest)) c.write_port-then-output-len.ensures.err

pub returns-clause-ok : goal.returns-clause-ok
returns-clause-ok g c =
    let line : get_or (port_lines c.args.ports.now) c.args.n [] ≡ spelled_line (Net c.get-2.result.now) =
    net_line c.args.ports.now c.args.n (c.args.n - 1 - c.len-2.result - c.len-4.result) c.get-2.result.now c.if-n-eq0.false
    (omega (arith, c.len.ensures, c.len-2.ensures, c.len-3.ensures, c.len-4.ensures, c.if-input-len.false, c.if-output-len.false)) c.get-2.ensures in
    on_ok_weaker c.write_net.result (λ wrote rest. wrote_as (line_with_end (held c.args.page.now) c.args.ports.now c.args.n _ rest line) (wrote rest)) c.write_net.ensures.ok

pub returns-clause-err : goal.returns-clause-err
returns-clause-err g c =
    let line : get_or (port_lines c.args.ports.now) c.args.n [] ≡ spelled_line (Net c.get-2.result.now) =
    net_line c.args.ports.now c.args.n (c.args.n - 1 - c.len-2.result - c.len-4.result) c.get-2.result.now c.if-n-eq0.false
    (omega (arith, c.len.ensures, c.len-2.ensures, c.len-3.ensures, c.len-4.ensures, c.if-input-len.false, c.if-output-len.false)) c.get-2.ensures in
    on_err_weaker c.write_net.result (λ broke rest. broke_as (line_with_end (held c.args.page.now) c.args.ports.now c.args.n _ rest line) (broke rest)) c.write_net.ensures.err
