use Rattle.std.proofs.Common.{ℕ, List, ◌++◌, map, codes, sym, ap}
use Rattle.std.proofs.lemmas.Result.{on_ok_weaker, on_err_weaker}
use Rattle.pattern_reading.specs.PortLines.{Net}
use Rattle.pattern_reading.specs.Spelling.{spelled_line}
use Rattle.pattern_writing.specs.Writer.{ended_lines}
use Rattle.port_writing.specs.Lines.{port_text}
use Rattle.ww_base.specs.Pages.{held}
use Rattle.lists.proofs.Results.{on_err}
use Rattle.ww_base.proofs.Steps.{wrote_then, wrote_broke, wrote_as, broke_as}
use Rattle.port_writing.proofs.PortLines.{table_is}
use Rattle.port_writing.proofs.table.write_table.Goals as goal

pub returns-in_err-write_version-clause-err : goal.returns-in_err-write_version-clause-err
returns-in_err-write_version-clause-err g c =
    let ports = c.args.ports.now in
    let here = held c.args.page.now in
    let f = λ (rest : List ℕ). broke_as (table_is here ports rest) (c.in_err-write_version.ensures.err (ended_lines (map (port_text (codes "IN")) ports.ins) ++ (ended_lines (map (port_text (codes "OUT")) ports.outs) ++ (ended_lines (map (λ net. spelled_line (Net net)) ports.nets) ++ rest)))) in
    on_err _ f

pub returns-in_err-write_ports-clause-err : goal.returns-in_err-write_ports-clause-err
returns-in_err-write_ports-clause-err g c =
    let ports = c.args.ports.now in
    let here = held c.args.page.now in
    let f = λ (rest : List ℕ).
    broke_as (table_is here ports rest) (wrote_broke (c.in_ok-write_version.ensures.ok (ended_lines (map (port_text (codes "IN")) ports.ins) ++ (ended_lines (map (port_text (codes "OUT")) ports.outs) ++ (ended_lines (map (λ net. spelled_line (Net net)) ports.nets) ++ rest)))) (broke_as (ap (λ s. held c.write_version.new.page ++ (ended_lines (map (port_text (codes "IN")) s) ++ (ended_lines (map (port_text (codes "OUT")) ports.outs) ++ (ended_lines (map (λ net. spelled_line (Net net)) ports.nets) ++ rest)))) (sym c.as_slice.ensures)) (c.in_err-write_ports.ensures.err (ended_lines (map (port_text (codes "OUT")) ports.outs) ++ (ended_lines (map (λ net. spelled_line (Net net)) ports.nets) ++ rest))))) in
    on_err _ f

pub returns-in_err-write_ports-2-clause-err : goal.returns-in_err-write_ports-2-clause-err
returns-in_err-write_ports-2-clause-err g c =
    let ports = c.args.ports.now in
    let here = held c.args.page.now in
    let f = λ (rest : List ℕ).
    broke_as (table_is here ports rest) (wrote_broke (wrote_then (c.in_ok-write_version.ensures.ok (ended_lines (map (port_text (codes "IN")) ports.ins) ++ (ended_lines (map (port_text (codes "OUT")) ports.outs) ++ (ended_lines (map (λ net. spelled_line (Net net)) ports.nets) ++ rest)))) (wrote_as (ap (λ s. held c.write_version.new.page ++ (ended_lines (map (port_text (codes "IN")) s) ++ (ended_lines (map (port_text (codes "OUT")) ports.outs) ++ (ended_lines (map (λ net. spelled_line (Net net)) ports.nets) ++ rest)))) (sym c.as_slice.ensures)) (c.in_ok-write_ports.ensures.ok (ended_lines (map (port_text (codes "OUT")) ports.outs) ++ (ended_lines (map (λ net. spelled_line (Net net)) ports.nets) ++ rest))))) (broke_as (ap (λ s. held c.write_ports.new.page ++ (ended_lines (map (port_text (codes "OUT")) s) ++ (ended_lines (map (λ net. spelled_line (Net net)) ports.nets) ++ rest))) (sym c.as_slice-2.ensures)) (c.in_err-write_ports-2.ensures.err (ended_lines (map (λ net. spelled_line (Net net)) ports.nets) ++ rest)))) in
    on_err _ f

pub returns-clause-ok : goal.returns-clause-ok
returns-clause-ok g c =
    let ports = c.args.ports.now in
    let here = held c.args.page.now in
    on_ok_weaker c.write_nets.result
    (λ wrote rest.
    wrote_as (table_is here ports rest) (wrote_then (wrote_then (wrote_then (c.in_ok-write_version.ensures.ok (ended_lines (map (port_text (codes "IN")) ports.ins) ++ (ended_lines (map (port_text (codes "OUT")) ports.outs) ++ (ended_lines (map (λ net. spelled_line (Net net)) ports.nets) ++ rest)))) (wrote_as (ap (λ s. held c.write_version.new.page ++ (ended_lines (map (port_text (codes "IN")) s) ++ (ended_lines (map (port_text (codes "OUT")) ports.outs) ++ (ended_lines (map (λ net. spelled_line (Net net)) ports.nets) ++ rest)))) (sym c.as_slice.ensures)) (c.in_ok-write_ports.ensures.ok (ended_lines (map (port_text (codes "OUT")) ports.outs) ++ (ended_lines (map (λ net. spelled_line (Net net)) ports.nets) ++ rest))))) (wrote_as (ap (λ s. held c.write_ports.new.page ++ (ended_lines (map (port_text (codes "OUT")) s) ++ (ended_lines (map (λ net. spelled_line (Net net)) ports.nets) ++ rest))) (sym c.as_slice-2.ensures)) (c.in_ok-write_ports-2.ensures.ok (ended_lines (map (λ net. spelled_line (Net net)) ports.nets) ++ rest))))
    (wrote_as (ap (λ s. held c.write_ports-2.new.page ++ (ended_lines (map (λ net. spelled_line (Net net)) s) ++ rest)) (sym c.as_slice-3.ensures)) (wrote rest))))
    c.write_nets.ensures.ok

pub returns-clause-err : goal.returns-clause-err
returns-clause-err g c =
    let ports = c.args.ports.now in
    let here = held c.args.page.now in
    on_err_weaker c.write_nets.result
    (λ broke rest.
    broke_as (table_is here ports rest) (wrote_broke (wrote_then (wrote_then (c.in_ok-write_version.ensures.ok (ended_lines (map (port_text (codes "IN")) ports.ins) ++ (ended_lines (map (port_text (codes "OUT")) ports.outs) ++ (ended_lines (map (λ net. spelled_line (Net net)) ports.nets) ++ rest)))) (wrote_as (ap (λ s. held c.write_version.new.page ++ (ended_lines (map (port_text (codes "IN")) s) ++ (ended_lines (map (port_text (codes "OUT")) ports.outs) ++ (ended_lines (map (λ net. spelled_line (Net net)) ports.nets) ++ rest)))) (sym c.as_slice.ensures)) (c.in_ok-write_ports.ensures.ok (ended_lines (map (port_text (codes "OUT")) ports.outs) ++ (ended_lines (map (λ net. spelled_line (Net net)) ports.nets) ++ rest))))) (wrote_as (ap (λ s. held c.write_ports.new.page ++ (ended_lines (map (port_text (codes "OUT")) s) ++ (ended_lines (map (λ net. spelled_line (Net net)) ports.nets) ++ rest))) (sym c.as_slice-2.ensures)) (c.in_ok-write_ports-2.ensures.ok (ended_lines (map (λ net. spelled_line (Net net)) ports.nets) ++ rest))))
    (broke_as (ap (λ s. held c.write_ports-2.new.page ++ (ended_lines (map (λ net. spelled_line (Net net)) s) ++ rest)) (sym c.as_slice-3.ensures)) (broke rest))))
    c.write_nets.ensures.err
