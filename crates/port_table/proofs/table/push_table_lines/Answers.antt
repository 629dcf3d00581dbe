use Rattle.std.proofs.Common.{sym, ap, ◌∙◌, ◌≡◌, ◌++◌, ◌+◌, arith, map, Some, None, Option, List}
use Rattle.std.specs.Option.{option_to_list}
use Rattle.std.proofs.lemmas.List.{append-nil}
use Rattle.pattern_lines.specs.Lines.{line_of}
use Rattle.pattern_reading.specs.PortLines.{table_line, table_of, table_version}
use Rattle.port_table.specs.Lent.{table_line_of}
use Rattle.port_table.specs.declared.table.TableLine.{TableLine}
use Rattle.port_table.proofs.Walk.{table_from}
use Rattle.port_table.proofs.Walking.{walk_ends, walked_on}
use Rattle.port_table.proofs.table.push_table_lines.Goals as goal
use Rattle.port_table.proofs.table.push_table_lines.Goals.{in-Some+in_ok-push, in_default}

pub returns-then-not-is_skipped : goal.returns-then-not-is_skipped
returns-then-not-is_skipped c =
    walk_ends (table_version c.args.text.now) (c.loop-rest.lines_before + 1) c.loop-rest.rest.now c.split_line.result.1.now (line_of c.split_line.result.0) (map table_line_of c.loop-rest.table.items) _
    c.split_line.ensures.lines (sym c.is_skipped.ensures ∙ c.if-not-is_skipped.true) c.loop-rest.invariant.found

pub loop-rest-init : goal.loop-rest-init
loop-rest-init c =
    let text = c.args.text.now in
    record {
      within = omega arith;
      found = ap (λ (lines : List TableLine). map table_line_of lines ++ table_from (table_version text) 1 text) c.requires.empty;
    }

pub loop-rest-preserved : goal.loop-rest-preserved
loop-rest-preserved c =
    let shorter = c.split_line.ensures.shorter in
    let within = c.loop-rest.invariant.within in
    let rest = c.split_line.result.1.now in
    let walked : (found : Option TableLine) → c.in_ok-entry.field-0 ≡ found → map table_line_of (c.loop-rest.table.items ++ option_to_list found) ++ table_from (table_version c.args.text.now) (c.loop-rest.lines_before + 1 + 1) rest ≡ table_of c.args.text.now =
    walked_on (table_version c.args.text.now) (c.loop-rest.lines_before + 1) c.loop-rest.rest.now rest (line_of c.split_line.result.0) c.loop-rest.table.items c.in_ok-entry.field-0 (table_of c.args.text.now)
    c.split_line.ensures.lines (sym c.is_skipped.ensures ∙ c.if-not-is_skipped.false) (c.in_ok-entry.ensures ∙ ap (λ v. table_line v (line_of c.split_line.result.0)) c.requires.version) c.loop-rest.invariant.found in
    elim c.match-branch-2.branch [
      | in-Some+in_ok-push w ↦ rw (w.table-is, w.in_ok-push.ensures.items) (record { within = omega (arith, within, shorter); found = walked (Some w.in-Some.entry) w.in-Some.is })
      | in_default w ↦ rw (w.table-is, ← append-nil c.loop-rest.table.items) (record { within = omega (arith, within, shorter); found = walked None w.in_default.is })
    ]
