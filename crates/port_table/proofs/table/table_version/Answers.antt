use Rattle.std.proofs.Common.{sym, ◌∙◌, ◌+◌, arith, ap}
use Rattle.std.specs.Option.{option_copied}
use Rattle.pattern_lines.specs.Lines.{line_of}
use Rattle.port_table.proofs.Walking.{version_ends, version_goes_on}
use Rattle.port_table.proofs.table.table_version.Goals as goal

pub returns-then-not-is_skipped : goal.returns-then-not-is_skipped
returns-then-not-is_skipped c =
    sym (version_ends (c.loop-rest.lines_before + 1) c.loop-rest.rest.now c.split_line.result.1.now (line_of c.split_line.result.0) c.split_line.ensures.lines (sym c.is_skipped.ensures ∙ c.if-not-is_skipped.true))
    ∙ c.loop-rest.invariant.found

pub loop-rest-preserved : goal.loop-rest-preserved
loop-rest-preserved c =
    let shorter = c.split_line.ensures.shorter in
    let within = c.loop-rest.invariant.within in
    let none = sym c.table_entry.ensures ∙ ap option_copied c.in_default.is in
    record {
      within = omega (arith, within, shorter);
      found = sym (version_goes_on (c.loop-rest.lines_before + 1) c.loop-rest.rest.now c.split_line.result.1.now (line_of c.split_line.result.0) c.split_line.ensures.lines (sym c.is_skipped.ensures ∙ c.if-not-is_skipped.false) none) ∙ c.loop-rest.invariant.found;
    }
