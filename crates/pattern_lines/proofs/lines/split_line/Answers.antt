use Rattle.std.proofs.Common.{sym, ◌∙◌}
use Rattle.pattern_lines.proofs.FirstLines.{lone_after, line_cut}
use Rattle.pattern_lines.proofs.lines.split_line.Goals as goal

pub returns-then-end-text-clause-lines : goal.returns-then-end-text-clause-lines
returns-then-end-text-clause-lines c = lone_after c.args.lines_before c.args.text.now c.requires.some (sym c.bytes_before_feed-end.ensures ∙ c.if-end-text.true)

pub returns-clause-lines : goal.returns-clause-lines
returns-clause-lines c =
    line_cut c.args.lines_before c.args.text.now c.without_carriage_return.result.now c.bytes_before_feed-end.result c.bytes_before_feed-end.ensures c.if-end-text.false c.without_carriage_return.ensures
