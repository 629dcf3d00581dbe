use Rattle.route_lines.proofs.SkippedLines.{keeps_pattern, keeps_ports}
use Rattle.route_lines.proofs.comments.gate_lines_are_skipped.Goals as goal

pub returns-clause-pattern : goal.returns-clause-pattern
returns-clause-pattern c = keeps_pattern

pub returns-clause-ports : goal.returns-clause-ports
returns-clause-ports c = keeps_ports
