use Rattle.pattern_laws.proofs.LineLaws.{all_in_lines, numbered_lines}
use Rattle.pattern_reading.proofs.RustLines.{lines_of_rust}
use Rattle.pattern_reading.proofs.FirstLine.{line_then_rest, lone_line}
use Rattle.pattern_reading.proofs.LineText.{first_line}
use Rattle.pattern_laws.proofs.laws.line_laws.Goals as goal

pub returns-clause-joined : goal.returns-clause-joined
returns-clause-joined c = all_in_lines

pub returns-clause-numbered : goal.returns-clause-numbered
returns-clause-numbered c = numbered_lines

pub returns-clause-first : goal.returns-clause-first
returns-clause-first c = first_line

pub returns-clause-of_rust : goal.returns-clause-of_rust
returns-clause-of_rust c = lines_of_rust

pub returns-clause-cut : goal.returns-clause-cut
returns-clause-cut c = line_then_rest

pub returns-clause-lone : goal.returns-clause-lone
returns-clause-lone c = lone_line
