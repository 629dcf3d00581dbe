use Rattle.pattern_reading.proofs.SpelledPattern.{spelled_pattern}
use Rattle.pattern_reading.proofs.SpelledHeader.{spelled_header_is, spelled_count}
use Rattle.pattern_laws.proofs.laws.spelled_pattern_laws.Goals as goal

pub returns-clause-pattern : goal.returns-clause-pattern
returns-clause-pattern c = spelled_pattern

pub returns-clause-header : goal.returns-clause-header
returns-clause-header c = spelled_header_is

pub returns-clause-count : goal.returns-clause-count
returns-clause-count c = spelled_count
