use Rattle.pattern_writing.proofs.Lines.{wrapped_is_lines}
use Rattle.pattern_writing.proofs.Wrapping.{wrapping_keeps}
use Rattle.pattern_writing.proofs.wrapping_keeps_items.Goals as goal

pub returns-clause-kept : goal.returns-clause-kept
returns-clause-kept c = wrapping_keeps

pub returns-clause-on_lines : goal.returns-clause-on_lines
returns-clause-on_lines c = wrapped_is_lines
