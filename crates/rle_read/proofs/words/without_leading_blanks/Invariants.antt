use Rattle.std.proofs.Common.{◌≡◌, length}
use Rattle.pattern_reading.specs.Numbers.{without_leading_blanks}
use Rattle.rle_read.proofs.words.without_leading_blanks.Given as goal

abbrev pub invariant-loop-rest : goal.invariant-loop-rest
invariant-loop-rest l = without_leading_blanks l.rest ≡ without_leading_blanks l.fn.bytes

abbrev pub decreases-loop-rest : goal.decreases-loop-rest
decreases-loop-rest l = length l.rest
