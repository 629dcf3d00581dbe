use Rattle.std.proofs.Common.{◌∙◌, sym}
use Rattle.rle_read.proofs.Fronts.{blank_at_end}
use Rattle.rle_read.proofs.header.without_trailing_blanks.Goals as goal

pub loop-rest-preserved : goal.loop-rest-preserved
loop-rest-preserved c = blank_at_end c.loop-rest.rest.now c.in-len1-up.len_at_least (sym c.is_blank.ensures ∙ c.if-not-is_blank.false) ∙ c.loop-rest.invariant
