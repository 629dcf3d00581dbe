use Rattle.std.proofs.Common.{◌∙◌, ap}
use Rattle.pattern_reading.specs.Numbers.{after_prefix}
use Rattle.rle_read.proofs.Fronts.{stripped_prefix}
use Rattle.rle_read.proofs.words.after_word.Goals as goal

pub returns : goal.returns
returns c =
    stripped_prefix c.args.word.now c.without_leading_blanks.result.now c.strip_prefix.result c.strip_prefix.ensures.cases
    ∙ ap (after_prefix c.args.word.now) c.without_leading_blanks.ensures
