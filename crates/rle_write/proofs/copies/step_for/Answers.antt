use Rattle.std.proofs.Common.{arith}
use Rattle.rle_write.specs.Runs.{spelled}
use Rattle.rle_write.proofs.CopiedTags.{repeated_first_long}
use Rattle.rle_write.proofs.copies.step_for.Goals as goal

pub find_step-requires-clause-short : goal.find_step-requires-clause-short
find_step-requires-clause-short c =
    omega (arith, c.requires.short, repeated_first_long c.args.count (spelled c.args.runs.now) (omega (arith, c.if-count-lt-FEW.false)))
