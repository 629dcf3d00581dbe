use Rattle.std.proofs.Common.{arith}
use Rattle.command_words.proofs.command.length_fits.Goals as goal

pub returns : goal.returns
returns c = omega arith
