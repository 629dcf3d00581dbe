use Rattle.program_laws.proofs.OneAnswer.{dumps_are_probed}
use Rattle.program_laws.proofs.dumps_are_probed.Goals as goal

pub returns : goal.returns
returns c = dumps_are_probed c.nets_have_their_bits.ensures
