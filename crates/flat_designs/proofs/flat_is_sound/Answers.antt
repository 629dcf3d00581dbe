use Rattle.flat_designs.proofs.Sound.{flat_is_sound}
use Rattle.flat_designs.proofs.flat_is_sound.Goals as goal

pub returns : goal.returns
returns c = flat_is_sound
