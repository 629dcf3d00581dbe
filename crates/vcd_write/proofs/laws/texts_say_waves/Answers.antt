use Rattle.vcd_write.proofs.Alike.{same_waves_are_written_alike}
use Rattle.vcd_write.proofs.Order.{texts_say_waves}
use Rattle.vcd_write.proofs.laws.texts_say_waves.Goals as goal

pub returns-clause-says : goal.returns-clause-says
returns-clause-says c = texts_say_waves

pub returns-clause-alike : goal.returns-clause-alike
returns-clause-alike c = same_waves_are_written_alike
