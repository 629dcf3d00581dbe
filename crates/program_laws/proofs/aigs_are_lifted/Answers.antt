use Rattle.program_laws.proofs.LiftsBack.{aigs_are_lifted}
use Rattle.program_laws.proofs.aigs_are_lifted.Goals as goal

pub returns : goal.returns
returns c = aigs_are_lifted c.compiled_are_drawings.ensures c.plans_have_ports.ensures c.flats_of_aigs_are_lowered.ensures c.read_aigs_are_sound.ensures
