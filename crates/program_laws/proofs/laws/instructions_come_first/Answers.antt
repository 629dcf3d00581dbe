use Rattle.column_packer.proofs.First.{numbers_are_first}
use Rattle.program_laws.proofs.laws.instructions_come_first.Goals as goal

pub returns : goal.returns
returns c = numbers_are_first
