use Rattle.vcd_write.proofs.OneForm.{reads_as_one_form}
use Rattle.vcd_write.proofs.laws.texts_read_as_one_form.Goals as goal

pub returns : goal.returns
returns c = reads_as_one_form
