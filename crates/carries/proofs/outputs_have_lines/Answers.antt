use Rattle.carries.proofs.OneWay.{outputs_have_lines}
use Rattle.carries.proofs.outputs_have_lines.Goals as goal

pub returns : goal.returns
returns c = outputs_have_lines
