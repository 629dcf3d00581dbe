use Rattle.made_summary.proofs.Netlists.{are_netlists}
use Rattle.made_summary.proofs.texts.made_are_netlists.Goals as goal

pub returns : goal.returns
returns c = are_netlists
