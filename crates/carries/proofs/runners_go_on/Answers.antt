use Rattle.carries.proofs.ByItself.{runs_in_one_way, runners_go_on, zeros_change_nothing}
use Rattle.carries.proofs.runners_go_on.Goals as goal

pub returns-clause-one_way : goal.returns-clause-one_way
returns-clause-one_way c = runs_in_one_way

pub returns-clause-onward : goal.returns-clause-onward
returns-clause-onward c = runners_go_on

pub returns-clause-zeros : goal.returns-clause-zeros
returns-clause-zeros c = zeros_change_nothing
