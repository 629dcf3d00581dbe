use Rattle.program_laws.proofs.Onward.{contexts_go_on, contexts_show_each_front, nets_go_on, nets_show_each_front}
use Rattle.program_laws.proofs.contexts_go_on.Goals as goal

pub returns-clause-onward : goal.returns-clause-onward
returns-clause-onward c = contexts_go_on

pub returns-clause-nets_onward : goal.returns-clause-nets_onward
returns-clause-nets_onward c = nets_go_on

pub returns-clause-each_front : goal.returns-clause-each_front
returns-clause-each_front c = contexts_show_each_front

pub returns-clause-nets_each_front : goal.returns-clause-nets_each_front
returns-clause-nets_each_front c = nets_show_each_front
