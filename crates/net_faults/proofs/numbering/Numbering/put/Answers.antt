use Rattle.std.proofs.Common.{Some}
use Rattle.std.proofs.lemmas.Map.Text.{btree_map_updates_str}
use Rattle.net_faults.proofs.numbering.Numbering.put.Goals as goal

pub returns-clause-new : goal.returns-clause-new
returns-clause-new c = λ other. btree_map_updates_str c.args.name.now c.args.self.now.numbers c.insert.new.self (Some c.args.number) c.in_ok-insert.ensures.updates other
