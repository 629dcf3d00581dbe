use Rattle.std.proofs.lemmas.Result.{IfOk-weaker}
use Rattle.netlist_run.proofs.running.run.Goals as goal

pub columns_in_run-requires : goal.columns_in_run-requires
columns_in_run-requires c = record { parts = (c.args.netlist.design, c.requires.parts); many = c.requires.many; long = c.requires.long }

pub returns : goal.returns
returns c = IfOk-weaker c.columns_in_run.result _ _ (λ columns shows. shows c.args.netlist.design c.requires.parts) c.columns_in_run.ensures
