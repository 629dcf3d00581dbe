use Rattle.std.proofs.Common.{◌∙◌}
use Rattle.netlist_flatten.specs.Numbered.{place_at}
use Rattle.netlist_flatten.proofs.Numbering.{model_there, named_nets}
use Rattle.netlist_flatten.proofs.numbers.Numbers.names.Goals as goal

pub returns : goal.returns
returns c =
    let (m, is_m) = model_there c.args.self.now c.args.at c.requires in
    named_nets c.args.self.now (place_at c.args.self.now c.args.at) m c.as_slice.result.now is_m (c.as_slice.ensures ∙ c.model_names.ensures m is_m)
