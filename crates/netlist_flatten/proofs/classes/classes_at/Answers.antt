use Rattle.std.proofs.lemmas.Option.{slice_get_within}
use Rattle.netlist_flatten.proofs.Numbering.{model_there}
use Rattle.netlist_flatten.proofs.Joining.{main_all, line_to}
use Rattle.netlist_flatten.proofs.classes.classes_at.Goals as goal

pub returns-in-None : goal.returns-in-None
returns-in-None c = main_all c.args.numbers.now c.args.at c.in_ok-own.own.items c.requires.faultless c.requires.place c.in-None.ensures (c.in_ok-own.ensures {u = tt})

pub get-line-requires : goal.get-line-requires
get-line-requires c =
    let (m, is_m) = model_there c.args.numbers.now c.args.at c.requires.place in
    let (line, is_line) = line_to c.args.numbers.now c.in-Some.parent.number c.args.at c.in-Some.parent.line c.model.result.now m is_m c.in-Some.ensures.1 c.model.ensures in
    slice_get_within c.model.result.now.subckts c.in-Some.parent.line line is_line
