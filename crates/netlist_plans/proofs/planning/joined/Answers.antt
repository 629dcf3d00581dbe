use Rattle.std.proofs.Common.{rules, ◌≡◌, sym, subst, ◌<◌, List, ◌++◌, length, arith}
use Rattle.std.specs.Prelude.{All}
use Rattle.std.proofs.lemmas.List.{length-append}
use Rattle.std.proofs.lemmas.List.Elements.{All-append}
use Rattle.cell_core.specs.declared.list.CellList.{CellList}
use Rattle.plan_carries.specs.Compiled.{ComputesFlat}
use Rattle.netlist_plans.proofs.planning.joined.Goals as goal

pub returns-in-Ok : goal.returns-in-Ok
returns-in-Ok c =
    let first = c.args.first.items in
    let others = c.args.others.items in
    let items : c.append-appended.new.self.items ≡ first ++ others = search rules in
    record {
      some = subst (λ (l : List CellList). 0 < length l) (sym items) (omega (arith, length-append first others, c.requires.some));
      computes = subst (All (ComputesFlat c.args.flat.now)) (sym items) (All-append (ComputesFlat c.args.flat.now) first others c.requires.first c.requires.others);
    }
