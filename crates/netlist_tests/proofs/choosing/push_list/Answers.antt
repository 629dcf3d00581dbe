use Rattle.std.proofs.Common.{sym, subst, inl, inr, IfSome}
use Rattle.std.specs.Prelude.{All}
use Rattle.std.proofs.lemmas.List.Elements.{All-push}
use Rattle.cell_plans.specs.PlanOf.{IsPlannable}
use Rattle.netlist_tests.proofs.choosing.push_list.Goals as goal

pub returns-in-Some : goal.returns-in-Some
returns-in-Some c =
    let is : IsPlannable c.in-Some.list = subst (λ o. IfSome o IsPlannable) c.in-Some.is c.list_by.ensures in
    elim c.put.ensures [
      | inl same ↦ subst (All IsPlannable) (sym same) c.requires
      | inr more ↦ subst (All IsPlannable) (sym more) (All-push IsPlannable c.args.lists.now.items c.in-Some.list c.requires is)
    ]
