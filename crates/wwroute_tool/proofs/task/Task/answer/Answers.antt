use Rattle.std.proofs.Common.{sym, subst, ℕ, List}
use Rattle.wwroute_tool.specs.declared.task.Task.{Task}
use Rattle.wwroute_tool.specs.declared.words.Command.{Command}
use Rattle.wwroute_tool.specs.Answers.{answer_text}
use Rattle.wwroute_tool.specs.Commands.{Makes}
use Rattle.wwroute_tool.specs.Tasks.{ForTask}
use Rattle.wwroute_tool.proofs.Tasks.{of_route}
use Rattle.wwroute_tool.proofs.task.Task.answer.Goals as goal

pub returns-in_ok-drawn-in-Route-clause-makes : goal.returns-in_ok-drawn-in-Route-clause-makes
returns-in_ok-drawn-in-Route-clause-makes c =
    let netlist = c.in-Route.netlist in
    let holds : Command → List ℕ → Type 0 = λ command text. Makes command text (answer_text c.in_ok-drawn-in-Route.field-0) in
    subst (λ (t : Task). ForTask t holds) (sym c.in-Route.is)
    (of_route netlist c.in-Route.nets holds (λ text is. (netlist.design, is, c.in_ok-drawn-in-Route.ensures.shows)))
