use Rattle.std.proofs.Common.{subst, sym, IfOk}
use Rattle.command_words.specs.declared.command.Command.{Command}
use Rattle.command_words.specs.Shapes.{values_of}
use Rattle.blifww_tool.specs.Answer.{output_text}
use Rattle.blifww_tool.specs.Commands.{Prints}
use Rattle.blifww_tool.proofs.top.answer.Goals as goal

pub returns-in-Make-clause-printed : goal.returns-in-Make-clause-printed
returns-in-Make-clause-printed c =
    subst (λ (command : Command). IfOk c.make.result (λ output. Prints (values_of command) c.args.text.now (output_text output))) (sym c.in-Make.is) c.make.ensures.printed

pub returns-in-Self_-clause-printed : goal.returns-in-Self_-clause-printed
returns-in-Self_-clause-printed c =
    subst (λ (command : Command). IfOk c.summary.result (λ output. Prints (values_of command) c.args.text.now (output_text output))) (sym c.in-Self_.is) c.summary.ensures.printed
