use Rattle.std.proofs.Common.{subst, sym, ℕ, List}
use Rattle.made_summary.specs.Summaries.{HasSummaryCause}
use Rattle.made_summary.specs.declared.error.SummaryError.{SummaryError}
use Rattle.made_summary.specs.declared.error.SummaryError.TheVariants as summarizing
use Rattle.command_words.specs.Shapes.{self_}
use Rattle.blifww_tool.specs.Commands.{HasTextCause}
use Rattle.blifww_tool.specs.Summary.{summarizing_error}
use Rattle.blifww_tool.proofs.summary.summary.Goals as goal

has_cause : (seed size cycles : ℕ) (text : List ℕ) (e : SummaryError) → HasSummaryCause seed size cycles e → HasTextCause (self_ seed size cycles) text (summarizing_error e)
has_cause seed size cycles text (summarizing.TooFar generations) h = h
has_cause seed size cycles text summarizing.NoMemory h = tt

pub returns-in-Err-clause-refused : goal.returns-in-Err-clause-refused
returns-in-Err-clause-refused c text =
    subst (HasTextCause (self_ c.args.seed c.args.size c.args.cycles) text) (sym c.text_error.ensures)
    (has_cause c.args.seed c.args.size c.args.cycles text c.in-Err.error (c.in-Err.ensures.refused))
