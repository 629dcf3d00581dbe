use Rattle.std.proofs.Common.{ap, sym, ◌∙◌, codes}
use Rattle.program_runs.specs.Refusals.{stream_line, cause_line}
use Rattle.program_runs.proofs.SameTexts.{told_ok, told_front}
use Rattle.program_runs.proofs.causes.Cause.tell.Goals as goal

pub returns-in-NoSuchNet-clause-ok : goal.returns-in-NoSuchNet-clause-ok
returns-in-NoSuchNet-clause-ok g c =
    told_ok _ _ _ (ap (stream_line (codes "NoSuchNet")) c.as_slice-in-NoSuchNet.ensures ∙ sym (ap cause_line c.in-NoSuchNet.is)) c.tell_streams-in-NoSuchNet.ensures.ok

pub returns-in-NoSuchNet-clause-front : goal.returns-in-NoSuchNet-clause-front
returns-in-NoSuchNet-clause-front g c =
    told_front _ _ _ (ap (stream_line (codes "NoSuchNet")) c.as_slice-in-NoSuchNet.ensures ∙ sym (ap cause_line c.in-NoSuchNet.is)) c.tell_streams-in-NoSuchNet.ensures.front
