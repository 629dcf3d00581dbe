use Rattle.std.proofs.Common.{sym, ap}
use Rattle.program_runs.specs.Refusals.{refusal_line}
use Rattle.program_runs.proofs.SameTexts.{told_ok, told_front}
use Rattle.program_runs.proofs.refusal.Refusal.tell.Goals as goal

pub returns-in-Usage-clause-front : goal.returns-in-Usage-clause-front
returns-in-Usage-clause-front g c = told_front _ _ _ (sym (ap refusal_line c.in-Usage.is)) c.write_all.ensures.front

pub returns-in-TooLong-clause-ok : goal.returns-in-TooLong-clause-ok
returns-in-TooLong-clause-ok g c = told_ok _ _ _ (sym (ap refusal_line c.in-TooLong.is)) c.write_all-in-TooLong.ensures.ok

pub returns-in-TooLong-clause-front : goal.returns-in-TooLong-clause-front
returns-in-TooLong-clause-front g c = told_front _ _ _ (sym (ap refusal_line c.in-TooLong.is)) c.write_all-in-TooLong.ensures.front

pub returns-in-ReadFault-clause-ok : goal.returns-in-ReadFault-clause-ok
returns-in-ReadFault-clause-ok g c = told_ok _ _ _ (sym (ap refusal_line c.in-ReadFault.is)) c.write_all-in-ReadFault.ensures.ok

pub returns-in-ReadFault-clause-front : goal.returns-in-ReadFault-clause-front
returns-in-ReadFault-clause-front g c = told_front _ _ _ (sym (ap refusal_line c.in-ReadFault.is)) c.write_all-in-ReadFault.ensures.front

pub returns-in-WriteFault-clause-ok : goal.returns-in-WriteFault-clause-ok
returns-in-WriteFault-clause-ok g c = told_ok _ _ _ (sym (ap refusal_line c.in-WriteFault.is)) c.write_all-in-WriteFault.ensures.ok

pub returns-in-WriteFault-clause-front : goal.returns-in-WriteFault-clause-front
returns-in-WriteFault-clause-front g c = told_front _ _ _ (sym (ap refusal_line c.in-WriteFault.is)) c.write_all-in-WriteFault.ensures.front

pub returns-in-NoMemory-clause-ok : goal.returns-in-NoMemory-clause-ok
returns-in-NoMemory-clause-ok g c = told_ok _ _ _ (sym (ap refusal_line c.in-NoMemory.is)) c.write_all-in-NoMemory.ensures.ok

pub returns-in-NoMemory-clause-front : goal.returns-in-NoMemory-clause-front
returns-in-NoMemory-clause-front g c = told_front _ _ _ (sym (ap refusal_line c.in-NoMemory.is)) c.write_all-in-NoMemory.ensures.front
