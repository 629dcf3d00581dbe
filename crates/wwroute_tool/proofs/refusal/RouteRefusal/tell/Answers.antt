use Rattle.std.proofs.Common.{sym, ap}
use Rattle.program_runs.proofs.SameTexts.{told_front, told_ok}
use Rattle.wwroute_tool.specs.Refusing.{route_line}
use Rattle.wwroute_tool.proofs.refusal.RouteRefusal.tell.Goals as goal

pub returns-in-Usage-clause-ok : goal.returns-in-Usage-clause-ok
returns-in-Usage-clause-ok g c = told_ok _ _ _ (sym (ap route_line c.in-Usage.is)) c.write_all.ensures.ok

pub returns-in-Usage-clause-front : goal.returns-in-Usage-clause-front
returns-in-Usage-clause-front g c = told_front _ _ _ (sym (ap route_line c.in-Usage.is)) c.write_all.ensures.front

pub returns-in-NotCircuit-clause-ok : goal.returns-in-NotCircuit-clause-ok
returns-in-NotCircuit-clause-ok g c = told_ok _ _ _ (sym (ap route_line c.in-NotCircuit.is)) c.tell_fault.ensures.ok

pub returns-in-NotCircuit-clause-front : goal.returns-in-NotCircuit-clause-front
returns-in-NotCircuit-clause-front g c = told_front _ _ _ (sym (ap route_line c.in-NotCircuit.is)) c.tell_fault.ensures.front

pub returns-in-Common-clause-ok : goal.returns-in-Common-clause-ok
returns-in-Common-clause-ok g c = told_ok _ _ _ (sym (ap route_line c.in-Common.is)) c.tell.ensures.ok

pub returns-in-Common-clause-front : goal.returns-in-Common-clause-front
returns-in-Common-clause-front g c = told_front _ _ _ (sym (ap route_line c.in-Common.is)) c.tell.ensures.front
