use Rattle.std.proofs.Common.{ap, refl, Err}
use Rattle.std.proofs.lemmas.Result.{err_from_is_err_and}
use Rattle.aiger_text.proofs.SoundReads.{read_aigs_are_sound}
use Rattle.blifww_tool.proofs.AigRead.{plan_refused, read_refused}
use Rattle.blifww_tool.proofs.aiger.aiger.Goals as goal

pub returns-in_err-circuit-clause-refused : goal.returns-in_err-circuit-clause-refused
returns-in_err-circuit-clause-refused c =
    let p = err_from_is_err_and c.from_residual.result c.from_residual.ensures.1 in
    rw (p.1, p.2) (read_refused c.args.text.now c.in_err-circuit.field-0.0 (λ fault is. c.in_err-circuit.ensures.fault fault (ap Err is)))

pub plan_circuit-made-requires : goal.plan_circuit-made-requires
plan_circuit-made-requires c = read_aigs_are_sound c.args.text.now c.in_ok-circuit.circuit c.in_ok-circuit.ensures.aig

pub returns-in_err-planned-clause-refused : goal.returns-in_err-planned-clause-refused
returns-in_err-planned-clause-refused c =
    let p = err_from_is_err_and c.from_residual-in_err-planned.result c.from_residual-in_err-planned.ensures.1 in
    rw (p.1, p.2) (plan_refused c.args.text.now c.in_ok-circuit.circuit c.in_err-planned.field-0.0 c.in_ok-circuit.ensures.aig c.in_err-planned.ensures.refused)

pub returns-clause-printed : goal.returns-clause-printed
returns-clause-printed c = record {
  aig = c.in_ok-circuit.circuit;
  is = record { reads = c.in_ok-circuit.ensures.aig; light = c.in_ok-planned.ensures.light; no_loop = c.in_ok-planned.ensures.no_loop };
  plan = c.in_ok-planned.planned.plan;
  ports = c.in_ok-planned.planned.ports;
  is_plan = c.in_ok-planned.ensures.plan;
  written = refl;
}

pub returns-clause-writable : goal.returns-clause-writable
returns-clause-writable c = c.in_ok-planned.ensures.plan.admissible
