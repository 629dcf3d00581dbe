use Rattle.std.proofs.Common.{map, arith}
use Rattle.std.proofs.lemmas.Result.{err_from_is_err_and}
use Rattle.aiger_meaning.specs.FlatOf.{net_of_literal}
use Rattle.aiger_meaning.proofs.Loops.{same_loops}
use Rattle.aiger_meaning.proofs.FlatsLowered.{flats_of_aigs_are_lowered}
use Rattle.aiger_meaning.proofs.lowering.lower.Goals as goal

pub order-requires : goal.order-requires
order-requires c =
    (flats_of_aigs_are_lowered c.args.aig.now c.in_ok-flat.flat c.requires (omega (arith, c.weight_of-weight.ensures, c.if-weight-gt-WEIGHT_LIMIT.false))
    c.in_ok-flat.ensures).sound

pub returns-in-Ok-clause-lowered : goal.returns-in-Ok-clause-lowered
returns-in-Ok-clause-lowered c =
    flats_of_aigs_are_lowered c.args.aig.now c.in_ok-flat.flat c.requires (omega (arith, c.weight_of-weight.ensures, c.if-weight-gt-WEIGHT_LIMIT.false))
    c.in_ok-flat.ensures

pub returns-in-Ok-clause-no_loop : goal.returns-in-Ok-clause-no_loop
returns-in-Ok-clause-no_loop c lits l = c.in-Ok.ensures.no_loop (map (net_of_literal c.args.aig.now) lits) ((same_loops c.args.aig.now c.in_ok-flat.flat c.requires c.in_ok-flat.ensures).is_flat lits l)

pub returns-in-Err-clause-refused : goal.returns-in-Err-clause-refused
returns-in-Err-clause-refused c =
    c.refusal-refused.ensures c.in_ok-flat.flat c.requires c.in_ok-flat.ensures (omega (arith, c.weight_of-weight.ensures, c.if-weight-gt-WEIGHT_LIMIT.false)) c.in-Err.ensures.refused

pub returns-in_err-own-clause-is_flat : goal.returns-in_err-own-clause-is_flat
returns-in_err-own-clause-is_flat c = rw ((err_from_is_err_and c.from_residual.result c.from_residual.ensures.1).1) tt

pub returns-in_err-own-clause-lowered : goal.returns-in_err-own-clause-lowered
returns-in_err-own-clause-lowered c = rw ((err_from_is_err_and c.from_residual.result c.from_residual.ensures.1).1) tt

pub returns-in_err-own-clause-order : goal.returns-in_err-own-clause-order
returns-in_err-own-clause-order c = rw ((err_from_is_err_and c.from_residual.result c.from_residual.ensures.1).1) tt

pub returns-in_err-own-clause-light : goal.returns-in_err-own-clause-light
returns-in_err-own-clause-light c = rw ((err_from_is_err_and c.from_residual.result c.from_residual.ensures.1).1) tt

pub returns-in_err-own-clause-no_loop : goal.returns-in_err-own-clause-no_loop
returns-in_err-own-clause-no_loop c = rw ((err_from_is_err_and c.from_residual.result c.from_residual.ensures.1).1) tt

pub returns-in_err-own-clause-refused : goal.returns-in_err-own-clause-refused
returns-in_err-own-clause-refused c =
    let p = err_from_is_err_and c.from_residual.result c.from_residual.ensures.1 in
    rw (p.1, p.2) tt

pub returns-in_err-flat-clause-is_flat : goal.returns-in_err-flat-clause-is_flat
returns-in_err-flat-clause-is_flat c = rw ((err_from_is_err_and c.from_residual-in_err-flat.result c.from_residual-in_err-flat.ensures.1).1) tt

pub returns-in_err-flat-clause-lowered : goal.returns-in_err-flat-clause-lowered
returns-in_err-flat-clause-lowered c = rw ((err_from_is_err_and c.from_residual-in_err-flat.result c.from_residual-in_err-flat.ensures.1).1) tt

pub returns-in_err-flat-clause-order : goal.returns-in_err-flat-clause-order
returns-in_err-flat-clause-order c = rw ((err_from_is_err_and c.from_residual-in_err-flat.result c.from_residual-in_err-flat.ensures.1).1) tt

pub returns-in_err-flat-clause-light : goal.returns-in_err-flat-clause-light
returns-in_err-flat-clause-light c = rw ((err_from_is_err_and c.from_residual-in_err-flat.result c.from_residual-in_err-flat.ensures.1).1) tt

pub returns-in_err-flat-clause-no_loop : goal.returns-in_err-flat-clause-no_loop
returns-in_err-flat-clause-no_loop c = rw ((err_from_is_err_and c.from_residual-in_err-flat.result c.from_residual-in_err-flat.ensures.1).1) tt

pub returns-in_err-flat-clause-refused : goal.returns-in_err-flat-clause-refused
returns-in_err-flat-clause-refused c =
    let p = err_from_is_err_and c.from_residual-in_err-flat.result c.from_residual-in_err-flat.ensures.1 in
    rw (p.1, p.2) tt
