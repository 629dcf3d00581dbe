use Rattle.std.proofs.Common.{◌≡◌, ◌<◌, ◌++◌, ◌∷◌, [], length, arith}
use Rattle.std.proofs.lemmas.Result.{err_from_is_err_and}
use Rattle.plan_ports.proofs.Gathered.{names_more}
use Rattle.routed_plans.proofs.tables.lines_of.Goals as goal

pub returns-in_err-lines : goal.returns-in_err-lines
returns-in_err-lines c = rw ((err_from_is_err_and c.from_residual.result c.from_residual.ensures.1).1) tt

pub returns-in_err-port_line : goal.returns-in_err-port_line
returns-in_err-port_line c = rw ((err_from_is_err_and c.from_residual-in_err-port_line.result c.from_residual-in_err-port_line.ensures.1).1) tt

pub returns-in_err-push : goal.returns-in_err-push
returns-in_err-push c = rw ((err_from_is_err_and c.from_residual-in_err-push.result c.from_residual-in_err-push.ensures.1).1) tt

pub loop-i-preserved : goal.loop-i-preserved
loop-i-preserved c =
    let within : c.loop-i.i < length c.args.named.now = omega (arith, c.loop-i-test.true, c.len.ensures, c.len-i-end.ensures) in
    let pushed : c.push.new.self.items ≡ c.loop-i.lines.items ++ c.in_ok-port_line.field-0 ∷ [] = c.in_ok-push.ensures.items in
    names_more c.args.flat.now c.loop-i.lines.items c.push.new.self.items c.in_ok-port_line.field-0 c.args.named.now c.get.result.now c.loop-i.i pushed within c.loop-i.invariant c.get.ensures c.in_ok-port_line.ensures
