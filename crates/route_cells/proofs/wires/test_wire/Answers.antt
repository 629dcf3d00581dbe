use Rattle.std.proofs.Common.{subst}
use Rattle.std.proofs.lemmas.Result.{IfOk-weaker}
use Rattle.route_tables.specs.Reading.{IsPortAt}
use Rattle.route_cells.proofs.KeptTime.{kept_wire}
use Rattle.route_cells.proofs.wires.test_wire.Goals as goal

pub returns : goal.returns
returns c =
    let t = c.args.t.now in
    let states = c.args.states.now in
    let wire = c.wire-wire.result in
    let from = c.in-Some.from in
    let to = c.in-Some-port.to in
    IfOk-weaker c.wire_between.result _ _ (λ _ keeps.
    kept_wire t states c.args.period c.args.w c.requires.some wire c.wire-wire.ensures from to
    c.in-Some.ensures (subst (λ at. IsPortAt t at to) c.input_port.ensures c.in-Some-port.ensures) keeps) c.wire_between.ensures
