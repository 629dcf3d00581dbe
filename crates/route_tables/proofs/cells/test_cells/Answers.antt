use Rattle.std.proofs.Common.{length}
use Rattle.std.proofs.lemmas.Option.{slice_get_within}
use Rattle.std.proofs.lemmas.Result.{IfOk-weaker}
use Rattle.route_tables.proofs.SerialTable.{are_serials}
use Rattle.route_tables.proofs.cells.test_cells.Goals as goal

pub returns : goal.returns
returns c =
    let t = c.args.tables.now in
    IfOk-weaker c.are_gates_fed.result _ _ (λ _ fed. record {
      serials = are_serials t.cells c.args.states.now t.serials t.width c.in_ok-are_places.ensures.same c.in_ok-have_serials.ensures c.in_ok-are_places.ensures.places t.groups (length t.gates) c.in_ok-are_gates_apart.ensures;
      gates = c.in_ok-are_gates_there.ensures;
      in_gates = c.in_ok-are_in_gates.ensures;
      wires = c.in_ok-are_wires_there.ensures;
      on_wires = c.in_ok-are_on_wires.ensures;
      alone = c.in_ok-are_alone.ensures;
      ends = c.in_ok-are_ends_fed.ensures;
      driven = λ d at there. c.in_ok-are_drives_fed.ensures d (slice_get_within t.driven d at there) at there;
      fed = λ k i low. fed k low i;
    }) c.are_gates_fed.ensures
