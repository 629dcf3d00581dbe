use Rattle.std.proofs.Common.{ℕ, ◌<◌, List, length, subst}
use Rattle.cell_core.specs.declared.cells.Src.{Src}
use Rattle.routed_circuits.specs.Runs.{src_at}
use Rattle.gate_library.specs.Lawful.{answer_at}
use Rattle.route_tables.specs.Runs.{IsAnsweredBy}
use Rattle.route_cells.proofs.gates.is_answered.Goals as goal

pub returns-clause-answers : goal.returns-clause-answers
returns-clause-answers c = λ t.
    let list = c.args.list.now in
    let drawing = c.args.drawing.now in
    let answered = subst (λ (ins : List Src). (o : ℕ) → o < length c.as_slice-2.result.now → IsAnsweredBy list ins (answer_at drawing o) (src_at c.as_slice-2.result.now o)) c.as_slice.ensures (c.are_answered.ensures t) in
    subst (λ (outs : List Src). (o : ℕ) → o < length outs → IsAnsweredBy list c.args.gate.now.ins (answer_at drawing o) (src_at outs o)) c.as_slice-2.ensures answered
