-- A gate whose drawing is answered has sources at its ports.
use Rattle.std.proofs.Common.{◌≡◌, sym, ◌∙◌, subst, subst₂, ℕ}
use Rattle.gate_library.specs.declared.gate.GateDrawing.{GateDrawing}
use Rattle.gate_library.specs.Lawful.{IsLawful}
use Rattle.route_tables.specs.declared.tables.TableGate.{TableGate}
use Rattle.route_tables.specs.declared.tables.Tables.{Tables}
use Rattle.route_tables.specs.Tables.{table_gate, gate_drawing}
use Rattle.route_tables.specs.Runs.{HasPortSources}
use Rattle.route_tables.proofs.Ports.{length_ins}
use Rattle.route_cells.proofs.AnswerBits.{length-gate_outs}
use Rattle.route_cells.specs.Gates.{IsInTimeAndAnswered}

of_its_own : (t : Tables) (period k : ℕ) → IsLawful (gate_drawing t (table_gate t k)) → IsInTimeAndAnswered t.list (gate_drawing t (table_gate t k)) period (table_gate t k) → HasPortSources t k
of_its_own t period k lawful is =
    record {
      ins = is.ins ∙ sym (length_ins (gate_drawing t (table_gate t k)) lawful (table_gate t k).later);
      outs = is.outs ∙ sym (length-gate_outs (gate_drawing t (table_gate t k)) (table_gate t k).later);
      answers = is.answers;
    }

pub has_port_sources : (t : Tables) (period k : ℕ) (gate : TableGate) (drawing : GateDrawing) → gate ≡ table_gate t k → drawing ≡ gate_drawing t gate → IsLawful drawing
    → IsInTimeAndAnswered t.list drawing period gate → HasPortSources t k
has_port_sources t period k gate drawing of_k of_gate lawful is =
    let e : drawing ≡ gate_drawing t (table_gate t k) = subst (λ g. drawing ≡ gate_drawing t g) of_k of_gate in
    of_its_own t period k (subst IsLawful e lawful) (subst₂ (λ d g. IsInTimeAndAnswered t.list d period g) e of_k is)
