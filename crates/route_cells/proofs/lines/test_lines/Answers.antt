use Rattle.std.proofs.Common.{ℕ, ◌≤◌, ◌≡◌, Some, List, slice_get, subst}
use Rattle.std.proofs.lemmas.Result.{IfOk-weaker}
use Rattle.pattern_reading.specs.declared.ports.PortLine.{PortLine}
use Rattle.pattern_reading.specs.declared.ports.NetLine.{NetLine}
use Rattle.routed_circuits.specs.Runs.{src_at}
use Rattle.route_tables.specs.declared.tables.GateInput.{GateInput}
use Rattle.route_tables.specs.Runs.{IsInput, IsDark, ShowsAt}
use Rattle.route_cells.proofs.lines.test_lines.Goals as goal

pub returns : goal.returns
returns c =
    let t = c.args.t.now in
    let states = c.args.states.now in
    IfOk-weaker c.test_nets.result _ _ (λ _ shown. record {
      ins = subst (λ (lines : List PortLine). (i : ℕ) (line : PortLine) → slice_get lines i ≡ Some line → IsInput t states i line) c.as_slice-ins.ensures c.in_ok-test_inputs.ensures;
      dark = subst (λ n. (d : ℕ) (at : GateInput) → n ≤ d → slice_get t.driven d ≡ Some at → IsDark t at) c.len.ensures c.in_ok-test_dark.ensures;
      outs = subst (λ (lines : List PortLine). (o : ℕ) (line : PortLine) → slice_get lines o ≡ Some line → ShowsAt t t.outs o line.x line.y c.args.ports.now.l (src_at t.list.outs o)) c.as_slice-outs.ensures c.in_ok-test_outputs.ensures;
      nets = subst (λ (lines : List NetLine). (n : ℕ) (line : NetLine) → slice_get lines n ≡ Some line → ShowsAt t t.nets n line.x line.y line.offset (src_at t.list.nets n)) c.as_slice-nets.ensures shown;
    }) c.test_nets.ensures
