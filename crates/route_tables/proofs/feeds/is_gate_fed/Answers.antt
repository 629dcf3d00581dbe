use Rattle.std.proofs.Common.{◌≡◌, ◌∙◌, ap, subst, length, arith}
use Rattle.gate_library.specs.Lawful.{gate_at}
use Rattle.route_tables.specs.Tables.{gate_drawing}
use Rattle.route_tables.specs.Cells.{IsFedRightly}
use Rattle.route_tables.proofs.feeds.is_gate_fed.Goals as goal

pub returns : goal.returns
returns c = λ t i low.
    let tables = c.args.tables.now in
    let gate = c.in-Some.ensures.1 in
    let later = c.in-Some.gate.now.later in
    let number : c.in-Ok.number ≡ c.args.k = omega arith in
    let inputs : c.in-Ok-try_from.inputs ≡ c.inputs.result = omega arith in
    let kind : c.inputs.result ≡ length (gate_at (gate_drawing tables c.in-Some.gate.now) later).ins = c.inputs.ensures later ∙ ap (λ d. length (gate_at d later).ins) c.in-Some-kind.ensures in
    let count = kind ∙ ap (λ g. length (gate_at (gate_drawing tables g) g.later).ins) gate in
    subst (λ n. IsFedRightly tables (record { gate = n; input = i })) number (c.are_inputs_fed.ensures t i (omega (arith, low, inputs, count)))
