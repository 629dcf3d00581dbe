use Rattle.std.proofs.Common.{◌≡◌, ◌∙◌, sym, ap, ◌*◌, ◌+◌, [], ◌∷◌, ◌++◌, arith}
use Rattle.std.proofs.lemmas.List.FromFn.{map-range_with_len_more}
use Rattle.made_netlists.specs.Draws.{state_after}
use Rattle.made_netlists.specs.Text.{drawn_gate, drawn_gates}
use Rattle.made_netlists.proofs.Drawn.{gate_drawn, state_after_both}
use Rattle.made_netlists.proofs.gate.draw_gates.Goals as goal

pub loop-j-preserved : goal.loop-j-preserved
loop-j-preserved c =
    let seed = c.args.state.now in
    let j = c.loop-j.j in
    let e : 3 * j + 3 ≡ 3 * (j + 1) = omega arith in
    let zeroth : 0 + j ≡ j = omega arith in
    let gate : c.draw_gate.result ≡ drawn_gate seed j =
    gate_drawn seed j c.loop-j.state c.draw_gate.result c.loop-j.invariant.state c.draw_gate.ensures.kind c.draw_gate.ensures.first c.draw_gate.ensures.second c.draw_gate.ensures.out in
    record {
      gates = c.in_ok-push.ensures.items ∙ ap (λ gs. gs ++ c.draw_gate.result ∷ []) c.loop-j.invariant.gates ∙ ap (λ g. drawn_gates seed j ++ g ∷ []) gate ∙ sym (map-range_with_len_more (drawn_gate seed) 0 j j zeroth);
      state = c.draw_gate.ensures.state ∙ ap (λ s. state_after s 3) c.loop-j.invariant.state ∙ state_after_both seed (3 * j) 3 (3 * (j + 1)) e;
      range = c.draw_gate.ensures.range;
    }

pub returns-clause-gates : goal.returns-clause-gates
returns-clause-gates c =
    let e : c.loop-j.j ≡ c.args.size = omega (arith, c.loop-j.auto.j-end, c.loop-j-test.false) in
    c.loop-j.invariant.gates ∙ ap (drawn_gates c.args.state.now) e

pub returns-clause-state : goal.returns-clause-state
returns-clause-state c =
    let e : c.loop-j.j ≡ c.args.size = omega (arith, c.loop-j.auto.j-end, c.loop-j-test.false) in
    c.loop-j.invariant.state ∙ ap (λ j. state_after c.args.state.now (3 * j)) e
