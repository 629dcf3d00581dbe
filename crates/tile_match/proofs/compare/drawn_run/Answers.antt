use Rattle.std.proofs.Common.{◌≡◌, sym, subst, ◌+◌, ◌-◌, ◌≤◌, List, true, arith}
use Rattle.std.specs.Prelude.{All}
use Rattle.ww_rule.specs.declared.pattern.State.{State}
use Rattle.tile_match.proofs.Drawn.{run_span, span_run}
use Rattle.tile_match.proofs.compare.drawn_run.Goals as goal

pub returns-then-are_all-clause-drawn : goal.returns-then-are_all-clause-drawn
returns-then-are_all-clause-drawn c =
    let within : c.args.x + c.run_in-state.result.1 ≤ c.args.until = omega (arith, c.run_in-state.ensures.run.within, c.requires.some) in (
      c.run_in-state.ensures.run.some,
      c.run_in-state.ensures.in_block,
      within,
      run_span c.args.plan.now c.args.cells.now c.args.y c.args.x (c.args.until - c.args.x) c.run_in-state.result.1 c.run_in-state.result.0 c.run_in-state.ensures.run
          (omega (arith, within, c.requires.in_row))
          (subst (λ (part : List State). All (λ cell. cell ≡ c.run_in-state.result.0) part) c.cells_from.ensures (c.are_all.ensures.0 c.if-are_all.true)),
    )

pub returns-else-are_all-clause-other : goal.returns-else-are_all-clause-other
returns-else-are_all-clause-other c = λ s.
    let within : c.args.x + c.run_in-state.result.1 ≤ c.args.until = omega (arith, c.run_in-state.ensures.run.within, c.requires.some) in
    let yes : c.are_all.result ≡ true =
    c.are_all.ensures.1
    (subst (λ (part : List State). All (λ cell. cell ≡ c.run_in-state.result.0) part) (sym c.cells_from.ensures)
    (span_run c.args.plan.now c.args.cells.now c.args.y c.args.x (c.args.until - c.args.x) c.run_in-state.result.1 c.run_in-state.result.0 c.args.until c.run_in-state.ensures.run within c.requires.in_row s)) in
    cc
