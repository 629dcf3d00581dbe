use Rattle.std.proofs.Common.{rules, ◌≡◌, refl, ◌∙◌, subst, ap₂, ◌+◌, ◌*◌, ◌/◌, List, true, arith}
use Rattle.ww_rule.specs.declared.pattern.State.{State}
use Rattle.plan_layout.specs.Tape.{drawn_tiling}
use Rattle.tile_match.specs.Drawn.{IsSpanDrawn}
use Rattle.tile_match.proofs.Drawn.{no_box, box_more, box_rows}
use Rattle.tile_match.proofs.compare.is_block_drawn.Goals as goal

pub is_span_drawn-requires-clause-slot : goal.is_span_drawn-requires-clause-slot
is_span_drawn-requires-clause-slot c =
    let column : c.args.column ≡ 32 * c.args.column / 32 = omega arith in
    let lane : c.args.lane ≡ c.loop-y.y / 16 = omega (arith, c.loop-y.auto.y, c.loop-y-test.true) in
    c.requires.block.stands ∙ ap₂ (λ q l. drawn_tiling c.args.plan.now q l) column lane

pub loop-y-init : goal.loop-y-init
loop-y-init c = no_box c.args.plan.now c.args.rows.now (16 * c.args.lane) (16 * c.args.lane) (32 * c.args.column) c.args.until (omega arith)

pub loop-y-preserved : goal.loop-y-preserved
loop-y-preserved c =
    let yes : c.is_span_drawn.result ≡ true = search rules in
    box_more c.args.plan.now c.args.rows.now (16 * c.args.lane) c.loop-y.y (32 * c.args.column) c.args.until c.loop-y.invariant
    (subst (λ (cells : List State). IsSpanDrawn c.args.plan.now cells c.loop-y.y (32 * c.args.column) c.args.until) c.row.ensures (c.is_span_drawn.ensures.0 yes))

pub returns : goal.returns
returns c = (
  λ yes. box_rows c.args.plan.now c.args.rows.now (16 * c.args.lane) c.loop-y.y (32 * c.args.column) c.args.until (16 * c.args.lane) (16 * c.args.lane + 16)
      (omega arith) (omega (arith, c.loop-y-test.false)) c.loop-y.invariant,
  λ s. refl,
)
