use Rattle.std.proofs.Common.{◌≡◌, refl, subst, ◌/◌, arith}
use Rattle.std.proofs.lemmas.Bool.{false≢true}
use Rattle.plan_layout.specs.Slots.{slot_of}
use Rattle.plan_layout.specs.Tape.{drawn_tiling}
use Rattle.tile_match.proofs.Drawn.{span_join, span_part}
use Rattle.tile_match.proofs.compare.is_span_drawn.Goals as goal

pub drawn_run-requires-clause-slot : goal.drawn_run-requires-clause-slot
drawn_run-requires-clause-slot c =
    let same : c.args.from / 32 ≡ c.loop-x.x / 32 = omega (arith, c.loop-x.invariant.begun, c.loop-x-test.true, c.requires.in_block) in
    subst (λ n. slot_of c.args.slot ≡ drawn_tiling c.args.plan.now n (c.args.y / 16)) same c.requires.slot

pub loop-x-preserved : goal.loop-x-preserved
loop-x-preserved c =
    record {
      begun = omega (arith, c.loop-x.invariant.begun);
      drawn = span_join c.args.plan.now c.args.cells.now c.args.y c.args.from c.loop-x.x _ c.loop-x.invariant.drawn c.in-Some.ensures.drawn.3;
    }

pub returns-in_default : goal.returns-in_default
returns-in_default c = (
  λ no. absurd (false≢true no),
  λ s. absurd (c.in_default.ensures.other (span_part c.args.plan.now c.args.cells.now c.args.y c.args.from c.args.until c.loop-x.x c.args.until c.loop-x.invariant.begun (omega arith) s)),
)

pub returns : goal.returns
returns c = (
  λ yes. span_part c.args.plan.now c.args.cells.now c.args.y c.args.from c.loop-x.x c.args.from c.args.until (omega arith) (omega (arith, c.loop-x-test.false)) c.loop-x.invariant.drawn,
  λ s. refl,
)
