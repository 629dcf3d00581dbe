use Rattle.std.proofs.Common.{◌≡◌, ◌∙◌, ap, sym, subst, length, arith, below_more}
use Rattle.gate_laws.specs.Signals.{IsReady}
use Rattle.tile_timing.specs.Window.{shown}
use Rattle.gate_laws.specs.Gates.{used, IsCalmCell}
use Rattle.gate_laws.specs.Drawings.{window_gate, ArePortsInTime}
use Rattle.gate_laws.proofs.Windows.{calm_from, ready_from, answers_from, early_from, used_more}
use Rattle.gate_laws.proofs.window.answers_in_time.Goals as goal

pub loop-generation-init : goal.loop-generation-init
loop-generation-init c =
    record { shows = c.light.ensures.shows; in_time = λ g h. absurd (omega arith); ready = λ g h. absurd (omega arith) }

pub loop-generation-preserved : goal.loop-generation-preserved
loop-generation-preserved c =
    let gate = window_gate c.args.base.now c.args.width c.args.ins.now c.args.outs.now c.args.time in
    record {
      shows = used_more gate c.args.bits.now c.loop-generation.generation _ _ _ c.loop-generation.invariant.shows c.window_step.ensures.next c.light-in-loop-generation.ensures.shows;
      in_time = below_more _ _ c.loop-generation.invariant.in_time (subst (λ p. ArePortsInTime p c.args.ins.now c.args.bits.now c.args.outs.now c.loop-generation.generation) c.loop-generation.invariant.shows (c.is_in_time.ensures c.if-not-is_in_time.false));
      ready = below_more _ _ c.loop-generation.invariant.ready (λ port among at. subst (λ p. IsReady p port.0) c.loop-generation.invariant.shows (ready_from c.args.width c.args.ins.now c.loop-generation.now _ (c.are_ready.ensures c.if-not-are_ready.false) port among (at ∙ sym c.next_time.ensures)));
    }

pub returns : goal.returns
returns c = λ t.
    let long = c.requires.sized.long in
    let same : length c.loop-generation.now ≡ length c.args.base.now = omega arith in
    let end : c.loop-generation.generation ≡ c.args.time = omega arith in
    let gate = window_gate c.args.base.now c.args.width c.args.ins.now c.args.outs.now c.args.time in
    let shows : shown c.loop-generation.now c.args.width ≡ used gate c.args.bits.now c.args.time = c.loop-generation.invariant.shows ∙ ap (used gate c.args.bits.now) end in
    answers_from c.args.base.now c.args.width c.args.ins.now c.args.outs.now c.args.time c.args.bits.now long
    (early_from c.args.ins.now c.args.time c.requires.cells.early)
    (λ g low. c.loop-generation.invariant.in_time g (omega (arith, low, end)))
    (λ g low. c.loop-generation.invariant.ready g (omega (arith, low, end)))
    (λ cell. subst (λ p. IsCalmCell gate p cell) shows (calm_from c.args.width c.args.ins.now c.args.base.now c.loop-generation.now same (c.is_calm.ensures t) c.args.outs.now c.args.time cell))
