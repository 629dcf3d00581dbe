use Rattle.std.proofs.Common.{◌∙◌, sym, arith, below_more}
use Rattle.gate_laws.proofs.Lit.{lit_from, dark_from}
use Rattle.gate_laws.proofs.window.is_lit.Goals as goal

pub returns-then-is_lit_number : goal.returns-then-is_lit_number
returns-then-is_lit_number c =
    sym (lit_from c.args.ins.now c.args.bits.now c.args.generation c.args.x c.args.y c.loop-i.i c.loop-i-test.true (sym c.is_lit_number.ensures ∙ c.if-is_lit_number.true))

pub returns : goal.returns
returns c = sym (dark_from c.args.ins.now c.args.bits.now c.args.generation c.args.x c.args.y (λ k h. c.loop-i.invariant k (omega arith)))

pub loop-i-preserved : goal.loop-i-preserved
loop-i-preserved c = below_more _ _ c.loop-i.invariant (sym c.is_lit_number.ensures ∙ c.if-is_lit_number.false)
