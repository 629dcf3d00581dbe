use Rattle.std.proofs.Common.{sym, ◌∙◌, false, map, arith}
use Rattle.std.specs.Prelude.{slice_get, unwrap_or}
use Rattle.std.proofs.lemmas.Bool.{and_from}
use Rattle.std.proofs.lemmas.Bool.Decides.{nat_tests}
use Rattle.lane_core.proofs.TapeBits.{bit_there, no_bit}
use Rattle.lane_core.proofs.tape.has_bit.Goals as goal

pub returns-then-is_set : goal.returns-then-is_set
returns-then-is_set c =
    let bits = map (λ bits. unwrap_or (slice_get bits c.args.cycle) false) c.args.tape.now in
    sym (bit_there c.args.ins.now bits c.args.lane c.loop-i.i (omega arith)
    (and_from _ _ (grind (arith, nat_tests)) (sym c.is_set.ensures ∙ c.if-is_set.true)))

pub returns : goal.returns
returns c =
    let bits = map (λ bits. unwrap_or (slice_get bits c.args.cycle) false) c.args.tape.now in
    sym (no_bit c.args.ins.now bits c.args.lane (λ k within. c.loop-i.invariant k (omega (arith, within))))
