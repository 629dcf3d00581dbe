use Rattle.std.proofs.Common.{◌≡◌, sym, ◌∙◌, ap, subst, ◌+◌, ◌-◌, ◌<◌, ◌++◌, ◌∷◌, length, get_or, drop, arith}
use Rattle.std.proofs.lemmas.List.{length-set}
use Rattle.row_placer.specs.declared.job.NumberedCell.{NumberedCell}
use Rattle.row_placer.specs.declared.job.CellKind.TheVariants.{Or}
use Rattle.row_placer.specs.Uses.{times, unused, uses_of, AreCounted}
use Rattle.row_placer.proofs.Counts.{counted_more, needed, need_small, few_uses, length-pending, owed_more, front}
use Rattle.row_placer.proofs.counting.count_all.Goals as goal

abbrev none : NumberedCell
none = record { kind = Or; first = 0; second = 0 }

pub add_use-second-requires-clause-few : goal.add_use-second-requires-clause-few
add_use-second-requires-clause-few c =
    let i = c.loop-at.invariant in
    let n = c.loop-at.at in
    let gates = c.args.gates.now in
    let ports = c.args.ports.now in
    let more : 0 < n = omega (arith, c.loop-at-test.true) in
    let back : (n - 1) + 1 ≡ n = omega (arith, more) in
    let gate = get_or gates (n - 1) none in
    let us = uses_of (drop n gates) ++ ports in
    let reads = c.requires.gates (n - 1) none (omega (arith, more, i.3)) in
    let long = length-pending gates ports n i.3 in
    let low : gate.second < length c.loop-at.left = omega (arith, reads.1, i.1) in
    let few = few_uses c.loop-at.left us gate.second low i.0 in
    omega (arith, few, long, c.requires.few)

pub add_use-first-requires-clause-few : goal.add_use-first-requires-clause-few
add_use-first-requires-clause-few c =
    let i = c.loop-at.invariant in
    let n = c.loop-at.at in
    let gates = c.args.gates.now in
    let ports = c.args.ports.now in
    let more : 0 < n = omega (arith, c.loop-at-test.true) in
    let back : (n - 1) + 1 ≡ n = omega (arith, more) in
    let gate = get_or gates (n - 1) none in
    let us = uses_of (drop n gates) ++ ports in
    let reads = c.requires.gates (n - 1) none (omega (arith, more, i.3)) in
    let long = length-pending gates ports n i.3 in
    let low : gate.second < length c.loop-at.left = omega (arith, reads.1, i.1) in
    let e = c.add_use-second.ensures in
    let counted = counted_more c.loop-at.left c.add_use-second.new.left us gate.second low e.left i.0 in
    let wide : length c.add_use-second.new.left ≡ c.args.base + length gates = ap length e.left ∙ length-set c.loop-at.left gate.second (get_or c.loop-at.left gate.second 0 + 1) ∙ i.1 in
    let low' : gate.first < length c.add_use-second.new.left = omega (arith, reads.0, wide) in
    let few = few_uses c.add_use-second.new.left (gate.second ∷ us) gate.first low' counted in
    omega (arith, few, long, more, c.requires.few)

pub loop-at-preserved : goal.loop-at-preserved
loop-at-preserved c =
    let i = c.loop-at.invariant in
    let n = c.loop-at.at in
    let gates = c.args.gates.now in
    let ports = c.args.ports.now in
    let more : 0 < n = omega (arith, c.loop-at-test.true) in
    let back : (n - 1) + 1 ≡ n = omega (arith, more) in
    let gate = get_or gates (n - 1) none in
    let us = uses_of (drop n gates) ++ ports in
    let reads = c.requires.gates (n - 1) none (omega (arith, more, i.3)) in
    let long = length-pending gates ports n i.3 in
    let low : gate.second < length c.loop-at.left = omega (arith, reads.1, i.1) in
    let e = c.add_use-second.ensures in
    let counted = counted_more c.loop-at.left c.add_use-second.new.left us gate.second low e.left i.0 in
    let wide : length c.add_use-second.new.left ≡ c.args.base + length gates = ap length e.left ∙ length-set c.loop-at.left gate.second (get_or c.loop-at.left gate.second 0 + 1) ∙ i.1 in
    let low' : gate.first < length c.add_use-second.new.left = omega (arith, reads.0, wide) in
    let f = c.add_use-first.ensures in
    let list : drop (n - 1) gates ≡ gate ∷ drop n gates = front gates (n - 1) n none back i.3 in
    let a = needed c.add_use-second.new.left (gate.second ∷ us) gate.first c.add_use-first.result low' counted f.need in
    let b = needed c.loop-at.left us gate.second c.add_use-second.result low i.0 e.need in
    let a1 = need_small gate.first (gate.second ∷ us) in
    let b1 = need_small gate.second us in
    let freed : 1 + c.unused-freed.result ≡ 1 + unused (times (c.args.base + (n - 1)) us) =
    ap (λ k. 1 + k) (c.unused-freed.ensures ∙ ap unused (i.0 (c.args.base + (n - 1)) (omega (arith, more, i.1, i.3)))) in (
      subst (λ gs. AreCounted c.add_use-first.new.left (uses_of gs ++ ports)) (sym list) (counted_more c.add_use-second.new.left c.add_use-first.new.left (gate.second ∷ us) gate.first low' f.left counted),
      ap length f.left ∙ length-set c.add_use-second.new.left gate.first (get_or c.add_use-second.new.left gate.first 0 + 1) ∙ wide,
      owed_more ports gates c.args.base (n - 1) n c.loop-at.owed c.add_use-first.result c.add_use-second.result c.saturating_sub.result (1 + c.unused-freed.result) none back i.3 i.2 c.saturating_sub.ensures freed a b,
      omega (arith, i.3),
      omega (arith, a, b, a1, b1, more, i.4, c.saturating_sub.ensures),
    )
