use Rattle.std.proofs.Common.{◌+◌, ◌≤◌, ℕ, ◌∙◌, inl, inr, List, arith}
use Rattle.std.proofs.lemmas.Bool.{cases_lt}
use Rattle.lane_kernel.specs.Around.{AreNextWords}
use Rattle.lane_kernel.proofs.Calm.{same_next}
use Rattle.lane_kernel.proofs.planes.next_words.Goals as goal

-- words that made the step, and more that then make it
grown : (stride : ℕ) (heads tails cells : List ℕ) (first j end : ℕ) (t t' : List ℕ) → first ≤ j → j ≤ end → AreNextWords stride heads tails cells first j t → AreNextWords stride heads t cells j end t' → AreNextWords stride heads tails cells first end t'
grown stride heads tails cells first j end t t' fj je was more =
    record {
      long = more.long ∙ was.long;
      inside = λ i ge lt.
          elim (cases_lt i j) [
            | inl front ↦ more.outside i (inl front) ∙ was.inside i ge front
            | inr back ↦ more.inside i back lt ∙ same_next stride heads t tails cells i (was.outside i (inr back))
          ];
      outside = λ i out.
          elim out [
            | inl lt ↦ more.outside i (inl (omega (arith, lt, fj))) ∙ was.outside i (inl lt)
            | inr past ↦ more.outside i (inr past) ∙ was.outside i (inr (omega (arith, je, past)))
          ];
    }

pub loop-i-preserved-then-end-i-ge4 : goal.loop-i-preserved-then-end-i-ge4
loop-i-preserved-then-end-i-ge4 c =
    let l = c.loop-i in
    record {
      from = omega (arith, l.invariant.from);
      within = omega (arith, c.if-end-i-ge4.true);
      stepped = grown c.args.stride c.args.heads.now c.args.tails.now c.args.cells.now c.args.first l.i (l.i + 4) l.tails c.next_four.new.tails l.invariant.from (omega arith) l.invariant.stepped c.next_four.ensures;
    }
