use Rattle.std.proofs.Common.{◌≡◌, ◌+◌, ◌∙◌, sym, ap, arith}
use Rattle.plan_layout.specs.Tape.{drawn_tiling}
use Rattle.rle_write.proofs.stretches.figure_of.Goals as goal

pub returns-then-stretch-saturating_add : goal.returns-then-stretch-saturating_add
returns-then-stretch-saturating_add c = λ plan lane size k is. record {
  some = omega arith;
  few = omega arith;
  once = is.some;
  within = omega (arith, is.within);
  again = λ i lt. (
      let next : k + i + 1 ≡ k + (i + 1) = omega arith in
      ap (λ m. drawn_tiling plan m lane) next ∙ sym (is.alike (i + 1) (omega (arith, lt))) ∙ is.alike i (omega (arith, lt)));
}
