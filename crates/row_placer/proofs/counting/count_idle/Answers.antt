use Rattle.std.proofs.Common.{◌≡◌, ℕ, List, get_or, sym, ◌∙◌, ap, ap₂, ◌+◌, length, arith}
use Rattle.row_placer.specs.Uses.{unused}
use Rattle.row_placer.proofs.Starts.{idle_more, unused_small}
use Rattle.row_placer.proofs.counting.count_idle.Goals as goal

pub unused-idle-requires : goal.unused-idle-requires
unused-idle-requires c = omega (arith, c.loop-value-test.true, c.requires, c.loop-value.invariant.2, ap length c.as_slice-uses.ensures.value)

pub loop-value-preserved : goal.loop-value-preserved
loop-value-preserved c =
    let i = c.loop-value.invariant in
    let left = c.args.left.now.items in
    let v = c.loop-value.value in
    let small = unused_small v left in
    let one : c.unused-idle.result ≡ unused (get_or left v 0) = c.unused-idle.ensures ∙ ap (λ (uses : List ℕ). unused (get_or uses v 0)) c.as_slice-uses.ensures.value in (
      ap₂ (λ a b. a + b) i.0 one ∙ sym (idle_more left v),
      omega (arith, i.1, one, small),
      omega (arith, c.loop-value-test.true),
    )
