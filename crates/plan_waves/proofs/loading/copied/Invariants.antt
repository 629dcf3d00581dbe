use Rattle.std.proofs.Common.{◌≡◌, take}
use Rattle.plan_waves.proofs.loading.copied.Given as goal

abbrev pub invariant-loop-list : goal.invariant-loop-list
invariant-loop-list l = l.copy.items ≡ take l.list-index l.bits
