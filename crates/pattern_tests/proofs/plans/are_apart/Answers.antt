use Rattle.std.proofs.Common.{rules, IsTrue, ◌<◌, length, List, [], ◌∷◌, arith}
use Rattle.lane_core.specs.declared.instr.Instr.{Instr}
use Rattle.lane_core.specs.Instrs.{are_sorted_apart}
use Rattle.pattern_tests.proofs.plans.are_apart.Goals as goal

few : (instrs : List Instr) → length instrs < 2 → IsTrue (are_sorted_apart instrs)
few [] h = search rules
few (i ∷ []) h = search rules
few (i ∷ j ∷ rest) h = absurd (omega arith)

pub returns-then-instrs-lt2 : goal.returns-then-instrs-lt2
returns-then-instrs-lt2 c = λ _. few c.args.instrs.now (omega arith)
