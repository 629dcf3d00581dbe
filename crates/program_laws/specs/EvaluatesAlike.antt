-- Netlists that one text carries evaluate alike: so what `lift` writes of what `compile` wrote
-- evaluates as the netlist that was compiled.
use Rattle.std.specs.Prelude.{ℕ, ◌≡◌, List, []}
use Rattle.netlist_core.specs.declared.model.Design.{Design}
use Rattle.netlist_text.specs.NetlistText.{IsNetlist}
use Rattle.carries.specs.Carries.{Carries}
use Rattle.command_words.specs.Shapes.{compile, eval, lift}
use Rattle.blifww_tool.specs.Commands.{Prints}

-- `eval` prints the same of two netlists that one text carries, under the same words
abbrev pub CarriedEvaluateAlike : Type 0
CarriedEvaluateAlike =
    (text a b : List ℕ) (design other : Design) → IsNetlist a design → IsNetlist b other
    → Carries text design → Carries text other
    → (cycles : ℕ) (words : List (List ℕ)) (of_a of_b : List ℕ)
    → Prints (eval cycles words) a of_a → Prints (eval cycles words) b of_b → of_a ≡ of_b

-- the round trip, without start words
abbrev pub LiftedEvaluateAlike : Type 0
LiftedEvaluateAlike =
    (netlist text lifted : List ℕ) → Prints (compile 1 []) netlist text → Prints lift text lifted
    → (cycles : ℕ) (words : List (List ℕ)) (first second : List ℕ)
    → Prints (eval cycles words) netlist first → Prints (eval cycles words) lifted second
    → first ≡ second
