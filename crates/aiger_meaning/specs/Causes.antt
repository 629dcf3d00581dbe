-- Why a circuit has no flat netlist.
use Rattle.std.specs.Prelude.{◌≡◌, ◌<◌, ◌≤◌, ◌^◌, ◌-◌, ◌≢◌, AllPairs, min, ⊤}
use Rattle.netlist_core.specs.Limit.{weight_limit}
use Rattle.aiger_text.specs.declared.aig.Aig.{Aig}
use Rattle.aiger_meaning.specs.declared.error.LowerError.{LowerError}
use Rattle.aiger_meaning.specs.declared.error.LowerError.TheVariants.{TooLarge, Loop, NoMemory}
use Rattle.aiger_meaning.specs.Circuit.{aig_weight}
use Rattle.aiger_meaning.specs.Loop.{IsAigLoop}

-- The weight is over the limit; the answer is the weight, or the greatest u64 if the weight is
-- above that. Or the weight is within the limit and gates read each other in a circle; the answer
-- is their left sides, each once.
abbrev pub HasLowerCause : Aig → LowerError → Type 0
HasLowerCause aig (TooLarge w) =
    (weight_limit < aig_weight aig) × (w ≡ min (aig_weight aig) (2 ^ 64 - 1))
HasLowerCause aig (Loop lits) =
    (aig_weight aig ≤ weight_limit) × IsAigLoop aig lits × AllPairs (λ a b. a ≢ b) lits
HasLowerCause aig NoMemory = ⊤
