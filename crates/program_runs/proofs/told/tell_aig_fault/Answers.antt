use Rattle.std.proofs.Common.{◌≡◌, ap, ap₂, ◌∙◌, ℕ, List}
use Rattle.std.specs.Prelude.{decimal}
use Rattle.program_runs.specs.Refusals.{aig_fault_text}
use Rattle.program_runs.proofs.SameTexts.{told}
use Rattle.program_runs.proofs.told.tell_aig_fault.Goals as goal

same_fault : (a b m n k l : List ℕ) → a ≡ b → m ≡ n → k ≡ l → aig_fault_text a m k ≡ aig_fault_text b n l
same_fault a b m n k l e f g = ap₂ (λ (x y : List ℕ). aig_fault_text x y k) e f ∙ ap (aig_fault_text b n) g

pub returns : goal.returns
returns g c =
    let e = c.write_aig_fault.ensures in
    told _ _ _ _ _
    (same_fault _ _ _ _ _ _ (c.as_bytes-number.ensures.value ∙ c.format.ensures.text ∙ ap decimal c.number.ensures) (c.as_bytes-name.ensures.value ∙ c.name.ensures)
    (c.as_bytes-line.ensures.value ∙ c.format-2.ensures.text))
    e.ok e.front e.cause
