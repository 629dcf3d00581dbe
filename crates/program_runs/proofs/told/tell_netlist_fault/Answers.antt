use Rattle.std.proofs.Common.{◌≡◌, ap, ap₂, ◌∙◌, ℕ, List}
use Rattle.std.specs.Prelude.{decimal}
use Rattle.program_runs.specs.Refusals.{fault_text}
use Rattle.program_runs.proofs.SameTexts.{told}
use Rattle.program_runs.proofs.told.tell_netlist_fault.Goals as goal

same_fault : (a b m n k l v w : List ℕ) → a ≡ b → m ≡ n → k ≡ l → v ≡ w → fault_text a m k v ≡ fault_text b n l w
same_fault a b m n k l v w e f g h = ap₂ (λ (x y : List ℕ). fault_text x y k v) e f ∙ ap₂ (λ (x y : List ℕ). fault_text b n x y) g h

pub returns : goal.returns
returns g c =
    let e = c.write_fault.ensures in
    told _ _ _ _ _
    (same_fault _ _ _ _ _ _ _ _ (c.as_bytes-number.ensures.value ∙ c.format.ensures.text ∙ ap decimal c.number.ensures) (c.as_bytes-name.ensures.value ∙ c.name.ensures)
    (c.as_bytes-line.ensures.value ∙ c.format-2.ensures.text) c.as_slice.ensures)
    e.ok e.front e.cause
