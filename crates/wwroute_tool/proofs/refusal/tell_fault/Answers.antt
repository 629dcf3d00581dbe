use Rattle.std.proofs.Common.{◌≡◌, ℕ, List, ◌++◌, ap, ap₂, ◌∙◌, codes}
use Rattle.program_runs.proofs.SameTexts.{told}
use Rattle.wwroute_tool.proofs.refusal.tell_fault.Goals as goal

abbrev written_line : (word x y : List ℕ) → List ℕ
written_line word x y = codes "not a circuit: " ++ (word ++ (codes " " ++ (x ++ (codes " " ++ (y ++ codes "\n")))))

same_line : (a b m n k l : List ℕ) → a ≡ b → m ≡ n → k ≡ l → written_line a m k ≡ written_line b n l
same_line a b m n k l e f g = ap₂ (λ (x y : List ℕ). written_line x y k) e f ∙ ap (written_line b n) g

pub returns : goal.returns
returns g c =
    let e = c.write_pieces.ensures in
    told _ _ _ _ _
    (same_line _ _ _ _ _ _ c.fault_word.ensures (c.as_bytes-x.ensures.value ∙ c.format.ensures.text) (c.as_bytes-y.ensures.value ∙ c.format-2.ensures.text))
    e.ok e.front e.cause
