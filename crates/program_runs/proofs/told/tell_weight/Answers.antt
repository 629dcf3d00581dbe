use Rattle.std.proofs.Common.{◌≡◌, ℕ, List, ◌++◌, ap₂, ◌∙◌, codes}
use Rattle.program_runs.proofs.SameTexts.{told}
use Rattle.program_runs.proofs.told.tell_weight.Goals as goal

abbrev weight_line : List ℕ → List ℕ → List ℕ
weight_line weight limit = codes "too large: weight " ++ (weight ++ (codes " limit " ++ (limit ++ codes "\n")))

same_weight : (a b m n : List ℕ) → a ≡ b → m ≡ n → weight_line a m ≡ weight_line b n
same_weight a b m n e f = ap₂ weight_line e f

pub returns : goal.returns
returns g c =
    let e = c.write_pieces.ensures in
    told _ _ _ _ _ (same_weight _ _ _ _ (c.as_bytes-count.ensures.value ∙ c.format.ensures.text) (c.as_bytes-limit.ensures.value ∙ c.format-2.ensures.text)) e.ok e.front e.cause
