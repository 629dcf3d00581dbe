use Rattle.std.proofs.Common.{◌≡◌, ℕ, List, ◌++◌, ap₂, ◌∙◌, codes}
use Rattle.program_runs.proofs.SameTexts.{told}
use Rattle.program_runs.proofs.told.tell_contexts.Goals as goal

abbrev contexts_line : List ℕ → List ℕ → List ℕ
contexts_line contexts limit = codes "too large: contexts " ++ (contexts ++ (codes " limit " ++ (limit ++ codes "\n")))

same_contexts : (a b m n : List ℕ) → a ≡ b → m ≡ n → contexts_line a m ≡ contexts_line b n
same_contexts a b m n e f = ap₂ contexts_line e f

pub returns : goal.returns
returns g c =
    let e = c.write_pieces.ensures in
    told _ _ _ _ _ (same_contexts _ _ _ _ (c.as_bytes-count.ensures.value ∙ c.format.ensures.text) (c.as_bytes-limit.ensures.value ∙ c.format-2.ensures.text)) e.ok e.front e.cause
