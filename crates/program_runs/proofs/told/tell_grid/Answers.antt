use Rattle.std.proofs.Common.{◌≡◌, ℕ, List, ◌++◌, ap₂, ◌∙◌, codes}
use Rattle.program_runs.proofs.SameTexts.{told}
use Rattle.program_runs.proofs.told.tell_grid.Goals as goal

abbrev grid_line : List ℕ → List ℕ → List ℕ
grid_line width height = codes "too large: grid " ++ (width ++ (codes " by " ++ (height ++ codes "\n")))

same_grid : (a b m n : List ℕ) → a ≡ b → m ≡ n → grid_line a m ≡ grid_line b n
same_grid a b m n e f = ap₂ grid_line e f

pub returns : goal.returns
returns g c =
    let e = c.write_pieces.ensures in
    told _ _ _ _ _ (same_grid _ _ _ _ (c.as_bytes-x.ensures.value ∙ c.format.ensures.text) (c.as_bytes-y.ensures.value ∙ c.format-2.ensures.text)) e.ok e.front e.cause
