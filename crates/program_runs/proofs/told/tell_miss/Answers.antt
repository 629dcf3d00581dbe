use Rattle.std.proofs.Common.{◌≡◌, ℕ, List, ◌++◌, ap, ap₂, ◌∙◌, codes}
use Rattle.program_runs.proofs.SameTexts.{told}
use Rattle.program_runs.proofs.told.tell_miss.Goals as goal

abbrev miss_line : List ℕ → List ℕ → List ℕ → List ℕ
miss_line generation x y = codes "not quiet: generation " ++ (generation ++ (codes " cell " ++ (x ++ (codes " " ++ (y ++ codes "\n")))))

same_miss : (a b m n v w : List ℕ) → a ≡ b → m ≡ n → v ≡ w → miss_line a m v ≡ miss_line b n w
same_miss a b m n v w e f g = ap₂ (λ (x y : List ℕ). miss_line x y v) e f ∙ ap (miss_line b n) g

pub returns : goal.returns
returns g c =
    let e = c.write_pieces.ensures in
    told _ _ _ _ _
    (same_miss _ _ _ _ _ _ (c.as_bytes-when.ensures.value ∙ c.format.ensures.text) (c.as_bytes-column.ensures.value ∙ c.format-2.ensures.text) (c.as_bytes-row.ensures.value ∙ c.format-3.ensures.text))
    e.ok e.front e.cause
