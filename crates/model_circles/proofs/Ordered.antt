-- Where there is an order, no line lies on a circle.
use Rattle.std.proofs.Common.{◌≡◌, sym, subst, ◌∙◌, ℕ, zero, suc, ◌<◌, List, [], ◌∷◌, length, get_or, arith}
use Rattle.std.proofs.lemmas.List.{get_or_default}
use Rattle.netlist_core.specs.declared.model.Model.{Model}
use Rattle.model_index.specs.Numbers.{Places, PlacesSomewhere, LeadsBy}
use Rattle.model_index.specs.Order.{IsModelOrder}
use Rattle.model_circles.specs.Ways.{LeadsBackBy, LiesOnCircle}

-- a model stands at an earlier place than another
abbrev IsEarlier : List ℕ → ℕ → ℕ → Type 0
IsEarlier order i inner = (j : ℕ) × (j < i) × (get_or order j 0 ≡ inner)

step_down : (models : List Model) (order : List ℕ) → IsModelOrder models order → (x inner i : ℕ) → i < length order → get_or order i 0 ≡ x → PlacesSomewhere models x inner → IsEarlier order i inner
step_down models order o x inner i l e (k, p) = o.after i k inner l (subst (λ v. Places models v k inner) (sym e) p)

go_down : (models : List Model) (order : List ℕ) → IsModelOrder models order → (x : ℕ) (numbers : List ℕ) (end i : ℕ) → i < length order → get_or order i 0 ≡ x → LeadsBy models x numbers end → IsEarlier order i end
go_down models order o x [] end i l e p = step_down models order o x end i l e p
go_down models order o x (next ∷ numbers) end i l e (p, rest) =
    let (j, less, at) = step_down models order o x next i l e p in
    let (h, lower, there) = go_down models order o next numbers end j (omega arith) at rest in
    (h, omega arith, there)

around : (models : List Model) (order : List ℕ) → IsModelOrder models order → (n k i : ℕ) → LiesOnCircle models n k → i < length order → get_or order i 0 ≡ n → IsEarlier order i n
around models order o n k i c l e =
    let (j, less, at) = step_down models order o n c.inner i l e (k, c.placed) in
    by c.inner c.numbers j less at c.leads
  where
    by : (inner : ℕ) (numbers : List ℕ) (j : ℕ) → j < i → get_or order j 0 ≡ inner → LeadsBackBy models inner numbers n → IsEarlier order i n
    by inner [] j less at same = (j, less, at ∙ same)
    by inner (next ∷ numbers) j less at (same, rest) =
        let (h, lower, there) = go_down models order o next numbers n j (omega arith) (at ∙ same) rest in
        (h, omega arith, there)

-- so it would stand at ever earlier places
falls : (models : List Model) (order : List ℕ) → IsModelOrder models order → (n k f i : ℕ) → LiesOnCircle models n k → i < f → i < length order → get_or order i 0 ≡ n → ⊥
falls models order o n k zero i c h l e = absurd (omega arith)
falls models order o n k (suc f) i c h l e =
    let (j, less, at) = around models order o n k i c l e in
    falls models order o n k f j c (omega arith) (omega arith) at

pub none_lies : (models : List Model) (order : List ℕ) → IsModelOrder models order → (n k : ℕ) → n < length models → ¬ LiesOnCircle models n k
none_lies models order o n k l c =
    let (i, within, at) = o.all n l in
    falls models order o n k (suc i) i c (omega arith) within (get_or_default order i 0 n within ∙ at)
