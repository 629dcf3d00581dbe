-- With how many `_` names begin, step by step.
use Rattle.std.proofs.Common.{◌≡◌, sym, ap, ◌∙◌, ℕ, ◌+◌, ◌<◌, ◌≤◌, max, List, [], ◌∷◌, ◌++◌, drop, get_or, length, arith, drop_of_length-le}
use Rattle.std.proofs.lemmas.List.{drop_more}
use Rattle.netlist_core.specs.Names.{Name}
use Rattle.lifted_designs.specs.Names.{leading, most_leading}

left_at : {X : Type 0} (xs : List X) (i : ℕ) (x : X) → i < length xs → x ≡ get_or xs i x → drop i xs ≡ x ∷ drop (i + 1) xs
left_at xs i x low is = drop_more xs i x low ∙ ap (λ y. y ∷ drop (i + 1) xs) (sym is)

pub most_next : (names : List Name) (i : ℕ) (name : Name) (most : ℕ) → i < length names → name ≡ get_or names i name
    → max (max most (leading name)) (most_leading (drop (i + 1) names)) ≡ max most (most_leading (drop i names))
most_next names i name most low is =
    let e : max (max most (leading name)) (most_leading (drop (i + 1) names)) ≡ max most (max (leading name) (most_leading (drop (i + 1) names))) = omega arith in
    e ∙ ap (λ left. max most (most_leading left)) (sym (left_at names i name low is))

pub most_none : (names : List Name) (i most : ℕ) → length names ≤ i → most ≡ max most (most_leading (drop i names))
most_none names i most past = let e : most ≡ max most 0 = omega arith in e ∙ ap (λ left. max most (most_leading left)) (sym (drop_of_length-le names past))

pub most_append : (a b : List Name) → most_leading (a ++ b) ≡ max (most_leading a) (most_leading b)
most_append [] b = let e : most_leading b ≡ max 0 (most_leading b) = omega arith in e
most_append (name ∷ a) b =
    let later : most_leading (a ++ b) ≡ max (most_leading a) (most_leading b) = most_append a b in
    let e : max (leading name) (max (most_leading a) (most_leading b)) ≡ max (max (leading name) (most_leading a)) (most_leading b) = omega arith in
    ap (λ m. max (leading name) m) later ∙ e

-- the outputs after the inputs
pub most_of_both : (ins outs : List Name) {of_ins most : ℕ} → of_ins ≡ max 0 (most_leading ins) → most ≡ max of_ins (most_leading outs) → most ≡ most_leading (ins ++ outs)
most_of_both ins outs e f =
    let g : max 0 (most_leading ins) ≡ most_leading ins = omega arith in
    f ∙ ap (λ m. max m (most_leading outs)) (e ∙ g) ∙ sym (most_append ins outs)
