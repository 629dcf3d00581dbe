use Rattle.std.proofs.Common.{◌≡◌, ◌<◌, ◌≤◌, ◌∙◌, ap, ap₂, sym, ℕ, List, [], ◌∷◌, length, get_or, map, arith}
use Rattle.std.specs.Cmp.Lexicographic.{same_text}
use Rattle.wwroute_tool.proofs.words.command_of.Goals as goal

-- two items, of which the second is x
two_items : {A : Type 0} (f : A → List ℕ) (items : List A) (x : A) (name : List ℕ) → 2 ≤ length items → length items < 3 → x ≡ get_or items 1 x → f x ≡ name
    → (first : List ℕ) × (map f items ≡ first ∷ name ∷ [])
two_items f [] x name most less is same = absurd (omega (arith, most))
two_items f (a ∷ []) x name most less is same = absurd (omega (arith, most))
two_items f (a ∷ b ∷ []) x name most less is same = (f a, ap (λ (n : List ℕ). f a ∷ n ∷ []) (ap f (sym is) ∙ same))
two_items f (a ∷ b ∷ c ∷ rest) x name most less is same = absurd (omega (arith, less))

-- three items, of which the second is x and the third y
three_items : {A : Type 0} (f : A → List ℕ) (items : List A) (x y : A) (name option : List ℕ) → 3 ≤ length items → length items < 4 → x ≡ get_or items 1 x → y ≡ get_or items 2 y → f x ≡ name → f y ≡ option
    → (first : List ℕ) × (map f items ≡ first ∷ name ∷ option ∷ [])
three_items f [] x y name option most less is at same alike = absurd (omega (arith, most))
three_items f (a ∷ []) x y name option most less is at same alike = absurd (omega (arith, most))
three_items f (a ∷ b ∷ []) x y name option most less is at same alike = absurd (omega (arith, most))
three_items f (a ∷ b ∷ c ∷ []) x y name option most less is at same alike = (f a, ap₂ (λ (n m : List ℕ). f a ∷ n ∷ m ∷ []) (ap f (sym is) ∙ same) (ap f (sym at) ∙ alike))
three_items f (a ∷ b ∷ c ∷ d ∷ rest) x y name option most less is at same alike = absurd (omega (arith, less))

pub returns-then-eq-clause-some : goal.returns-then-eq-clause-some
returns-then-eq-clause-some c =
    two_items _ c.args.words.now c.word-item.result _ (omega (arith, c.in-len2.len_at_least)) (omega (arith, c.in-len2.len_below)) c.word-item.is
    (sym c.as_bytes.ensures.value ∙ same_text _ _ (sym (sym c.eq.ensures ∙ c.if-eq.true)) ∙ c.as_slice.ensures)

pub returns-then-eq-2-clause-some : goal.returns-then-eq-2-clause-some
returns-then-eq-2-clause-some c =
    two_items _ c.args.words.now c.word-item.result _ (omega (arith, c.in-len2.len_at_least)) (omega (arith, c.in-len2.len_below)) c.word-item.is
    (sym c.as_bytes-else-eq.ensures.value ∙ same_text _ _ (sym (sym c.eq-else-eq.ensures ∙ c.if-eq-2.true)) ∙ c.as_slice-else-eq.ensures)

pub returns-then-eq-4-clause-some : goal.returns-then-eq-4-clause-some
returns-then-eq-4-clause-some c =
    three_items _ c.args.words.now c.word-item-then-words-lt4.result c.option-item.result _ _ (omega (arith, c.in-len3.len_at_least)) (omega (arith, c.in-len3.len_below)) c.word-item-then-words-lt4.is c.option-item.is
    (sym c.as_bytes-in-len3.ensures.value ∙ same_text _ _ (sym (sym c.eq-in-len3.ensures ∙ c.if-eq-3.true)) ∙ c.as_slice-in-len3.ensures)
    (sym c.as_bytes-then-eq-3.ensures.value ∙ same_text _ _ (sym (sym c.eq-then-eq-3.ensures ∙ c.if-eq-4.true)) ∙ c.as_slice-then-eq-3.ensures)
