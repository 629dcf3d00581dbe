-- The bytes of an item.
use Rattle.std.proofs.Common.{◌≡◌, ◌+◌, ℕ, List, [], ◌∷◌, ◌++◌, length, length-append, sym, ap, ◌∙◌, append_assoc}
use Rattle.pattern_writing.specs.Writer.{count_text, run_text}

-- an item is the digits of its count, and its tag
pub item_long : (count tag : ℕ) (digits : List ℕ) → digits ≡ count_text count → length (run_text record { count = count; tag = tag }) ≡ length digits + 1
item_long count tag digits e = length-append (count_text count) (tag ∷ []) ∙ ap (λ d. length d + 1) (sym e)

pub item_cut : (here before digits rest : List ℕ) (count tag : ℕ) → digits ≡ count_text count
    → here ++ ((before ++ run_text record { count = count; tag = tag }) ++ rest) ≡ here ++ (before ++ (digits ++ (tag ∷ rest)))
item_cut here before digits rest count tag e =
    ap (λ l. here ++ l)
    (append_assoc before (count_text count ++ (tag ∷ [])) rest
    ∙ ap (λ l. before ++ l) (append_assoc (count_text count) (tag ∷ []) rest ∙ ap (λ d. d ++ (tag ∷ rest)) (sym e)))
