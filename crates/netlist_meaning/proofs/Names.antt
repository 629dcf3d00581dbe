-- Names that are one, or two.
use Rattle.std.proofs.Common.{◌≡◌, List, [], ◌∷◌, length, get_or, Option, Some, None, option_and_then, Contains, refl, sym, ap, ◌∙◌, arith}
use Rattle.std.proofs.lemmas.Option.{none-some}

-- what `and_then` found, it found in something
pub and_then-from : {X Y : Type 0} (f : X → Option Y) (o : Option X) (y : Y) → option_and_then f o ≡ Some y → (x : X) × (o ≡ Some x) × (f x ≡ Some y)
and_then-from f None y e = absurd (none-some y e)
and_then-from f (Some x) y e = (x, refl, e)

-- an element of a list of one
pub contains-one : {X : Type 0} (xs : List X) (y x : X) → xs ≡ y ∷ [] → Contains xs x → x ≡ y
contains-one xs y x e (k, lt, is) =
    let one : length xs ≡ 1 = ap length e in
    let at_0 : k ≡ 0 = omega arith in
    sym is ∙ ap (λ j. get_or xs j x) at_0 ∙ ap (λ zs. get_or zs 0 x) e
