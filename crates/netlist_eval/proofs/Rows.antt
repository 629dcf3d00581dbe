-- The value of a row, as a loop over its characters finds it.
use Rattle.std.proofs.Common.{◌≡◌, refl, sym, ap, ap₂, ◌∙◌, subst, ℕ, ◌+◌, ◌<◌, List, [], ◌∷◌, map, take, length, get_or, arith, Bool, true, false, ◌&&◌, min}
use Rattle.std.specs.Prelude.{zip}
use Rattle.std.specs.List.{list_all}
use Rattle.std.proofs.lemmas.List.{take_all, length-map, same_lists, get_or-map, get_or_default}
use Rattle.std.proofs.lemmas.List.Folds.{list_all_at, list_all_more}
use Rattle.std.proofs.lemmas.Slice.Zip.{length-zip, get_or-zip}
use Rattle.netlist_meaning.specs.CoverValue.{fits, product_holds}
use Rattle.netlist_core.specs.declared.flat.NetId.{NetId}

fits_at : (NetId → Bool) → ℕ × NetId → Bool
fits_at f at = fits at.0 (f at.1)

row_value : (f : NetId → Bool) (row : List ℕ) (ins : List NetId) → product_holds row (map f ins) ≡ list_all (fits_at f) (zip row ins)
unfolding fits_at
row_value f [] ins = refl
row_value f (c ∷ cs) [] = refl
row_value f (c ∷ cs) (n ∷ ns) = ap (λ b. fits c (f n) && b) (row_value f cs ns)

pub row_no : (f : NetId → Bool) (row : List ℕ) (ins : List NetId) (n x : ℕ) (y : NetId) → n < length row → n < length ins → ((d : ℕ) → x ≡ get_or row n d) → ((d : NetId) → y ≡ get_or ins n d) → fits x (f y) ≡ false → false ≡ product_holds row (map f ins)
unfolding fits_at
row_no f row ins n x y a b at_x at_y not_fit =
    let pair : get_or (zip row ins) n (x, y) ≡ (x, y) = get_or-zip row ins n (x, y) a b ∙ ap₂ (λ p q. (p, q)) (sym (at_x x)) (sym (at_y y)) in
    sym (row_value f row ins ∙ list_all_at (fits_at f) (zip row ins) n (x, y) (let e = length-zip row ins in omega (arith, e)) (ap (fits_at f) pair ∙ not_fit))

pub row_more : (f : NetId → Bool) (row : List ℕ) (ins : List NetId) (n x : ℕ) (y : NetId) → n < length row → n < length ins → ((d : ℕ) → x ≡ get_or row n d) → ((d : NetId) → y ≡ get_or ins n d) → fits x (f y) ≡ true
    → list_all (λ at. fits at.0 (f at.1)) (take n (zip row ins)) ≡ true → list_all (λ at. fits at.0 (f at.1)) (take (n + 1) (zip row ins)) ≡ true
unfolding fits_at
row_more f row ins n x y a b at_x at_y fit before =
    let pair : get_or (zip row ins) n (x, y) ≡ (x, y) = get_or-zip row ins n (x, y) a b ∙ ap₂ (λ p q. (p, q)) (sym (at_x x)) (sym (at_y y)) in
    list_all_more (fits_at f) (zip row ins) n (x, y) (let e = length-zip row ins in omega (arith, e)) ∙ ap₂ ◌&&◌ before (ap (fits_at f) pair ∙ fit)

pub row_yes : (f : NetId → Bool) (row : List ℕ) (ins : List NetId) (n : ℕ) → n ≡ min (length row) (length ins) → list_all (λ at. fits at.0 (f at.1)) (take n (zip row ins)) ≡ true → true ≡ product_holds row (map f ins)
unfolding fits_at
row_yes f row ins n e all = sym (row_value f row ins ∙ ap (list_all (fits_at f)) (sym (take_all n (zip row ins) (let l = length-zip row ins in omega (arith, l)))) ∙ all)

-- a list whose elements are told is a map
pub map_told : {X : Type 0} (f : X → Bool) (xs : List X) (e : X) (ys : List Bool) → length ys ≡ length xs → ((k : ℕ) → k < length xs → get_or ys k false ≡ f (get_or xs k e)) → ys ≡ map f xs
map_told f xs e ys same each = same_lists ys (map f xs) (same ∙ sym (length-map xs f))
    (λ k d l. (let less : k < length xs = subst (λ v. k < v) same l in get_or_default ys k d false l ∙ each k less ∙ sym (get_or-map f xs k e d less)))
