-- What rows of covers say.
use Rattle.std.proofs.lemmas.Bool.{and_parts, and_from, false_from_ne_true, not-false}
use Rattle.std.proofs.Common.{ℕ, zero, suc, ◌≡◌, ◌≢◌, ◌↔◌, ◌==◌, List, [], ◌∷◌, Bool, true, false, not, Any, Some, refl, sym, ap, ◌∙◌, true≢false}
use Rattle.std.specs.Bool.{Decides}
use Rattle.std.proofs.lemmas.List.Folds.{Any-from_list_any, list_any-from_Any}
use Rattle.std.proofs.lemmas.Option.{none-some, same_Some}
use Rattle.std.proofs.lemmas.Bool.Decides.{Decides-eqb}
use Rattle.netlist_meaning.specs.CoverValue.{fits, product_holds, any_holds, cover_value}
use Rattle.netlist_examples.specs.DesignLaws.{HoldsUnder, CoversSay}

-- a character takes the bit under it
Fits : ℕ → Bool → Type 0
Fits character bit = (character ≡ 49 → bit ≡ true) × (character ≡ 48 → bit ≡ false)

differs-Decides : (a b : ℕ) → Decides (not (a == b)) (a ≢ b)
differs-Decides a b = (
  λ e same. true≢false (sym e ∙ ap not ((Decides-eqb a b).1 same)),
  λ apart. ap not (false_from_ne_true (a == b) (λ e. apart ((Decides-eqb a b).0 e))),
)

fits-Decides : (character : ℕ) (bit : Bool) → Decides (fits character bit) (Fits character bit)
unfolding Fits
fits-Decides character true = (
  λ e. (λ is_1. refl, λ is_0. absurd ((differs-Decides character 48).0 e is_0)),
  λ h. (differs-Decides character 48).1 (λ is_0. true≢false (h.1 is_0)),
)
fits-Decides character false = (
  λ e. (λ is_1. absurd ((differs-Decides character 49).0 e is_1), λ is_0. refl),
  λ h. (differs-Decides character 49).1 (λ is_1. true≢false (sym (h.0 is_1))),
)

product-Decides : (row : List ℕ) (bits : List Bool) → Decides (product_holds row bits) (HoldsUnder row bits)
unfolding Fits
product-Decides [] bits = (λ e column bit is_bit. (λ is_1. absurd (none-some 49 is_1), λ is_0. absurd (none-some 48 is_0)), λ h. refl)
product-Decides (character ∷ row) [] = (λ e column bit is_bit. absurd (none-some bit is_bit), λ h. refl)
product-Decides (character ∷ row) (first ∷ bits) = (
  λ e. holds (and_parts _ _ e).0 ((product-Decides row bits).0 (and_parts _ _ e).1),
  λ h. and_from _ _ ((fits-Decides character first).1 ((λ is_1. (h 0 first refl).0 (ap Some is_1)), λ is_0. (h 0 first refl).1 (ap Some is_0))) ((product-Decides row bits).1 (λ column. h (suc column))),
)
  where
    holds : fits character first ≡ true → HoldsUnder row bits → HoldsUnder (character ∷ row) (first ∷ bits)
    holds e rest zero bit is_bit =
        let fit = (fits-Decides character first).0 e in
        let same : first ≡ bit = same_Some _ _ is_bit in
        (λ is_1. sym same ∙ fit.0 (same_Some _ _ is_1), λ is_0. sym same ∙ fit.1 (same_Some _ _ is_0))
    holds e rest (suc column) bit is_bit = rest column bit is_bit

any-holds : (rows : List (List ℕ)) (bits : List Bool) → (any_holds rows bits ≡ true) ↔ Any (λ row. HoldsUnder row bits) rows
any-holds rows bits = (
  λ e. let (k, row, lt, is, h) = Any-from_list_any (λ row. product_holds row bits) rows e in (k, row, lt, is, (product-Decides row bits).0 h),
  λ h. list_any-from_Any (λ row. product_holds row bits) rows (h.0, h.1, h.2, h.3, (product-Decides h.1 bits).1 h.4),
)

on_is : (rows : List (List ℕ)) (bits : List Bool) → cover_value rows true bits ≡ any_holds rows bits
on_is [] bits = refl
on_is (row ∷ rows) bits = refl

off_is : (rows : List (List ℕ)) (bits : List Bool) → rows ≢ [] → cover_value rows false bits ≡ not (any_holds rows bits)
off_is [] bits some = absurd (some refl)
off_is (row ∷ rows) bits some = refl

pub covers_say : CoversSay
covers_say =
    record {
      on = λ rows bits. (λ e. (any-holds rows bits).0 (sym (on_is rows bits) ∙ e), λ h. on_is rows bits ∙ (any-holds rows bits).1 h);
      no_rows = λ on bits. refl;
      off = λ rows bits some. (λ e. (any-holds rows bits).0 (not-false _ (sym (off_is rows bits some) ∙ e)), λ h. off_is rows bits some ∙ ap not ((any-holds rows bits).1 h));
    }
