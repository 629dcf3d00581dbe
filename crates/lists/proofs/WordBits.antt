-- A bit of a word operation is the operation on bits.
use Rattle.std.proofs.Common.{◌≡◌, refl, sym, ◌∙◌, ap, subst, ℕ, suc, zero, ◌<◌, ◌==◌, min, max, ◌&&◌, ◌||◌, ◌⊎◌, inl, inr, ⊎_elim, arith, bit_and, bit_or}
use Rattle.std.specs.Int.{bit_at}
use Rattle.std.proofs.lemmas.Nat.Bits.{bit_at-lt, bit_at_and, bit_at_or}
use Rattle.lists.specs.Bits.{has_bit}

digit : (x : ℕ) → x < 2 → (x ≡ 0) ⊎ (x ≡ 1)
digit zero lt = inl refl
digit (suc zero) lt = inr refl
digit (suc (suc x)) lt = absurd (omega arith)

-- what holds of each two digits
pub by_digits : (P : ℕ → ℕ → Type 0) → P 0 0 → P 0 1 → P 1 0 → P 1 1 → (x y : ℕ) → x < 2 → y < 2 → P x y
by_digits P p00 p01 p10 p11 x y lx ly =
    ⊎_elim
    (λ x0. ⊎_elim (λ y0. subst (λ a. P a y) (sym x0) (subst (P 0) (sym y0) p00)) (λ y1. subst (λ a. P a y) (sym x0) (subst (P 0) (sym y1) p01)) (digit y ly))
    (λ x1. ⊎_elim (λ y0. subst (λ a. P a y) (sym x1) (subst (P 1) (sym y0) p10)) (λ y1. subst (λ a. P a y) (sym x1) (subst (P 1) (sym y1) p11)) (digit y ly))
    (digit x lx)

pub or_bit : (a b i : ℕ) → has_bit (bit_or a b) i ≡ (has_bit a i || has_bit b i)
or_bit a b i = ap (λ x. x == 1) (bit_at_or a b i) ∙ by_digits (λ x y. (max x y == 1) ≡ ((x == 1) || (y == 1))) refl refl refl refl (bit_at a i) (bit_at b i) (bit_at-lt a i) (bit_at-lt b i)

pub and_bit : (a b i : ℕ) → has_bit (bit_and a b) i ≡ (has_bit a i && has_bit b i)
and_bit a b i = ap (λ x. x == 1) (bit_at_and a b i) ∙ by_digits (λ x y. (min x y == 1) ≡ ((x == 1) && (y == 1))) refl refl refl refl (bit_at a i) (bit_at b i) (bit_at-lt a i) (bit_at-lt b i)
