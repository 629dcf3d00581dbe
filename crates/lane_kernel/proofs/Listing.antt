-- Marks that are set, and words that are listed.
use Rattle.std.proofs.Common.{ℕ, ◌≡◌, ap, ◌∙◌, inl, inr, List, length, get_or, arith}
use Rattle.std.specs.Prelude.{◌≢◌}
use Rattle.lane_kernel.specs.Around.{IsInner, IsFramed, free_of}
use Rattle.std.specs.Int.RustNames.{bit_and}
use Rattle.std.proofs.lemmas.Nat.{and_comm}
use Rattle.lane_kernel.specs.Marked.{AreMore, IsTold}

pub more_more : (a b c : List ℕ) → AreMore a b → AreMore b c → AreMore a c
more_more a b c p q i = let l = p i in let m = q i in omega (arith, l, m)

-- what a word was told stays so
pub still_told : (near : ℕ) (tails cells old new : List ℕ) (i : ℕ) → AreMore old new → IsTold near tails cells old i → IsTold near tails cells new i
still_told near tails cells old new i more told =
    elim told [
      | inl le ↦ let m = more i in inl (omega (arith, le, m))
      | inr none ↦ inr none
    ]

-- a word with free cells has cells, and is an inner one
pub has_cells : (stride near : ℕ) (tails cells : List ℕ) (i : ℕ) → IsFramed stride cells → bit_and near (free_of (get_or cells i 0) (get_or tails i 0)) ≢ 0 → IsInner stride (length cells) i
has_cells stride near tails cells i framed some =
    framed i (λ zero. some (ap (λ c. bit_and near (free_of c (get_or tails i 0))) zero ∙ none near))
  where
    none : (near : ℕ) → bit_and near 0 ≡ 0
    none near = and_comm near 0
