-- A bit of a word operation is the operation on bits, and six bits name a bit of a word.
use Rattle.std.proofs.Common.{◌≡◌, refl, ◌∙◌, ap, ℕ, suc, zero, ◌+◌, ◌-◌, ◌*◌, ◌/◌, ◌%◌, ◌^◌, ◌<◌, ◌≤◌, ◌==◌, Bool, true, false, cond, ◌&&◌, ◌||◌, not, List, [], ◌∷◌, length, get_or, arith, bit_and}
use Rattle.std.specs.Int.{bit_at, bit_not, w64}
use Rattle.std.specs.Int.RustNames.{bit_xor}
use Rattle.std.proofs.lemmas.Bool.{agree_below, agree_below_at}
use Rattle.std.proofs.lemmas.Nat.Bits.{bit_at-lt, bit_at_ones, bit_at_xor, bit_at_not, bit_at-suc, bit_at_lowest, bit_at-zero}
use Rattle.cell_core.specs.Tables.{bits_number, table_bit}
use Rattle.lists.specs.Bits.{has_bit}
use Rattle.lists.proofs.WordBits.{by_digits, and_bit}

-- ---- bits of a word
pub word_bit_xor : (a b n : ℕ) → has_bit (bit_xor a b) n ≡ ((has_bit a n || has_bit b n) && not (has_bit a n && has_bit b n))
word_bit_xor a b n =
    ap (λ x. x == 1) (bit_at_xor a b n)
    ∙ by_digits (λ x y. ((x + y) % 2 == 1) ≡ (((x == 1) || (y == 1)) && not ((x == 1) && (y == 1)))) refl refl refl refl (bit_at a n) (bit_at b n) (bit_at-lt a n) (bit_at-lt b n)

pub word_bit_not : (a n : ℕ) → a < 2 ^ 64 → n < 64 → has_bit (bit_not w64 a) n ≡ not (has_bit a n)
word_bit_not a n small within =
    ap (λ x. x == 1) (bit_at_not w64 a n small within) ∙ by_digits (λ x y. (1 - x == 1) ≡ not (x == 1)) refl refl refl refl (bit_at a n) 0 (bit_at-lt a n) (omega arith)

pub word_bit_and_not : (a b n : ℕ) → b < 2 ^ 64 → n < 64 → has_bit (bit_and a (bit_not w64 b)) n ≡ (has_bit a n && not (has_bit b n))
word_bit_and_not a b n small within = and_bit a (bit_not w64 b) n ∙ ap (λ t. has_bit a n && t) (word_bit_not b n small within)

-- ---- the number of bits
halved : (b : Bool) (n : ℕ) → ((cond b 1 0 + 2 * n) / 2 ≡ n) × (((cond b 1 0 + 2 * n) % 2 == 1) ≡ b)
halved true n = (omega arith, (let e : (1 + 2 * n) % 2 ≡ 1 = omega arith in ap (λ x. x == 1) e))
halved false n = (omega arith, (let e : (0 + 2 * n) % 2 ≡ 0 = omega arith in ap (λ x. x == 1) e))

-- bit i of the number is the i-th of the bits
pub bit_of_number : (bits : List Bool) (i : ℕ) → has_bit (bits_number bits) i ≡ get_or bits i false
bit_of_number [] i = ap (λ x. x == 1) (bit_at-zero i)
bit_of_number (b ∷ bits) zero = ap (λ x. x == 1) (bit_at_lowest (bits_number (b ∷ bits))) ∙ (halved b (bits_number bits)).1
bit_of_number (b ∷ bits) (suc i) = ap (λ x. x == 1) (bit_at-suc (bits_number (b ∷ bits)) i ∙ ap (λ n. bit_at n i) (halved b (bits_number bits)).0) ∙ bit_of_number bits i

wider : (n m : ℕ) → ((bits : List Bool) → length bits ≤ n → bits_number bits < m) → (bits : List Bool) → length bits ≤ n + 1 → bits_number bits < 2 * m
wider n m small [] le = let e : 0 < m = small [] (omega arith) in omega arith
wider n m small (true ∷ bits) le = let e : bits_number bits < m = small bits (omega arith) in omega arith
wider n m small (false ∷ bits) le = let e : bits_number bits < m = small bits (omega arith) in omega arith

none_small : (bits : List Bool) → length bits ≤ 0 → bits_number bits < 1
none_small [] le = omega arith
none_small (b ∷ bits) le = absurd (omega arith)

pub number_small : (bits : List Bool) → length bits ≤ 6 → bits_number bits < 64
number_small = wider 5 32 (wider 4 16 (wider 3 8 (wider 2 4 (wider 1 2 (wider 0 1 none_small)))))

-- ---- the tables of nets
-- bit n of the table is bit i of n
pub net_shown : (word i : ℕ) (bits : List Bool) → length bits ≤ 6 → agree_below (λ n. has_bit word n) (λ n. has_bit n i) 64 ≡ true → table_bit bits word ≡ get_or bits i false
net_shown word i bits le agree = agree_below_at (λ n. has_bit word n) (λ n. has_bit n i) 64 (bits_number bits) agree (number_small bits le) ∙ bit_of_number bits i

-- the table of constant 1
pub ones_shown : (bits : List Bool) (nets : ℕ) → nets ≤ 6 → length bits ≡ nets → table_bit bits 18446744073709551615 ≡ true
ones_shown bits nets few long = ap (λ x. x == 1) (bit_at_ones 64 (bits_number bits) (number_small bits (omega (arith, long))))
