-- How many bits a stream word has.
use Rattle.std.proofs.Common.{ℕ, ◌≡◌, ◌≤◌, ◌-◌, refl, sym, subst, Bool, true, false, not, cond, List, length, arith, reverse, nat_lt}
use Rattle.std.specs.Prelude.{Some, None, unwrap_or}
use Rattle.std.specs.List.{position, position_or_len}
use Rattle.std.proofs.lemmas.Bool.{ltb-false}
use Rattle.std.proofs.lemmas.List.{length-drop, length-reverse}
use Rattle.std.proofs.lemmas.List.Sums.{suffix_len-le-length}
use Rattle.streams.specs.Cuts.{bits_in, is_equals_sign}

-- what is taken of a place where it is within the list, and else of the length
taken : (m n : ℕ) (b : Bool) → nat_lt m n ≡ b → m ≤ n → unwrap_or (cond b (Some m) None) n ≡ m
taken m n true e h = refl
taken m n false e h = let other : n ≤ m = ltb-false m n e in omega (arith, h, other)

pub bits_are : (word : List ℕ) → unwrap_or (position is_equals_sign (reverse word)) (length word) ≡ length (bits_in word)
bits_are word =
    let m : ℕ = position_or_len is_equals_sign (reverse word) in
    let within : m ≤ length word = suffix_len-le-length (λ b. not (is_equals_sign b)) word in
    let back : length (reverse word) ≡ length word = length-reverse word in
    let all : unwrap_or (position is_equals_sign (reverse word)) (length word) ≡ m =
    subst (λ (n : ℕ). unwrap_or (cond (nat_lt m n) (Some m) None) (length word) ≡ m) (sym back) (taken m (length word) (nat_lt m (length word)) refl within) in
    let bits : length (bits_in word) ≡ length word - (length word - m) = length-drop (length word - m) word in
    omega (arith, all, bits, within)
