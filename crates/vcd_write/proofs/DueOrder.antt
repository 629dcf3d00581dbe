-- Bits that are due stay in order where the earliest is taken, and where the next bit of its variable is put after all that have begun.
use Rattle.std.proofs.Common.{◌≡◌, refl, sym, ◌∙◌, ap, subst, ℕ, ◌+◌, ◌≤◌, ◌<◌, ◌⊎◌, inl, inr, Bool, true, false, true≢false, List, [], ◌∷◌, ◌++◌, length, get_or, All, Option, Some, None, MatchOption, IfSome, arith}
use Rattle.std.specs.Prelude.{nat_le, option_to_list, drop}
use Rattle.std.proofs.lemmas.Bool.Decides.{nat_tests}
use Rattle.std.proofs.lemmas.Option.{none-some}
use Rattle.std.proofs.lemmas.List.Elements.{All-nil, All-cons, All-head, All-tail}
use Rattle.vcd_write.specs.declared.due_bits.DueBit.{DueBit}
use Rattle.vcd_write.specs.DueBits.{AreDueFrom, comes_first}

-- in order from an earlier generation on too
pub from_before : (g h : ℕ) (bits : List DueBit) → g ≤ h → AreDueFrom h bits → AreDueFrom g bits
from_before g h [] le order = tt
from_before g h (bit ∷ bits) le order = (omega (arith, le, order.0), order.1)

abbrev UpTo : ℕ → List DueBit → Type 0
UpTo g bits = All (λ bit. bit.generation ≤ g) bits

pub up_to_later : (g h : ℕ) (bits : List DueBit) → g ≤ h → UpTo g bits → UpTo h bits
up_to_later g h [] le all = All-nil (λ (bit : DueBit). bit.generation ≤ h)
up_to_later g h (bit ∷ bits) le all =
    let first = All-head (λ (bit : DueBit). bit.generation ≤ g) bit bits all in
    All-cons (λ (bit : DueBit). bit.generation ≤ h) bit bits (omega (arith, le, first)) (up_to_later g h bits le (All-tail (λ (bit : DueBit). bit.generation ≤ g) bit bits all))

-- one more bit after those that come no later
pub one_more : (g h : ℕ) (bits : List DueBit) (last : DueBit) → AreDueFrom g bits → UpTo h bits → g ≤ h → h ≤ last.generation → AreDueFrom g (bits ++ last ∷ [])
one_more g h [] last order all from le = (omega (arith, from, le), tt)
one_more g h (bit ∷ bits) last order all from le =
    let first = All-head (λ (bit : DueBit). bit.generation ≤ h) bit bits all in
    (order.0, one_more bit.generation h bits last order.1 (All-tail (λ (bit : DueBit). bit.generation ≤ h) bit bits all) first le)

pub up_to_more : (h : ℕ) (bits : List DueBit) (last : DueBit) → UpTo h bits → last.generation ≤ h → UpTo h (bits ++ last ∷ [])
up_to_more h [] last all le = All-cons (λ (bit : DueBit). bit.generation ≤ h) last [] le (All-nil (λ (bit : DueBit). bit.generation ≤ h))
up_to_more h (bit ∷ bits) last all le =
    All-cons (λ (bit : DueBit). bit.generation ≤ h) bit (bits ++ last ∷ []) (All-head (λ (bit : DueBit). bit.generation ≤ h) bit bits all)
    (up_to_more h bits last (All-tail (λ (bit : DueBit). bit.generation ≤ h) bit bits all) le)

-- the first of bits that come first is before all others
pub before_others : (bits others : List DueBit) (g : ℕ) (bit : DueBit) (rest : List DueBit) → bits ≡ bit ∷ rest → comes_first bits others ≡ true → AreDueFrom g others → AreDueFrom bit.generation others
before_others bits [] g bit rest is first order = tt
before_others bits (other ∷ others) g bit rest is first order =
    let le : nat_le bit.generation other.generation ≡ true = sym (ap (λ bits. comes_first bits (other ∷ others)) is) ∙ first in
    (grind (arith, nat_tests, le), order.1)

-- else the first of the others is before all of them
pub after_others : (bits others : List DueBit) (g : ℕ) (other : DueBit) (rest : List DueBit) → others ≡ other ∷ rest → comes_first bits others ≡ false → AreDueFrom g bits → AreDueFrom other.generation bits
after_others [] others g other rest is first order = tt
after_others (bit ∷ bits) others g other rest is first order =
    let gt : nat_le bit.generation other.generation ≡ false = sym (ap (comes_first (bit ∷ bits)) is) ∙ first in
    (grind (arith, nat_tests, gt), order.1)

-- where bits come first there are some, and where they do not and there are some, there are others
pub some_first : (bits others : List DueBit) → comes_first bits others ≡ true → 0 < length bits
some_first [] others e = absurd (true≢false (sym e))
some_first (bit ∷ bits) others e = omega arith

pub none_first : (bits : List DueBit) → comes_first bits [] ≡ false → bits ≡ []
none_first [] e = refl
none_first (bit ∷ bits) e = absurd (true≢false e)

-- what was taken from the front of a queue
pub taken_front : (old new : List DueBit) (r : Option DueBit) (bit : DueBit) → old ≡ option_to_list r ++ new → r ≡ Some bit → old ≡ bit ∷ new
taken_front old new r bit items is = items ∙ ap (λ r. option_to_list r ++ new) is

pub order_first : (g : ℕ) (bits : List DueBit) (bit : DueBit) (rest : List DueBit) → bits ≡ bit ∷ rest → AreDueFrom g bits → (g ≤ bit.generation) × AreDueFrom bit.generation rest
order_first g bits bit rest is order = subst (AreDueFrom g) is order

-- an option by its two cases
pub by_option : {X P : Type 0} {Q : X → Type 0} (r : Option X) → (r ≡ None → P) → ((x : X) → r ≡ Some x → Q x) → MatchOption r P Q
by_option None none some = none refl
by_option (Some x) none some = some x refl

pub if_some : {X : Type 0} {Q : X → Type 0} (r : Option X) → ((x : X) → r ≡ Some x → Q x) → IfSome r Q
if_some None some = tt
if_some (Some x) some = some x refl

-- where there is a bit, one was taken
pub none_taken : (old new : List DueBit) (r : Option DueBit) → 0 < length old → ((d : DueBit) → 0 < length old → r ≡ Some (get_or old 0 d)) → r ≡ None → ⊥
none_taken [] new r some value none = omega (arith, some)
none_taken (bit ∷ bits) new r some value none = none-some bit (sym none ∙ value bit some)

pub no_more : (old : List DueBit) (r : Option DueBit) → ((d : DueBit) → 0 < length old → r ≡ Some (get_or old 0 d)) → r ≡ None → old ≡ []
no_more [] r value none = refl
no_more (bit ∷ bits) r value none = absurd (none-some bit (sym none ∙ value bit (omega arith)))

pub near_rest : (g period : ℕ) (bits : List DueBit) (bit : DueBit) (rest : List DueBit) → bits ≡ bit ∷ rest → g ≤ bit.generation → UpTo (g + period) bits → UpTo (bit.generation + period) rest
near_rest g period bits bit rest is le near =
    up_to_later (g + period) (bit.generation + period) rest (omega (arith, le))
    (All-tail (λ (b : DueBit). b.generation ≤ g + period) bit rest (subst (UpTo (g + period)) is near))
