-- Instructions that share no lane may be done in either order.
use Rattle.std.proofs.Common.{◌≡◌, ◌≢◌, sym, ◌∙◌, ap, ap₂, ℕ, ◌+◌, Bool, false, List, get_or, set, inl, inr, arith}
use Rattle.std.proofs.lemmas.List.{get_or-set_other, set_comm}
use Rattle.lane_core.specs.declared.instr.Instr.{Instr}
use Rattle.lane_core.specs.Instrs.{lane_of, upper_bit, lower_bit, bit_on, after_instr, AreApart}

-- a change of two places
abbrev both : List Bool → ℕ → ℕ → Bool → Bool → List Bool
both l p q a b = set (set l p a) q b

-- the places r and s keep their bits
kept : (l : List Bool) (p q r : ℕ) (a b : Bool) → r ≢ p → r ≢ q → get_or (both l p q a b) r false ≡ get_or l r false
kept l p q r a b ne ne' = get_or-set_other (set l p a) q r b false ne' ∙ get_or-set_other l p r a false ne

-- a change of another place goes before
past : (l : List Bool) (p q r : ℕ) (a b c : Bool) → p ≢ r → q ≢ r → set (both l p q a b) r c ≡ both (set l r c) p q a b
past l p q r a b c ne ne' = set_comm (set l p a) q r b c ne' ∙ ap (λ v. set v q b) (set_comm l p r a c ne)

-- and so does one of two others
pasts : (l : List Bool) (p q r s : ℕ) (a b c d : Bool) → p ≢ r → q ≢ r → p ≢ s → q ≢ s → both (both l p q a b) r s c d ≡ both (both l r s c d) p q a b
pasts l p q r s a b c d pr qr ps qs = ap (λ v. set v s d) (past l p q r a b c pr qr) ∙ past (set l r c) p q s a b d ps qs

-- what an instruction does, by the bits that it finds
abbrev changed : Instr → List Bool → Bool → Bool → List Bool
changed i l a b = both l (lane_of i) (lane_of i + 1) (upper_bit i a b) (lower_bit i a b)

-- the bits that the second instruction finds are those at the beginning
found : (i j : Instr) → AreApart i j → (l : List Bool) → after_instr (after_instr l i) j ≡ changed j (after_instr l i) (bit_on l (lane_of j)) (bit_on l (lane_of j + 1))
found i j apart l =
    let upper : bit_on (after_instr l i) (lane_of j) ≡ bit_on l (lane_of j) =
    kept l (lane_of i) (lane_of i + 1) (lane_of j) _ _ (differ apart).0 (differ apart).1 in
    let lower : bit_on (after_instr l i) (lane_of j + 1) ≡ bit_on l (lane_of j + 1) =
    kept l (lane_of i) (lane_of i + 1) (lane_of j + 1) _ _ (differ' apart).0 (differ' apart).1 in
    ap₂ (changed j (after_instr l i)) upper lower
  where
    differ : AreApart i j → (lane_of j ≢ lane_of i) × (lane_of j ≢ lane_of i + 1)
    differ (inl h) = (omega arith, omega arith)
    differ (inr h) = (omega arith, omega arith)

    differ' : AreApart i j → (lane_of j + 1 ≢ lane_of i) × (lane_of j + 1 ≢ lane_of i + 1)
    differ' (inl h) = (omega arith, omega arith)
    differ' (inr h) = (omega arith, omega arith)

pub turned : (i j : Instr) → AreApart i j → AreApart j i
turned i j (inl h) = inr h
turned i j (inr h) = inl h

crossed : (i j : Instr) → AreApart i j → (l : List Bool) (a b a' b' : Bool) → changed j (changed i l a b) a' b' ≡ changed i (changed j l a' b') a b
crossed i j (inl h) l a b a' b' = pasts l (lane_of i) (lane_of i + 1) (lane_of j) (lane_of j + 1) _ _ _ _ (omega arith) (omega arith) (omega arith) (omega arith)
crossed i j (inr h) l a b a' b' = pasts l (lane_of i) (lane_of i + 1) (lane_of j) (lane_of j + 1) _ _ _ _ (omega arith) (omega arith) (omega arith) (omega arith)

pub commute_when_apart : (i j : Instr) → AreApart i j → (bits : List Bool) → after_instr (after_instr bits i) j ≡ after_instr (after_instr bits j) i
commute_when_apart i j apart bits =
    found i j apart bits
    ∙ crossed i j apart bits (bit_on bits (lane_of i)) (bit_on bits (lane_of i + 1)) (bit_on bits (lane_of j)) (bit_on bits (lane_of j + 1))
    ∙ sym (found j i (turned i j apart) bits)
