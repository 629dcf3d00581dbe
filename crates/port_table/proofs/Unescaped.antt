-- No line feed is among the bytes that a text with escapes stands for, where none is in the text.
use Rattle.std.proofs.Common.{ℕ, ◌+◌, ◌*◌, ◌≡◌, ◌≢◌, refl, Bool, true, false, ◌==◌, List, [], ◌∷◌}
use Rattle.std.specs.Prelude.{Option, Some, None, if◌then◌else◌, ◌&&◌, not}
use Rattle.std.specs.Char.{digit_value, is_digit}
use Rattle.std.proofs.lemmas.Bool.{and_parts, eqb-false, not-true}
use Rattle.std.proofs.lemmas.List.Elements.{All-cons, All-head, All-nil, All-tail}
use Rattle.std.proofs.lemmas.Option.{cond_some, none-some}
use Rattle.pattern_reading.specs.Escapes.{escape_in, onto, unescaped}
use Rattle.pattern_reading.specs.Numbers.{◌>>=◌}
use Rattle.pattern_reading.proofs.FirstLine.{HasNoFeed}
use Rattle.pattern_reading.proofs.Ranges.{bind_some}

-- one more byte, and one more escape
onto_feedless : (b : ℕ) (o : Option (List ℕ)) (out : List ℕ) → onto b o ≡ Some out → b ≢ 10 → ((rest : List ℕ) → o ≡ Some rest → HasNoFeed rest) → HasNoFeed out
onto_feedless b None out e h rest = absurd (none-some out e)
onto_feedless b (Some bytes) out e h rest =
    let same : (b ∷ bytes) ≡ out = cc in
    rw (← same) (All-cons (λ b. b ≢ 10) b bytes h (rest bytes refl))

escape_feedless : (high low b : ℕ) → escape_in high low ≡ Some b → b ≢ 10
escape_feedless high low b e =
    let h = cond_some (is_digit high 16 && is_digit low 16 && not (digit_value high * 16 + digit_value low == 10)) _ b e in
    rw (← h.1) (eqb-false _ 10 (not-true _ (and_parts _ _ h.0).1))

by_escape : (high low : ℕ) (o : Option (List ℕ)) (out : List ℕ) → (escape_in high low >>= λ b. onto b o) ≡ Some out → ((rest : List ℕ) → o ≡ Some rest → HasNoFeed rest) → HasNoFeed out
by_escape high low o out e rest =
    let a = bind_some (escape_in high low) _ out e in
    onto_feedless a.0 o out a.2 (escape_feedless high low a.0 a.1) rest

by_sign : (sign : Bool) (b : ℕ) (escaped plain : Option (List ℕ)) (out : List ℕ) → (if sign then escaped else onto b plain) ≡ Some out → b ≢ 10
    → (escaped ≡ Some out → HasNoFeed out) → ((rest : List ℕ) → plain ≡ Some rest → HasNoFeed rest) → HasNoFeed out
by_sign true b escaped plain out e h one rest = one e
by_sign false b escaped plain out e h one rest = onto_feedless b plain out e h rest

pub unescaped_feedless : (text out : List ℕ) → unescaped text ≡ Some out → HasNoFeed text → HasNoFeed out
unescaped_feedless [] out e h = let same : [] ≡ out = cc in rw (← same) h
unescaped_feedless (b ∷ []) out e h =
    by_sign (b == 37) b None (Some []) out e (All-head (λ b. b ≢ 10) b [] h) (λ k. absurd (none-some out k)) (λ rest k. unescaped_feedless [] rest k (All-nil (λ b. b ≢ 10)))
unescaped_feedless (b ∷ c ∷ []) out e h =
    by_sign (b == 37) b None (unescaped (c ∷ [])) out e (All-head (λ b. b ≢ 10) b (c ∷ []) h) (λ k. absurd (none-some out k))
    (λ rest k. unescaped_feedless (c ∷ []) rest k (All-tail (λ b. b ≢ 10) b (c ∷ []) h))
unescaped_feedless (b ∷ high ∷ low ∷ text) out e h =
    let after = All-tail (λ b. b ≢ 10) b (high ∷ low ∷ text) h in
    let digits = All-tail (λ b. b ≢ 10) high (low ∷ text) after in
    by_sign (b == 37) b (escape_in high low >>= λ c. onto c (unescaped text)) (unescaped (high ∷ low ∷ text)) out e (All-head (λ b. b ≢ 10) b (high ∷ low ∷ text) h)
    (λ k. by_escape high low (unescaped text) out k (λ rest l. unescaped_feedless text rest l (All-tail (λ b. b ≢ 10) low text digits)))
    (λ rest k. unescaped_feedless (high ∷ low ∷ text) rest k after)
