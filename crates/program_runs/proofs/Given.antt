-- What a source gave, and a sink gained or kept, where they tell their bytes.
use Rattle.std.proofs.Common.{ℕ, ◌≡◌, ◌≤◌, refl, sym, ap, ◌∙◌, List, [], ◌++◌, length, arith, length-append}
use Rattle.std.proofs.lemmas.List.{append-nil}
use Rattle.std.specs.Prelude.{Option, Some, None}
use Rattle.std.specs.Io.KnownBytes.{Consumes, Appends, IsAtEnd, Keeps}

-- what is not written to stays
pub kept : (held : Option (List ℕ)) → Keeps held held
kept None = tt
kept (Some bytes) = refl

-- and gained nothing
pub gained_none : (held : Option (List ℕ)) → Appends held held []
gained_none None = tt
gained_none (Some bytes) = sym (append-nil bytes)

-- all that it gave is what it had
pub gave_whole : (left after : Option (List ℕ)) (given text : List ℕ) → Consumes left after given → IsAtEnd after → left ≡ Some text → given ≡ text
gave_whole None after given text c e s = cc
gave_whole (Some xs) None given text c e s = absurd c
gave_whole (Some xs) (Some ys) given text c e s = sym (append-nil given) ∙ ap (λ l. given ++ l) (sym e) ∙ sym c ∙ some_bytes s
  where
    some_bytes : Some xs ≡ Some text → xs ≡ text
    some_bytes s = cc

-- it gave no more than it had
pub no_more : (left after : Option (List ℕ)) (given text : List ℕ) → Consumes left after given → left ≡ Some text → length given ≤ length text
no_more None after given text c e = cc
no_more (Some xs) None given text c e = absurd c
no_more (Some xs) (Some ys) given text c e =
    let whole : xs ≡ text = some_bytes e in
    omega (arith, length-append given ys, ap length c, ap length whole)
  where
    some_bytes : Some xs ≡ Some text → xs ≡ text
    some_bytes s = cc

pub gained_whole : (old new : Option (List ℕ)) (pattern before : List ℕ) → Appends old new pattern → old ≡ Some before → new ≡ Some (before ++ pattern)
gained_whole None new pattern before a s = cc
gained_whole (Some xs) None pattern before a s = absurd a
gained_whole (Some xs) (Some ys) pattern before a s = ap Some a ∙ ap (λ o. Some (unwrap_or_nil o ++ pattern)) s
  where
    unwrap_or_nil : Option (List ℕ) → List ℕ
    unwrap_or_nil None = []
    unwrap_or_nil (Some l) = l
