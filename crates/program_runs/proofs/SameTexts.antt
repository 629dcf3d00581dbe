-- What is told of equal texts.
use Rattle.std.proofs.Common.{◌≡◌, ℕ, List, take, subst, OnOk, OnErr, Result, Ok, Err}
use Rattle.std.specs.declared.option.Option.{Option}
use Rattle.std.specs.Io.KnownBytes.{Appends}
use Rattle.ww_base.specs.Faults.{HasCause}
use Rattle.program_runs.specs.Tells.{Tells}

pub told_ok : {T E : Type 0} (r : Result T E) (a b : Option (List ℕ)) {x y : List ℕ} → x ≡ y → OnOk r (Appends a b x) → OnOk r (Appends a b y)
told_ok (Ok t) a b e h = subst (Appends a b) e h
told_ok (Err t) a b e h = tt

pub told_front : {T E : Type 0} (r : Result T E) (a b : Option (List ℕ)) {x y : List ℕ} → x ≡ y
    → OnErr r ((n : ℕ) × Appends a b (take n x)) → OnErr r ((n : ℕ) × Appends a b (take n y))
told_front (Ok t) a b e h = tt
told_front (Err t) a b e h = (h.0, subst (λ l. Appends a b (take h.0 l)) e h.1)

pub told : {T E : Type 0} (r : Result T E) (a b : Option (List ℕ)) (f g : ℕ) {x y : List ℕ} → x ≡ y
    → OnOk r (Appends a b x) → OnErr r ((n : ℕ) × Appends a b (take n x)) → HasCause f g r → Tells y a b f g r
told r a b f g e ok front cause = record { ok = told_ok r a b e ok; front = told_front r a b e front; cause = cause }
