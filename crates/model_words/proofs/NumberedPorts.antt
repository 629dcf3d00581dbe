-- The ports of models, looked up by their numbers.
use Rattle.std.proofs.Common.{◌≡◌, ◌⊎◌, inl, inr, refl, sym, subst, ap, ◌∙◌, ℕ, ◌+◌, ◌<◌, List, [], ◌∷◌, ◌++◌, length, take, get_or}
use Rattle.std.specs.Prelude.{Option, Some, None, IfSome, is_some, nat_lt, slice_get}
use Rattle.std.specs.List.{AllZip}
use Rattle.std.specs.Option.{option_copied, IsSomeAnd}
use Rattle.std.proofs.lemmas.Bool.{ltb-true, ltb-false}
use Rattle.std.proofs.lemmas.List.{take_more}
use Rattle.std.proofs.lemmas.Option.{slice_get_past, slice_get_read, MatchOption-at_some}
use Rattle.std.proofs.lemmas.Slice.Zip.{AllZip-right}
use denote.Ref.{Bor}
use Rattle.netlist_core.specs.declared.model.Model.{Model}
use Rattle.model_words.specs.declared.ports.PortNames.{PortNames}
use Rattle.model_words.specs.Placed.{AreNamesOfPorts, ArePlacedNames}

pub looked_up : {X : Type 0} (xs : List X) (i : ℕ) (found : Option (Bor X)) → is_some found ≡ nat_lt i (length xs) → IfSome found (λ x. x.now ≡ get_or xs i x.now) → option_copied found ≡ slice_get xs i
looked_up xs i None there is = sym (slice_get_past xs i (ltb-false i (length xs) (sym there)))
looked_up xs i (Some x) there is = sym (slice_get_read xs (length xs) i x.now refl (ltb-true i (length xs) (sym there)) is)

-- one more on both sides
zipped_push : {X Y : Type 0} (R : X → Y → Type 0) (xs : List X) (ys : List Y) (x : X) (y : Y) → AllZip R xs ys → R x y → AllZip R (xs ++ x ∷ []) (ys ++ y ∷ [])
zipped_push R [] [] x y all here = (here, tt)
zipped_push R [] (z ∷ ys) x y all here = absurd all
zipped_push R (z ∷ xs) [] x y all here = absurd all
zipped_push R (w ∷ xs) (z ∷ ys) x y all here = (all.0, zipped_push R xs ys x y all.1 here)

pub zipped_more : {X Y : Type 0} (R : X → Y → Type 0) (xs new : List X) (ys : List Y) (i : ℕ) (x : X) (y : Y) → i < length ys → y ≡ get_or ys i y → new ≡ xs ++ x ∷ [] →
    AllZip R xs (take i ys) → R x y → AllZip R new (take (i + 1) ys)
zipped_more R xs new ys i x y within is pushed all here =
    subst (AllZip R new) (ap (λ z. take i ys ++ z ∷ []) is ∙ sym (take_more ys i y within)) (subst (λ l. AllZip R l (take i ys ++ y ∷ [])) (sym pushed) (zipped_push R xs (take i ys) x y all here))

-- the names at a model's number are those of its ports
pub placed_at : (names : List PortNames) (models : List Model) (number : ℕ) (m : Model) → AllZip AreNamesOfPorts names models → slice_get models number ≡ Some m → ArePlacedNames (Some m) (slice_get names number)
placed_at names models number m all there = by (slice_get names number) (MatchOption-at_some (Unit {0}) (λ y. IsSomeAnd (slice_get names number) (λ x. AreNamesOfPorts x y)) m there (AllZip-right AreNamesOfPorts names models all number))
  where
    by : (o : Option PortNames) → IsSomeAnd o (λ x. AreNamesOfPorts x m) → ArePlacedNames (Some m) o
    by None h = h
    by (Some x) h = h

-- where some model has a subckt line
pub all_known : {A P : Type 0} → A ⊎ P → ¬ P → A
all_known (inl all) placing = all
all_known (inr plain) placing = absurd (placing plain)
