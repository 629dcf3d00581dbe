-- Lines that are cut before a line of one kind: the models before each `.model`, the covers before each directive.
use Rattle.std.proofs.Common.{◌≡◌, refl, sym, ap, ◌∙◌, List, [], ◌∷◌, ◌++◌, Bool, true, false, not, cond, append_assoc}
use Rattle.std.specs.Prelude.{codes, take_while}
use Rattle.std.proofs.lemmas.List.Sums.{take_while-cons}
use Rattle.blif_text.specs.declared.logical.Logical.{Logical}
use Rattle.blif_text.specs.Models.{begins_model, stays_in_model, is_row, has_directive, model_if, model_of, models_of, cover_at, cover_of, covers_of}
use Rattle.netlist_examples.specs.TextLaws.{ModelsAreCut}

-- what is taken ends before an element that fails the test
pub taken-cut : {X : Type 0} (p : X → Bool) (xs : List X) (x : X) (ys : List X) → p x ≡ false → take_while p (xs ++ x ∷ ys) ≡ take_while p xs
taken-cut p [] x ys e = take_while-cons p x ys ∙ ap (λ b. cond b (x ∷ take_while p ys) []) e
taken-cut p (z ∷ zs) x ys e = take_while-cons p z (zs ++ x ∷ ys) ∙ ap (λ v. cond (p z) (z ∷ v) []) (taken-cut p zs x ys e) ∙ sym (take_while-cons p z zs)

model_at-cut : (b : Bool) (z : Logical) (xs : List Logical) (l : Logical) (ys : List Logical) → stays_in_model l ≡ false → model_if b z (xs ++ l ∷ ys) ≡ model_if b z xs
model_at-cut false z xs l ys e = refl
model_at-cut true z xs l ys e = ap (λ v. model_of z v ∷ []) (taken-cut stays_in_model xs l ys e)

pub models_are_cut : ModelsAreCut
models_are_cut [] l ys e = refl
models_are_cut (z ∷ zs) l ys e =
    ap (λ v. v ++ models_of (zs ++ l ∷ ys)) (model_at-cut (begins_model z) z zs l ys (ap not e))
    ∙ ap (λ v. model_if (begins_model z) z zs ++ v) (models_are_cut zs l ys e)
    ∙ sym (append_assoc (model_if (begins_model z) z zs) (models_of zs) (models_of (l ∷ ys)))

cover_at-cut : (b : Bool) (z : Logical) (xs : List Logical) (l : Logical) (ys : List Logical) → is_row l ≡ false → cover_at b z (xs ++ l ∷ ys) ≡ cover_at b z xs
cover_at-cut false z xs l ys e = refl
cover_at-cut true z xs l ys e = ap (λ v. cover_of z v ∷ []) (taken-cut is_row xs l ys e)

-- a directive ends the rows of the covers before it
pub covers-cut : (xs : List Logical) (l : Logical) (ys : List Logical) → is_row l ≡ false → covers_of (xs ++ l ∷ ys) ≡ covers_of xs ++ covers_of (l ∷ ys)
covers-cut [] l ys e = refl
covers-cut (z ∷ zs) l ys e =
    ap (λ v. v ++ covers_of (zs ++ l ∷ ys)) (cover_at-cut (has_directive (codes ".names") z) z zs l ys e)
    ∙ ap (λ v. cover_at (has_directive (codes ".names") z) z zs ++ v) (covers-cut zs l ys e)
    ∙ sym (append_assoc (cover_at (has_directive (codes ".names") z) z zs) (covers_of zs) (covers_of (l ∷ ys)))
