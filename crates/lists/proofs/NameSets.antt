-- What a set of names has after one more.
use Rattle.std.proofs.Common.{◌≡◌, refl, ap, ◌∙◌, ℕ, List, Bool, true, false, ◌||◌, cond}
use Rattle.std.proofs.lemmas.Map.Text.{is_eq-slice_cmp}
use Rattle.std.specs.BTreeSet.{BTreeSet, UpdatesBy}
use Rattle.std.specs.Cmp.Lexicographic.{slice_cmp}
use Rattle.std.specs.Ordering.{nat_cmp}
use Rattle.std.specs.Str.{bytes_eq}
use denote.Ref.{Bor}
use Rattle.lists.specs.Names.{holds_name}

pub inserted : (old new : BTreeSet (Bor (List ℕ))) (key : Bor (List ℕ)) (name : List ℕ) → UpdatesBy (λ x y. slice_cmp nat_cmp x.now y.now) (λ k. slice_cmp nat_cmp key.now k.now) old new true → holds_name new name ≡ cond (bytes_eq key.now name) true (holds_name old name)
inserted old new key name updates =
    let query : Bor (List ℕ) = record { ref_ptr = (0, 0); now = name } in
    updates.0 query ∙ ap (λ b. cond b true (holds_name old name)) (is_eq-slice_cmp key.now name)

pub by_cond : (a b : Bool) → cond a true b ≡ (b || a)
by_cond true true = refl
by_cond true false = refl
by_cond false true = refl
by_cond false false = refl

-- the names that were there, and the one that came
pub name_added : (old new : BTreeSet (Bor (List ℕ))) (key : Bor (List ℕ)) (name : List ℕ) → UpdatesBy (λ x y. slice_cmp nat_cmp x.now y.now) (λ k. slice_cmp nat_cmp key.now k.now) old new true → holds_name new name ≡ (holds_name old name || bytes_eq key.now name)
name_added old new key name updates = inserted old new key name updates ∙ by_cond (bytes_eq key.now name) (holds_name old name)
