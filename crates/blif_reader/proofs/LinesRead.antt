-- What is kept after one more line.
use Rattle.std.proofs.Common.{ℕ, ◌≡◌, refl, sym, ap, ◌∙◌, Bool, true, false, true≢false, cond, not, ◌&&◌, ◌||◌, List, [], ◌∷◌}
use Rattle.std.specs.Prelude.{Option, Some, None, find, codes, take_while, bytes_eq}
use Rattle.std.specs.List.{list_any, last_or}
use Rattle.std.specs.Option.{option_map_or}
use Rattle.std.specs.Ordering.{nat_cmp}
use Rattle.std.specs.Cmp.Lexicographic.{slice_cmp}
use Rattle.std.specs.BTreeSet.{BTreeSet, UpdatesBy}
use Rattle.std.proofs.lemmas.List.Sums.{take_while-cons}
use denote.Ref.{Bor}
use Rattle.blif_text.specs.declared.logical.Logical.{Logical}
use Rattle.blif_text.specs.Models.{begins_model, first_operand, has_directive, is_directive, is_row}
use Rattle.blif_text.specs.LineFaults.{is_end_or_model, first_row}
use Rattle.blif_reader.specs.Before.{is_model_of, KnowsNames, ended_after, first_or, first_row_after}
use Rattle.lists.proofs.NameSets.{inserted}

named : (b t a : Bool) → b ≡ true → cond t true a ≡ ((b && t) || a)
named true true a e = refl
named true false a e = refl
named false t a e = absurd (true≢false (sym e))

pub name_added : (s n : BTreeSet (Bor (List ℕ))) (key : Bor (List ℕ)) (l : Logical) (before : List Logical) → begins_model l ≡ true → key.now ≡ first_operand l → KnowsNames s before → UpdatesBy (λ x y. slice_cmp nat_cmp x.now y.now) (λ k. slice_cmp nat_cmp key.now k.now) s n true → KnowsNames n (l ∷ before)
name_added s n key l before begins is had updates name =
    inserted s n key name updates
    ∙ ap (λ b. cond (bytes_eq key.now name) true b) (had name)
    ∙ ap (λ k. cond (bytes_eq k name) true (list_any (is_model_of name) before)) is
    ∙ named (begins_model l) (bytes_eq (first_operand l) name) (list_any (is_model_of name) before) begins

pub ended_more : (l : Logical) (before : List Logical) → ended_after l (option_map_or (has_directive (codes ".end")) (find is_end_or_model before) false) ≡ option_map_or (has_directive (codes ".end")) (find is_end_or_model (l ∷ before)) false
ended_more l before = by (is_end_or_model l) (find is_end_or_model before)
  where
    by : (t : Bool) (o : Option Logical) → cond t (has_directive (codes ".end") l) (option_map_or (has_directive (codes ".end")) o false) ≡ option_map_or (has_directive (codes ".end")) (cond t (Some l) o) false
    by true o = refl
    by false o = refl

stays_first : (l y : Logical) (ys : List Logical) → last_or (Some y) ys ≡ first_or l (last_or (Some y) ys)
stays_first l y [] = refl
stays_first l y (z ∷ zs) = stays_first l z zs

one_before : (l : Logical) (xs : List Logical) → first_or l (last_or None xs) ≡ last_or (Some l) xs
one_before l [] = refl
one_before l (y ∷ ys) = sym (stays_first l y ys)

pub row_more : (l : Logical) (before : List Logical) → first_row_after l (first_row before) ≡ first_row (l ∷ before)
row_more l before = by (is_directive l) ∙ ap (last_or None) (sym (take_while-cons is_row l before))
  where
    by : (t : Bool) → cond t None (first_or l (first_row before)) ≡ last_or None (cond (not t) (l ∷ take_while is_row before) [])
    by true = refl
    by false = one_before l (take_while is_row before)
