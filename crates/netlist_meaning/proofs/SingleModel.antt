-- Designs whose main model places no other.
use Rattle.std.proofs.Common.{ℕ, ◌≡◌, List, [], ◌∷◌, Some, None, option_and_then, slice_get, refl, sym, ap, ◌∙◌, subst}
use Rattle.std.proofs.lemmas.Option.{none-some, same_Some}
use Rattle.netlist_core.specs.declared.model.Design.{Design}
use Rattle.netlist_core.specs.declared.model.Model.{Model}
use Rattle.netlist_core.specs.declared.model.LatchRow.{LatchRow}
use Rattle.netlist_core.specs.Names.{Name}
use Rattle.netlist_meaning.specs.Places.{Place, main_model, model_placed, model_below, model_at, latch_at}
use Rattle.netlist_meaning.specs.Nets.{Net, IsPinned, Joined, IsControl, WithoutControl, none, kept}
use Rattle.netlist_meaning.proofs.Names.{and_then-from}
use Rattle.netlist_meaning.proofs.Joined.{joined_gives}

-- a design of one model, which has no subckt line
pub record IsFlat (design : Design) (main : Model) : Type 0 where
  pub models : design.models ≡ main ∷ []
  pub subckts : main.subckts ≡ []

pub main_is : (design : Design) (main : Model) → IsFlat design main → main_model design ≡ Some main
main_is design main flat = ap (λ models. slice_get models 0) flat.models

pub model_at-main : (design : Design) (main : Model) → IsFlat design main → model_at design [] ≡ Some main
model_at-main design main flat = ap (option_and_then (model_below design [])) (main_is design main flat)

-- only the main model stands anywhere
pub model_at-flat : (design : Design) (main : Model) → IsFlat design main → (place : Place) (model : Model) → model_at design place ≡ Some model → (place ≡ []) × (model ≡ main)
model_at-flat design main flat [] model h = (refl, same_Some model main (sym h ∙ model_at-main design main flat))
model_at-flat design main flat (number ∷ place) model h =
    let nothing : model_placed design main number ≡ None = ap (λ lines. option_and_then (λ line. Rattle.netlist_core.specs.Names.model_named design.models line.model) (slice_get lines number)) flat.subckts in
    absurd (none-some model (sym (ap (option_and_then (model_below design (number ∷ place))) (main_is design main flat) ∙ ap (option_and_then (model_below design place)) nothing) ∙ h))

-- no two nets are joined
pub joined-flat : (design : Design) (main : Model) → IsFlat design main → {a b : Net} → Joined design a b → a ≡ b
joined-flat design main flat = joined_gives design (λ x y. x ≡ y) (λ x. refl) (λ x y e. sym e) (λ x y z e f. e ∙ f) no_pin
  where
    no_pin : (outer inner : Net) → IsPinned design outer inner → outer ≡ inner
    no_pin outer inner h =
        let is_main : h.model ≡ main = (model_at-flat design main flat outer.place h.model h.has_model).1 in
        let empty : h.model.subckts ≡ [] = ap (λ model. model.subckts) is_main ∙ flat.subckts in
        absurd (none-some h.line (sym (ap (λ lines. slice_get lines h.number) empty) ∙ h.has_line))

-- a latch stands in the main model
pub latch_at-flat : (design : Design) (main : Model) → IsFlat design main → (place : Place) (number : ℕ) (latch : LatchRow) → latch_at design place number ≡ Some latch → (place ≡ []) × (slice_get main.latches number ≡ Some latch)
latch_at-flat design main flat place number latch h =
    let (model, is_model, is_latch) = and_then-from (λ model. slice_get model.latches number) (model_at design place) latch h in
    let (is_top, is_main) = model_at-flat design main flat place model is_model in
    (is_top, subst (λ m. slice_get m.latches number ≡ Some latch) is_main is_latch)

-- without latches there is no control
pub no_latch-flat : (design : Design) (main : Model) → IsFlat design main → main.latches ≡ [] → (place : Place) (number : ℕ) → (latch : LatchRow) → ¬ (latch_at design place number ≡ Some latch)
no_latch-flat design main flat empty place number latch h =
    none-some latch (sym (ap (λ latches. slice_get latches number) empty) ∙ (latch_at-flat design main flat place number latch h).1)

pub all_in_names : (design : Design) → ((net : Net) → ¬ IsControl design net) → (names : List Name) → WithoutControl design names names
all_in_names design away [] = none
all_in_names design away (name ∷ names) = kept (away _) (all_in_names design away names)
