-- An annotation gives a model nothing.
use Rattle.std.proofs.Common.{◌≡◌, refl, sym, ap, ◌∙◌, ℕ, List, [], ◌∷◌, ◌++◌, Bool, true, false, not, cond, true≢false, map, append-nil, append_assoc}
use Rattle.std.specs.Prelude.{codes, bytes_eq, take_while, flat_map}
use Rattle.std.specs.Bool.{then_some}
use Rattle.std.specs.List.{cons_option}
use Rattle.std.proofs.lemmas.List.Sums.{take_while-cons}
use Rattle.std.proofs.lemmas.List.Elements.{filter_map-append}
use Rattle.std.proofs.lemmas.Slice.Eq.{bytes_eq-Decides}
use Rattle.std.proofs.lemmas.Bool.{false_from_ne_true}
use Rattle.blif_text.specs.declared.logical.Logical.{Logical}
use Rattle.blif_text.specs.Models.{first_word, first_operand, begins_model, stays_in_model, is_row, has_directive, lines_with, ports_on, latch_on, subckt_of, model_if, model_of, models_of, cover_at, covers_of}
use Rattle.blif_text.specs.LineFaults.{is_annotation}
use Rattle.netlist_examples.specs.TextLaws.{begins_with_row, AnnotationsGiveNothing}
use Rattle.netlist_examples.proofs.Cuts.{covers-cut}

-- an annotation is no other directive
other : (word name : List ℕ) → is_annotation word ≡ true → is_annotation name ≡ false → bytes_eq word name ≡ false
other word name a n = false_from_ne_true (bytes_eq word name) (λ h. true≢false (sym a ∙ ap is_annotation ((bytes_eq-Decides word name).0 h) ∙ n))

module _ (line : Logical) (directive : is_row line ≡ false) (annotation : is_annotation (first_word line) ≡ true) where
  without_line : (name : List ℕ) (xs ys : List Logical) → is_annotation name ≡ false → lines_with name (xs ++ line ∷ ys) ≡ lines_with name (xs ++ ys)
  without_line name xs ys n =
      filter_map-append (λ (l : Logical). then_some (has_directive name l) l) xs (line ∷ ys)
      ∙ ap (λ b. lines_with name xs ++ cons_option (then_some b line) (lines_with name ys)) (other (first_word line) name annotation n)
      ∙ sym (filter_map-append (λ (l : Logical). then_some (has_directive name l) l) xs ys)

  covers_after : (ys : List Logical) → covers_of (line ∷ ys) ≡ covers_of ys
  covers_after ys = ap (λ b. cover_at b line ys ++ covers_of ys) (other (first_word line) (codes ".names") annotation refl)

  covers_apart : (xs ys : List Logical) → begins_with_row ys ≡ false → covers_of (xs ++ ys) ≡ covers_of xs ++ covers_of ys
  covers_apart xs [] e = ap covers_of (append-nil xs) ∙ sym (append-nil (covers_of xs))
  covers_apart xs (y ∷ ys) e = covers-cut xs y ys e

  same_covers : (xs ys : List Logical) → begins_with_row ys ≡ false → covers_of (xs ++ line ∷ ys) ≡ covers_of (xs ++ ys)
  same_covers xs ys e = covers-cut xs line ys directive ∙ ap (λ v. covers_of xs ++ v) (covers_after ys) ∙ sym (covers_apart xs ys e)

  same_model : (z : Logical) (xs ys : List Logical) → begins_with_row ys ≡ false → model_of z (xs ++ line ∷ ys) ≡ model_of z (xs ++ ys)
  same_model z xs ys e = λ i. record {
    line = z.line;
    name = first_operand z;
    ins = flat_map ports_on (without_line (codes ".inputs") xs ys refl i);
    outs = flat_map ports_on (without_line (codes ".outputs") xs ys refl i);
    clocks = flat_map ports_on (without_line (codes ".clock") xs ys refl i);
    covers = same_covers xs ys e i;
    latches = flat_map latch_on (without_line (codes ".latch") xs ys refl i);
    subckts = map subckt_of (without_line (codes ".subckt") xs ys refl i);
  }

  stays : stays_in_model line ≡ true
  stays = ap not (other (first_word line) (codes ".model") annotation refl)

  -- what a model takes of the lines, with the annotation and without
  row_taken : (b : Bool) (y : Logical) (rest : List Logical) → is_row y ≡ false → begins_with_row (cond b (y ∷ rest) []) ≡ false
  row_taken true y rest e = e
  row_taken false y rest e = refl

  first_taken : (ys : List Logical) → begins_with_row ys ≡ false → begins_with_row (take_while stays_in_model ys) ≡ false
  first_taken [] e = refl
  first_taken (y ∷ ys) e = ap begins_with_row (take_while-cons stays_in_model y ys) ∙ row_taken (stays_in_model y) y (take_while stays_in_model ys) e

  taken_line : (ys : List Logical) → take_while stays_in_model (line ∷ ys) ≡ line ∷ take_while stays_in_model ys
  taken_line ys = take_while-cons stays_in_model line ys ∙ ap (λ b. cond b (line ∷ take_while stays_in_model ys) []) stays

  -- the lines that a model takes before it, then the annotation, then what it takes after
  same_taken : (z : Logical) (front xs ys : List Logical) → begins_with_row ys ≡ false → model_of z (front ++ take_while stays_in_model (xs ++ line ∷ ys)) ≡ model_of z (front ++ take_while stays_in_model (xs ++ ys))
  same_taken z front [] ys e = ap (λ v. model_of z (front ++ v)) (taken_line ys) ∙ same_model z front (take_while stays_in_model ys) (first_taken ys e)
  same_taken z front (x ∷ xs) ys e =
      ap (λ v. model_of z (front ++ v)) (take_while-cons stays_in_model x (xs ++ line ∷ ys))
      ∙ by (stays_in_model x) (same_taken z (front ++ x ∷ []) xs ys e)
      ∙ sym (ap (λ v. model_of z (front ++ v)) (take_while-cons stays_in_model x (xs ++ ys)))
    where
      by : (b : Bool) → model_of z ((front ++ x ∷ []) ++ take_while stays_in_model (xs ++ line ∷ ys)) ≡ model_of z ((front ++ x ∷ []) ++ take_while stays_in_model (xs ++ ys))
          → model_of z (front ++ cond b (x ∷ take_while stays_in_model (xs ++ line ∷ ys)) []) ≡ model_of z (front ++ cond b (x ∷ take_while stays_in_model (xs ++ ys)) [])
      by false again = refl
      by true again = sym (ap (model_of z) (append_assoc front (x ∷ []) (take_while stays_in_model (xs ++ line ∷ ys)))) ∙ again ∙ ap (model_of z) (append_assoc front (x ∷ []) (take_while stays_in_model (xs ++ ys)))

  same_models_at : (b : Bool) (z : Logical) (xs ys : List Logical) → begins_with_row ys ≡ false → model_if b z (xs ++ line ∷ ys) ≡ model_if b z (xs ++ ys)
  same_models_at false z xs ys e = refl
  same_models_at true z xs ys e = ap (λ m. m ∷ []) (same_taken z [] xs ys e)

  same_models : (xs ys : List Logical) → begins_with_row ys ≡ false → models_of (xs ++ line ∷ ys) ≡ models_of (xs ++ ys)
  same_models [] ys e = ap (λ b. model_if b line ys ++ models_of ys) (other (first_word line) (codes ".model") annotation refl)
  same_models (x ∷ xs) ys e = ap (λ v. v ++ models_of (xs ++ line ∷ ys)) (same_models_at (begins_model x) x xs ys e) ∙ ap (λ v. model_if (begins_model x) x (xs ++ ys) ++ v) (same_models xs ys e)

pub annotations_give_nothing : AnnotationsGiveNothing
annotations_give_nothing before line after directive annotation e = same_models line directive annotation before after e
