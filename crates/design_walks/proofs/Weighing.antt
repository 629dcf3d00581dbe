-- The weight of a model by the weights of those that its lines place.
use Rattle.std.proofs.Common.{◌≡◌, refl, sym, ap, subst, ◌∙◌, ℕ, zero, suc, ◌+◌, ◌-◌, ◌^◌, ◌<◌, ◌≤◌, ◌⊎◌, inl, inr, min, List, [], ◌∷◌, set, length, get_or, sum_by, position, Option, Some, None, MatchOption, slice_get, arith}
use Rattle.std.specs.Option.{option_map_or}
use Rattle.std.proofs.lemmas.List.{get_or-set_same, get_or-set_other, get_or_past, length-set}
use Rattle.std.proofs.lemmas.List.Sums.{sum_by-cons}
use Rattle.std.proofs.lemmas.Option.{same_Some, slice_get_within}
use Rattle.lists.proofs.Numbers.{less_or_last}
use Rattle.netlist_core.specs.declared.model.Model.{Model}
use Rattle.netlist_core.specs.declared.model.Subckt.{Subckt}
use Rattle.netlist_core.specs.declared.model.Design.{Design}
use Rattle.netlist_core.specs.Names.{is_model_named, model_named}
use Rattle.netlist_core.specs.OwnWeight.{own_weight}
use Rattle.netlist_meaning.specs.Weight.{of_model, weight_below, weight}
use Rattle.model_index.specs.ByName.{IsNumberOf}
use Rattle.model_index.proofs.Numbered.{number_found}
use Rattle.model_index.specs.Numbers.{Places}
use Rattle.model_index.specs.Order.{IsModelOrder}
use Rattle.model_index.proofs.Naming.{places_by, number_named}
use Rattle.design_walks.specs.Weights.{line_weight, WeighsBeyond, AreWeights}

-- a sum of numbers that are held at a bound is held where their sum is
held_sums : (bound : ℕ) (f g : Subckt → ℕ) (lines : List Subckt) (a : ℕ) → ((k : ℕ) (line : Subckt) → slice_get lines k ≡ Some line → g line ≡ min (f line) bound) → min (a + sum_by g lines) bound ≡ min (a + sum_by f lines) bound
held_sums bound f g [] a each = refl
held_sums bound f g (line ∷ lines) a each =
    let head : g line ≡ min (f line) bound = each 0 line refl in
    let tail : min (a + f line + sum_by g lines) bound ≡ min (a + f line + sum_by f lines) bound = held_sums bound f g lines (a + f line) (λ k l e. each (suc k) l e) in
    let left : sum_by g (line ∷ lines) ≡ g line + sum_by g lines = sum_by-cons g line lines in
    let right : sum_by f (line ∷ lines) ≡ f line + sum_by f lines = sum_by-cons f line lines in
    held (g line) (f line) (sum_by g lines) (sum_by f lines) (sum_by g (line ∷ lines)) (sum_by f (line ∷ lines)) head tail left right
  where
    held : (x y s t u v : ℕ) → x ≡ min y bound → min (a + y + s) bound ≡ min (a + y + t) bound → u ≡ x + s → v ≡ y + t → min (a + u) bound ≡ min (a + v) bound
    held x y s t u v head tail left right = omega arith

-- the weight of the model that a line places
line_is : (design : Design) (order weights : List ℕ) (i : ℕ) → IsModelOrder design.models order → AreWeights design order i weights → i < length order → (model : Model) → slice_get design.models (get_or order i 0) ≡ Some model → (depth : ℕ) → i ≤ depth
    → (k : ℕ) (line : Subckt) → slice_get model.subckts k ≡ Some line → line_weight design.models weights line ≡ min (of_model (weight_below design depth) (model_named design.models line.model)) (2 ^ 64 - 1)
line_is design order weights i o w l model there depth deep k line at = by (position (is_model_named line.model) design.models) (number_found design.models line.model)
  where
    by : (found : Option ℕ) → MatchOption found (model_named design.models line.model ≡ None) (IsNumberOf design.models line.model) → option_map_or (λ inner. get_or weights inner 0) found 0 ≡ min (of_model (weight_below design depth) (model_named design.models line.model)) (2 ^ 64 - 1)
    by None none = sym (ap (λ m. min (of_model (weight_below design depth) m) (2 ^ 64 - 1)) none)
    by (Some inner) is =
        let p : Places design.models (get_or order i 0) k inner = places_by design.models (get_or order i 0) k inner model line there at (number_named design.models line.model inner is) in
        let (j, less, same) = o.after i k inner l p in
        let e : get_or weights (get_or order j 0) 0 ≡ min (weight_below design depth is.model) (2 ^ 64 - 1) = w.weighs j is.model less (ap (slice_get design.models) same ∙ is.is_there) depth (omega arith) in
        ap (λ v. get_or weights v 0) (sym same) ∙ e ∙ sym (ap (λ m. min (of_model (weight_below design depth) m) (2 ^ 64 - 1)) is.is_named)

-- the weight of the next model of the order
weighs_next : (design : Design) (order weights : List ℕ) (i : ℕ) → IsModelOrder design.models order → AreWeights design order i weights → i < length order → (model : Model) → slice_get design.models (get_or order i 0) ≡ Some model
    → WeighsBeyond design i model (min (own_weight model + sum_by (line_weight design.models weights) model.subckts) (2 ^ 64 - 1))
weighs_next design order weights i o w l model there zero deep = absurd (omega arith)
weighs_next design order weights i o w l model there (suc depth) deep =
    held_sums (2 ^ 64 - 1) (λ line. of_model (weight_below design depth) (model_named design.models line.model)) (line_weight design.models weights) model.subckts (own_weight model) (line_is design order weights i o w l model there depth (omega arith))

pub weighed_more : (design : Design) (order weights : List ℕ) (i value : ℕ) (model : Model) → IsModelOrder design.models order → AreWeights design order i weights → i < length order → slice_get design.models (get_or order i 0) ≡ Some model
    → value ≡ min (own_weight model + sum_by (line_weight design.models weights) model.subckts) (2 ^ 64 - 1) → AreWeights design order (i + 1) (set weights (get_or order i 0) value)
weighed_more design order weights i value model o w l there is = record {
  fit = length-set weights (get_or order i 0) value ∙ w.fit;
  weighs = λ j m less e depth deep. by j m e depth deep (less_or_last j i less);
}
  where
    within : get_or order i 0 < length weights
    within = subst (λ v. get_or order i 0 < v) (sym w.fit) (slice_get_within design.models (get_or order i 0) model there)

    by : (j : ℕ) (m : Model) → slice_get design.models (get_or order j 0) ≡ Some m → (depth : ℕ) → j < depth → (j < i) ⊎ (j ≡ i) → get_or (set weights (get_or order i 0) value) (get_or order j 0) 0 ≡ min (weight_below design depth m) (2 ^ 64 - 1)
    by j m e depth deep (inl less) = get_or-set_other weights (get_or order i 0) (get_or order j 0) value 0 (o.once j i 0 less l) ∙ w.weighs j m less e depth deep
    by j m e depth deep (inr same) =
        let one : model ≡ m = same_Some model m (sym there ∙ ap (λ v. slice_get design.models (get_or order v 0)) (sym same) ∙ e) in
        ap (λ v. get_or (set weights (get_or order i 0) value) (get_or order v 0) 0) same
        ∙ get_or-set_same weights (get_or order i 0) value 0 within ∙ is ∙ weighs_next design order weights i o w l model there depth (omega arith) ∙ ap (λ v. min (weight_below design depth v) (2 ^ 64 - 1)) one

none_past : (models : List Model) → slice_get models 0 ≡ None → length models ≤ 0
none_past [] none = omega arith
none_past (m ∷ ms) none = absurd (cc)

-- the main model's
pub main_weight : (design : Design) (order weights : List ℕ) → IsModelOrder design.models order → AreWeights design order (length order) weights → get_or weights 0 0 ≡ min (weight design) (2 ^ 64 - 1)
main_weight design order weights o w = by (slice_get design.models 0) refl
  where
    by : (main : Option Model) → slice_get design.models 0 ≡ main → get_or weights 0 0 ≡ min (of_model (weight_below design (length design.models)) main) (2 ^ 64 - 1)
    by None none = get_or_past weights 0 0 (subst (λ v. v ≤ 0) (sym w.fit) (none_past design.models none))
    by (Some m) is =
        let (p, less, at) = o.all 0 (slice_get_within design.models 0 m is) in
        let few : length order ≤ length design.models = o.few in
        let first : get_or order p 0 ≡ 0 = at in
        ap (λ v. get_or weights v 0) (sym first) ∙ w.weighs p m less (ap (slice_get design.models) first ∙ is) (length design.models) (omega arith)
