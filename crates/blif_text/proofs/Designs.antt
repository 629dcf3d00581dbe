-- What a design without a fault has.
use Rattle.std.proofs.lemmas.Bool.{or_parts}
use Rattle.lists.proofs.Bools.{and_false_right as other_fails}
use Rattle.std.proofs.Common.{◌≡◌, refl, sym, subst, ℕ, inl, inr, List, [], ◌∷◌, ◌++◌, map, Bool, true, false, not, ◌&&◌, ◌||◌, true≢false, cond}
use Rattle.std.specs.Prelude.{Some, None, Option, bytes_eq}
use Rattle.std.specs.Bool.{then_some}
use Rattle.std.specs.Option.{option_or}
use Rattle.std.specs.List.{list_any, IsDistinct}
use Rattle.std.proofs.lemmas.Slice.Eq.{bytes_eq-Decides}
use Rattle.blif_text.specs.declared.logical.Logical.{Logical}
use Rattle.netlist_rules.specs.declared.fault.Fault.{Fault}
use Rattle.netlist_rules.specs.declared.fault.FaultKind.TheVariants.{DuplicateModel}
use Rattle.blif_text.specs.LogicalLines.{logical_lines}
use Rattle.blif_text.specs.Models.{first_operand, begins_model, model_if, models_of}
use Rattle.blif_text.specs.LineFaults.{word_at_fault, first_broken, fault_after, line_rules, names_same_model}
use Rattle.blif_text.specs.Laws.{ModelsAreDistinct}
use Rattle.lists.proofs.Members.{In, Distinct, is_distinct}
use Rattle.blif_text.proofs.FirstFaults.{breaks_none}
use Rattle.netlist_rules.proofs.CircleSearch.{name_of}

-- a `.model` line of this name
abbrev names_model : List ℕ → Logical → Bool
names_model name l = begins_model l && bytes_eq (first_operand l) name

pub none_given : (b : Bool) (word : List ℕ) → then_some b word ≡ None → b ≡ false
none_given true word e = absurd (cc)
none_given false word e = refl

-- a `.model` line that breaks no rule names a model that no earlier one names
outside : (b : Bool) (any : Bool) (end : Bool) (word : Option (List ℕ)) → b ≡ true → cond (not (b || any) || (not b && end)) None word ≡ None → word ≡ None
outside true any end word t e = e
outside false any end word t e = absurd (true≢false (sym t))

new_name : (before : List Logical) (l : Logical) → begins_model l ≡ true → word_at_fault DuplicateModel before l ≡ None → list_any (names_model (first_operand l)) before ≡ false
new_name before l t e =
    let inner : then_some (begins_model l && list_any (names_same_model l) before) (first_operand l) ≡ None = outside (begins_model l) (list_any begins_model before) _ _ t e in
    other_fails (begins_model l) (list_any (names_same_model l) before) t (none_given (begins_model l && list_any (names_same_model l) before) (first_operand l) inner)

-- The models of lines after these have distinct names, that none of these lines has.
record NewNames (before : List Logical) (names : List (List ℕ)) : Type 0 where
  pub distinct : Distinct names
  pub new : (name : List ℕ) → In name names → list_any (names_model name) before ≡ false

apart : (l : Logical) (before : List Logical) (names : List (List ℕ)) → begins_model l ≡ true → NewNames (l ∷ before) names → ¬ (In (first_operand l) names)
apart l before names t n i =
    let e : (begins_model l && bytes_eq (first_operand l) (first_operand l)) ≡ false = (or_parts _ _ (n.new (first_operand l) i)).0 in
    let f : bytes_eq (first_operand l) (first_operand l) ≡ false = other_fails (begins_model l) (bytes_eq (first_operand l) (first_operand l)) t e in
    let g : bytes_eq (first_operand l) (first_operand l) ≡ true = (bytes_eq-Decides (first_operand l) (first_operand l)).1 refl in
    cc

named_at : (b : Bool) (l : Logical) (ls before : List Logical) → begins_model l ≡ b → word_at_fault DuplicateModel before l ≡ None → NewNames (l ∷ before) (map name_of (models_of ls)) → NewNames before (map name_of (model_if b l ls ++ models_of ls))
named_at false l ls before h e n = record { distinct = n.distinct; new = λ name i. (or_parts (names_model name l) (list_any (names_model name) before) (n.new name i)).1 }
named_at true l ls before h e n = record {
  distinct = (apart l before (map name_of (models_of ls)) h n, n.distinct);
  new = λ name i. elim i as (λ _. list_any (names_model name) before ≡ false) [
    | inl same ↦ subst (λ v. list_any (names_model v) before ≡ false) (sym same) (new_name before l h e)
    | inr later ↦ (or_parts (names_model name l) (list_any (names_model name) before) (n.new name later)).1
  ];
}

pub none_left : (o p : Option Fault) → option_or o p ≡ None → o ≡ None
none_left None p e = refl
none_left (Some f) p e = absurd (cc)

pub none_right : (o p : Option Fault) → option_or o p ≡ None → p ≡ None
none_right None p e = e
none_right (Some f) p e = absurd (cc)

new_names : (before lines : List Logical) → fault_after before lines ≡ None → NewNames before (map name_of (models_of lines))
new_names before [] e = record { distinct = tt; new = λ name i. absurd i }
new_names before (l ∷ ls) e =
    let here : first_broken line_rules before l ≡ None = none_left (first_broken line_rules before l) (fault_after (l ∷ before) ls) e in
    let later : fault_after (l ∷ before) ls ≡ None = none_right (first_broken line_rules before l) (fault_after (l ∷ before) ls) e in
    named_at (begins_model l) l ls before refl (breaks_none before l here DuplicateModel) (new_names (l ∷ before) ls later)

pub models_are_distinct : ModelsAreDistinct
models_are_distinct text design d =
    subst (λ ms. IsDistinct bytes_eq (map name_of ms)) (sym d.models.are_models) (is_distinct (map name_of (models_of (logical_lines text))) (new_names [] (logical_lines text) d.models.no_fault).distinct)
