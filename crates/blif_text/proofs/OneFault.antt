-- A list of lines has one fault at most, and a design has none.
use Rattle.netlist_rules.proofs.Faultless.{faultless_or_fault}
use Rattle.std.proofs.Common.{◌≡◌, refl, sym, ap, subst, ◌∙◌, ◌≤◌, ◌⊎◌, inl, inr, List, [], ◌∷◌, ◌++◌, Bool, true, false, not, ◌||◌, arith, drop}
use Rattle.std.specs.Prelude.{Some, None, Option, option_map}
use Rattle.std.specs.Bool.{then_some}
use Rattle.std.specs.Option.{option_or}
use Rattle.netlist_core.specs.declared.model.Model.{Model}
use Rattle.netlist_core.specs.declared.model.Design.{Design}
use Rattle.blif_text.specs.declared.logical.Logical.{Logical}
use Rattle.netlist_rules.specs.declared.fault.Fault.{Fault}
use Rattle.netlist_rules.specs.declared.fault.FaultKind.TheVariants.{NoModelYet}
use Rattle.blif_text.specs.LogicalLines.{logical_lines}
use Rattle.blif_text.specs.Models.{models_of, model_if, begins_model, first_word}
use Rattle.blif_text.specs.LineFaults.{line_fault, word_at_fault, first_broken, line_rules, fault_after}
use Rattle.netlist_rules.specs.FaultNames.{fault_on}
use Rattle.netlist_rules.specs.Circles.{IsOnCircle, IsCircleFault}
use Rattle.netlist_rules.specs.ModelFaults.{model_fault, AreFaultless, HasModelFault}
use Rattle.blif_text.specs.Faults.{HasModels, HasFault, IsDesignOf, fault_if_empty}
use Rattle.blif_text.specs.Faults.HasFault.{of_no_line, of_line, of_models}
use Rattle.blif_text.specs.Laws.{AreSameFault, OneFault, OneDesign, NeverBoth, NoModelNoLine, DesignOrFault}

-- the fault by any rule but the one on circles
abbrev plain_fault : List Logical → Option Fault
plain_fault lines = option_or (fault_if_empty lines) (option_or (line_fault lines) (model_fault (models_of lines)))

by_line : (lines : List Logical) (f : Fault) → line_fault lines ≡ Some f → plain_fault lines ≡ Some f
by_line [] f e = absurd (cc)
by_line (l ∷ ls) f e = ap (λ o. option_or o (model_fault (models_of (l ∷ ls)))) e

by_models : (lines : List Logical) (o : Option Fault) → line_fault lines ≡ None → model_fault (models_of lines) ≡ o → plain_fault lines ≡ o
by_models [] o n e = e
by_models (l ∷ ls) o n e = ap (λ v. option_or v (model_fault (models_of (l ∷ ls)))) n ∙ e

cases : {lines : List Logical} {f : Fault} → HasFault lines f → (plain_fault lines ≡ Some f) ⊎ ((plain_fault lines ≡ None) × IsCircleFault (models_of lines) f)
cases (of_no_line {lines = lines} {fault = f} e) = inl (ap (λ o. option_or o (option_or (line_fault lines) (model_fault (models_of lines)))) e)
cases (of_line {lines = lines} {fault = f} e) = inl (by_line lines f e)
cases (of_models {lines = lines} {models = models} {fault = f} m (inl e)) = inl (by_models lines (Some f) m.no_fault (subst (λ ms. model_fault ms ≡ Some f) m.are_models e))
cases (of_models {lines = lines} {models = models} {fault = f} m (inr p)) = inr (by_models lines None m.no_fault (subst (λ ms. model_fault ms ≡ None) m.are_models p.0), subst (λ ms. IsCircleFault ms f) m.are_models p.1)

same_fault : (f g : Fault) → f ≡ g → AreSameFault f g
same_fault f g e = record { kind = ap (λ h. h.kind) e; line = ap (λ h. h.line) e; whole = λ _. e }

same_line : (models : List Model) (f g : Fault) → IsCircleFault models f → IsCircleFault models g → f.line ≡ g.line
same_line models f g a b =
    let up : f.line ≤ g.line = a.is_earliest g.line b.names b.circle in
    let down : g.line ≤ f.line = b.is_earliest f.line a.names a.circle in
    omega arith

pub one_fault : OneFault
one_fault lines f g a b = by (cases a) (cases b)
  where
    by : (plain_fault lines ≡ Some f) ⊎ ((plain_fault lines ≡ None) × IsCircleFault (models_of lines) f) → (plain_fault lines ≡ Some g) ⊎ ((plain_fault lines ≡ None) × IsCircleFault (models_of lines) g) → AreSameFault f g
    by (inl d) (inl e) = same_fault f g (cc)
    by (inl d) (inr e) = absurd (let h : plain_fault lines ≡ None = e.0 in cc)
    by (inr d) (inl e) = absurd (let h : plain_fault lines ≡ None = d.0 in cc)
    by (inr d) (inr e) = record { kind = d.1.kind ∙ sym e.1.kind; line = same_line (models_of lines) f g d.1 e.1; whole = λ other. absurd (other d.1.kind) }

no_plain_fault : (lines : List Logical) (models : List Model) → HasModels lines models → model_fault models ≡ None → plain_fault lines ≡ None
no_plain_fault lines models m e = by_models lines None m.no_fault (subst (λ ms. model_fault ms ≡ None) m.are_models e)

pub never_both : NeverBoth
never_both text d f is has = by (cases has)
  where
    by : (plain_fault (logical_lines text) ≡ Some f) ⊎ ((plain_fault (logical_lines text) ≡ None) × IsCircleFault (models_of (logical_lines text)) f) → ⊥
    by (inl e) = let h : plain_fault (logical_lines text) ≡ None = no_plain_fault (logical_lines text) d.models is.models is.faultless.no_fault in cc
    by (inr e) = is.faultless.no_circle f.line e.1.names (subst (λ ms. IsOnCircle ms f.line e.1.names) (sym is.models.are_models) e.1.circle)

pub one_design : OneDesign
one_design text d e a b = ap (λ ms. let design : Design = record { models = ms } in design) (a.models.are_models ∙ sym b.models.are_models)

-- a first line that begins no model breaks the first rule
first_line : (l : Logical) (ls : List Logical) (b : Bool) → begins_model l ≡ b → line_fault (l ∷ ls) ≡ None → [] ≡ model_if b l ls ++ models_of ls → ⊥
first_line l ls true h e m = cc
first_line l ls false h e m = let w : word_at_fault NoModelYet [] l ≡ Some (first_word l) = ap (λ c. then_some (not (c || false)) (first_word l)) h in
    let g : line_fault (l ∷ ls) ≡ Some (fault_on NoModelYet l.line (first_word l)) = ap (λ o. option_or (option_or (option_map (fault_on NoModelYet l.line) o) (first_broken (drop 1 line_rules) [] l)) (fault_after (l ∷ []) ls)) w in
    cc

pub no_model_no_line : NoModelNoLine
no_model_no_line [] m = refl
no_model_no_line (l ∷ ls) m = absurd (first_line l ls (begins_model l) refl m.no_fault m.are_models)

pub design_or_fault : DesignOrFault
design_or_fault text = by (line_fault (logical_lines text)) refl (faultless_or_fault (models_of (logical_lines text)))
  where
    by : (o : Option Fault) → line_fault (logical_lines text) ≡ o → AreFaultless (models_of (logical_lines text)) ⊎ ((f : Fault) × HasModelFault (models_of (logical_lines text)) f) → IsDesignOf text (record { models = models_of (logical_lines text) }) ⊎ ((f : Fault) × HasFault (logical_lines text) f)
    by (Some f) e r = inr (f, of_line e)
    by None e (inl r) = inl (record { models = record { no_fault = e; are_models = refl }; faultless = r })
    by None e (inr r) = inr (r.0, of_models (record { no_fault = e; are_models = refl }) r.1)
