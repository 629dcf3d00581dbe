-- A text is at most one of a netlist and the causes why it is none.
use Rattle.std.proofs.Common.{ℕ, ◌≡◌, ◌^◌, ◌-◌, sym, ap, ◌∙◌, subst, List, arith, min}
use Rattle.netlist_core.specs.declared.model.Design.{Design}
use Rattle.netlist_core.specs.Names.{Name}
use Rattle.netlist_meaning.specs.Weight.{weight}
use Rattle.netlist_rules.specs.declared.fault.Fault.{Fault}
use Rattle.netlist_rules.specs.Clocks.{IsClockFault}
use Rattle.blif_text.specs.LogicalLines.{logical_lines}
use Rattle.blif_text.specs.Faults.{IsDesignOf}
use Rattle.blif_text.proofs.OneFault.{one_fault as one_text_fault, one_design, never_both}
use Rattle.netlist_text.specs.NetlistText.{IsLight, IsNetlist, IsAtFault, of_text, of_clocks, IsTooHeavy, HasLoop}
use Rattle.netlist_text.specs.Laws.{AreAlikeFaults, TextsAreDecided}
use Rattle.netlist_text.proofs.OneClockFault.{one_clock_fault}

same_design : (text : List ℕ) (a b : Design) → IsDesignOf text a → IsDesignOf text b → a ≡ b
same_design text a b h k = one_design text a b h k

-- a design within the limit has no fault but one on clocks
light_or_fault : (text : List ℕ) (design : Design) (fault : Fault) → IsDesignOf text design → IsAtFault text fault → IsClockFault design fault
light_or_fault text design fault h (of_text k) = absurd (never_both text design fault h k)
light_or_fault text design fault h (of_clocks {design = d} is k) = subst (λ (x : Design). IsClockFault x fault) (same_design text d design is.design_of h) k

-- nor is it over the limit
light_or_heavy : (text : List ℕ) (design : Design) (told : ℕ) → IsLight text design → IsTooHeavy text told → ⊥
light_or_heavy text design told h k =
    let same : weight k.design ≡ weight design = ap weight (same_design text k.design design k.design_of h.design_of) in
    omega (arith, same, h.light, k.heavy)

pub not_at_fault : (text : List ℕ) (design : Design) (fault : Fault) → IsNetlist text design → IsAtFault text fault → ⊥
not_at_fault text design fault h k = h.clocks fault (light_or_fault text design fault h.is.design_of k)

pub not_heavy : (text : List ℕ) (design : Design) (told : ℕ) → IsNetlist text design → IsTooHeavy text told → ⊥
not_heavy text design told h k = light_or_heavy text design told h.is k

pub not_a_loop : (text : List ℕ) (design : Design) (names : List Name) → IsNetlist text design → HasLoop text names → ⊥
not_a_loop text design names h k =
    (subst (λ (d : Design). IsNetlist text d) (same_design text design k.design h.is.design_of k.is.design_of) h).no_loop k.nets k.is_loop

pub one_fault : (text : List ℕ) (a b : Fault) → IsAtFault text a → IsAtFault text b → AreAlikeFaults a b
one_fault text a b (of_text h) (of_text k) =
    let same = one_text_fault (logical_lines text) a b h k in record { kind = same.kind; line = same.line; whole = λ c r. same.whole c }
one_fault text a b (of_text h) (of_clocks {design = d} is k) = absurd (never_both text d a is.design_of h)
one_fault text a b (of_clocks {design = d} is h) (of_text k) = absurd (never_both text d b is.design_of k)
one_fault text a b (of_clocks {design = d} is h) (of_clocks {design = e} js k) =
    one_clock_fault d a b h (subst (λ (x : Design). IsClockFault x b) (same_design text e d js.design_of is.design_of) k)

pub one_weight : (text : List ℕ) (a b : ℕ) → IsTooHeavy text a → IsTooHeavy text b → a ≡ b
one_weight text a b h k =
    h.is_told ∙ ap (λ (d : Design). min (weight d) (2 ^ 64 - 1)) (same_design text h.design k.design h.design_of k.design_of) ∙ sym k.is_told

pub fault_or_heavy : (text : List ℕ) (fault : Fault) (told : ℕ) → IsAtFault text fault → IsTooHeavy text told → ⊥
fault_or_heavy text fault told (of_text h) k = never_both text k.design fault k.design_of h
fault_or_heavy text fault told (of_clocks {design = d} is h) k = light_or_heavy text d told is k

pub fault_or_loop : (text : List ℕ) (fault : Fault) (names : List Name) → IsAtFault text fault → HasLoop text names → ⊥
fault_or_loop text fault names h k = k.clocks fault (light_or_fault text k.design fault k.is.design_of h)

pub heavy_or_loop : (text : List ℕ) (told : ℕ) (names : List Name) → IsTooHeavy text told → HasLoop text names → ⊥
heavy_or_loop text told names h k = light_or_heavy text k.design told k.is h

pub texts_are_decided : TextsAreDecided
texts_are_decided text = record {
  one_design = λ a b h k. same_design text a b h.is.design_of k.is.design_of;
  not_at_fault = not_at_fault text;
  not_heavy = not_heavy text;
  not_a_loop = not_a_loop text;
  one_fault = one_fault text;
  one_weight = one_weight text;
  fault_or_heavy = fault_or_heavy text;
  fault_or_loop = fault_or_loop text;
  heavy_or_loop = heavy_or_loop text;
}
