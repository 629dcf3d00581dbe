-- Whether a class is a clock's, by a test.
use Rattle.std.proofs.Common.{ℕ, ◌≡◌, ◌==◌, List, true, false, not, Option, Some, None, inl, inr, sym, subst, ap, ◌∙◌, true≢false, refl}
use Rattle.std.specs.Prelude.{Contains, MatchOption}
use Rattle.std.specs.Bool.{Decides}
use Rattle.std.specs.List.{list_any}
use Rattle.std.specs.Option.{option_map_or}
use Rattle.std.proofs.lemmas.Bool.{and_parts, and_from, or_left, or_right, or_cases, false_from_ne_true}
use Rattle.std.proofs.lemmas.Bool.Decides.{Decides-eqb}
use Rattle.lists.proofs.Members.{passes_at, passes_somewhere, contains_from}
use Rattle.netlist_core.specs.declared.flat.NetId.{NetId}
use Rattle.netlist_core.specs.declared.flat.Flat.{Flat}
use Rattle.netlist_meaning.specs.Flat.{class_of, port_classes, IsClockClass, is_clock_class}

-- a list of numbers has a number
has-Decides : (class : ℕ) (classes : List ℕ) → Decides (list_any (λ c. c == class) classes) (Contains classes class)
has-Decides class classes = (
  λ e. let (c, at, is) = passes_at (λ c. c == class) classes e in subst (Contains classes) ((Decides-eqb c class).0 is) (contains_from classes c at),
  λ has. passes_somewhere (λ c. c == class) classes class has ((Decides-eqb class class).1 refl),
)

lacks-Decides : (class : ℕ) (classes : List ℕ) → Decides (not (list_any (λ c. c == class) classes)) (¬ Contains classes class)
lacks-Decides class classes = (
  λ e has. true≢false (sym e ∙ ap not ((has-Decides class classes).1 has)),
  λ lacks. ap not (false_from_ne_true (list_any (λ c. c == class) classes) (λ e. lacks ((has-Decides class classes).0 e))),
)

control-Decides : (flat : Flat) (class : ℕ) (control : Option NetId) → Decides (option_map_or (λ id. class_of flat id == class) control false) (MatchOption control ⊥ (λ id. class_of flat id ≡ class))
control-Decides flat class None = (λ e. true≢false (sym e), λ none. absurd none)
control-Decides flat class (Some id) = Decides-eqb (class_of flat id) class

pub is_clock_class-Decides : (flat : Flat) (class : ℕ) → Decides (is_clock_class flat class) (IsClockClass flat class)
is_clock_class-Decides flat class = (
  λ e. elim (or_cases _ _ e) [
    | inl control ↦ inl ((control-Decides flat class flat.control).0 control)
    | inr clock ↦ let (has, lacks) = and_parts _ _ clock in inr ((has-Decides class (port_classes flat flat.clocks)).0 has, (lacks-Decides class (port_classes flat flat.ins)).0 lacks)
  ],
  by_cases,
)
  where
    by_cases : IsClockClass flat class → is_clock_class flat class ≡ true
    by_cases (inl control) = or_left _ _ ((control-Decides flat class flat.control).1 control)
    by_cases (inr clock) = or_right (option_map_or (λ id. class_of flat id == class) flat.control false) _ (and_from _ _ ((has-Decides class (port_classes flat flat.clocks)).1 clock.0) ((lacks-Decides class (port_classes flat flat.ins)).1 clock.1))
