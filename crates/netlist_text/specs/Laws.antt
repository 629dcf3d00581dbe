-- A text is never both a netlist and refused, and never refused for causes of two kinds.
use Rattle.std.specs.Prelude.{ℕ, ◌≡◌, ◌≢◌, List}
use Rattle.netlist_core.specs.declared.model.Design.{Design}
use Rattle.netlist_core.specs.Names.{Name}
use Rattle.netlist_rules.specs.declared.fault.Fault.{Fault}
use Rattle.netlist_rules.specs.declared.fault.FaultKind.TheVariants.{Recursive, ClockRead}
use Rattle.netlist_text.specs.NetlistText.{IsNetlist, IsAtFault, IsTooHeavy, HasLoop}

-- Two faults have one kind and one line, and are the same unless their kind is `Recursive` or
-- `ClockRead`: one line may lie on several circles of models, and may read several clock nets.
pub record AreAlikeFaults (a b : Fault) : Type 0 where
  pub kind : a.kind ≡ b.kind
  pub line : a.line ≡ b.line
  pub whole : a.kind ≢ Recursive → a.kind ≢ ClockRead → a ≡ b

-- A text is not both a netlist and refused, it has no two of the causes, and of each it has at most
-- one, except that there may be several loops, and several words of one line at fault
-- (`AreAlikeFaults`).
pub record IsDecided (text : List ℕ) : Type 0 where
  pub one_design : (a b : Design) → IsNetlist text a → IsNetlist text b → a ≡ b
  pub not_at_fault : (design : Design) (fault : Fault) → IsNetlist text design
      → IsAtFault text fault → ⊥
  pub not_heavy : (design : Design) (told : ℕ) → IsNetlist text design → IsTooHeavy text told → ⊥
  pub not_a_loop : (design : Design) (names : List Name) → IsNetlist text design
      → HasLoop text names → ⊥
  pub one_fault : (a b : Fault) → IsAtFault text a → IsAtFault text b → AreAlikeFaults a b
  pub one_weight : (a b : ℕ) → IsTooHeavy text a → IsTooHeavy text b → a ≡ b
  pub fault_or_heavy : (fault : Fault) (told : ℕ) → IsAtFault text fault → IsTooHeavy text told → ⊥
  pub fault_or_loop : (fault : Fault) (names : List Name) → IsAtFault text fault
      → HasLoop text names → ⊥
  pub heavy_or_loop : (told : ℕ) (names : List Name) → IsTooHeavy text told → HasLoop text names → ⊥

abbrev pub TextsAreDecided : Type 0
TextsAreDecided = (text : List ℕ) → IsDecided text
