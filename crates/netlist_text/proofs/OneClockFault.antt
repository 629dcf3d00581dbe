-- A design has one clock fault.
use Rattle.std.proofs.Common.{ℕ, ◌≡◌, refl, ap, ap₂}
use Rattle.netlist_core.specs.declared.model.Design.{Design}
use Rattle.netlist_core.specs.Names.{Name}
use Rattle.netlist_rules.specs.declared.fault.Fault.{Fault}
use Rattle.netlist_rules.specs.declared.fault.FaultKind.TheVariants.{TwoClocks}
use Rattle.netlist_rules.specs.FaultNames.{fault_on}
use Rattle.netlist_rules.specs.Clocks.{IsTwoClocks, IsClockFault, two_clocks, clock_read}
use Rattle.netlist_text.specs.Laws.{AreAlikeFaults}
use Rattle.netlist_rules.proofs.OneClockFault.{two_clocks_are_one, clock_read_is_on_one_line}

two_clocks_alike : (design : Design) (l m : ℕ) (v w : Name) → IsTwoClocks design l v → IsTwoClocks design m w → fault_on TwoClocks l v ≡ fault_on TwoClocks m w
two_clocks_alike design l m v w a b = let (line, word) = two_clocks_are_one design l m v w a b in ap₂ (λ (n : ℕ) (x : Name). fault_on TwoClocks n x) line word

alike_if_same : (a b : Fault) → a ≡ b → AreAlikeFaults a b
alike_if_same a b e = record { kind = ap (λ (f : Fault). f.kind) e; line = ap (λ (f : Fault). f.line) e; whole = λ c r. e }

pub one_clock_fault : (design : Design) (a b : Fault) → IsClockFault design a → IsClockFault design b → AreAlikeFaults a b
one_clock_fault design a b (two_clocks {line = l} {word = v} h) (two_clocks {line = m} {word = w} k) = alike_if_same _ _ (two_clocks_alike design l m v w h k)
one_clock_fault design a b (two_clocks {line = l} {word = v} h) (clock_read none k) = absurd (none l v h)
one_clock_fault design a b (clock_read none h) (two_clocks {line = m} {word = w} k) = absurd (none m w k)
one_clock_fault design a b (clock_read none h) (clock_read none' k) = record {
  kind = refl;
  line = clock_read_is_on_one_line design _ _ _ _ h k;
  whole = λ c r. absurd (r refl);
}
