-- The text of an OR gate with any names.
use Rattle.std.proofs.Common.{ℕ, ◌≢◌, refl, sym, List, [], arith}
use Rattle.std.specs.List.{AllByRecursion}
use Rattle.lists.proofs.Names.{bytes_eq-other}
use Rattle.pattern_writing.specs.Samples.{or_items_text}
use Rattle.pattern_reading.specs.Spelling.{IsPortName, IsSpellable, IsSoundAfter}
use Rattle.pattern_writing.specs.NamedGate.{HasNamedGate, named_or_forms}
use Rattle.pattern_reading.proofs.Spelled.{same_pattern, spelled_ports}
use Rattle.pattern_writing.proofs.Samples.{or_items_read}

gate_spellable : (a b y : List ℕ) → IsPortName a → IsPortName b → IsPortName y → AllByRecursion IsSpellable (named_or_forms a b y)
gate_spellable a b y ha hb hy =
    ((λ e. omega (arith, e), omega arith, omega arith, refl), ((omega arith, omega arith, ha), ((omega arith, omega arith, hb), ((omega arith, omega arith, hy), tt))))

gate_sound : (a b y : List ℕ) → a ≢ b → IsSoundAfter 33 32 [] (named_or_forms a b y)
gate_sound a b y h = (refl, (refl, (rw (bytes_eq-other b a (λ e. h (sym e))) refl, (refl, tt))))

pub named_gate : (a b y : List ℕ) → IsPortName a → IsPortName b → IsPortName y → HasNamedGate a b y
named_gate a b y ha hb hy = (
  same_pattern (named_or_forms a b y) or_items_text _ (gate_spellable a b y ha hb hy) or_items_read,
  λ h. spelled_ports (named_or_forms a b y) or_items_text 33 32 (gate_spellable a b y ha hb hy) (gate_sound a b y h) refl,
)
