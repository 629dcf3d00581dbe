-- What the examples claim, by computing the verdict on each text.
use Rattle.std.proofs.Common.{◌≡◌, refl, List, [], ◌∷◌, arith, rules}
use Rattle.std.specs.Prelude.{Some, None}
use Rattle.std.specs.List.{AllByRecursion}
use Rattle.pattern_reading.specs.Pattern.{IsGridTooLarge}
use Rattle.pattern_laws.specs.Examples.{PatternExample, RleFaultExample, ReadsAsSaid, HasSaidFault, header_examples, header_fault_examples, item_examples, item_fault_examples, end_fault_examples, too_large_texts, large_texts}
use Rattle.pattern_reading.proofs.RleVerdict.{rle_verdict, grid_of, verdict_fault, verdict_pattern}
use Rattle.pattern_reading.proofs.Large.{beyond, within, other_rule}

abbrev AreVerdicts : List RleFaultExample → Type 0
AreVerdicts [] = Unit {0}
AreVerdicts (e ∷ es) = (rle_verdict e.text ≡ Some (record { kind = e.kind; line = e.line })) × AreVerdicts es

faults_as_said : (es : List RleFaultExample) → AreVerdicts es → AllByRecursion HasSaidFault es
faults_as_said [] h = tt
faults_as_said (e ∷ es) h = (verdict_fault e.text _ h.0, faults_as_said es h.1)

abbrev AreGrids : List PatternExample → Type 0
AreGrids [] = Unit {0}
AreGrids (e ∷ es) = (rle_verdict e.text ≡ None) × (grid_of e.text ≡ e.grid) × AreGrids es

patterns_as_said : (es : List PatternExample) → AreGrids es → AllByRecursion ReadsAsSaid es
patterns_as_said [] h = tt
patterns_as_said (e ∷ es) h = (verdict_pattern e.text e.grid h.0 h.1, patterns_as_said es h.2)

pub header_faults_as_said : AllByRecursion HasSaidFault header_fault_examples
header_faults_as_said = faults_as_said header_fault_examples (search rules)

pub item_faults_as_said : AllByRecursion HasSaidFault item_fault_examples
item_faults_as_said = faults_as_said item_fault_examples (search rules)

pub end_faults_as_said : AllByRecursion HasSaidFault end_fault_examples
end_faults_as_said = faults_as_said end_fault_examples (search rules)

pub headers_as_said : AllByRecursion ReadsAsSaid header_examples
headers_as_said = patterns_as_said header_examples (search rules)

pub items_as_said : AllByRecursion ReadsAsSaid item_examples
items_as_said = patterns_as_said item_examples (search rules)

pub too_large : AllByRecursion IsGridTooLarge too_large_texts
too_large = (beyond _ _ _ refl refl refl (omega arith), (beyond _ _ _ refl refl refl (omega arith), tt))

pub not_too_large : AllByRecursion (λ text. ¬ (IsGridTooLarge text)) large_texts
not_too_large = (within _ _ refl (omega arith), (within _ _ refl (omega arith), (other_rule _ _ refl refl, tt)))
