-- A reader's answer is the only one.
use Rattle.std.proofs.Common.{ℕ, ◌≡◌, ◌⊎◌, inl, inr, refl, ap₂, List}
use Rattle.std.specs.Prelude.{Result, Ok, Err, MatchResult, IfOk, IfErr}
use Rattle.ww_rule.specs.Grid.{Grid}
use Rattle.ww_rule.specs.Patterns.{grid_of}
use Rattle.ww_rule.specs.declared.pattern.Pattern.{Pattern}
use Rattle.pattern_reading.specs.declared.faults.RleFaultKind.{RleFaultKind}
use Rattle.pattern_reading.specs.Pattern.{HasLargeBox, HasReaderFault, ReadsWithinLimit}
use Rattle.pattern_reading.proofs.Large.{one_reader_answer}
use Rattle.pattern_reading.proofs.RleLaws.{one_pattern, one_fault}
use Rattle.rle_read.specs.declared.error.RleReadError.{RleReadError}
use Rattle.rle_read.specs.declared.error.RleReadError.TheVariants.{Fault, TooLarge, NoMemory}
use Rattle.rle_read.specs.Answers.{HasReadReason}
use Rattle.rle_read.proofs.ReadText.{not_too_large}

module _ (text : List ℕ) where
  abbrev pub IsAnswer : Result Pattern RleReadError → Type 0
  IsAnswer r = MatchResult r (λ pattern. ReadsWithinLimit text (grid_of pattern)) (HasReadReason text)

  pub reads_answer : (r : Result Pattern RleReadError) → IsAnswer r → (grid : Grid) → ReadsWithinLimit text grid → MatchResult r (λ pattern. grid_of pattern ≡ grid) (λ e. e ≡ NoMemory)
  reads_answer (Ok pattern) h grid k = one_pattern text (grid_of pattern) grid h.0 k.0
  reads_answer (Err (Fault fault)) h grid k = absurd ((one_reader_answer text).reads_or_fault grid fault.kind fault.line k h)
  reads_answer (Err (TooLarge width height)) h grid k = absurd ((one_reader_answer text).reads_or_large grid width height k h)
  reads_answer (Err NoMemory) h grid k = refl

  pub fault_answer : (r : Result Pattern RleReadError) → IsAnswer r → (kind : RleFaultKind) (line : ℕ) → HasReaderFault text kind line → MatchResult r (λ pattern. ⊥) (λ e. (e ≡ Fault (record { kind = kind; line = line })) ⊎ (e ≡ NoMemory))
  fault_answer (Ok pattern) h kind line k = absurd ((one_reader_answer text).reads_or_fault (grid_of pattern) kind line h k)
  fault_answer (Err (Fault fault)) h kind line k =
      let same = one_fault text fault.kind kind fault.line line h.0 k.0 in
      inl (ap₂ (λ kind line. Fault (record { kind = kind; line = line })) same.0 same.1)
  fault_answer (Err (TooLarge width height)) h kind line k = absurd ((one_reader_answer text).fault_or_large kind line width height k h)
  fault_answer (Err NoMemory) h kind line k = inr refl

  pub large_answer : (r : Result Pattern RleReadError) → IsAnswer r → (width height : ℕ) → HasLargeBox text width height → MatchResult r (λ pattern. ⊥) (λ e. e ≡ TooLarge width height)
  large_answer (Ok pattern) h width height k = absurd ((one_reader_answer text).reads_or_large (grid_of pattern) width height h k)
  large_answer (Err (Fault fault)) h width height k = absurd ((one_reader_answer text).fault_or_large fault.kind fault.line width height h k)
  large_answer (Err (TooLarge wide high)) h width height k =
      let same = (one_reader_answer text).one_box wide high width height h.0 k.0 in
      ap₂ (λ w h. TooLarge w h) same.0 same.1
  large_answer (Err NoMemory) h width height k = absurd (not_too_large text h.0 h.1 h.2 h.3 (width, height, k))

  pub answer : (r : Result Pattern RleReadError) → IfOk r (λ pattern. ReadsWithinLimit text (grid_of pattern)) → IfErr r (HasReadReason text) → IsAnswer r
  answer (Ok pattern) h k = h
  answer (Err e) h k = k
