-- A text of extended RLE says one thing.
use Rattle.std.proofs.Common.{ℕ, inl, inr, sym, ap, ◌∙◌, List}
use Rattle.std.specs.Prelude.{Option, Some, None}
use Rattle.std.proofs.lemmas.Option.{none-some, same_Some}
use Rattle.pattern_reading.specs.Pattern.{RleFaultAt}
use Rattle.pattern_reading.specs.Laws.{HasOnePattern, HasOneRleFault, HasNoFaultIfRead, HasPatternOrFault}
use Rattle.pattern_reading.proofs.RleVerdict.{IsJudged, rle_verdict, rle_judged, rle_fault_is, rle_reading_is, grid_of}

pub one_pattern : (text : List ℕ) → HasOnePattern text
one_pattern text a b h k = (rle_reading_is text a h).1 ∙ sym (rle_reading_is text b k).1

pub one_fault : (text : List ℕ) → HasOneRleFault text
one_fault text k k' line line' h h' =
    let is = same_Some _ _ (sym (rle_fault_is text k line h) ∙ rle_fault_is text k' line' h') in
    (ap (λ (f : RleFaultAt). f.kind) is, ap (λ (f : RleFaultAt). f.line) is)

pub no_fault_if_read : (text : List ℕ) → HasNoFaultIfRead text
no_fault_if_read text grid kind line h k = none-some _ (sym (rle_reading_is text grid h).0 ∙ rle_fault_is text kind line k)

by_verdict : (text : List ℕ) (v : Option RleFaultAt) → IsJudged text v → HasPatternOrFault text
by_verdict text None h = inl (grid_of text, h)
by_verdict text (Some fault) h = inr (fault.kind, fault.line, h)

pub pattern_or_fault : (text : List ℕ) → HasPatternOrFault text
pattern_or_fault text = by_verdict text (rle_verdict text) (rle_judged text)
