-- Boxes at the limit of a reader.
use Rattle.std.proofs.Common.{ℕ, ◌*◌, ◌<◌, ◌≤◌, ◌≡◌, ◌⊎◌, inl, inr, refl, sym, ap, ◌∙◌, Bool, true, false, true≢false, List, arith}
use Rattle.std.specs.Prelude.{nat_lt, Option, Some, None}
use Rattle.std.proofs.lemmas.Bool.{ltb-true, ltb-false}
use Rattle.std.proofs.lemmas.Option.{none-some}
use Rattle.ww_rule.specs.Grid.{Grid}
use Rattle.pattern_reading.specs.Laws.{HasOneReaderAnswer, HasPatternOrFault, HasReaderAnswer}
use Rattle.pattern_reading.proofs.RleLaws.{no_fault_if_read, pattern_or_fault}
use Rattle.pattern_reading.specs.Lines.{Line}
use Rattle.pattern_reading.specs.Numbers.{◌>>=◌}
use Rattle.pattern_reading.specs.Header.{Header, header_in, header_line, is_wireworld}
use Rattle.pattern_reading.specs.Pattern.{HasBox, HasLargeBox, IsGridTooLarge, ReadsAsPattern, ReadsWithinLimit, most_cells}
use Rattle.std.proofs.lemmas.Option.{same_Some}

-- a text has one header
box_header : (text : List ℕ) (width height : ℕ) (box : HasBox text width height) → (header_line text >>= λ line. header_in line.bytes) ≡ Some box.header
box_header text width height box = rw (box.first) box.form

-- whose cells are within the limit
pub within : (text : List ℕ) (header : Header) → (header_line text >>= λ line. header_in line.bytes) ≡ Some header → header.width * header.height ≤ most_cells → IsGridTooLarge text → ⊥
within text header e small h =
    let same : header ≡ h.2.0.header = same_Some _ _ (sym e ∙ box_header text h.0 h.1 h.2.0) in
    let w : header.width ≡ h.0 = ap (λ x. x.width) same ∙ h.2.0.width_is in
    let k : header.height ≡ h.1 = ap (λ x. x.height) same ∙ h.2.0.height_is in
    let large : most_cells < header.width * header.height = rw (w, k) h.2.1 in
    omega (arith, small, large)

-- or which names no rule
pub other_rule : (text : List ℕ) (header : Header) → (header_line text >>= λ line. header_in line.bytes) ≡ Some header → is_wireworld header.rule ≡ false → IsGridTooLarge text → ⊥
other_rule text header e other h =
    let same : header ≡ h.2.0.header = same_Some _ _ (sym e ∙ box_header text h.0 h.1 h.2.0) in
    true≢false (sym h.2.0.rule ∙ ap (λ x. is_wireworld x.rule) (sym same) ∙ other)

pub beyond : (text : List ℕ) (line : Line) (header : Header) → header_line text ≡ Some line → header_in line.bytes ≡ Some header → is_wireworld header.rule ≡ true → most_cells < header.width * header.height → IsGridTooLarge text
beyond text line header e form rule large =
    (header.width, header.height, (record { line = line; first = e; header = header; form = form; width_is = refl; height_is = refl; rule = rule }, large))

-- whether a box is too large is decided
no_header : (text : List ℕ) → header_line text ≡ None → IsGridTooLarge text → ⊥
no_header text e h = none-some _ (sym e ∙ h.2.0.first)

no_form : (text : List ℕ) → (header_line text >>= λ line. header_in line.bytes) ≡ None → IsGridTooLarge text → ⊥
no_form text e h = none-some _ (sym e ∙ box_header text h.0 h.1 h.2.0)

by_size : (text : List ℕ) (line : Line) (header : Header) → header_line text ≡ Some line → header_in line.bytes ≡ Some header → is_wireworld header.rule ≡ true → (t : Bool) → nat_lt most_cells (header.width * header.height) ≡ t → IsGridTooLarge text ⊎ (IsGridTooLarge text → ⊥)
by_size text line header e form rule true size = inl (beyond text line header e form rule (ltb-true _ _ size))
by_size text line header e form rule false size = inr (within text header (rw e form) (ltb-false _ _ size))

by_rule : (text : List ℕ) (line : Line) (header : Header) → header_line text ≡ Some line → header_in line.bytes ≡ Some header → (t : Bool) → is_wireworld header.rule ≡ t → IsGridTooLarge text ⊎ (IsGridTooLarge text → ⊥)
by_rule text line header e form true rule = by_size text line header e form rule _ refl
by_rule text line header e form false rule = inr (other_rule text header (rw e form) rule)

by_form : (text : List ℕ) (line : Line) → header_line text ≡ Some line → (o : Option Header) → header_in line.bytes ≡ o → IsGridTooLarge text ⊎ (IsGridTooLarge text → ⊥)
by_form text line e None form = inr (no_form text (rw e form))
by_form text line e (Some header) form = by_rule text line header e form _ refl

by_line : (text : List ℕ) (o : Option Line) → header_line text ≡ o → IsGridTooLarge text ⊎ (IsGridTooLarge text → ⊥)
by_line text None e = inr (no_header text e)
by_line text (Some line) e = by_form text line e _ refl

large_or_not : (text : List ℕ) → IsGridTooLarge text ⊎ (IsGridTooLarge text → ⊥)
large_or_not text = by_line text _ refl

-- the answers of a reader
one_box : (text : List ℕ) (width height width' height' : ℕ) → HasBox text width height → HasBox text width' height' → (width ≡ width') × (height ≡ height')
one_box text width height width' height' a b =
    let same : a.header ≡ b.header = same_Some _ _ (sym (box_header text width height a) ∙ box_header text width' height' b) in
    (sym a.width_is ∙ ap (λ x. x.width) same ∙ b.width_is, sym a.height_is ∙ ap (λ x. x.height) same ∙ b.height_is)

reads_or_large : (text : List ℕ) (grid : Grid) (width height : ℕ) → ReadsWithinLimit text grid → HasLargeBox text width height → ⊥
reads_or_large text grid width height h k =
    let same = one_box text grid.width grid.height width height h.0.header k.0 in
    let small : width * height ≤ most_cells = rw (← same.0, ← same.1) h.1 in
    omega (arith, small, k.1)

pub one_reader_answer : (text : List ℕ) → HasOneReaderAnswer text
one_reader_answer text = record {
  reads_or_fault = λ grid kind line h k. no_fault_if_read text grid kind line h.0 k.0;
  reads_or_large = reads_or_large text;
  fault_or_large = λ kind line width height h k. h.1 (width, height, k);
  one_box = one_box text;
}

within_limit : (text : List ℕ) (grid : Grid) → ReadsAsPattern text grid → (IsGridTooLarge text → ⊥) → ReadsWithinLimit text grid
within_limit text grid h small = (h, by_test (nat_lt most_cells (grid.width * grid.height)) refl)
  where
    by_test : (t : Bool) → nat_lt most_cells (grid.width * grid.height) ≡ t → grid.width * grid.height ≤ most_cells
    by_test true e = absurd (small (grid.width, grid.height, (h.header, ltb-true _ _ e)))
    by_test false e = ltb-false _ _ e

small_answer : (text : List ℕ) → (IsGridTooLarge text → ⊥) → HasPatternOrFault text → HasReaderAnswer text
small_answer text small (inl h) = inl (h.0, within_limit text h.0 h.1 small)
small_answer text small (inr h) = inr (inl (h.0, h.1, (h.2, small)))

pub reader_answer : (text : List ℕ) → HasReaderAnswer text
reader_answer text = by_large (large_or_not text)
  where
    by_large : IsGridTooLarge text ⊎ (IsGridTooLarge text → ⊥) → HasReaderAnswer text
    by_large (inl h) = inr (inr (h.0, h.1, h.2))
    by_large (inr small) = small_answer text small (pattern_or_fault text)
