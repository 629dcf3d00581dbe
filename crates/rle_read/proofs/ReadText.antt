-- What is drawn of a text's items is the pattern that it reads as, or its first fault.
use Rattle.std.proofs.Common.{ℕ, ◌+◌, ◌*◌, ◌^◌, ◌<◌, ◌≤◌, ◌≡◌, ◌⊎◌, inl, inr, refl, sym, ap, ap₂, ◌∙◌, subst, true, false, true≢false, List, [], length, arith}
use Rattle.std.specs.Prelude.{Some, None, slice_get}
use Rattle.std.proofs.lemmas.Option.{none-some}
use denote.Ref.{Bor}
use Rattle.pattern_reading.specs.declared.faults.RleFaultKind.TheVariants.{NoEnd}
use Rattle.pattern_reading.specs.Lines.{Line, lines_from, with_line_feeds}
use Rattle.pattern_reading.specs.Header.{Header, header_in, header_line, is_wireworld, lines_after_header}
use Rattle.pattern_reading.specs.Items.{items_of_lines}
use Rattle.pattern_reading.specs.Pattern.{HasBox, HasRleFault, IsGridTooLarge, ReadsAsPattern, RleFaultAt, has_end, item_faults, items_after_header, most_cells}
use Rattle.pattern_reading.proofs.Ranges.{small_box}
use Rattle.pattern_reading.proofs.RleVerdict.{IsJudged, items_verdict, rle_judged, rle_verdict}
use Rattle.pattern_lines.specs.declared.lines.Line as lent
use Rattle.rle_read.specs.declared.error.RleFault.{RleFault}
use Rattle.rle_read.specs.declared.error.RleReadError.TheVariants as errors
use Rattle.rle_read.specs.Answers.{IsHeaderAt, HasReadReason}
use Rattle.rle_read.specs.Drawn.{Drawn, Fault, Ended, Open, blank_drawing, drawn_with, rle_fault_of}
use Rattle.rle_read.proofs.DrawnText.{IsSaid, blank_drawn, said}
use Rattle.pattern_reading.proofs.Counted.{lines_counted}
use Rattle.std.proofs.lemmas.Option.{same_Some}
use Rattle.pattern_reading.proofs.RleVerdict.{first_fault}

-- a text has one header
module _ (text : List ℕ) (width height : ℕ) (box : HasBox text width height) where
  box_line : (line : Line) → header_line text ≡ Some line → box.line ≡ line
  box_line line e = same_Some _ _ (sym box.first ∙ e)

  box_form : (line : Line) → header_line text ≡ Some line → header_in line.bytes ≡ Some box.header
  box_form line e = ap (λ l. header_in l.bytes) (sym (box_line line e)) ∙ box.form

  box_header : (line : Line) (header : Header) → header_line text ≡ Some line → header_in line.bytes ≡ Some header → box.header ≡ header
  box_header line header e form = same_Some _ _ (sym (box_form line e) ∙ form)

  pub not_too_large : width * height ≤ most_cells → IsGridTooLarge text → ⊥
  not_too_large small large =
      let same : large.2.0.header ≡ box.header = same_Some _ _ (sym large.2.0.form ∙ box_form large.2.0.line large.2.0.first) in
      let w : large.0 ≡ width = sym large.2.0.width_is ∙ ap (λ x. x.width) same ∙ box.width_is in
      let h : large.1 ≡ height = sym large.2.0.height_is ∙ ap (λ x. x.height) same ∙ box.height_is in
      let area : large.0 * large.1 ≡ width * height = ap₂ (λ a b. a * b) w h in
      omega (arith, small, large.2.1, area)

  verdict : rle_verdict text ≡ items_verdict text (item_faults text width height) (has_end text)
  verdict = rw (box.first, box.form, box.rule, box.width_is, box.height_is) refl

item_fault_is : (text : List ℕ) (width height : ℕ) → HasBox text width height → (fault : RleFaultAt) → slice_get (item_faults text width height) 0 ≡ Some fault → HasRleFault text fault.kind fault.line
item_fault_is text width height box fault e =
    subst (IsJudged text) (verdict text width height box ∙ first_fault text (item_faults text width height) fault (has_end text) e) (rle_judged text)

-- a header without fault is a box
pub header_box : (text : List ℕ) (line : Line) (header : Header) → header_line text ≡ Some line → header_in line.bytes ≡ Some header → is_wireworld header.rule ≡ true → HasBox text header.width header.height
header_box text line header e form rule = record { line = line; first = e; header = header; form = form; width_is = refl; height_is = refl; rule = rule }

-- and one at fault is none
no_box : (text : List ℕ) (line : Line) → header_line text ≡ Some line → header_in line.bytes ≡ None → IsGridTooLarge text → ⊥
no_box text line e none large = none-some _ (sym none ∙ box_form text large.0 large.1 large.2.0 line e)

other_rule : (text : List ℕ) (line : Line) (header : Header) → header_line text ≡ Some line → header_in line.bytes ≡ Some header → is_wireworld header.rule ≡ false → IsGridTooLarge text → ⊥
other_rule text line header e form other large =
    true≢false (sym large.2.0.rule ∙ ap (λ h. is_wireworld h.rule) (box_header text large.0 large.1 large.2.0 line header e form) ∙ other)

-- what is drawn
module _ (text : List ℕ) (parts : lent.Line × Bor (List ℕ)) (head : IsHeaderAt text parts) (width height : ℕ) (box : HasBox text width height) (start : Drawn) (blank : start ≡ blank_drawing width height) where
  abbrev lines : List Line
  lines = lines_from (parts.0.number + 1) (with_line_feeds parts.1.now)

  small_width : width < 2 ^ 64
  small_width = omega (arith, (small_box text width height box).0)

  small_height : height < 2 ^ 64
  small_height = omega (arith, (small_box text width height box).1)

  text_said : IsSaid width height small_width small_height [] [] (items_after_header text) (drawn_with (blank_drawing width height) (items_after_header text))
  text_said = said width height small_width small_height (items_after_header text) (blank_drawing width height) [] [] (blank_drawn width height) (lines_counted (lines_after_header text))

  same_items : drawn_with start (items_of_lines lines) ≡ drawn_with (blank_drawing width height) (items_after_header text)
  same_items = ap₂ (λ d ls. drawn_with d (items_of_lines ls)) blank (sym head.after)

  pub text_reads : (after : Drawn) → drawn_with start (items_of_lines lines) ≡ Ended after → ReadsAsPattern text (record { width = width; height = height; rows = after.rows })
  text_reads after e =
      let h = subst (IsSaid width height small_width small_height [] [] (items_after_header text)) (sym same_items ∙ e) text_said in
      record { header = box; no_fault = h.0; ends = h.1; in_rows = h.2.1.grid; cells = h.2.1.cells }

  pub text_refused : width * height ≤ most_cells → (fault : RleFault) → (drawn_with start (items_of_lines lines) ≡ Fault (rle_fault_of fault)) ⊎ ((d : Drawn) × (drawn_with start (items_of_lines lines) ≡ Open d) × (fault.kind ≡ NoEnd) × (fault.line ≡ parts.0.number + length lines)) → HasReadReason text (errors.Fault fault)
  text_refused small fault (inl e) =
      let h = subst (IsSaid width height small_width small_height [] [] (items_after_header text)) (sym same_items ∙ e) text_said in
      (item_fault_is text width height box (rle_fault_of fault) h, not_too_large text width height box small)
  text_refused small fault (inr u) =
      let h = subst (IsSaid width height small_width small_height [] [] (items_after_header text)) (sym same_items ∙ u.1) text_said in
      let no_end : HasRleFault text NoEnd fault.line = (width, height, box, h.0, h.1, u.3 ∙ head.last) in
      (subst (λ kind. HasRleFault text kind fault.line) (sym u.2) no_end, not_too_large text width height box small)
