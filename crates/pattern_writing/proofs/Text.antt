-- The text that is written is spelled as a reader has it: a table, a header, and items on lines.
use Rattle.std.proofs.Common.{ℕ, ◌+◌, ◌^◌, ◌≡◌, ◌≢◌, ◌<◌, ◌≤◌, inl, inr, refl, sym, ap, ap₂, ◌∙◌, true, List, [], ◌∷◌, ◌++◌, map, flat_map, length, take, drop, append_assoc, arith}
use Rattle.std.specs.Prelude.{Some, codes, decimal}
use Rattle.std.specs.Char.{is_ascii_digit}
use Rattle.std.specs.List.{AllByRecursion, list_all}
use Rattle.std.proofs.Math.Seq.{take-append_seam, drop-append_seam}
use Rattle.std.proofs.lemmas.Bool.Decides.{eqb_tells}
use Rattle.std.proofs.lemmas.Fmt.{length-decimal-le}
use Rattle.std.proofs.lemmas.List.{append-nil, drop-map, length-append, map-append, take-append-drop, take-map}
use Rattle.std.proofs.lemmas.Simd.{map-map}
use Rattle.ww_rule.specs.declared.pattern.State.TheVariants.{Empty, Head, Tail, Conductor}
use Rattle.ww_rule.specs.Grid.{Grid}
use Rattle.pattern_reading.specs.PortLines.{PortForm}
use Rattle.pattern_reading.specs.Items.{End, counted_item, item_in}
use Rattle.pattern_reading.specs.Spelling.{spelled_line, spelled_table}
use Rattle.pattern_reading.specs.SpelledPattern.{SpelledItem, IsSpelledItem, item_text, items_of_text, line_text, lines_text, spelled_header}
use Rattle.pattern_reading.proofs.SpelledHeader.{spelled_count}
use Rattle.pattern_writing.specs.Writer as writer
use Rattle.pattern_writing.specs.Laws.{IsShort, joined}
use Rattle.pattern_writing.proofs.Lines.{wrapped_is_lines}
use Rattle.pattern_writing.proofs.Look.{Mark, RowEnd, Of, mark_of, tag}
use Rattle.pattern_writing.proofs.ReadRuns.{item, item_of}
use Rattle.pattern_writing.proofs.Faults.{IsKnown}
use Rattle.pattern_reading.proofs.SpelledItems.{meaning}

-- a run as an item, and the `!`
abbrev pub spelled_of : writer.TagRun → SpelledItem
spelled_of run = record { digits = writer.count_text run.count; tag = run.tag }

abbrev pub last_item : SpelledItem
last_item = record { digits = []; tag = 33 }

abbrev pub spelled_items : List writer.TagRun → List SpelledItem
spelled_items runs = map spelled_of runs ++ last_item ∷ []

abbrev pub texts_of : List writer.TagRun → List (List ℕ)
texts_of runs = map writer.run_text runs ++ codes "!" ∷ []

same_texts : (runs : List writer.TagRun) → texts_of runs ≡ map item_text (spelled_items runs)
same_texts runs =
    ap (λ l. l ++ codes "!" ∷ []) (sym (map-map item_text spelled_of runs)) ∙ sym (map-append item_text (map spelled_of runs) (last_item ∷ []))

-- a list in parts, where its images are in parts
module _ {A B : Type 0} (f : A → B) where
  pub record IsCut (xs : List A) (parts : List (List B)) : Type 0 where
    cuts : List (List A)
    images : map (map f) cuts ≡ parts
    all : flat_map (λ part. part) cuts ≡ xs

  pub cut : (xs : List A) (parts : List (List B)) → flat_map (λ part. part) parts ≡ map f xs → IsCut xs parts
  cut [] [] e = record { cuts = []; images = refl; all = refl }
  cut (x ∷ xs) [] e = absurd (cc)
  cut xs (part ∷ parts) e =
      let n = length part in
      let rest : flat_map (λ p. p) parts ≡ map f (drop n xs) = sym (drop-append_seam part (flat_map (λ p. p) parts)) ∙ ap (drop n) e ∙ drop-map f n xs in
      let first : map f (take n xs) ≡ part = sym (take-map f n xs) ∙ ap (take n) (sym e) ∙ take-append_seam part (flat_map (λ p. p) parts) in
      let more = cut (drop n xs) parts rest in
      record { cuts = take n xs ∷ more.cuts; images = ap₂ (λ a b. a ∷ b) first more.images; all = ap (λ l. take n xs ++ l) more.all ∙ take-append-drop n xs }

-- lines of items have the same bytes
same_line : (items : List SpelledItem) → joined (map item_text items) ≡ line_text items
same_line [] = refl
same_line (i ∷ items) = ap (λ l. item_text i ++ l) (same_line items)

same_lines : (lines : List (List SpelledItem)) → writer.ended_lines (map joined (map (map item_text) lines)) ≡ lines_text lines
same_lines [] = refl
same_lines (items ∷ lines) = ap₂ (λ a b. (a ++ 10 ∷ []) ++ b) (same_line items) (same_lines lines)

-- the lines on which the runs of a grid stand
pub record AreLines (runs : List writer.TagRun) (lines : List (List SpelledItem)) : Type 0 where
  pub all : flat_map (λ line. line) lines ≡ spelled_items runs
  pub text : writer.wrapped 0 (texts_of runs) ++ 10 ∷ [] ≡ lines_text lines

short_count : (n : ℕ) → n < 2 ^ 64 → length (writer.count_text n) ≤ 20
short_count n small = elim (eqb_tells n 1) as (λ _. length (writer.count_text n) ≤ 20) [
  | inl same ↦ rw (same.0) (omega arith)
  | inr other ↦ rw (other.0) (length-decimal-le 20 n (omega arith) (omega (arith, small)) small)
]

short_texts : (runs : List writer.TagRun) → AllByRecursion IsKnown runs → AllByRecursion IsShort (texts_of runs)
short_texts [] h = (omega arith, tt)
short_texts (run ∷ runs) h =
    let n : length (writer.run_text run) ≡ length (writer.count_text run.count) + 1 = length-append (writer.count_text run.count) (run.tag ∷ []) in
    let k = short_count run.count h.0.small in
    (omega (arith, n, k), short_texts runs h.1)

pub lines_of_runs : (runs : List writer.TagRun) → AllByRecursion IsKnown runs → (lines : List (List SpelledItem)) × AreLines runs lines
lines_of_runs runs h =
    let on = wrapped_is_lines (texts_of runs) (short_texts runs h) in
    let parts = cut item_text (spelled_items runs) on.0 (on.1.all ∙ same_texts runs) in
    (parts.cuts, record { all = parts.all; text = sym on.1.text ∙ ap (λ l. writer.ended_lines (map joined l)) (sym parts.images) ∙ same_lines parts.cuts })

-- a header with its line end
sides : (a b c d e z : List ℕ) → a ++ b ++ c ++ d ++ (e ++ z) ≡ (a ++ (b ++ (c ++ (d ++ e)))) ++ z
sides a b c d e z =
    append_assoc (a ++ b ++ c) d (e ++ z)
    ∙ append_assoc (a ++ b) c (d ++ (e ++ z))
    ∙ append_assoc a b (c ++ (d ++ (e ++ z)))
    ∙ sym (append_assoc a (b ++ (c ++ (d ++ e))) z ∙ ap (λ l. a ++ l) (append_assoc b (c ++ (d ++ e)) z ∙ ap (λ l. b ++ l) (append_assoc c (d ++ e) z ∙ ap (λ l. c ++ l) (append_assoc d e z))))

header_is : (w h : ℕ) → writer.header_text w h ≡ spelled_header w h ++ 10 ∷ []
header_is w h = sides (codes "x = ") (decimal w) (codes ", y = ") (decimal h) (codes ", rule = WireWorld") (10 ∷ [])

table_is : (forms : List PortForm) → writer.ended_lines (map spelled_line forms) ≡ spelled_table forms
table_is [] = refl
table_is (form ∷ forms) = ap (λ l. (spelled_line form ++ 10 ∷ []) ++ l) (table_is forms)

-- the whole text
pub text_is : (grid : Grid) (forms : List PortForm) (lines : List (List SpelledItem)) → writer.wrapped 0 (writer.item_texts grid.rows) ++ 10 ∷ [] ≡ lines_text lines → writer.writer_text grid (map spelled_line forms) ≡ spelled_table forms ++ (spelled_header grid.width grid.height ++ 10 ∷ (lines_text lines ++ []))
text_is grid forms lines e =
    append_assoc (writer.ended_lines (map spelled_line forms) ++ writer.header_text grid.width grid.height) (writer.wrapped 0 (writer.item_texts grid.rows)) (10 ∷ [])
    ∙ append_assoc (writer.ended_lines (map spelled_line forms)) (writer.header_text grid.width grid.height) (writer.wrapped 0 (writer.item_texts grid.rows) ++ 10 ∷ [])
    ∙ ap₂ (λ a b. a ++ b) (table_is forms) (ap₂ (λ a b. a ++ b) (header_is grid.width grid.height) (e ∙ sym (append-nil (lines_text lines))) ∙ append_assoc (spelled_header grid.width grid.height) (10 ∷ []) (lines_text lines ++ []))

-- the items are spelled, and stand for what the runs stand for
counted : (n : ℕ) (m : Mark) → counted_item n (tag m) ≡ item n m
counted n RowEnd = refl
counted n (Of Empty) = refl
counted n (Of Head) = refl
counted n (Of Tail) = refl
counted n (Of Conductor) = refl

alone : (m : Mark) → item_in true [] (Some (tag m)) ≡ item 1 m
alone RowEnd = refl
alone (Of Empty) = refl
alone (Of Head) = refl
alone (Of Tail) = refl
alone (Of Conductor) = refl

pub meaning_is : (run : writer.TagRun) → IsKnown run → item_in true (writer.count_text run.count) (Some run.tag) ≡ item_of run
meaning_is run h = ap (λ t. item_in true (writer.count_text run.count) (Some t)) h.known ∙ by_count
  where
    by_count : item_in true (writer.count_text run.count) (Some (tag (mark_of run.tag))) ≡ item_of run
    by_count = elim (eqb_tells run.count 1) as (λ _. item_in true (writer.count_text run.count) (Some (tag (mark_of run.tag))) ≡ item_of run) [
      | inl same ↦ rw (same.0, same.1) (alone (mark_of run.tag))
      | inr other ↦ rw (other.0) ((spelled_count run.count (tag (mark_of run.tag)) h.some h.small).1 ∙ counted run.count (mark_of run.tag))
    ]

tag_spelled : (digits : List ℕ) (m : Mark) → list_all is_ascii_digit digits ≡ true → IsSpelledItem (record { digits = digits; tag = tag m })
tag_spelled digits RowEnd h = record { digits = h; tag = refl; in_line = (λ e. omega (arith, e), λ e. omega (arith, e)); no_comment = λ e. omega (arith, e) }
tag_spelled digits (Of Empty) h = record { digits = h; tag = refl; in_line = (λ e. omega (arith, e), λ e. omega (arith, e)); no_comment = λ e. omega (arith, e) }
tag_spelled digits (Of Head) h = record { digits = h; tag = refl; in_line = (λ e. omega (arith, e), λ e. omega (arith, e)); no_comment = λ e. omega (arith, e) }
tag_spelled digits (Of Tail) h = record { digits = h; tag = refl; in_line = (λ e. omega (arith, e), λ e. omega (arith, e)); no_comment = λ e. omega (arith, e) }
tag_spelled digits (Of Conductor) h = record { digits = h; tag = refl; in_line = (λ e. omega (arith, e), λ e. omega (arith, e)); no_comment = λ e. omega (arith, e) }

count_digits : (n : ℕ) → n ≢ 0 → n < 2 ^ 64 → list_all is_ascii_digit (writer.count_text n) ≡ true
count_digits n some small = elim (eqb_tells n 1) as (λ _. list_all is_ascii_digit (writer.count_text n) ≡ true) [
  | inl same ↦ rw (same.0) refl
  | inr other ↦ rw (other.0) (spelled_count n 0 some small).0
]

run_spelled : (run : writer.TagRun) → IsKnown run → IsSpelledItem (spelled_of run)
run_spelled run h = rw (h.known) (tag_spelled (writer.count_text run.count) (mark_of run.tag) (count_digits run.count h.some h.small))

last_spelled : IsSpelledItem last_item
last_spelled = record { digits = refl; tag = refl; in_line = (λ e. omega (arith, e), λ e. omega (arith, e)); no_comment = λ e. omega (arith, e) }

pub items_spelled : (runs : List writer.TagRun) → AllByRecursion IsKnown runs → AllByRecursion IsSpelledItem (spelled_items runs)
items_spelled [] h = (last_spelled, tt)
items_spelled (run ∷ runs) h = (run_spelled run h.0, items_spelled runs h.1)

front_and_rest : (xs ys : List SpelledItem) → AllByRecursion IsSpelledItem (xs ++ ys) → AllByRecursion IsSpelledItem xs × AllByRecursion IsSpelledItem ys
front_and_rest [] ys h = (tt, h)
front_and_rest (x ∷ xs) ys h = let rest = front_and_rest xs ys h.1 in ((h.0, rest.0), rest.1)

pub lines_spelled : (lines : List (List SpelledItem)) → AllByRecursion IsSpelledItem (flat_map (λ line. line) lines) → AllByRecursion (AllByRecursion IsSpelledItem) lines
lines_spelled [] h = tt
lines_spelled (line ∷ lines) h = let parts = front_and_rest line (flat_map (λ l. l) lines) h in (parts.0, lines_spelled lines parts.1)

pub meanings_of_lines : (lines : List (List SpelledItem)) → items_of_text lines ≡ map meaning (flat_map (λ line. line) lines)
meanings_of_lines [] = refl
meanings_of_lines (line ∷ lines) =
    ap (λ l. map meaning line ++ l) (meanings_of_lines lines) ∙ sym (map-append meaning line (flat_map (λ l. l) lines))

pub meanings : (runs : List writer.TagRun) → AllByRecursion IsKnown runs → map meaning (spelled_items runs) ≡ map item_of runs ++ End ∷ []
meanings [] h = refl
meanings (run ∷ runs) h = ap₂ (λ a b. a ∷ b) (meaning_is run h.0) (meanings runs h.1)
