-- The one thing that a text of extended RLE says: its first fault, or a pattern.
use Rattle.std.proofs.Common.{ℕ, ◌≡◌, inl, inr, refl, sym, ap, ◌∙◌, Bool, true, false, true≢false, List, [], ◌∷◌}
use Rattle.std.specs.Prelude.{if◌then◌else◌, Option, Some, None, is_some, codes, slice_get, filter_map}
use Rattle.std.specs.List.{cons_option}
use Rattle.std.proofs.lemmas.Option.{none-some}
use Rattle.ww_rule.specs.declared.pattern.State.TheVariants.{Empty, Head, Tail, Conductor}
use Rattle.ww_rule.specs.Grid.{Grid}
use Rattle.pattern_reading.specs.declared.faults.RleFaultKind.{RleFaultKind}
use Rattle.pattern_reading.specs.declared.faults.RleFaultKind.TheVariants.{NoHeader, BadHeader, OtherRule, BadItem, CellOutside, NoEnd}
use Rattle.pattern_reading.specs.Lines.{Line, last_line}
use Rattle.pattern_reading.specs.Numbers.{◌>>=◌, after_word}
use Rattle.pattern_reading.specs.Header.{Header, header_in, header_line, is_wireworld}
use Rattle.pattern_reading.specs.Items.{Item, Cells, RowEnds, End, Blank, CutOff, NoItem, Placed}
use Rattle.pattern_reading.specs.Pattern.{HasBox, HasRleFault, ReadsAsPattern, RleFaultAt, fault_at, has_end, item_fault, item_faults, placed_items, state_at}
use Rattle.pattern_reading.proofs.Rows.{box_rows, box_is_grid, box_cells, rows_from_cells}

-- the first fault of the items, or a missing end
abbrev pub items_verdict : List ℕ → List RleFaultAt → Bool → Option RleFaultAt
items_verdict text (fault ∷ faults) ends = Some fault
items_verdict text [] true = None
items_verdict text [] false = Some (record { kind = NoEnd; line = last_line text })

abbrev pub rule_verdict : List ℕ → Line → Header → Bool → Option RleFaultAt
rule_verdict text line header true = items_verdict text (item_faults text header.width header.height) (has_end text)
rule_verdict text line header false = Some (record { kind = OtherRule; line = line.number })

abbrev pub begun_verdict : Line → Bool → Option RleFaultAt
begun_verdict line true = Some (record { kind = BadHeader; line = line.number })
begun_verdict line false = Some (record { kind = NoHeader; line = line.number })

abbrev pub header_verdict : List ℕ → Line → Option Header → Option RleFaultAt
header_verdict text line None = begun_verdict line (is_some (after_word (codes "x") line.bytes))
header_verdict text line (Some header) = rule_verdict text line header (is_wireworld header.rule)

abbrev pub line_verdict : List ℕ → Option Line → Option RleFaultAt
line_verdict text None = Some (record { kind = NoHeader; line = last_line text })
line_verdict text (Some line) = header_verdict text line (header_in line.bytes)

-- the first fault of a text, if it has one
abbrev pub rle_verdict : List ℕ → Option RleFaultAt
rle_verdict text = line_verdict text (header_line text)

abbrev pub grid_from : List ℕ → Option Header → Grid
grid_from text None = record { width = 0; height = 0; rows = [] }
grid_from text (Some header) =
    record { width = header.width; height = header.height; rows = box_rows header.width header.height (state_at (placed_items text)) }

-- the pattern of a text, if it has one
abbrev pub grid_of : List ℕ → Grid
grid_of text = grid_from text (header_line text >>= λ line. header_in line.bytes)

-- what a verdict says
abbrev pub IsJudged : List ℕ → Option RleFaultAt → Type 0
IsJudged text None = ReadsAsPattern text (grid_of text)
IsJudged text (Some fault) = HasRleFault text fault.kind fault.line

-- an item is at fault by itself, or by its cells
abbrev IsItemKind : RleFaultKind → Type 0
IsItemKind BadItem = Unit {0}
IsItemKind CellOutside = Unit {0}
IsItemKind _ = ⊥

outside_kind : (b : Bool) (kind : RleFaultKind) → (if b then None else Some CellOutside) ≡ Some kind → IsItemKind kind
outside_kind true kind e = absurd (none-some _ e)
outside_kind false kind e = let is : CellOutside ≡ kind = cc in rw (← is) tt

item_kind : (width height : ℕ) (p : Placed) (item : Item) (kind : RleFaultKind) → item_fault width height p item ≡ Some kind → IsItemKind kind
item_kind width height p NoItem kind e = let is : BadItem ≡ kind = cc in rw (← is) tt
item_kind width height p (Cells n Empty) kind e = absurd (none-some _ e)
item_kind width height p (Cells n Head) kind e = outside_kind _ kind e
item_kind width height p (Cells n Tail) kind e = outside_kind _ kind e
item_kind width height p (Cells n Conductor) kind e = outside_kind _ kind e
item_kind width height p (RowEnds n) kind e = absurd (none-some _ e)
item_kind width height p End kind e = absurd (none-some _ e)
item_kind width height p Blank kind e = absurd (none-some _ e)
item_kind width height p CutOff kind e = absurd (none-some _ e)

abbrev HasItemKind : List RleFaultAt → Type 0
HasItemKind [] = Unit {0}
HasItemKind (fault ∷ faults) = IsItemKind fault.kind

kept_kind : (width height : ℕ) (p : Placed) (faults : List RleFaultAt) (o : Option RleFaultKind) → item_fault width height p p.item ≡ o → HasItemKind faults → HasItemKind (cons_option (o >>= λ kind. Some (record { kind = kind; line = p.line })) faults)
kept_kind width height p faults None e h = h
kept_kind width height p faults (Some kind) e h = item_kind width height p p.item kind e

first_kind : (width height : ℕ) (ps : List Placed) → HasItemKind (filter_map (fault_at width height) ps)
first_kind width height [] = tt
first_kind width height (p ∷ ps) = kept_kind width height p _ _ refl (first_kind width height ps)

-- the fault that stands first is one of the two, and so it is the text's
item_judged : (text : List ℕ) (width height : ℕ) → HasBox text width height → (fault : RleFaultAt) (kind : RleFaultKind) → slice_get (item_faults text width height) 0 ≡ Some (record { kind = kind; line = fault.line }) → IsItemKind kind → HasRleFault text kind fault.line
item_judged text width height box fault BadItem e k = (width, height, box, e)
item_judged text width height box fault CellOutside e k = (width, height, box, e)
item_judged text width height box fault NoHeader e k = absurd k
item_judged text width height box fault BadHeader e k = absurd k
item_judged text width height box fault OtherRule e k = absurd k
item_judged text width height box fault NoEnd e k = absurd k

no_header : (bytes : List ℕ) → is_some (after_word (codes "x") bytes) ≡ false → after_word (codes "x") bytes ≡ None
no_header bytes e = by_rest (after_word (codes "x") bytes) e
  where
    by_rest : (o : Option (List ℕ)) → is_some o ≡ false → o ≡ None
    by_rest None e = refl
    by_rest (Some rest) e = absurd (true≢false e)

pattern_judged : (text : List ℕ) (line : Line) (header : Header) → header_line text ≡ Some line → header_in line.bytes ≡ Some header → HasBox text header.width header.height → item_faults text header.width header.height ≡ [] → has_end text ≡ true → ReadsAsPattern text (grid_of text)
pattern_judged text line header e form box none ends =
    rw (e, form) (record {
      header = box;
      no_fault = none;
      ends = ends;
      in_rows = box_is_grid header.width header.height (state_at (placed_items text));
      cells = box_cells header.width header.height (state_at (placed_items text));
    })

items_judged : (text : List ℕ) (line : Line) (header : Header) → header_line text ≡ Some line → header_in line.bytes ≡ Some header → HasBox text header.width header.height → (faults : List RleFaultAt) (ends : Bool) → item_faults text header.width header.height ≡ faults → has_end text ≡ ends → IsJudged text (items_verdict text faults ends)
items_judged text line header e form box (fault ∷ faults) ends is he =
    item_judged text header.width header.height box fault fault.kind (rw is refl) (let h : HasItemKind (item_faults text header.width header.height) = first_kind header.width header.height (placed_items text) in rw is at h)
items_judged text line header e form box [] true is he = pattern_judged text line header e form box is he
items_judged text line header e form box [] false is he = (header.width, header.height, box, is, he, refl)

rule_judged : (text : List ℕ) (line : Line) (header : Header) (named : Bool) → header_line text ≡ Some line → header_in line.bytes ≡ Some header → is_wireworld header.rule ≡ named → IsJudged text (rule_verdict text line header named)
rule_judged text line header true e form rule =
    items_judged text line header e form (record { line = line; first = e; header = header; form = form; width_is = refl; height_is = refl; rule = rule }) _ _ refl refl
rule_judged text line header false e form rule = (line, e, header, form, rule, refl)

begun_judged : (text : List ℕ) (line : Line) (begun : Bool) → header_line text ≡ Some line → header_in line.bytes ≡ None → is_some (after_word (codes "x") line.bytes) ≡ begun → IsJudged text (begun_verdict line begun)
begun_judged text line true e form begun = (line, e, begun, form, refl)
begun_judged text line false e form begun = inr (line, e, no_header line.bytes begun, refl)

header_judged : (text : List ℕ) (line : Line) (header : Option Header) → header_line text ≡ Some line → header_in line.bytes ≡ header → IsJudged text (header_verdict text line header)
header_judged text line None e form = begun_judged text line _ e form refl
header_judged text line (Some header) e form = rule_judged text line header _ e form refl

line_judged : (text : List ℕ) (line : Option Line) → header_line text ≡ line → IsJudged text (line_verdict text line)
line_judged text None e = inl (e, refl)
line_judged text (Some line) e = header_judged text line _ e refl

-- the verdict on a text is right
pub rle_judged : (text : List ℕ) → IsJudged text (rle_verdict text)
rle_judged text = line_judged text _ refl

-- where the header is without fault, the items decide
box_verdict : (text : List ℕ) (width height : ℕ) → HasBox text width height → rle_verdict text ≡ items_verdict text (item_faults text width height) (has_end text)
box_verdict text width height box = rw (box.first, box.form, box.rule, box.width_is, box.height_is) refl

box_grid : (text : List ℕ) (width height : ℕ) → HasBox text width height → grid_of text ≡ record { width = width; height = height; rows = box_rows width height (state_at (placed_items text)) }
box_grid text width height box = rw (box.first, box.form, box.width_is, box.height_is) refl

pub first_fault : (text : List ℕ) (faults : List RleFaultAt) (fault : RleFaultAt) (ends : Bool) → slice_get faults 0 ≡ Some fault → items_verdict text faults ends ≡ Some fault
first_fault text [] fault ends e = absurd (none-some _ e)
first_fault text (first ∷ faults) fault ends e = e

pub no_form : (bytes : List ℕ) → after_word (codes "x") bytes ≡ None → header_in bytes ≡ None
no_form bytes e = rw e refl

-- a fault of a text is the verdict on it
pub rle_fault_is : (text : List ℕ) (kind : RleFaultKind) (line : ℕ) → HasRleFault text kind line → rle_verdict text ≡ Some (record { kind = kind; line = line })
rle_fault_is text NoHeader line (inl h) = rw (h.0, h.1) refl
rle_fault_is text NoHeader line (inr h) = rw (h.1, no_form h.0.bytes h.2, h.2, h.3) refl
rle_fault_is text BadHeader line h = rw (h.1, h.3, h.2, h.4) refl
rle_fault_is text OtherRule line h = rw (h.1, h.3, h.4, h.5) refl
rle_fault_is text BadItem line h = box_verdict text h.0 h.1 h.2 ∙ first_fault text _ _ _ h.3
rle_fault_is text CellOutside line h = box_verdict text h.0 h.1 h.2 ∙ first_fault text _ _ _ h.3
rle_fault_is text NoEnd line h = box_verdict text h.0 h.1 h.2 ∙ rw (h.3, h.4, h.5) refl

-- a text that reads has no fault, and reads as the pattern of the text
pub rle_reading_is : (text : List ℕ) (grid : Grid) → ReadsAsPattern text grid → (rle_verdict text ≡ None) × (grid ≡ grid_of text)
rle_reading_is text grid h =
    let rows = rows_from_cells grid.width grid.height grid.rows (state_at (placed_items text)) h.in_rows h.cells in
    let same : grid ≡ record { width = grid.width; height = grid.height; rows = box_rows grid.width grid.height (state_at (placed_items text)) } = ap (λ r. record grid { rows = r }) rows in
    (box_verdict text grid.width grid.height h.header ∙ rw (h.no_fault, h.ends) refl, same ∙ sym (box_grid text grid.width grid.height h.header))

-- what the verdict of a text gives
pub verdict_fault : (text : List ℕ) (fault : RleFaultAt) → rle_verdict text ≡ Some fault → HasRleFault text fault.kind fault.line
verdict_fault text fault e = let h : IsJudged text (rle_verdict text) = rle_judged text in rw e at h

pub verdict_pattern : (text : List ℕ) (grid : Grid) → rle_verdict text ≡ None → grid_of text ≡ grid → ReadsAsPattern text grid
verdict_pattern text grid e is = rw (← is) (let h : IsJudged text (rle_verdict text) = rle_judged text in rw e at h)
