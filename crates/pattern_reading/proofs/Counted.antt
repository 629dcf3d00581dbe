-- The items of a text have counts of at least 1.
use Rattle.std.proofs.Common.{ℕ, zero, suc, ◌<◌, Bool, true, false, List, [], ◌∷◌, ◌++◌, ◌==◌, ◌||◌, map, arith}
use Rattle.std.specs.Prelude.{if◌then◌else◌, Option, Some, None}
use Rattle.std.specs.Str.{byte}
use Rattle.std.specs.List.{AllByRecursion}
use Rattle.ww_rule.specs.declared.pattern.State.TheVariants.{Empty, Head, Tail, Conductor}
use Rattle.pattern_reading.specs.Lines.{Line}
use Rattle.pattern_reading.specs.Numbers.{is_blank, number_in}
use Rattle.pattern_reading.specs.Header.{is_comment}
use Rattle.pattern_reading.specs.Items.{TaggedDigits, Item, Cells, RowEnds, End, Blank, NoItem, LineItem, IsCounted, counted_item, item_with_count, item_in, pieces_of, items_of_line, items_of_lines}

tag_counted : (a b c d e : Bool) (n : ℕ) → 0 < n → IsCounted (if a then Cells n Empty else if b then Cells n Head else if c then Cells n Tail else if d then Cells n Conductor else if e then RowEnds n else NoItem)
tag_counted true b c d e n some = some
tag_counted false true c d e n some = some
tag_counted false false true d e n some = some
tag_counted false false false true e n some = some
tag_counted false false false false true n some = some
tag_counted false false false false false n some = tt

counted : (n tag : ℕ) → 0 < n → IsCounted (counted_item n tag)
counted n tag some = tag_counted (tag == byte "." || tag == byte "b") (tag == byte "A" || tag == byte "o") (tag == byte "B") (tag == byte "C") (tag == byte "$") n some

without_count : (a b : Bool) (item : Item) → IsCounted item → IsCounted (if a then End else if b then Blank else item)
without_count true b item h = tt
without_count false true item h = tt
without_count false false item h = h

with_count : (o : Option ℕ) (tag : ℕ) → IsCounted (item_with_count o tag)
with_count None tag = tt
with_count (Some zero) tag = tt
with_count (Some (suc n)) tag = counted (suc n) tag (omega arith)

item_counted : (is_ended : Bool) (digits : List ℕ) (tag : Option ℕ) → IsCounted (item_in is_ended digits tag)
item_counted true digits None = tt
item_counted false digits None = tt
item_counted is_ended [] (Some tag) = without_count (tag == byte "!") (is_blank tag) (counted_item 1 tag) (counted 1 tag (omega arith))
item_counted is_ended (d ∷ ds) (Some tag) = with_count (number_in (d ∷ ds)) tag

abbrev pub AreCounted : List LineItem → Type 0
AreCounted items = AllByRecursion (λ i. IsCounted i.item) items

pieces_counted : (line : ℕ) (is_ended : Bool) (ps : List TaggedDigits) → AreCounted (map (λ piece. record { line = line; item = item_in is_ended piece.digits piece.tag }) ps)
pieces_counted line is_ended [] = tt
pieces_counted line is_ended (p ∷ ps) = (item_counted is_ended p.digits p.tag, pieces_counted line is_ended ps)

line_counted : (line : Line) → AreCounted (items_of_line line)
line_counted line = by_comment (is_comment line)
  where
    by_comment : (b : Bool) → AreCounted (if b then [] else map (λ piece. record { line = line.number; item = item_in line.is_ended piece.digits piece.tag }) (pieces_of line.bytes))
    by_comment true = tt
    by_comment false = pieces_counted line.number line.is_ended (pieces_of line.bytes)

both_counted : (xs ys : List LineItem) → AreCounted xs → AreCounted ys → AreCounted (xs ++ ys)
both_counted [] ys h k = k
both_counted (x ∷ xs) ys h k = (h.0, both_counted xs ys h.1 k)

pub lines_counted : (lines : List Line) → AreCounted (items_of_lines lines)
lines_counted [] = tt
lines_counted (line ∷ lines) = both_counted (items_of_line line) (items_of_lines lines) (line_counted line) (lines_counted lines)
