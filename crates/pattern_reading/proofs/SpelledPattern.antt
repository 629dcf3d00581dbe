-- A header and spelled items read as the grid that they spell.
use Rattle.std.proofs.Common.{ℕ, suc, ◌+◌, ◌≡◌, refl, sym, ap, ◌∙◌, Bool, true, false, true≢false, not, ◌||◌, cond, List, [], ◌∷◌, ◌++◌, map, arith}
use Rattle.std.specs.Prelude.{Some, None, take_while, filter_map, slice_get, unwrap_or}
use Rattle.std.specs.List.{list_all, list_any, prefix_len}
use Rattle.std.proofs.lemmas.Simd.{map-map}
use Rattle.std.proofs.lemmas.Bool.{and_parts, or_from, eqb-true}
use Rattle.std.proofs.lemmas.List.Sums.{take_while-cons}
use Rattle.std.proofs.lemmas.Option.{none-some}
use Rattle.ww_rule.specs.declared.pattern.State.TheVariants.{Empty}
use Rattle.ww_rule.specs.Grid.{Grid}
use Rattle.pattern_reading.specs.Lines.{begins_with, lines_of}
use Rattle.pattern_reading.specs.Numbers.{is_blank, without_leading_blanks}
use Rattle.pattern_reading.specs.Header.{Header, header_in, header_line, is_skipped, lines_after_header}
use Rattle.pattern_reading.specs.Items.{Item, LineItem, is_end, items_of_lines, placed_after}
use Rattle.pattern_reading.specs.Pattern.{HasBox, ReadsAsPattern, fault_at, has_end, item_faults, items_after_header, placed_items, state_at, state_in}
use Rattle.pattern_reading.specs.Laws.{later_by}
use Rattle.pattern_reading.specs.SpelledPattern.{HasSpelledPattern, SpelledItem, SpellsGrid, items_of_text, lines_text, places_of}
use Rattle.pattern_reading.proofs.Later.{any_mapped, fault_later, filter_map_later, filter_map_mapped, later_fault, later_item, later_placed, placed_later, take_while_mapped, none_mapped}
use Rattle.pattern_reading.proofs.LineText.{first_line}
use Rattle.pattern_reading.proofs.SpelledItems.{items_before, bare_later}
use Rattle.pattern_reading.proofs.SpelledItems.{bare}

-- a header is not skipped
blanks_alone : (bytes : List ℕ) → list_all is_blank bytes ≡ true → without_leading_blanks bytes ≡ []
blanks_alone [] h = refl
blanks_alone (b ∷ bs) h =
    let parts : (is_blank b ≡ true) × (list_all is_blank bs ≡ true) = and_parts _ _ h in
    let shifted : 1 + prefix_len is_blank bs ≡ suc (prefix_len is_blank bs) = omega arith in
    rw (parts.0, shifted) (blanks_alone bs parts.1)

blank_is_none : (bytes : List ℕ) → without_leading_blanks bytes ≡ [] → header_in bytes ≡ None
blank_is_none bytes e = rw e refl

comment_first : (bytes : List ℕ) (header : Header) → header_in bytes ≡ Some header → (t : Bool) → begins_with 35 bytes ≡ t → t ≡ false
comment_first bytes header e false h = refl
comment_first [] header e true h = absurd (none-some _ e)
comment_first (b ∷ bs) header e true h = absurd (none-some header (ap (λ c. header_in (c ∷ bs)) (sym (eqb-true b 35 h)) ∙ e))

blank_line : (bytes : List ℕ) (header : Header) → header_in bytes ≡ Some header → (t : Bool) → list_all is_blank bytes ≡ t → t ≡ false
blank_line bytes header e false h = refl
blank_line bytes header e true h = absurd (none-some header (sym (blank_is_none bytes (blanks_alone bytes h)) ∙ e))

pub not_skipped : (n : ℕ) (bytes : List ℕ) (header : Header) → header_in bytes ≡ Some header → is_skipped (record { number = n; bytes = bytes; is_ended = true }) ≡ false
not_skipped n bytes header e = or_from _ _ (comment_first bytes header e _ refl) (blank_line bytes header e _ refl)

-- on one line
abbrev none : ℕ → ℕ
none n = 0

abbrev pub on_one_line : List Item → List LineItem
on_one_line items = map (λ item. record { line = 0; item = item }) items

erased : (is : List LineItem) → map (later_item none) is ≡ on_one_line (bare is)
erased is = sym (map-map _ _ is)

ends_step : (item : Item) (t : Bool) (xs ys : List Item) (rest : Bool) → (t || rest) ≡ true → (rest ≡ true → xs ≡ ys) → cond (not t) (item ∷ xs) [] ≡ cond (not t) (item ∷ ys) []
ends_step item true xs ys rest e h = refl
ends_step item false xs ys rest e h = ap (λ zs. item ∷ zs) (h e)

-- the items before the first `!` among more items
ends_before : (items more : List Item) → list_any is_end items ≡ true → take_while (λ item. not (is_end item)) (items ++ more) ≡ take_while (λ item. not (is_end item)) items
ends_before [] more e = absurd (true≢false (sym e))
ends_before (item ∷ items) more e =
    take_while-cons (λ i. not (is_end i)) item (items ++ more)
    ∙ ends_step item (is_end item) _ _ (list_any is_end items) e (ends_before items more)
    ∙ sym (take_while-cons (λ i. not (is_end i)) item items)

places_erased : (is : List LineItem) (items more : List Item) → bare is ≡ items ++ more → list_any is_end items ≡ true → map (later_placed none) (placed_after [] (take_while (λ i. not (is_end i.item)) is)) ≡ places_of items
places_erased is items more e ends =
    sym (placed_later none [] (take_while (λ i. not (is_end i.item)) is))
    ∙ ap (placed_after []) (
    erased (take_while (λ i. not (is_end i.item)) is)
    ∙ ap on_one_line (
    sym (take_while_mapped (λ (i : LineItem). i.item) (λ item. not (is_end item)) (λ i. not (is_end i.item)) (λ i. refl) is)
    ∙ ap (take_while (λ item. not (is_end item))) e
    ∙ ends_before items more ends))

any_before : (items more : List Item) → list_any is_end items ≡ true → list_any is_end (items ++ more) ≡ true
any_before [] more e = absurd (true≢false (sym e))
any_before (item ∷ items) more e = any_step (is_end item) _ _ e (any_before items more)
  where
    any_step : (t a b : Bool) → (t || a) ≡ true → (a ≡ true → b ≡ true) → (t || b) ≡ true
    any_step true a b e h = refl
    any_step false a b e h = h e

-- what the items of a text say, when they are these but for their lines
module _ (text : List ℕ) (items more : List Item) (e : bare (items_after_header text) ≡ items ++ more) (ends : list_any is_end items ≡ true) where
  same_places : map (later_placed none) (placed_items text) ≡ places_of items
  same_places = places_erased (items_after_header text) items more e ends

  same_faults : (width height : ℕ) → filter_map (fault_at width height) (places_of items) ≡ [] → item_faults text width height ≡ []
  same_faults width height h =
      none_mapped _ _ (sym (filter_map_later (later_placed none) (fault_at width height) (fault_at width height) (later_fault none) (fault_later none width height) (placed_items text)) ∙ ap (filter_map (fault_at width height)) same_places ∙ h)

  same_state : (x y : ℕ) → state_at (placed_items text) x y ≡ state_at (places_of items) x y
  same_state x y =
      ap (λ o. unwrap_or (slice_get o 0) Empty) (sym (filter_map_mapped (later_placed none) (λ p. state_in x y p p.item) (λ p. state_in x y p p.item) (λ p. refl) (placed_items text)))
      ∙ ap (λ ps. state_at ps x y) same_places

  same_end : has_end text ≡ true
  same_end =
      sym (any_mapped (λ (i : LineItem). i.item) is_end (λ i. is_end i.item) (λ i. refl) (items_after_header text)) ∙ ap (list_any is_end) e ∙ any_before items more ends

  pub grid_reads : (grid : Grid) → HasBox text grid.width grid.height → SpellsGrid items grid → ReadsAsPattern text grid
  grid_reads grid box h = record {
    header = box;
    no_fault = same_faults grid.width grid.height h.no_fault;
    ends = same_end;
    in_rows = h.in_rows;
    cells = λ x y a b. h.cells x y a b ∙ sym (same_state x y);
  }

-- a text whose lines are a header and those of another text
module _ (text body bytes : List ℕ) (header : Header) (e : lines_of text ≡ record { number = 1; bytes = bytes; is_ended = true } ∷ map (later_by 1) (lines_of body)) (form : header_in bytes ≡ Some header) where
  header_first : header_line text ≡ Some (record { number = 1; bytes = bytes; is_ended = true })
  header_first = rw (e, not_skipped 1 bytes header form) refl

  body_after : lines_after_header text ≡ map (later_by 1) (lines_of body)
  body_after = rw (e, not_skipped 1 bytes header form) refl

pub spelled_pattern : (bytes : List ℕ) (lines : List (List SpelledItem)) (rest : List ℕ) → HasSpelledPattern bytes lines rest
spelled_pattern bytes lines rest grid line header items spells =
    let body = lines_text lines ++ rest in
    let text = bytes ++ 10 ∷ body in
    let e = first_line bytes body line in
    grid_reads text (items_of_text lines) (bare (items_of_lines (lines_of rest))) (ap (λ ls. bare (items_of_lines ls)) (body_after text body bytes _ e header.1) ∙ bare_later (lines_of body) ∙ items_before lines rest items) spells.ends grid
    (record {
      line = record { number = 1; bytes = bytes; is_ended = true };
      first = header_first text body bytes _ e header.1;
      header = record { width = grid.width; height = grid.height; rule = Some header.0 };
      form = header.1;
      width_is = refl;
      height_is = refl;
      rule = header.2;
    })
    spells
