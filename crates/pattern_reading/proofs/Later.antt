-- What the items of a text say, but for their lines, does not depend on the lines' numbers: so a comment before a text changes nothing.
use Rattle.std.proofs.Common.{ℕ, suc, ◌+◌, ◌≡◌, refl, sym, ap, ◌∙◌, Bool, true, false, not, cond, List, [], ◌∷◌, map, drop, arith}
use Rattle.std.specs.Prelude.{if◌then◌else◌, Option, Some, None, option_map, find, take_while, filter_map, slice_get, unwrap_or}
use Rattle.std.specs.List.{prefix_len, after_first, list_any, cons_option}
use Rattle.std.proofs.lemmas.List.{drop-map, take-map, map-append}
use Rattle.std.proofs.lemmas.Simd.{map-map}
use Rattle.ww_rule.specs.declared.pattern.State.TheVariants.{Empty}
use Rattle.ww_rule.specs.Grid.{Grid}
use Rattle.pattern_reading.specs.declared.faults.RleFaultKind.{RleFaultKind}
use Rattle.pattern_reading.specs.Lines.{Line, lines_of}
use Rattle.pattern_reading.specs.Numbers.{◌>>=◌}
use Rattle.pattern_reading.specs.Header.{is_comment, is_skipped, header_line, lines_after_header}
use Rattle.pattern_reading.specs.Items.{Item, LineItem, TaggedDigits, Placed, is_end, item_in, items_of_line, items_of_lines, pieces_of, placed_after}
use Rattle.pattern_reading.specs.Pattern.{HasBox, ReadsAsPattern, RleFaultAt, fault_at, has_end, item_fault, item_faults, items_after_header, placed_items, state_at, state_in}
use Rattle.pattern_reading.specs.Laws.{later_by}

module _ {X Y : Type 0} (g : X → Y) where
  prefix_len_mapped : (p : Y → Bool) (q : X → Bool) → ((x : X) → p (g x) ≡ q x) → (xs : List X) → prefix_len p (map g xs) ≡ prefix_len q xs
  prefix_len_mapped p q same [] = refl
  prefix_len_mapped p q same (x ∷ xs) = rw (same x, prefix_len_mapped p q same xs) refl

  pub take_while_mapped : (p : Y → Bool) (q : X → Bool) → ((x : X) → p (g x) ≡ q x) → (xs : List X) → take_while p (map g xs) ≡ map g (take_while q xs)
  take_while_mapped p q same xs = rw (prefix_len_mapped p q same xs) (take-map g (prefix_len q xs) xs)

  pub any_mapped : (p : Y → Bool) (q : X → Bool) → ((x : X) → p (g x) ≡ q x) → (xs : List X) → list_any p (map g xs) ≡ list_any q xs
  any_mapped p q same [] = refl
  any_mapped p q same (x ∷ xs) = rw (same x, any_mapped p q same xs) refl

  pub none_mapped : (xs : List X) → map g xs ≡ [] → xs ≡ []
  none_mapped [] e = refl
  none_mapped (x ∷ xs) e = cc

  pub after_first_mapped : (p : Y → Bool) (q : X → Bool) → ((x : X) → p (g x) ≡ q x) → (xs : List X) → after_first p (map g xs) ≡ map g (after_first q xs)
  after_first_mapped p q same xs =
      rw (prefix_len_mapped (λ y. not (p y)) (λ x. not (q x)) (λ x. ap not (same x)) xs) (drop-map g _ xs)

  pub find_mapped : (p : Y → Bool) (q : X → Bool) → ((x : X) → p (g x) ≡ q x) → (xs : List X) → find p (map g xs) ≡ option_map g (find q xs)
  find_mapped p q same [] = refl
  find_mapped p q same (x ∷ xs) = rw (same x, find_mapped p q same xs) (by_test (q x) (find q xs))
    where
      by_test : (b : Bool) (o : Option X) → cond b (Some (g x)) (option_map g o) ≡ option_map g (cond b (Some x) o)
      by_test true o = refl
      by_test false o = refl

  -- what a function finds in each, where it finds the same
  pub filter_map_mapped : {A : Type 0} (f : Y → Option A) (h : X → Option A) → ((x : X) → f (g x) ≡ h x) → (xs : List X) → filter_map f (map g xs) ≡ filter_map h xs
  filter_map_mapped f h same [] = refl
  filter_map_mapped f h same (x ∷ xs) = rw (same x, filter_map_mapped f h same xs) refl

  pub filter_map_later : {A B : Type 0} (f : Y → Option B) (h : X → Option A) (v : A → B) → ((x : X) → f (g x) ≡ option_map v (h x)) → (xs : List X) → filter_map f (map g xs) ≡ map v (filter_map h xs)
  filter_map_later f h v same [] = refl
  filter_map_later {A = A} f h v same (x ∷ xs) = rw (same x, filter_map_later f h v same xs) (by_found (h x) (filter_map h xs))
    where
      by_found : (o : Option A) (ys : List A) → cons_option (option_map v o) (map v ys) ≡ map v (cons_option o ys)
      by_found None ys = refl
      by_found (Some y) ys = refl

abbrev pub next : ℕ → ℕ
next n = 1 + n

abbrev pub renumbered : (ℕ → ℕ) → Line → Line
renumbered k line = record line { number = k line.number }

abbrev pub later_item : (ℕ → ℕ) → LineItem → LineItem
later_item k i = record i { line = k i.line }

abbrev pub later_placed : (ℕ → ℕ) → Placed → Placed
later_placed k p = record p { line = k p.line }

abbrev pub later_fault : (ℕ → ℕ) → RleFaultAt → RleFaultAt
later_fault k f = record f { line = k f.line }

items_of_later_line : (k : ℕ → ℕ) (line : Line) → items_of_line (renumbered k line) ≡ map (later_item k) (items_of_line line)
items_of_later_line k line = by_test (is_comment line)
  where
    by_test : (b : Bool) → (if b then [] else map (λ (piece : TaggedDigits). record { line = k line.number; item = item_in line.is_ended piece.digits piece.tag }) (pieces_of line.bytes)) ≡ map (later_item k) (if b then [] else map (λ (piece : TaggedDigits). record { line = line.number; item = item_in line.is_ended piece.digits piece.tag }) (pieces_of line.bytes))
    by_test true = refl
    by_test false = sym (map-map (later_item k) _ (pieces_of line.bytes))

pub items_of_later_lines : (k : ℕ → ℕ) (lines : List Line) → items_of_lines (map (renumbered k) lines) ≡ map (later_item k) (items_of_lines lines)
items_of_later_lines k [] = refl
items_of_later_lines k (line ∷ lines) =
    rw (items_of_later_line k line, items_of_later_lines k lines) (sym (map-append (later_item k) (items_of_line line) (items_of_lines lines)))

pub placed_later : (k : ℕ → ℕ) (before : List Item) (items : List LineItem) → placed_after before (map (later_item k) items) ≡ map (later_placed k) (placed_after before items)
placed_later k before [] = refl
placed_later k before (i ∷ is) = rw (placed_later k (i.item ∷ before) is) refl

pub fault_later : (k : ℕ → ℕ) (width height : ℕ) (p : Placed) → fault_at width height (later_placed k p) ≡ option_map (later_fault k) (fault_at width height p)
fault_later k width height p = by_kind (item_fault width height p p.item)
  where
    by_kind : (o : Option RleFaultKind) → (o >>= λ kind. Some (record { kind = kind; line = k p.line })) ≡ option_map (later_fault k) (o >>= λ kind. Some (record { kind = kind; line = p.line }))
    by_kind None = refl
    by_kind (Some kind) = refl

-- a comment before the lines of a text
abbrev pub comment_line : List ℕ → Line
comment_line bytes = record { number = 1; bytes = 35 ∷ bytes; is_ended = true }

-- a text whose lines are a comment and those of another text
abbrev pub HasCommentBefore : List ℕ → List ℕ → List ℕ → Type 0
HasCommentBefore more bytes text = lines_of more ≡ comment_line bytes ∷ map (later_by 1) (lines_of text)

pub drop_past : (n : ℕ) (line : Line) (lines : List Line) → drop (1 + n + 1) (line ∷ lines) ≡ drop (n + 1) lines
drop_past n line lines = let shifted : 1 + n + 1 ≡ suc (n + 1) = omega arith in rw shifted refl

module _ (more bytes text : List ℕ) (e : HasCommentBefore more bytes text) where
  header_later : header_line more ≡ option_map (later_by 1) (header_line text)
  header_later = rw e (find_mapped (later_by 1) (λ line. not (is_skipped line)) (λ line. not (is_skipped line)) (λ line. refl) (lines_of text))

  after_later : lines_after_header more ≡ map (later_by 1) (lines_after_header text)
  after_later = rw e (drop_past _ (comment_line bytes) (map (later_by 1) (lines_of text)) ∙ after_first_mapped (later_by 1) (λ line. not (is_skipped line)) (λ line. not (is_skipped line)) (λ line. refl) (lines_of text))

  items_later : items_after_header more ≡ map (later_item next) (items_after_header text)
  items_later = ap items_of_lines after_later ∙ items_of_later_lines next (lines_after_header text)

  end_later : has_end more ≡ has_end text
  end_later = rw items_later (any_mapped (later_item next) (λ i. is_end i.item) (λ i. is_end i.item) (λ i. refl) (items_after_header text))

  placed_items_later : placed_items more ≡ map (later_placed next) (placed_items text)
  placed_items_later =
      rw (items_later, take_while_mapped (later_item next) (λ i. not (is_end i.item)) (λ i. not (is_end i.item)) (λ i. refl) (items_after_header text)) (placed_later next [] _)

  faults_later : (width height : ℕ) → item_faults more width height ≡ map (later_fault next) (item_faults text width height)
  faults_later width height = rw placed_items_later (filter_map_later (later_placed next) (fault_at width height) (fault_at width height) (later_fault next) (fault_later next width height) (placed_items text))

  state_at_later : (x y : ℕ) → state_at (placed_items more) x y ≡ state_at (placed_items text) x y
  state_at_later x y =
      rw placed_items_later (ap (λ o. unwrap_or (slice_get o 0) Empty) (filter_map_mapped (later_placed next) (λ p. state_in x y p p.item) (λ p. state_in x y p p.item) (λ p. refl) (placed_items text)))

  box_later : (width height : ℕ) → HasBox text width height → HasBox more width height
  box_later width height box = record {
    line = later_by 1 box.line;
    first = header_later ∙ ap (option_map (later_by 1)) box.first;
    header = box.header;
    form = box.form;
    width_is = box.width_is;
    height_is = box.height_is;
    rule = box.rule;
  }

  pub pattern_later : (grid : Grid) → ReadsAsPattern text grid → ReadsAsPattern more grid
  pattern_later grid h = record {
    header = box_later grid.width grid.height h.header;
    no_fault = faults_later grid.width grid.height ∙ ap (map (later_fault next)) h.no_fault;
    ends = end_later ∙ h.ends;
    in_rows = h.in_rows;
    cells = λ x y a b. h.cells x y a b ∙ sym (state_at_later x y);
  }
