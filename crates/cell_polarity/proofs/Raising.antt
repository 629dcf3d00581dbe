-- Sources with their own bits, made one after another.
use Rattle.std.proofs.Common.{◌≡◌, ◌≢◌, refl, sym, ◌∙◌, ap, ap₂, ℕ, ◌+◌, ◌<◌, ◌≤◌, Bool, true, false, true≢false, ◌&&◌, ◌||◌, not, cond, List, [], ◌∷◌, ◌++◌, length, get_or, take, map, slice_set, slice_get, subst, inl, inr, ⊎_elim, ◌⊎◌, Option, Some, None, replicate, arith}
use Rattle.std.specs.Prelude.{count_by, IfSome, flat_map}
use Rattle.std.specs.Option.{unwrap_or, option_map_or}
use Rattle.std.proofs.lemmas.Bool.{and_parts, and_from, or_cases, ltb-true, lt-ltb, cases_eq}
use Rattle.std.proofs.lemmas.Option.{none-some, same_Some, slice_get_within, slice_get-get_or, get_or_from_slice_get}
use Rattle.std.proofs.lemmas.List.{length-set, length-map, length-append, length-replicate, get_or-set_same, get_or-set_other, get_or_append_left}
use Rattle.std.proofs.lemmas.List.Sums.{sum_by_more}
use Rattle.lists.specs.Items.{one_if}
use Rattle.lists.proofs.Members.{In, in_from, contains_from, in_right, in_flat}
use Rattle.lists.proofs.Numbers.{less_or_last}
use Rattle.cell_core.specs.declared.cells.Src.{Src}
use Rattle.cell_core.specs.declared.cells.Src.TheVariants.{Input, Latch, One, Zero, Cell as Made}
use Rattle.cell_core.specs.declared.cells.Cell.{Cell}
use Rattle.cell_core.specs.declared.cells.Cell.TheVariants.{Or, Xor, AndNot}
use Rattle.cell_core.specs.declared.list.CellList.{CellList}
use Rattle.cell_core.specs.Sources.{is_there, reads_there, is_one, reads_one, are_in_order}
use Rattle.cell_core.specs.Meaning.{source_bit, cell_bit, cell_bits, bit_in, bit_of}
use Rattle.cell_core.proofs.OwnBits.{cell_in_order, bit_of_cell}
use Rattle.cell_meaning.specs.Mapped.{IsCell}
use Rattle.cell_meaning.specs.Same.{cell_over}
use Rattle.cell_meaning.specs.Moved.{NewSources, new_source, goes_to, AreMoved}
use Rattle.cell_meaning.proofs.Moves.{follows, put_moved, all_the_same}
use Rattle.cell_sharing.specs.Grown.{HasSource, Grows, Answers}
use Rattle.cell_sharing.proofs.Growing.{grows, grows_refl, there_after, bit_after}
use Rattle.cell_polarity.specs.Zero.{zero_bit, complement_if}
use Rattle.cell_polarity.specs.Needed.{cell_operands, with_operands, ports_and_nets, needed}
use Rattle.cell_polarity.specs.Low.{AreLow}
use Rattle.cell_polarity.specs.Marks.{AreMarked}
use Rattle.cell_polarity.specs.Raised.{Reason, IsRaised, SomeIsOne, AreRaised}
use Rattle.cell_polarity.proofs.Zeros.{complement_twice, in_any}

-- ---- the four ways
pub raised_own : (l l' : CellList) (low src : Src) (zero wanted kept : Bool) (own : Cell) → kept ≡ true
    → Answers l l' 1 (reads_one own ≡ true) src (λ inputs state. cell_bit inputs state (cell_bits inputs state l.cells) own) → IsCell l' src own
    → IsRaised l l' low zero wanted kept own (Some src)
raised_own l l' low src zero wanted kept own k a is =
    let one : one_if kept ≡ 1 = ap one_if k in
    record {
      grows = record { more = a.grows.more; adds = a.grows.adds; few = omega (arith, one, a.grows.few); ones = λ e. inl (k, a.grows.ones e) };
      there = a.there;
      bit = λ inputs state. a.bit inputs state
          ∙ sym (ap (λ b. cond b (cell_bit inputs state (cell_bits inputs state l.cells) own) (complement_if zero (bit_in l.cells inputs state low))) k);
      is = λ why. (src, refl);
      stays = λ e. is;
    }

not_kept : (l : CellList) (low : Src) (zero kept : Bool) (own : Cell) (inputs state : List Bool) → kept ≡ false
    → complement_if zero (bit_in l.cells inputs state low) ≡ cond kept (cell_bit inputs state (cell_bits inputs state l.cells) own) (complement_if zero (bit_in l.cells inputs state low))
not_kept l low zero kept own inputs state k = sym (ap (λ b. cond b (cell_bit inputs state (cell_bits inputs state l.cells) own) (complement_if zero (bit_in l.cells inputs state low))) k)

pub raised_low : (l : CellList) (low : Src) (zero wanted kept : Bool) (own : Cell) → kept ≡ false → zero ≡ false → HasSource l low → IsRaised l l low zero wanted kept own (Some low)
raised_low l low zero wanted kept own k z there =
    let none = grows_refl l (Reason zero wanted kept own) in
    record {
      grows = record { more = none.more; adds = none.adds; few = omega (arith, none.few); ones = none.ones };
      there = there;
      bit = λ inputs state. sym (ap (λ b. complement_if b (bit_in l.cells inputs state low)) z) ∙ not_kept l low zero kept own inputs state k;
      is = λ why. (low, refl);
      stays = λ e. absurd (true≢false (sym e ∙ k));
    }

pub raised_none : (l : CellList) (low : Src) (zero wanted kept : Bool) (own : Cell) → kept ≡ false → zero ≡ true → wanted ≡ false → IsRaised l l low zero wanted kept own None
raised_none l low zero wanted kept own k z w =
    let none = grows_refl l (Reason zero wanted kept own) in
    record {
      grows = record { more = none.more; adds = none.adds; few = omega (arith, none.few); ones = none.ones };
      there = tt;
      bit = tt;
      is = λ why. ⊎_elim (λ (e : kept ≡ true). absurd (true≢false (sym e ∙ k)))
          (λ (h : (zero ≡ false) ⊎ (wanted ≡ true)). ⊎_elim (λ (e : zero ≡ false). absurd (true≢false (sym z ∙ e))) (λ (e : wanted ≡ true). absurd (true≢false (sym e ∙ w))) h) why;
      stays = λ e. tt;
    }

pub raised_turned : (l l' : CellList) (low src : Src) (zero wanted kept : Bool) (own : Cell) → kept ≡ false → zero ≡ true → wanted ≡ true
    → Answers l l' 1 (reads_one (AndNot One low) ≡ true) src (λ inputs state. cell_bit inputs state (cell_bits inputs state l.cells) (AndNot One low))
    → IsRaised l l' low zero wanted kept own (Some src)
raised_turned l l' low src zero wanted kept own k z w a =
    let one : one_if wanted ≡ 1 = ap one_if w in
    record {
      grows = record { more = a.grows.more; adds = a.grows.adds; few = omega (arith, one, a.grows.few); ones = λ e. inr (w, z) };
      there = a.there;
      bit = λ inputs state. a.bit inputs state ∙ sym (ap (λ b. complement_if b (bit_in l.cells inputs state low)) z) ∙ not_kept l low zero kept own inputs state k;
      is = λ why. (src, refl);
      stays = λ e. absurd (true≢false (sym e ∙ k));
    }

-- ---- where sources go
is_gone : (news : NewSources) (src new : Src) → new_source news src ≡ Some new → new_source news src ≡ Some (goes_to news src)
is_gone news src new e = e ∙ ap Some (sym (ap (λ o. unwrap_or o src) e))

-- each operand of the cell has a new source
abbrev pub AreGone : NewSources → Cell → Type 0
AreGone news cell = (src : Src) → In src (cell_operands cell) → new_source news src ≡ Some (goes_to news src)

module _ (old now : CellList) (news : NewSources) (moved : AreMoved old now.cells news) (inputs_are : now.inputs ≡ old.inputs) (starts_are : now.starts ≡ old.starts) where
  pub gone_bit : (src : Src) → new_source news src ≡ Some (goes_to news src) → (inputs state : List Bool) → bit_in now.cells inputs state (goes_to news src) ≡ bit_of old inputs state src
  gone_bit src e inputs state = (follows old now.cells news moved src (goes_to news src) e).bit inputs state

  pub gone_there : (src : Src) → new_source news src ≡ Some (goes_to news src) → (made : ℕ) → is_there old.inputs (length old.starts) made src ≡ true → HasSource now (goes_to news src)
  gone_there src e made there =
      ap₂ (λ (i : ℕ) (s : List Bool). is_there i (length s) (length now.cells) (goes_to news src)) inputs_are starts_are ∙ (follows old now.cells news moved src (goes_to news src) e).there made there

  pub own_bit_is : (cell : Cell) → AreGone news cell → (inputs state : List Bool)
      → cell_bit inputs state (cell_bits inputs state now.cells) (cell_over (goes_to news) cell) ≡ cell_bit inputs state (cell_bits inputs state old.cells) cell
  own_bit_is (Or a b) gone inputs state = ap₂ (λ x y. x || y) (gone_bit a (gone a (inl refl)) inputs state) (gone_bit b (gone b (inr (inl refl))) inputs state)
  own_bit_is (Xor a b) gone inputs state = ap₂ (λ x y. (x || y) && not (x && y)) (gone_bit a (gone a (inl refl)) inputs state) (gone_bit b (gone b (inr (inl refl))) inputs state)
  own_bit_is (AndNot a b) gone inputs state = ap₂ (λ x y. x && not y) (gone_bit a (gone a (inl refl)) inputs state) (gone_bit b (gone b (inr (inl refl))) inputs state)

  pub own_reads : (cell : Cell) → AreGone news cell → (made : ℕ) → reads_there old.inputs (length old.starts) made cell ≡ true
      → reads_there now.inputs (length now.starts) (length now.cells) (cell_over (goes_to news) cell) ≡ true
  own_reads (Or a b) gone made there = and_from _ _ (gone_there a (gone a (inl refl)) made (and_parts _ _ there).0) (gone_there b (gone b (inr (inl refl))) made (and_parts _ _ there).1)
  own_reads (Xor a b) gone made there = and_from _ _ (gone_there a (gone a (inl refl)) made (and_parts _ _ there).0) (gone_there b (gone b (inr (inl refl))) made (and_parts _ _ there).1)
  own_reads (AndNot a b) gone made there = and_from _ _ (gone_there a (gone a (inl refl)) made (and_parts _ _ there).0) (gone_there b (gone b (inr (inl refl))) made (and_parts _ _ there).1)

  -- an operand that goes to constant 1 is 1 at zero
  one_bit : (src : Src) → is_one src ≡ true → (made : List Bool) → source_bit [] [] made src ≡ true
  one_bit (Input i) e made = absurd (true≢false (sym e))
  one_bit (Latch i) e made = absurd (true≢false (sym e))
  one_bit One e made = refl
  one_bit Zero e made = absurd (true≢false (sym e))
  one_bit (Made i) e made = absurd (true≢false (sym e))

  pub one_at_zero : (src : Src) → new_source news src ≡ Some (goes_to news src) → is_one (goes_to news src) ≡ true → zero_bit old src ≡ true
  one_at_zero src e one = sym (gone_bit src e [] []) ∙ one_bit (goes_to news src) one (cell_bits [] [] now.cells)

  pair_one : (a b : Src) → (is_one (goes_to news a) || is_one (goes_to news b)) ≡ true → (src : Src) × In src (a ∷ b ∷ []) × (is_one (goes_to news src) ≡ true)
  pair_one a b e =
      ⊎_elim (λ (h : is_one (goes_to news a) ≡ true). (a, inl refl, h)) (λ (h : is_one (goes_to news b) ≡ true). (b, inr (inl refl), h)) (or_cases (is_one (goes_to news a)) (is_one (goes_to news b)) e)

  which_one : (cell : Cell) → reads_one (cell_over (goes_to news) cell) ≡ true → (src : Src) × In src (cell_operands cell) × (is_one (goes_to news src) ≡ true)
  which_one (Or a b) e = pair_one a b e
  which_one (Xor a b) e = pair_one a b e
  which_one (AndNot a b) e = pair_one a b e

  pub operand_one : (cell : Cell) → AreGone news cell → reads_one (cell_over (goes_to news) cell) ≡ true → (src : Src) × In src (cell_operands cell) × (zero_bit old src ≡ true)
  operand_one cell gone e = let r = which_one cell e in (r.0, r.1, one_at_zero r.0 (gone r.0 r.1) r.2)

-- ---- a list that grows
pub moved_grows : (old l l' : CellList) (news : NewSources) (n : ℕ) (P : Type 0) → l'.inputs ≡ old.inputs → l'.starts ≡ old.starts → l.inputs ≡ old.inputs → l.starts ≡ old.starts → Grows l l' n P
    → AreMoved old l.cells news → AreMoved old l'.cells news
moved_grows old l l' news n P inputs' starts' inputs starts g are =
    let here : (src : Src) → is_there old.inputs (length old.starts) (length l.cells) src ≡ true → HasSource l src =
    λ src h. ap₂ (λ (i : ℕ) (s : List Bool). is_there i (length s) (length l.cells) src) inputs starts ∙ h in
    record {
      in_order = ap₂ (λ (i : ℕ) (s : List Bool). are_in_order i (length s) 0 l'.cells) (sym inputs') (sym starts') ∙ l'.in_order;
      there = λ i src e. ap₂ (λ (k : ℕ) (s : List Bool). is_there k (length s) (length l'.cells) src) (sym inputs') (sym starts') ∙ there_after l l' n P g src (here src (are.there i src e));
      bits = λ i src e inputs state. bit_after l l' n P g src (here src (are.there i src e)) inputs state ∙ are.bits i src e inputs state;
    }

-- nothing is written at a place
pub none_put : (old : CellList) (cells : List Cell) (news : NewSources) (k : ℕ) → k < length news → AreMoved old cells news → AreMoved old cells (slice_set news k None)
none_put old cells news k inside are =
    let was : (i : ℕ) (src : Src) → get_or (slice_set news k None) i None ≡ Some src → get_or news i None ≡ Some src =
    λ i src e. ⊎_elim
    (λ (h : i ≡ k). absurd (none-some src (sym (ap (λ j. get_or (slice_set news k None) j None) h ∙ get_or-set_same news k None None inside) ∙ e)))
    (λ (ne : i ≢ k). sym (get_or-set_other news k i None None ne) ∙ e) (cases_eq i k) in
    record { in_order = are.in_order; there = λ i src e. are.there i src (was i src e); bits = λ i src e. are.bits i src (was i src e) }

-- a cell of a list is one of a longer one
still_cell : (l l' : CellList) (n : ℕ) (P : Type 0) → Grows l l' n P → (src : Src) (cell : Cell) → IsCell l src cell → IsCell l' src cell
still_cell l l' n P g src cell (k, is, at) =
    let lt : k < length l.cells = slice_get_within l.cells k cell at in
    let many : length (l.cells ++ g.more) ≡ length l.cells + length g.more = length-append l.cells g.more in (
      k,
      is,
      ap (λ (c : List Cell). slice_get c k) g.adds.cells
          ∙ slice_get-get_or (l.cells ++ g.more) k cell (omega (arith, many, lt))
          ∙ ap Some (get_or_append_left l.cells g.more cell k lt) ∙ sym (slice_get-get_or l.cells k cell lt) ∙ at,
    )

pub operand_there : (inputs latches made : ℕ) (cell : Cell) (src : Src) → In src (cell_operands cell) → reads_there inputs latches made cell ≡ true → is_there inputs latches made src ≡ true
operand_there inputs latches made (Or a b) src (inl e) there = ap (is_there inputs latches made) e ∙ (and_parts _ _ there).0
operand_there inputs latches made (Or a b) src (inr (inl e)) there = ap (is_there inputs latches made) e ∙ (and_parts _ _ there).1
operand_there inputs latches made (Or a b) src (inr (inr never)) there = absurd never
operand_there inputs latches made (Xor a b) src (inl e) there = ap (is_there inputs latches made) e ∙ (and_parts _ _ there).0
operand_there inputs latches made (Xor a b) src (inr (inl e)) there = ap (is_there inputs latches made) e ∙ (and_parts _ _ there).1
operand_there inputs latches made (Xor a b) src (inr (inr never)) there = absurd never
operand_there inputs latches made (AndNot a b) src (inl e) there = ap (is_there inputs latches made) e ∙ (and_parts _ _ there).0
operand_there inputs latches made (AndNot a b) src (inr (inl e)) there = ap (is_there inputs latches made) e ∙ (and_parts _ _ there).1
operand_there inputs latches made (AndNot a b) src (inr (inr never)) there = absurd never

-- where a place is written, what is below stays
same_goes : (inputs latches m count : ℕ) (news : NewSources) (by : Option Src) (src : Src) → m ≤ count → is_there inputs latches m src ≡ true → goes_to (slice_set news count by) src ≡ goes_to news src
same_goes inputs latches m count news by (Input i) le there = refl
same_goes inputs latches m count news by (Latch i) le there = refl
same_goes inputs latches m count news by One le there = refl
same_goes inputs latches m count news by Zero le there = refl
same_goes inputs latches m count news by (Made i) le there =
    let lt : i < m = ltb-true i m there in
    ap (λ o. unwrap_or o (Made i)) (get_or-set_other news count i by None (λ e. absurd (omega (arith, lt, le, e))))

same_over : (inputs latches m count : ℕ) (news : NewSources) (by : Option Src) (cell : Cell) → m ≤ count → reads_there inputs latches m cell ≡ true
    → cell_over (goes_to (slice_set news count by)) cell ≡ cell_over (goes_to news) cell
same_over inputs latches m count news by (Or a b) le there =
    ap₂ Or (same_goes inputs latches m count news by a le (and_parts _ _ there).0) (same_goes inputs latches m count news by b le (and_parts _ _ there).1)
same_over inputs latches m count news by (Xor a b) le there =
    ap₂ Xor (same_goes inputs latches m count news by a le (and_parts _ _ there).0) (same_goes inputs latches m count news by b le (and_parts _ _ there).1)
same_over inputs latches m count news by (AndNot a b) le there =
    ap₂ AndNot (same_goes inputs latches m count news by a le (and_parts _ _ there).0) (same_goes inputs latches m count news by b le (and_parts _ _ there).1)

-- ---- the sources of the first cells
module _ (old low : CellList) (kept lows : List Src) (zeros marks stays : List Bool) (low_are : AreLow old (length old.cells) zeros low lows)
    (marks_are : AreMarked zeros (needed old kept) marks) (stays_are : AreMarked (map (λ (zero : Bool). true) zeros) kept stays) where
  pub marks_long : length marks ≡ length old.cells
  marks_long = marks_are.long ∙ low_are.zeros_long

  pub stays_long : length stays ≡ length old.cells
  stays_long = stays_are.long ∙ length-map zeros (λ (zero : Bool). true) ∙ low_are.zeros_long

  -- what a kept cell reads is needed
  kept_needed : (i : ℕ) (src : Src) → get_or stays i false ≡ true → In src (with_operands old.cells (Made i)) → In src (needed old kept)
  kept_needed i src e at =
      in_right (ports_and_nets old) (flat_map (with_operands old.cells) kept) src (in_flat (with_operands old.cells) kept (Made i) src (in_from kept (Made i) (stays_are.from i e).0) at)

  module _ (count : ℕ) (now : CellList) (news : NewSources) (are : AreRaised old low kept zeros marks stays count now news) where
    now_inputs : now.inputs ≡ old.inputs
    now_inputs = are.grows.adds.inputs ∙ low_are.inputs

    now_starts : now.starts ≡ old.starts
    now_starts = are.grows.adds.starts ∙ low_are.starts

    -- what is needed, among the first cells, has a new source
    pub has_new : (src : Src) → In src (needed old kept) → is_there old.inputs (length old.starts) count src ≡ true → new_source news src ≡ Some (goes_to news src)
    has_new (Input i) at there = refl
    has_new (Latch i) at there = refl
    has_new One at there = refl
    has_new Zero at there = refl
    has_new (Made i) at there = by (get_or zeros i false) refl
      where
        lt : i < count
        lt = ltb-true i count there

        by : (b : Bool) → get_or zeros i false ≡ b → new_source news (Made i) ≡ Some (goes_to news (Made i))
        by false e = let found = are.have i lt (inr (inl e)) in is_gone news (Made i) found.0 found.1
        by true e = let found = are.have i lt (inr (inr (marks_are.onto i (contains_from (needed old kept) (Made i) at) e))) in is_gone news (Made i) found.0 found.1

    module _ (d cell : Cell) (within : count < length old.cells) (is : get_or old.cells count d ≡ cell) where
      at : slice_get old.cells count ≡ Some cell
      at = slice_get-get_or old.cells count d within ∙ ap Some is

      reads : reads_there old.inputs (length old.starts) count cell ≡ true
      reads =
          let e : count ≡ 0 + count = omega arith in
          ap (λ n. reads_there old.inputs (length old.starts) n cell) e ∙ ap (reads_there old.inputs (length old.starts) (0 + count)) (sym is) ∙ cell_in_order old.inputs (length old.starts) 0 old.cells count d within old.in_order

      bit_is : (inputs state : List Bool) → bit_of old inputs state (Made count) ≡ cell_bit inputs state (cell_bits inputs state old.cells) cell
      bit_is inputs state = bit_of_cell old count d inputs state within ∙ ap (cell_bit inputs state (cell_bits inputs state old.cells)) is

      read_needed : (src : Src) → get_or stays count false ≡ true → In src (cell_operands cell) → In src (needed old kept)
      read_needed src e i = kept_needed count src e (subst (λ o. In src (option_map_or (λ c. Made count ∷ cell_operands c) o [])) (sym at) (inr i))

      gone : get_or stays count false ≡ true → AreGone news cell
      gone e = λ src i. has_new src (read_needed src e i) (operand_there old.inputs (length old.starts) count cell src i reads)

      -- what the next source asks for
      pub own_there : get_or stays count false ≡ true → reads_there now.inputs (length now.starts) (length now.cells) (cell_over (goes_to news) cell) ≡ true
      own_there e = own_reads old now news are.moved now_inputs now_starts cell (gone e) count reads

      low_before : HasSource low (get_or lows count Zero)
      low_before =
          ap₂ (λ (n : ℕ) (s : List Bool). is_there n (length s) (length low.cells) (get_or lows count Zero)) low_are.inputs low_are.starts ∙ (low_are.each count within).stands.there

      pub low_there : HasSource now (get_or lows count Zero)
      low_there = there_after low now _ _ are.grows (get_or lows count Zero) low_before

      -- ---- one more
      module _ (l' : CellList) (by : Option Src)
          (raised : IsRaised now l' (get_or lows count Zero) (get_or zeros count false) (get_or marks count false) (get_or stays count false) (cell_over (goes_to news) cell) by) where
        inside : count < length news
        inside = omega (arith, within, are.long)

        turned_bit : (inputs state : List Bool) → complement_if (get_or zeros count false) (bit_in now.cells inputs state (get_or lows count Zero)) ≡ bit_of old inputs state (Made count)
        turned_bit inputs state =
            ap₂ complement_if (low_are.zero_bits count within) (bit_after low now _ _ are.grows (get_or lows count Zero) low_before inputs state ∙ (low_are.each count within).stands.bit inputs state)
            ∙ complement_twice (zero_bit old (Made count)) (bit_of old inputs state (Made count))

        own_or_turned : (inputs state : List Bool) → cond (get_or stays count false) (cell_bit inputs state (cell_bits inputs state now.cells) (cell_over (goes_to news) cell))
            (complement_if (get_or zeros count false) (bit_in now.cells inputs state (get_or lows count Zero))) ≡ bit_of old inputs state (Made count)
        own_or_turned inputs state = by_kept (get_or stays count false) refl
          where
            by_kept : (b : Bool) → get_or stays count false ≡ b → cond b (cell_bit inputs state (cell_bits inputs state now.cells) (cell_over (goes_to news) cell))
                (complement_if (get_or zeros count false) (bit_in now.cells inputs state (get_or lows count Zero))) ≡ bit_of old inputs state (Made count)
            by_kept true e = own_bit_is old now news are.moved now_inputs now_starts cell (gone e) inputs state ∙ sym (bit_is inputs state)
            by_kept false e = turned_bit inputs state

        base : AreMoved old l'.cells news
        base = moved_grows old now l' news _ _ (raised.grows.adds.inputs ∙ now_inputs) (raised.grows.adds.starts ∙ now_starts) now_inputs now_starts raised.grows are.moved

        put : (o : Option Src) → by ≡ o → AreMoved old l'.cells (slice_set news count o)
        put None e = none_put old l'.cells news count inside base
        put (Some src) e =
            let there : HasSource l' src = subst (λ o. IfSome o (HasSource l')) e raised.there in
            let bit : (inputs state : List Bool) → bit_in l'.cells inputs state src ≡ cond (get_or stays count false) (cell_bit inputs state (cell_bits inputs state now.cells) (cell_over (goes_to news) cell))
            (complement_if (get_or zeros count false) (bit_in now.cells inputs state (get_or lows count Zero))) =
            subst (λ o. IfSome o (λ s. (inputs state : List Bool) → bit_in l'.cells inputs state s ≡ cond (get_or stays count false) (cell_bit inputs state (cell_bits inputs state now.cells) (cell_over (goes_to news) cell))
            (complement_if (get_or zeros count false) (bit_in now.cells inputs state (get_or lows count Zero))))) e raised.bit in
            put_moved old l'.cells news base count src inside
            (ap₂ (λ (n : ℕ) (s : List Bool). is_there n (length s) (length l'.cells) src) (sym (raised.grows.adds.inputs ∙ now_inputs)) (sym (raised.grows.adds.starts ∙ now_starts)) ∙ there)
            (λ inputs state. bit inputs state ∙ own_or_turned inputs state)

        reason : Reason (get_or zeros count false) (get_or marks count false) (get_or stays count false) (cell_over (goes_to news) cell) → SomeIsOne old kept
        reason (inl (k, e)) =
            let found = operand_one old now news are.moved now_inputs now_starts cell (gone k) e in
            in_any (zero_bit old) (needed old kept) found.0 (read_needed found.0 k found.1) found.2
        reason (inr (w, z)) =
            in_any (zero_bit old) (needed old kept) (Made count) (in_from (needed old kept) (Made count) (marks_are.from count w).0) (sym (low_are.zero_bits count within) ∙ z)

        counted : (flags : List Bool) → length flags ≡ length old.cells
            → count_by (λ (flag : Bool). flag) (take (count + 1) flags) ≡ count_by (λ (flag : Bool). flag) (take count flags) + one_if (get_or flags count false)
        counted flags long = sum_by_more (λ (flag : Bool). cond {A = ℕ} flag 1 0) flags count false (omega (arith, within, long))

        new_have : (i : ℕ) → i < count + 1 → ((get_or stays i false ≡ true) ⊎ ((get_or zeros i false ≡ false) ⊎ (get_or marks i false ≡ true)))
            → (src : Src) × (get_or (slice_set news count by) i None ≡ Some src)
        new_have i lt why = ⊎_elim
            (λ (before : i < count). let found = are.have i before why in (found.0, get_or-set_other news count i by None (λ e. absurd (omega (arith, before, e))) ∙ found.1))
            (λ (e : i ≡ count).
            let found = raised.is (subst (λ j. (get_or stays j false ≡ true) ⊎ ((get_or zeros j false ≡ false) ⊎ (get_or marks j false ≡ true))) e why) in
            (found.0, ap (λ j. get_or (slice_set news count by) j None) e ∙ get_or-set_same news count by None inside ∙ found.1))
            (less_or_last i count lt)

        stay_before : (i : ℕ) → i < count → get_or stays i false ≡ true → (c : Cell) → slice_get old.cells i ≡ Some c
            → IsCell l' (goes_to (slice_set news count by) (Made i)) (cell_over (goes_to (slice_set news count by)) c)
        stay_before i lt s c was =
            let there : reads_there old.inputs (length old.starts) (0 + i) c ≡ true =
            ap (reads_there old.inputs (length old.starts) (0 + i)) (sym (get_or_from_slice_get old.cells i c c was)) ∙ cell_in_order old.inputs (length old.starts) 0 old.cells i c (slice_get_within old.cells i c was) old.in_order in
            subst (λ src. IsCell l' src (cell_over (goes_to (slice_set news count by)) c)) (sym (same_goes old.inputs (length old.starts) count count news by (Made i) (omega arith) (lt-ltb i count lt)))
            (subst (λ own. IsCell l' (goes_to news (Made i)) own) (sym (same_over old.inputs (length old.starts) (0 + i) count news by c (omega (arith, lt)) there))
            (still_cell now l' _ _ raised.grows (goes_to news (Made i)) (cell_over (goes_to news) c) (are.stay i lt s c was)))

        stay_last : get_or stays count false ≡ true → (c : Cell) → slice_get old.cells count ≡ Some c
            → IsCell l' (goes_to (slice_set news count by) (Made count)) (cell_over (goes_to (slice_set news count by)) c)
        stay_last s c was =
            let found = raised.is (inl s) in
            let same : c ≡ cell = same_Some _ _ (sym was ∙ at) in
            let goes : goes_to (slice_set news count by) (Made count) ≡ found.0 = ap (λ o. unwrap_or o (Made count)) (get_or-set_same news count by None inside ∙ found.1) in
            subst (λ src. IsCell l' src (cell_over (goes_to (slice_set news count by)) c)) (sym goes)
            (subst (λ own. IsCell l' found.0 own) (sym (ap (cell_over (goes_to (slice_set news count by))) same ∙ same_over old.inputs (length old.starts) count count news by cell (omega arith) reads))
            (subst (λ o. IfSome o (λ src. IsCell l' src (cell_over (goes_to news) cell))) found.1 (raised.stays s)))

        pub raised_more : AreRaised old low kept zeros marks stays (count + 1) l' (slice_set news count by)
        raised_more = record {
          long = length-set news count by ∙ are.long;
          moved = put by refl;
          grows = grows low now l' _ _ _ _ _ _ are.grows raised.grows (λ p. p) reason
              (let m = counted marks marks_long in let s = counted stays stays_long in omega (arith, m, s));
          have = new_have;
          stay = λ i lt s c was. ⊎_elim (λ (before : i < count). stay_before i before s c was)
              (λ (e : i ≡ count). subst (λ j. IsCell l' (goes_to (slice_set news count by) (Made j)) (cell_over (goes_to (slice_set news count by)) c)) (sym e)
              (stay_last (sym (ap (λ j. get_or stays j false) e) ∙ s) c (sym (ap (slice_get old.cells) e) ∙ was)))
              (less_or_last i count lt);
        }

  -- ---- before the first
  pub none_raised : (news : NewSources) → news ≡ replicate (length old.cells) None → AreRaised old low kept zeros marks stays 0 low news
  none_raised news is =
      let none : (i : ℕ) → get_or news i None ≡ None = λ i. ap (λ (l : NewSources). get_or l i None) is ∙ all_the_same None (length old.cells) i in
      let g = grows_refl low (SomeIsOne old kept) in
      record {
        long = ap length is ∙ length-replicate (length old.cells) None;
        moved = record {
          in_order = ap₂ (λ (n : ℕ) (s : List Bool). are_in_order n (length s) 0 low.cells) (sym low_are.inputs) (sym low_are.starts) ∙ low.in_order;
          there = λ i src e. absurd (none-some src (sym (none i) ∙ e));
          bits = λ i src e. absurd (none-some src (sym (none i) ∙ e));
        };
        grows = record { more = g.more; adds = g.adds; few = omega (arith, g.few); ones = g.ones };
        have = λ i lt. absurd (omega (arith, lt));
        stay = λ i lt. absurd (omega (arith, lt));
      }
