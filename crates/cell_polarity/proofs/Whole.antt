-- The whole list with complements.
use Rattle.std.proofs.Common.{◌≡◌, refl, sym, ◌∙◌, ap, ap₂, ℕ, ◌+◌, ◌<◌, ◌≤◌, Bool, true, false, true≢false, ◌||◌, cond, List, [], ◌∷◌, length, take, map, flat_map, get_or, slice_get, subst, inl, inr, ⊎_elim, arith}
use Rattle.std.specs.Prelude.{sum_by, count_by, Contains}
use Rattle.std.specs.List.{list_any}
use Rattle.std.specs.Option.{option_map_or}
use Rattle.std.proofs.lemmas.Bool.{or_cases}
use Rattle.std.proofs.lemmas.Option.{slice_get_within}
use Rattle.std.proofs.lemmas.List.{take_all, get_or-map}
use Rattle.std.proofs.lemmas.List.Folds.{list_any-append}
use Rattle.std.proofs.lemmas.List.Sums.{count_by-le-length, sum_by-cons}
use Rattle.lists.proofs.Members.{In, in_from, in_right, in_flat, in_mapped}
use Rattle.cell_core.specs.declared.cells.Src.{Src}
use Rattle.cell_core.specs.declared.cells.Src.TheVariants.{Cell as Made}
use Rattle.cell_core.specs.declared.cells.Cell.{Cell}
use Rattle.cell_core.specs.declared.list.CellList.{CellList}
use Rattle.cell_core.specs.Sources.{is_one, reads_one, read_one}
use Rattle.cell_core.specs.Loops.{names_one}
use Rattle.cell_core.specs.Meaning.{bit_in}
use Rattle.cell_meaning.specs.Mapped.{IsCell}
use Rattle.cell_meaning.specs.Same.{cell_over, StaysCell, StaysBit}
use Rattle.cell_meaning.specs.Moved.{NewSources, goes_to}
use Rattle.cell_polarity.specs.Zero.{zero_bit, cells_for}
use Rattle.cell_polarity.specs.Needed.{cell_operands, with_operands, ports_and_nets, needed}
use Rattle.cell_polarity.specs.Complements.{Complements}
use Rattle.cell_polarity.specs.Low.{low_of, zero_in, AreLow}
use Rattle.cell_polarity.specs.Marks.{AreMarked}
use Rattle.cell_polarity.specs.Raised.{SomeIsOne, AreRaised, IsPorted, HaveOwn}
use Rattle.cell_polarity.proofs.Zeros.{any_in, in_any}
use Rattle.cell_polarity.proofs.Lowering.{zero_at, low_at}
use Rattle.cell_polarity.proofs.Raising.{gone_bit, one_at_zero, marks_long, stays_long}
use Rattle.cell_polarity.proofs.Ports.{have_own, gone_of, needed_there, out_needed, datum_needed, net_needed}

count_same : (p q : Src → Bool) (sources : List Src) → ((src : Src) → In src sources → p src ≡ q src) → count_by p sources ≡ count_by q sources
count_same p q [] same = refl
count_same p q (src ∷ sources) same =
    sum_by-cons (λ s. cond {A = ℕ} (p s) 1 0) src sources
    ∙ ap₂ (λ m n. m + n) (ap (λ b. cond {A = ℕ} b 1 0) (same src (inl refl))) (count_same p q sources (λ s i. same s (inr i)))
    ∙ sym (sum_by-cons (λ s. cond {A = ℕ} (q s) 1 0) src sources)

all_counted : (flags : List Bool) (n : ℕ) → length flags ≡ n → count_by (λ (flag : Bool). flag) (take n flags) ≡ count_by (λ (flag : Bool). flag) flags
all_counted flags n long = ap (count_by (λ (flag : Bool). flag)) (take_all n flags (omega (arith, long)))

module _ (old low now new : CellList) (kept lows still : List Src) (zeros marks stays : List Bool) (news : NewSources) (low_are : AreLow old (length old.cells) zeros low lows)
    (marks_are : AreMarked zeros (needed old kept) marks) (stays_are : AreMarked (map (λ (zero : Bool). true) zeros) kept stays)
    (are : AreRaised old low kept zeros marks stays (length old.cells) now news) (ported : IsPorted old kept now news new still) where
  have : HaveOwn old kept now news
  have = have_own old kept low now lows zeros marks stays news low_are marks_are stays_are are

  -- ---- kept sources
  kept_cell : (src : Src) → Contains kept src → StaysCell old new (goes_to news) src
  kept_cell src among cell (i, is, at) =
      let lt : i < length old.cells = slice_get_within old.cells i cell at in
      let flag : get_or (map (λ (zero : Bool). true) zeros) i false ≡ true =
      get_or-map (λ (zero : Bool). true) zeros i false false (let long = low_are.zeros_long in omega (arith, lt, long)) in
      let stay : get_or stays i false ≡ true = stays_are.onto i (subst (λ s. Contains kept s) is among) flag in
      let (k, goes, there) : IsCell now (goes_to news (Made i)) (cell_over (goes_to news) cell) = are.stay i lt stay cell at in
      (k, ap (goes_to news) is ∙ goes, ap (λ (c : List Cell). slice_get c k) ported.cells ∙ there)

  kept_bit : (src : Src) → Contains kept src → StaysBit old new (goes_to news) src
  kept_bit src among cell (i, is, at) inputs state =
      let here : In src (with_operands old.cells src) =
      subst (λ s. In src (with_operands old.cells s)) (sym is) (subst (λ o. In src (option_map_or (λ c. Made i ∷ cell_operands c) o [])) (sym at) (inl is)) in
      let need : In src (needed old kept) = in_right (ports_and_nets old) (flat_map (with_operands old.cells) kept) src (in_flat (with_operands old.cells) kept src src (in_from kept src among) here) in
      ap (λ (c : List Cell). bit_in c inputs state (goes_to news src)) ported.cells
      ∙ gone_bit old now news have.moved have.inputs have.starts src (gone_of old kept now news have src need) inputs state

  -- ---- constant 1
  some_one : (sources : List Src) → ((src : Src) → In src sources → In src (needed old kept)) → list_any is_one (map (goes_to news) sources) ≡ true → SomeIsOne old kept
  some_one sources among e =
      let found = any_in is_one (map (goes_to news) sources) e in
      let (src, at, is) = in_mapped (goes_to news) sources found.0 found.1 in
      let need : In src (needed old kept) = among src at in
      in_any (zero_bit old) (needed old kept) src need
      (one_at_zero old now news have.moved have.inputs have.starts src (gone_of old kept now news have src need) (sym (ap is_one is) ∙ found.2))

  cells_one : read_one new.cells ≡ true → SomeIsOne old kept
  cells_one e =
      ⊎_elim (λ (h : list_any reads_one low.cells ≡ true). absurd (true≢false (sym h ∙ low_are.without_one))) (λ (h : list_any reads_one are.grows.more ≡ true). are.grows.ones h)
      (or_cases (list_any reads_one low.cells) (list_any reads_one are.grows.more)
      (sym (list_any-append reads_one low.cells are.grows.more) ∙ sym (ap (λ (c : List Cell). list_any reads_one c) (ported.cells ∙ are.grows.adds.cells)) ∙ e))

  ports_one : (new_sources sources : List Src) → new_sources ≡ map (goes_to news) sources → ((src : Src) → In src sources → In src (needed old kept)) → list_any is_one new_sources ≡ true → SomeIsOne old kept
  ports_one new_sources sources is among e = some_one sources among (sym (ap (list_any is_one) is) ∙ e)

  new_one : names_one new ≡ true → SomeIsOne old kept
  new_one e = ⊎_elim
      (λ (h : ((read_one new.cells || list_any is_one new.outs) || list_any is_one new.latches) ≡ true). ⊎_elim
      (λ (g : (read_one new.cells || list_any is_one new.outs) ≡ true). ⊎_elim cells_one (ports_one new.outs old.outs ported.moves.outs_go (out_needed old kept)) (or_cases (read_one new.cells) (list_any is_one new.outs) g))
      (ports_one new.latches old.latches ported.moves.latches_go (datum_needed old kept)) (or_cases (read_one new.cells || list_any is_one new.outs) (list_any is_one new.latches) h))
      (ports_one new.nets old.nets ported.moves.nets_go (net_needed old kept)) (or_cases ((read_one new.cells || list_any is_one new.outs) || list_any is_one new.latches) (list_any is_one new.nets) e)

  -- ---- how many high cells there are
  few_high : length are.grows.more ≤ count_by (zero_bit old) (needed old kept) + length kept
  few_high =
      let m = all_counted marks (length old.cells) (marks_long old low kept lows zeros marks stays low_are marks_are stays_are) in
      let s = all_counted stays (length old.cells) (stays_long old low kept lows zeros marks stays low_are marks_are stays_are) in
      let same : count_by (zero_in zeros) (needed old kept) ≡ count_by (zero_bit old) (needed old kept) =
      count_same (zero_in zeros) (zero_bit old) (needed old kept) (λ src at. zero_at old (length old.cells) zeros low lows low_are src (needed_there old kept src at)) in
      let all : count_by (zero_in (map (λ (zero : Bool). true) zeros)) kept ≤ length kept = count_by-le-length (zero_in (map (λ (zero : Bool). true) zeros)) kept in
      omega (arith, m, s, same, all, are.grows.few, marks_are.few, stays_are.few)

  pub whole : Complements old kept new still
  whole = record {
    keeps = record { to = goes_to news; moves = ported.moves; cells = kept_cell; bits = kept_bit; follow = ported.follow };
    low = low.cells;
    high = are.grows.more;
    cells = ported.cells ∙ are.grows.adds.cells;
    without_one = low_are.without_one;
    stands = λ src there. (low_of lows src, (low_at old (length old.cells) zeros low lows low_are src there).stands);
    few_low = subst (λ (l : List Cell). length low.cells ≤ sum_by (cells_for old) l) (take_all (length old.cells) old.cells (omega arith)) low_are.few;
    few_high = few_high;
    own = λ src among inputs state.
        ap (λ (c : List Cell). bit_in c inputs state (goes_to news src)) ported.cells
        ∙ gone_bit old now news have.moved have.inputs have.starts src (gone_of old kept now news have src (in_from (needed old kept) src among)) inputs state;
    one = new_one;
  }
