-- The list with its ports: the sources to which the old ones go.
use Rattle.std.proofs.Common.{◌≡◌, refl, sym, ◌∙◌, ap, ap₂, ℕ, ◌+◌, ◌<◌, Bool, true, false, true≢false, List, [], ◌∷◌, ◌++◌, length, map, flat_map, slice_get, Option, Some, None, inl, inr, ⊎_elim, arith}
use Rattle.std.specs.Option.{option_map_or}
use Rattle.std.proofs.lemmas.Bool.{and_parts, and_from, lt-ltb}
use Rattle.std.proofs.lemmas.Option.{slice_get_within, get_or_from_slice_get}
use Rattle.std.proofs.lemmas.List.{length-map}
use Rattle.lists.proofs.Members.{In, in_from, contains_from, in_left, in_right, in_parts, in_flattened}
use Rattle.cell_core.specs.declared.cells.Src.{Src}
use Rattle.cell_core.specs.declared.cells.Src.TheVariants.{Input, Latch, One, Zero, Cell as Made}
use Rattle.cell_core.specs.declared.cells.Cell.{Cell}
use Rattle.cell_core.specs.declared.list.CellList.{CellList}
use Rattle.cell_core.specs.Sources.{is_there, are_there, reads_there}
use Rattle.cell_core.specs.Meaning.{bit_in, bit_of}
use Rattle.cell_core.proofs.Order.{there_more}
use Rattle.cell_core.proofs.OwnBits.{cell_in_order}
use Rattle.cell_meaning.specs.Same.{is_cell}
use Rattle.cell_meaning.specs.Moved.{NewSources, new_source, goes_to}
use Rattle.cell_polarity.specs.Needed.{cell_operands, with_operands, ports_and_nets, needed}
use Rattle.cell_polarity.specs.Low.{AreLow}
use Rattle.cell_polarity.specs.Marks.{AreMarked}
use Rattle.cell_polarity.specs.Raised.{AreRaised, HaveOwn, IsPorted}
use Rattle.cell_polarity.proofs.Raising.{gone_bit, gone_there, operand_there, has_new}

-- ---- what is needed is there
all_there_in : (inputs latches made : ℕ) (sources : List Src) (src : Src) → are_there inputs latches made sources ≡ true → In src sources → is_there inputs latches made src ≡ true
all_there_in inputs latches made [] src all at = absurd at
all_there_in inputs latches made (other ∷ sources) src all (inl e) = ap (is_there inputs latches made) e ∙ (and_parts _ _ all).0
all_there_in inputs latches made (other ∷ sources) src all (inr at) = all_there_in inputs latches made sources src (and_parts _ _ all).1 at

module _ (old : CellList) (kept : List Src) where
  read_there : (o : Option Cell) (i : ℕ) (src : Src) → slice_get old.cells i ≡ o → In src (option_map_or (λ cell. Made i ∷ cell_operands cell) o []) → is_there old.inputs (length old.starts) (length old.cells) src ≡ true
  read_there None i src e at = absurd at
  read_there (Some cell) i src e (inl is) = ap (is_there old.inputs (length old.starts) (length old.cells)) is ∙ lt-ltb i (length old.cells) (slice_get_within old.cells i cell e)
  read_there (Some cell) i src e (inr at) =
      let lt : i < length old.cells = slice_get_within old.cells i cell e in
      let reads : reads_there old.inputs (length old.starts) (0 + i) cell ≡ true =
      ap (reads_there old.inputs (length old.starts) (0 + i)) (sym (get_or_from_slice_get old.cells i cell cell e)) ∙ cell_in_order old.inputs (length old.starts) 0 old.cells i cell lt old.in_order in
      there_more old.inputs (length old.starts) (0 + i) (length old.cells) src (omega (arith, lt)) (operand_there old.inputs (length old.starts) (0 + i) cell src at reads)

  with_there : (keeps src : Src) → In src (with_operands old.cells keeps) → is_there old.inputs (length old.starts) (length old.cells) src ≡ true
  with_there (Input i) src at = absurd at
  with_there (Latch i) src at = absurd at
  with_there One src at = absurd at
  with_there Zero src at = absurd at
  with_there (Made i) src at = read_there (slice_get old.cells i) i src refl at

  pub needed_there : (src : Src) → In src (needed old kept) → is_there old.inputs (length old.starts) (length old.cells) src ≡ true
  needed_there src at = ⊎_elim
      (λ (h : In src (ports_and_nets old)). ⊎_elim (all_there_in _ _ _ old.outs src old.outs_there)
      (λ (g : In src (old.latches ++ old.nets)). ⊎_elim (all_there_in _ _ _ old.latches src old.latches_there) (all_there_in _ _ _ old.nets src old.nets_there) (in_parts old.latches old.nets src g))
      (in_parts old.outs (old.latches ++ old.nets) src h))
      (λ (h : In src (flat_map (with_operands old.cells) kept)). let r = in_flattened (with_operands old.cells) kept src h in with_there r.0 src r.2)
      (in_parts (ports_and_nets old) (flat_map (with_operands old.cells) kept) src at)

  pub out_needed : (src : Src) → In src old.outs → In src (needed old kept)
  out_needed src at = in_left (ports_and_nets old) (flat_map (with_operands old.cells) kept) src (in_left old.outs (old.latches ++ old.nets) src at)

  pub datum_needed : (src : Src) → In src old.latches → In src (needed old kept)
  datum_needed src at = in_left (ports_and_nets old) (flat_map (with_operands old.cells) kept) src (in_right old.outs (old.latches ++ old.nets) src (in_left old.latches old.nets src at))

  pub net_needed : (src : Src) → In src old.nets → In src (needed old kept)
  net_needed src at = in_left (ports_and_nets old) (flat_map (with_operands old.cells) kept) src (in_right old.outs (old.latches ++ old.nets) src (in_right old.latches old.nets src at))

  -- ---- and so it has a new source, when all cells have theirs
  pub have_own : (low now : CellList) (lows : List Src) (zeros marks stays : List Bool) (news : NewSources) → AreLow old (length old.cells) zeros low lows → AreMarked zeros (needed old kept) marks
      → AreMarked (map (λ (zero : Bool). true) zeros) kept stays → AreRaised old low kept zeros marks stays (length old.cells) now news → HaveOwn old kept now news
  have_own low now lows zeros marks stays news low_are marks_are stays_are are = record {
    inputs = are.grows.adds.inputs ∙ low_are.inputs;
    starts = are.grows.adds.starts ∙ low_are.starts;
    moved = are.moved;
    own = λ src among. let at = in_from (needed old kept) src among in has_new old low kept lows zeros marks stays low_are marks_are stays_are (length old.cells) now news are src at (needed_there src at);
  }

  -- ---- ports
  module _ (now : CellList) (news : NewSources) (have : HaveOwn old kept now news) where
    pub gone_of : (src : Src) → In src (needed old kept) → new_source news src ≡ Some (goes_to news src)
    gone_of src at = have.own src (contains_from (needed old kept) src at)

    all_gone_there : (sources : List Src) → ((src : Src) → In src sources → In src (needed old kept)) → are_there now.inputs (length now.starts) (length now.cells) (map (goes_to news) sources) ≡ true
    all_gone_there [] among = refl
    all_gone_there (src ∷ sources) among =
        let at : In src (needed old kept) = among src (inl refl) in
        and_from _ _ (gone_there old now news have.moved have.inputs have.starts src (gone_of src at) (length old.cells) (needed_there src at)) (all_gone_there sources (λ s i. among s (inr i)))

    all_gone_bits : (sources : List Src) → ((src : Src) → In src sources → In src (needed old kept)) → (inputs state : List Bool)
        → map (bit_in now.cells inputs state) (map (goes_to news) sources) ≡ map (bit_of old inputs state) sources
    all_gone_bits [] among inputs state = refl
    all_gone_bits (src ∷ sources) among inputs state =
        ap₂ (λ (b : Bool) (l : List Bool). b ∷ l) (gone_bit old now news have.moved have.inputs have.starts src (gone_of src (among src (inl refl))) inputs state)
        (all_gone_bits sources (λ s i. among s (inr i)) inputs state)

    pub outs_there : (outs : List Src) → outs ≡ map (goes_to news) old.outs → are_there now.inputs (length now.starts) (length now.cells) outs ≡ true
    outs_there outs is = ap (are_there now.inputs (length now.starts) (length now.cells)) is ∙ all_gone_there old.outs out_needed

    pub latches_there : (latches : List Src) → latches ≡ map (goes_to news) old.latches → are_there now.inputs (length now.starts) (length now.cells) latches ≡ true
    latches_there latches is = ap (are_there now.inputs (length now.starts) (length now.cells)) is ∙ all_gone_there old.latches datum_needed

    pub nets_there : (nets : List Src) → nets ≡ map (goes_to news) old.nets → are_there now.inputs (length now.starts) (length now.cells) nets ≡ true
    nets_there nets is = ap (are_there now.inputs (length now.starts) (length now.cells)) is ∙ all_gone_there old.nets net_needed

    pub starts_fit : (latches : List Src) → latches ≡ map (goes_to news) old.latches → length now.starts ≡ length latches
    starts_fit latches is = ap length have.starts ∙ old.starts_fit ∙ sym (ap length is ∙ length-map old.latches (goes_to news))

    stays : (src : Src) → is_cell src ≡ false → goes_to news src ≡ src
    stays (Input i) other = refl
    stays (Latch i) other = refl
    stays One other = refl
    stays Zero other = refl
    stays (Made i) other = absurd (true≢false other)

    pub is_ported : (new : CellList) (still : List Src) → new.inputs ≡ now.inputs → new.starts ≡ now.starts → new.cells ≡ now.cells → new.outs ≡ map (goes_to news) old.outs
        → new.latches ≡ map (goes_to news) old.latches → new.nets ≡ map (goes_to news) old.nets → still ≡ map (goes_to news) kept → IsPorted old kept now news new still
    is_ported new still inputs starts cells outs latches nets follow = record {
      cells = cells;
      moves = record {
        stays = stays;
        inputs = inputs ∙ have.inputs;
        starts = starts ∙ have.starts;
        outs_go = outs;
        latches_go = latches;
        nets_go = nets;
        outs = λ i s. ap₂ (λ (c : List Cell) (l : List Src). map (bit_in c i s) l) cells outs ∙ all_gone_bits old.outs out_needed i s;
        latches = λ i s. ap₂ (λ (c : List Cell) (l : List Src). map (bit_in c i s) l) cells latches ∙ all_gone_bits old.latches datum_needed i s;
        nets = λ i s. ap₂ (λ (c : List Cell) (l : List Src). map (bit_in c i s) l) cells nets ∙ all_gone_bits old.nets net_needed i s;
      };
      follow = follow;
    }
