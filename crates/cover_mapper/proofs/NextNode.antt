-- One node more is mapped.
use Rattle.std.proofs.Common.{◌≡◌, ◌≢◌, refl, sym, ◌∙◌, ap, ap₂, subst, ℕ, suc, ◌+◌, ◌<◌, ◌≤◌, Bool, true, false, not, List, [], ◌∷◌, ◌++◌, map, take, set, length, get_or, Some, None, ◌⊎◌, inl, inr, ⊎_elim, arith}
use Rattle.std.specs.Prelude.{Contains, All, sum_by}
use Rattle.std.specs.List.{list_any}
use Rattle.std.specs.Option.{unwrap_or}
use Rattle.std.proofs.lemmas.Bool.{and_from, or_left, or_right, ne_eqb}
use Rattle.std.proofs.lemmas.Option.{slice_get-get_or, slice_get_within, get_or_from_slice_get}
use Rattle.std.proofs.lemmas.List.{nil_from_length, get_or-map, get_or-take, get_or-set_same, get_or-set_other, get_or_append_left, length-take-le, length-append, length-map, take_more}
use Rattle.std.proofs.lemmas.List.Elements.{All-get_or, Contains-get_or, Contains-push_cases, Contains-append_left, Contains-push}
use Rattle.std.proofs.lemmas.Grind.{get_or_default_zero}
use Rattle.std.proofs.lemmas.List.Folds.{list_any_at}
use Rattle.std.proofs.lemmas.List.Sums.{sum_by_more}
use Rattle.std.proofs.lemmas.Simd.{map-map}
use Rattle.lists.proofs.Numbers.{less_or_last}
use Rattle.netlist_core.specs.declared.flat.NetId.{NetId}
use Rattle.netlist_core.specs.declared.flat.Node.{Node}
use Rattle.netlist_core.specs.declared.flat.Flat.{Flat}
use Rattle.netlist_meaning.specs.CoverValue.{cover_value}
use Rattle.netlist_meaning.specs.Flat.{class_of, node_at, no_node, in_classes, out_class, IsNetId, IsSound, FlatDriver, FlatDrives}
use Rattle.netlist_meaning.specs.FlatOrder.{IsOrder}
use Rattle.netlist_meaning.specs.FlatValuation.{IsFlatValuation}
use Rattle.cell_core.specs.declared.cells.Src.{Src}
use Rattle.cell_core.specs.declared.cells.Src.TheVariants.{Zero}
use Rattle.cell_core.specs.declared.cells.Cell.{Cell}
use Rattle.cell_core.specs.declared.list.CellList.{CellList}
use Rattle.cell_core.specs.Meaning.{bit_in}
use Rattle.cell_core.specs.Sources.{is_one}
use Rattle.cell_meaning.specs.Needs.{has_no_positive, needs_one, any_needs_one}
use Rattle.cover_cells.specs.Covers.{CoverNeedsOne, AnswersCover}
use Rattle.cell_sharing.specs.Grown.{Grows, bits_of}
use Rattle.cell_meaning.specs.Mapped.{IsCell}
use Rattle.cell_meaning.specs.Singles.{constant_source, single_cell}
use Rattle.cell_sharing.proofs.Growing.{grows, grows_refl}
use Rattle.cover_mapper.specs.Sourced.{node_cells, ClassSources, AreSourced, AreMapped, IsAmongFirst, HasSingle, HasConstant, source_at}
use Rattle.cover_mapper.proofs.Known.{IsKnown, AreKnown, all_bits, any_one}
use Rattle.cover_mapper.proofs.Sourcing.{class_within, sourced_more}

-- the drivers that have sources when these nodes are mapped
abbrev pub Made : Flat → List ℕ → FlatDriver → Type 0
Made flat nodes = IsAmongFirst (length flat.ins) (length flat.latches) nodes

no_id : NetId
no_id = record { 0 = 0 }

-- what the nodes of an order read is known after those before them
pub reads_known : (flat : Flat) → IsSound flat → (order : List ℕ) → IsOrder flat order → (list : CellList) (sources : ClassSources) (j k : ℕ) → j ≤ k → k ≤ length order → j < length order → AreSourced flat (Made flat (take k order)) list sources
    → AreKnown sources (in_classes flat (get_or order j 0))
reads_known flat sound order ordered list sources j k le most within first p lt = go (driver.0) (driver.1)
  where
    n : ℕ
    n = get_or order j 0

    ids : List NetId
    ids = (node_at flat n).ins

    long : length (in_classes flat n) ≡ length ids
    long = length-map ids (class_of flat)

    id : NetId
    id = get_or ids p no_id

    is_node : n < length flat.nodes
    is_node = All-get_or (λ m. m < length flat.nodes) order j 0 within ordered.nodes

    is_id : IsNetId flat id
    is_id = All-get_or (IsNetId flat) ids p no_id (omega (arith, lt, long)) (All-get_or (λ (node : Node). All (IsNetId flat) node.ins) flat.nodes n no_node is_node sound.in_range.node_ins)

    is : get_or (in_classes flat n) p 0 ≡ class_of flat id
    is = get_or-map (class_of flat) ids p no_id 0 (omega (arith, lt, long))

    driver : (d : FlatDriver) × FlatDrives flat d (class_of flat id)
    driver = sound.driven id is_id (sound.clocks_unread n (class_of flat id) (subst (Contains (in_classes flat n)) is (Contains-get_or (in_classes flat n) p 0 lt)))

    known : (d : FlatDriver) → FlatDrives flat d (class_of flat id) → Made flat (take k order) d → IsKnown sources (get_or (in_classes flat n) p 0)
    known d drives made = subst (IsKnown sources) (sym is) (first.all (class_of flat id) d drives made)

    go : (d : FlatDriver) → FlatDrives flat d (class_of flat id) → IsKnown sources (get_or (in_classes flat n) p 0)
    go (FlatDriver.input i) (port, at, same) = known (FlatDriver.input i) (port, at, same) (slice_get_within flat.ins i port at)
    go (FlatDriver.latch i) (latch, at, same) = known (FlatDriver.latch i) (latch, at, same) (slice_get_within flat.latches i latch at)
    go (FlatDriver.node b) (is_node_b, same) =
        let before = ordered.after j p b within (is_node_b, lt, is ∙ sym same) in
        let lt' : before.0 < length (take k order) = omega (arith, before.1, le, most, length-take-le k order most) in
        known (FlatDriver.node b) (is_node_b, same) (before.0, lt', get_or_default_zero (take k order) before.0 b lt' ∙ get_or-take k order before.0 0 (omega (arith, before.1, le)) ∙ before.2)

-- a cell stays where it is
pub cell_after : (old new : CellList) (n : ℕ) (P : Type 0) → Grows old new n P → (src : Src) (cell : Cell) → IsCell old src cell → IsCell new src cell
cell_after old new n P g src cell (k, is, at) =
    let within : k < length old.cells = slice_get_within old.cells k cell at in (
      k,
      is,
      slice_get-get_or new.cells k cell (let e : length new.cells ≡ length old.cells + length g.more = ap length g.adds.cells ∙ length-append old.cells g.more in omega (arith, e, within))
          ∙ ap Some (ap (λ (l : List Cell). get_or l k cell) g.adds.cells ∙ get_or_append_left old.cells g.more cell k within ∙ get_or_from_slice_get old.cells k cell cell at),
    )

-- the class of the next node has no source yet
pub is_new : (flat : Flat) → IsSound flat → (order : List ℕ) → IsOrder flat order → (list : CellList) (sources : ClassSources) (k n : ℕ) → k < length order → n ≡ get_or order k 0 → AreSourced flat (Made flat (take k order)) list sources
    → (class : ℕ) → class ≡ out_class flat n → IsKnown sources class → ⊥
is_new flat sound order ordered list sources k n within is first class same (src, at) =
    let found = first.only class src at in
    let is_node : n < length flat.nodes = subst (λ m. m < length flat.nodes) (sym is) (All-get_or (λ m. m < length flat.nodes) order k 0 within ordered.nodes) in
    let e : found.0 ≡ FlatDriver.node n = sound.one_driver class found.0 (FlatDriver.node n) found.1 (is_node, sym same) in
    let (i, lt, at_i) = subst (Made flat (take k order)) e found.2 in
    let lt' : i < k = omega (arith, lt, length-take-le k order (omega (arith, within))) in
    ordered.once i k 0 lt' within (sym (get_or-take k order i 0 lt') ∙ sym (get_or_default_zero (take k order) i n lt) ∙ at_i ∙ is)

pub node_mapped : (flat : Flat) → IsSound flat → (order : List ℕ) → IsOrder flat order → (old l l' : CellList) (sources : ClassSources) (k n class : ℕ) (node : Node) (ins : List Src) (src : Src)
    → k < length order → n ≡ get_or order k 0 → node ≡ node_at flat n → class ≡ out_class flat n → AreMapped flat old l sources (take k order)
    → ins ≡ map (source_at sources) (in_classes flat n) → AnswersCover l l' ins node.rows node.on src → ((cell : Cell) → single_cell ins node.rows node.on ≡ Some cell → IsCell l' src cell)
    → ((constant : Src) → constant_source (length ins) node.rows node.on ≡ Some constant → src ≡ constant)
    → AreMapped flat old l' (set sources class (Some src)) (take (k + 1) order)
node_mapped flat sound order ordered old l l' sources k n class node ins src within is is_at same first are answer single constant =
    record {
      sourced = sourced_more flat (Made flat (take k order)) (Made flat (take (k + 1) order)) l l' sources (FlatDriver.node n) class src _ _ sound first.sourced (is_node, sym same)
          (omega (arith, same, class_within flat sound.in_range (node_at flat n).out (All-get_or (λ (m : Node). IsNetId flat m.out) flat.nodes n no_node is_node sound.in_range.node_outs)))
          one_more still this tt answer.grows answer.there (λ e. needs (answer.one e)) bit;
      grows = grows old l l' _ _ _ _ _ _ first.grows answer.grows (λ e. e) needs
          (let e : sum_by (λ m. node_cells (node_at flat m)) (take (k + 1) order) ≡ sum_by (λ m. node_cells (node_at flat m)) (take k order) + node_cells (node_at flat (get_or order k 0)) = sum_by_more (λ m. node_cells (node_at flat m)) order k 0 within in
          let f : node_cells (node_at flat (get_or order k 0)) ≡ node_cells node = ap (λ m. node_cells (node_at flat m)) (sym is) ∙ ap node_cells (sym is_at) in omega (arith, e, f));
      single = by_place (HasSingle flat l' news) earlier last;
      constant = by_place (HasConstant flat news) earlier_constant last_constant;
    }
  where
    news : ClassSources
    news = set sources class (Some src)

    long : length (take (k + 1) order) ≡ k + 1
    long = length-take-le (k + 1) order (omega (arith, within))

    is_node : n < length flat.nodes
    is_node = subst (λ m. m < length flat.nodes) (sym is) (All-get_or (λ m. m < length flat.nodes) order k 0 within ordered.nodes)

    known : AreKnown sources (in_classes flat n)
    known = subst (λ m. AreKnown sources (in_classes flat m)) (sym is) (reads_known flat sound order ordered l sources k k (omega arith) (omega (arith, within)) within first.sourced)

    in_class : class < length sources
    in_class = omega (arith, same, first.sourced.long, class_within flat sound.in_range (node_at flat n).out (All-get_or (λ (m : Node). IsNetId flat m.out) flat.nodes n no_node is_node sound.in_range.node_outs))

    one_more : (e : FlatDriver) → Made flat (take (k + 1) order) e → Made flat (take k order) e ⊎ (e ≡ FlatDriver.node n)
    one_more (FlatDriver.input i) lt = inl lt
    one_more (FlatDriver.latch i) lt = inl lt
    one_more (FlatDriver.node m) has =
        ⊎_elim inl (λ e. inr (ap FlatDriver.node (sym e ∙ sym is))) (Contains-push_cases (take k order) (get_or order k 0) m (subst (λ l. Contains l m) (take_more order k 0 within) has))

    still : (e : FlatDriver) → Made flat (take k order) e → Made flat (take (k + 1) order) e
    still (FlatDriver.input i) lt = lt
    still (FlatDriver.latch i) lt = lt
    still (FlatDriver.node m) has = subst (λ l. Contains l m) (sym (take_more order k 0 within)) (Contains-append_left (take k order) (get_or order k 0 ∷ []) m has)

    this : Contains (take (k + 1) order) n
    this = subst (λ l. Contains l n) (sym (take_more order k 0 within)) (subst (Contains (take k order ++ get_or order k 0 ∷ [])) (sym is) (Contains-push (take k order) (get_or order k 0)))

    ins_many : length ins ≡ length (node_at flat n).ins
    ins_many = ap length are ∙ length-map (in_classes flat n) (source_at sources) ∙ length-map (node_at flat n).ins (class_of flat)

    row_case : list_any (has_no_positive (length ins)) node.rows ≡ true → needs_one node ≡ true
    row_case e = or_left _ _ (ap (λ m. list_any (has_no_positive m) node.rows) (ap (λ (m : Node). length m.ins) is_at ∙ sym ins_many) ∙ e)

    off_case : (node.on ≡ false) × (node.rows ≢ []) → needs_one node ≡ true
    off_case h = or_right _ _ (and_from _ _ (ap not h.0) (ap not (ne_eqb (length node.rows) 0 (λ e. h.1 (nil_from_length node.rows e)))))

    listed : needs_one node ≡ true → any_needs_one flat ≡ true
    listed e = list_any_at needs_one flat.nodes n no_node is_node (ap needs_one (sym is_at) ∙ e)

    needs : CoverNeedsOne ins node.rows node.on → any_needs_one flat ≡ true
    needs why = ⊎_elim (λ r. ⊎_elim (λ e. any_one flat (Made flat (take k order)) l sources (in_classes flat n) first.sourced known (ap (λ s. list_any is_one s) (sym are) ∙ e)) (λ e. listed (row_case e)) r) (λ h. listed (off_case h)) why

    bit : (inputs state : List Bool) (bits : ℕ → Bool) → IsFlatValuation flat inputs state bits → bit_in l'.cells inputs state src ≡ bits class
    bit inputs state bits solves =
        answer.bit inputs state
        ∙ ap (cover_value node.rows node.on) (ap (λ s. bits_of l s inputs state) are ∙ all_bits flat (Made flat (take k order)) l sources (in_classes flat n) first.sourced known inputs state bits solves ∙ map-map bits (class_of flat) (node_at flat n).ins)
        ∙ ap (λ (m : Node). cover_value m.rows m.on (map (λ id. bits (class_of flat id)) (node_at flat n).ins)) is_at
        ∙ sym (solves.nodes_hold n is_node) ∙ ap bits (sym same)

    -- the sources of what has one stay
    stays : (c : ℕ) → IsKnown sources c → source_at news c ≡ source_at sources c
    stays c has = ap (λ o. unwrap_or o Zero) (get_or-set_other sources class c (Some src) None (λ e. is_new flat sound order ordered l sources k n within is first.sourced class same (subst (IsKnown sources) e has)))

    all_stay : (classes : List ℕ) → AreKnown sources classes → map (source_at news) classes ≡ map (source_at sources) classes
    all_stay [] has = refl
    all_stay (c ∷ classes) has = ap₂ (λ (s : Src) (l : List Src). s ∷ l) (stays c (has 0 (omega arith))) (all_stay classes (λ p lt. has (suc p) (omega (arith, lt))))

    -- what holds of the earlier nodes and of this one
    by_place : (P : ℕ → Type 0) → ((j : ℕ) → j < k → P (get_or order j 0)) → P n → (j : ℕ) → j < length (take (k + 1) order) → P (get_or (take (k + 1) order) j 0)
    by_place P before here j lt =
        subst P (sym (get_or-take (k + 1) order j 0 (omega (arith, lt, long))))
        (⊎_elim (before j) (λ e. subst P (is ∙ ap (λ i. get_or order i 0) (sym e)) here) (less_or_last j k (omega (arith, lt, long))))

    earlier_within : (j : ℕ) → j < k → j < length (take k order)
    earlier_within j lt = omega (arith, lt, length-take-le k order (omega (arith, within)))

    out_stays : (j : ℕ) → j < k → source_at news (out_class flat (get_or order j 0)) ≡ source_at sources (out_class flat (get_or order j 0))
    out_stays j lt =
        let m = get_or order j 0 in
        let is_m : m < length flat.nodes = All-get_or (λ i. i < length flat.nodes) order j 0 (omega (arith, lt, within)) ordered.nodes in
        let listed : get_or (take k order) j m ≡ m = get_or_default_zero (take k order) j m (earlier_within j lt) ∙ get_or-take k order j 0 lt in
        stays (out_class flat m) (first.sourced.all (out_class flat m) (FlatDriver.node m) (is_m, refl) (j, earlier_within j lt, listed))

    earlier : (j : ℕ) → j < k → HasSingle flat l' news (get_or order j 0)
    earlier j lt cell e =
        let m = get_or order j 0 in
        let before : HasSingle flat l sources m = subst (HasSingle flat l sources) (get_or-take k order j 0 lt) (first.single j (earlier_within j lt)) in
        let has : AreKnown sources (in_classes flat m) = reads_known flat sound order ordered l sources j k (omega (arith, lt)) (omega (arith, within)) (omega (arith, lt, within)) first.sourced in
        subst (λ s. IsCell l' s cell) (sym (out_stays j lt))
        (cell_after l l' _ _ answer.grows (source_at sources (out_class flat m)) cell (before cell (ap (λ s. single_cell s (node_at flat m).rows (node_at flat m).on) (sym (all_stay (in_classes flat m) has)) ∙ e)))

    earlier_constant : (j : ℕ) → j < k → HasConstant flat news (get_or order j 0)
    earlier_constant j lt value e = out_stays j lt ∙ subst (HasConstant flat sources) (get_or-take k order j 0 lt) (first.constant j (earlier_within j lt)) value e

    out_is : source_at news (out_class flat n) ≡ src
    out_is = ap (λ c. source_at news c) (sym same) ∙ ap (λ o. unwrap_or o Zero) (get_or-set_same sources class (Some src) None in_class)

    last : HasSingle flat l' news n
    last cell e =
        subst (λ s. IsCell l' s cell) (sym out_is)
        (single cell (ap (λ (m : Node). single_cell ins m.rows m.on) is_at ∙ ap (λ s. single_cell s (node_at flat n).rows (node_at flat n).on) (are ∙ sym (all_stay (in_classes flat n) known)) ∙ e))

    last_constant : HasConstant flat news n
    last_constant value e =
        out_is ∙ constant value (ap (λ (m : Node). constant_source (length ins) m.rows m.on) is_at ∙ ap (λ count. constant_source count (node_at flat n).rows (node_at flat n).on) ins_many ∙ e)

-- before the first node
pub first_mapped : (flat : Flat) (list : CellList) (sources : ClassSources) → AreSourced flat (Made flat []) list sources → AreMapped flat list list sources []
first_mapped flat list sources first =
    record { sourced = first; grows = grows_refl list (any_needs_one flat ≡ true); single = λ j lt. absurd (omega (arith, lt)); constant = λ j lt. absurd (omega (arith, lt)) }
