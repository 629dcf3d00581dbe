-- Ports and nets, when all nodes are mapped.
use Rattle.std.proofs.Common.{◌≡◌, refl, sym, ◌∙◌, ap, subst, ℕ, zero, suc, ◌*◌, ◌<◌, ◌≤◌, Bool, true, false, cond, not, List, [], ◌∷◌, ◌++◌, map, filter, length, get_or, replicate, Option, Some, None, ⊎_elim, arith}
use Rattle.std.proofs.lemmas.Grind.{get_or_default_zero}
use Rattle.std.specs.Prelude.{slice_get, sum_by}
use Rattle.std.specs.List.{list_any, cons_option, filter_map}
use Rattle.std.proofs.lemmas.Bool.{true≢false, or_cases}
use Rattle.std.proofs.lemmas.Option.{slice_get_within}
use Rattle.std.proofs.lemmas.List.{get_or-map, length-map}
use Rattle.std.proofs.lemmas.List.Elements.{All-get_or}
use Rattle.std.proofs.lemmas.List.Sums.{sum_by-cons}
use Rattle.std.proofs.lemmas.Simd.{map-map}
use Rattle.netlist_meaning.proofs.ClockTest.{is_clock_class-Decides}
use Rattle.netlist_core.specs.declared.flat.NetId.{NetId}
use Rattle.netlist_core.specs.declared.flat.Net.{Net as FlatNet}
use Rattle.netlist_core.specs.declared.flat.FlatPort.{FlatPort}
use Rattle.netlist_core.specs.declared.flat.FlatLatch.{FlatLatch}
use Rattle.netlist_core.specs.declared.flat.Node.{Node}
use Rattle.netlist_core.specs.declared.flat.Flat.{Flat}
use Rattle.netlist_meaning.specs.Flat.{class_of, node_at, no_node, no_net, port_classes, is_clock_class, nets_but_clocks, IsNetId, IsClockClass, IsSound, FlatDriver, FlatDrives}
use Rattle.netlist_meaning.specs.FlatOrder.{IsOrder}
use Rattle.netlist_meaning.specs.FlatValuation.{IsFlatValuation}
use Rattle.cell_core.specs.declared.cells.Src.{Src}
use Rattle.cell_core.specs.declared.cells.Src.TheVariants.{Zero}
use Rattle.cell_core.specs.declared.list.CellList.{CellList}
use Rattle.cell_core.specs.declared.cells.Cell.{Cell}
use Rattle.cell_core.specs.Meaning.{bit_in, bit_of}
use Rattle.cell_core.specs.Sources.{are_there, is_one, read_one}
use Rattle.cell_core.specs.Loops.{names_one}
use Rattle.netlist_core.specs.OwnWeight.{literals, rows_weight}
use Rattle.cover_cells.specs.Covers.{is_product}
use Rattle.cell_sharing.specs.Grown.{Grows}
use Rattle.cell_meaning.specs.Listed.{listed_classes}
use Rattle.cell_meaning.specs.Needs.{any_needs_one}
use Rattle.cell_meaning.specs.Mapped.{IsMapped, IsMappedWith, HasBits}
use Rattle.cover_mapper.specs.Singles.{single_source}
use Rattle.cover_mapper.specs.Sourced.{node_cells, most_cells_of, ClassSources, AreSourced, HasSingle, HasConstant, IsComplete, sources_at, source_at}
use Rattle.cover_mapper.proofs.Known.{IsKnown, AreKnown, known_at, all_gathered, all_there, all_bits, any_one}
use Rattle.cover_mapper.proofs.NextNode.{Made}
use Rattle.cover_mapper.proofs.OneCell.{singles_among}
use Rattle.cover_mapper.proofs.Weights.{weigh_at_most}

pub zeros_there : (inputs latches cells n : ℕ) → are_there inputs latches cells (replicate n Zero) ≡ true
zeros_there inputs latches cells zero = refl
zeros_there inputs latches cells (suc n) = zeros_there inputs latches cells n

-- ---- each class with a driver has a source
pub driven_known : (flat : Flat) (order : List ℕ) → IsOrder flat order → (list : CellList) (sources : ClassSources) → AreSourced flat (Made flat order) list sources → (class : ℕ) (d : FlatDriver) → FlatDrives flat d class → IsKnown sources class
driven_known flat order ordered list sources first class (FlatDriver.input i) drives = first.all class (FlatDriver.input i) drives (slice_get_within flat.ins i drives.0 drives.1)
driven_known flat order ordered list sources first class (FlatDriver.latch i) drives = first.all class (FlatDriver.latch i) drives (slice_get_within flat.latches i drives.0 drives.1)
driven_known flat order ordered list sources first class (FlatDriver.node n) drives = first.all class (FlatDriver.node n) drives (ordered.all n drives.0)

net_known : (flat : Flat) → IsSound flat → (order : List ℕ) → IsOrder flat order → (list : CellList) (sources : ClassSources) → AreSourced flat (Made flat order) list sources → (id : NetId) → IsNetId flat id → ¬ IsClockClass flat (class_of flat id) → IsKnown sources (class_of flat id)
net_known flat sound order ordered list sources first id is plain = let driver = sound.driven id is plain in driven_known flat order ordered list sources first (class_of flat id) driver.0 driver.1

pub outs_known : (flat : Flat) → IsSound flat → (order : List ℕ) → IsOrder flat order → (list : CellList) (sources : ClassSources) → AreSourced flat (Made flat order) list sources → AreKnown sources (port_classes flat flat.outs)
outs_known flat sound order ordered list sources first p lt =
    let d : FlatPort = record { line = 0; net = record { 0 = 0 } } in
    let lt' : p < length flat.outs = omega (arith, lt, length-map flat.outs (λ (port : FlatPort). class_of flat port.net)) in
    subst (IsKnown sources) (sym (get_or-map (λ (port : FlatPort). class_of flat port.net) flat.outs p d 0 lt'))
    (net_known flat sound order ordered list sources first (get_or flat.outs p d).net (All-get_or (λ (port : FlatPort). IsNetId flat port.net) flat.outs p d lt' sound.in_range.outs) (All-get_or (λ (port : FlatPort). ¬ IsClockClass flat (class_of flat port.net)) flat.outs p d lt' sound.clocks_no_outs))

pub data_known : (flat : Flat) → IsSound flat → (order : List ℕ) → IsOrder flat order → (list : CellList) (sources : ClassSources) → AreSourced flat (Made flat order) list sources → AreKnown sources (map (λ (latch : FlatLatch). class_of flat latch.input) flat.latches)
data_known flat sound order ordered list sources first p lt =
    let d : FlatLatch = record { line = 0; input = record { 0 = 0 }; output = record { 0 = 0 }; kind = None; control = None; init = 0 } in
    let lt' : p < length flat.latches = omega (arith, lt, length-map flat.latches (λ (latch : FlatLatch). class_of flat latch.input)) in
    subst (IsKnown sources) (sym (get_or-map (λ (latch : FlatLatch). class_of flat latch.input) flat.latches p d 0 lt'))
    (net_known flat sound order ordered list sources first (get_or flat.latches p d).input (All-get_or (λ (latch : FlatLatch). IsNetId flat latch.input × IsNetId flat latch.output) flat.latches p d lt' sound.in_range.latches).0
    (All-get_or (λ (latch : FlatLatch). ¬ IsClockClass flat (class_of flat latch.input)) flat.latches p d lt' sound.clocks_no_data))

-- ---- the nets but the clock nets are those that have a source
no_source : (sources : ClassSources) (class : ℕ) → (IsKnown sources class → ⊥) → get_or sources class None ≡ None
no_source sources class none = go (get_or sources class None) refl
  where
    go : (o : Option Src) → get_or sources class None ≡ o → get_or sources class None ≡ None
    go None e = e
    go (Some s) e = absurd (none (s, e))

abbrev AreTold : Flat → ClassSources → List ℕ → Type 0
AreTold flat sources classes = (p : ℕ) → p < length classes → (is_clock_class flat (get_or classes p 0) ≡ true → get_or sources (get_or classes p 0) None ≡ None) × (is_clock_class flat (get_or classes p 0) ≡ false → IsKnown sources (get_or classes p 0))

split_off : (flat : Flat) (class : ℕ) (classes : List ℕ) (b : Bool) → is_clock_class flat class ≡ b
    → filter (λ c. not (is_clock_class flat c)) (class ∷ classes) ≡ cond (not b) (class ∷ filter (λ c. not (is_clock_class flat c)) classes) (filter (λ c. not (is_clock_class flat c)) classes)
split_off flat class classes b e = ap (λ v. cond (not v) (class ∷ filter (λ c. not (is_clock_class flat c)) classes) (filter (λ c. not (is_clock_class flat c)) classes)) e

one_gathered : (flat : Flat) (sources : ClassSources) (class : ℕ) (classes : List ℕ) (b : Bool) → is_clock_class flat class ≡ b → (b ≡ true → get_or sources class None ≡ None) → (b ≡ false → IsKnown sources class)
    → sources_at sources classes ≡ map (source_at sources) (filter (λ c. not (is_clock_class flat c)) classes) → sources_at sources (class ∷ classes) ≡ map (source_at sources) (filter (λ c. not (is_clock_class flat c)) (class ∷ classes))
one_gathered flat sources class classes true e none known rest = ap (λ o. cons_option o (sources_at sources classes)) (none refl) ∙ rest ∙ sym (ap (map (source_at sources)) (split_off flat class classes true e))
one_gathered flat sources class classes false e none known rest =
    ap (λ o. cons_option o (sources_at sources classes)) (known_at sources class (known refl)) ∙ ap (λ l. source_at sources class ∷ l) rest ∙ sym (ap (map (source_at sources)) (split_off flat class classes false e))

plain_gathered : (flat : Flat) (sources : ClassSources) (classes : List ℕ) → AreTold flat sources classes → sources_at sources classes ≡ map (source_at sources) (filter (λ class. not (is_clock_class flat class)) classes)
plain_gathered flat sources [] told = refl
plain_gathered flat sources (class ∷ classes) told =
    one_gathered flat sources class classes (is_clock_class flat class) refl (told 0 (omega arith)).0 (told 0 (omega arith)).1 (plain_gathered flat sources classes (λ p lt. told (suc p) (omega (arith, lt))))

-- what is known of the classes of all nets
all_told : (flat : Flat) → IsSound flat → (order : List ℕ) → IsOrder flat order → (list : CellList) (sources : ClassSources) → AreSourced flat (Made flat order) list sources → AreTold flat sources (map (λ (net : FlatNet). net.class) flat.nets)
all_told flat sound order ordered list sources first p lt = (dark, known)
  where
    lt' : p < length flat.nets
    lt' = omega (arith, lt, length-map flat.nets (λ (net : FlatNet). net.class))

    is : get_or (map (λ (net : FlatNet). net.class) flat.nets) p 0 ≡ class_of flat (record { 0 = p })
    is = get_or-map (λ (net : FlatNet). net.class) flat.nets p no_net 0 lt'

    dark : is_clock_class flat (get_or (map (λ (net : FlatNet). net.class) flat.nets) p 0) ≡ true → get_or sources (get_or (map (λ (net : FlatNet). net.class) flat.nets) p 0) None ≡ None
    dark e = no_source sources _ (λ has. let found = first.only _ has.0 has.1 in sound.clocks_undriven _ found.0 found.1 ((is_clock_class-Decides flat _).0 e))

    known : is_clock_class flat (get_or (map (λ (net : FlatNet). net.class) flat.nets) p 0) ≡ false → IsKnown sources (get_or (map (λ (net : FlatNet). net.class) flat.nets) p 0)
    known e = subst (IsKnown sources) (sym is) (net_known flat sound order ordered list sources first (record { 0 = p }) lt' (λ clock. true≢false (sym (ap (is_clock_class flat) is ∙ (is_clock_class-Decides flat _).1 clock) ∙ e)))

-- the classes of filtered nets are filtered classes
classes_of_filtered : (flat : Flat) (nets : List FlatNet) → map (λ (net : FlatNet). net.class) (filter (λ net. not (is_clock_class flat net.class)) nets) ≡ filter (λ c. not (is_clock_class flat c)) (map (λ (net : FlatNet). net.class) nets)
classes_of_filtered flat [] = refl
classes_of_filtered flat (net ∷ nets) = one (is_clock_class flat net.class) _ _ (classes_of_filtered flat nets)
  where
    one : (b : Bool) (rest : List FlatNet) (classes : List ℕ) → map (λ (n : FlatNet). n.class) rest ≡ classes → map (λ (n : FlatNet). n.class) (cond (not b) (net ∷ rest) rest) ≡ cond (not b) (net.class ∷ classes) classes
    one true rest classes e = e
    one false rest classes e = ap (λ l. net.class ∷ l) e

cons_known : (sources : ClassSources) (class : ℕ) (classes : List ℕ) → IsKnown sources class → AreKnown sources classes → AreKnown sources (class ∷ classes)
cons_known sources class classes first rest zero lt = first
cons_known sources class classes first rest (suc p) lt = rest p (omega (arith, lt))

one_known : (flat : Flat) (sources : ClassSources) (class : ℕ) (classes : List ℕ) (b : Bool) → is_clock_class flat class ≡ b → (b ≡ false → IsKnown sources class) → AreKnown sources (filter (λ c. not (is_clock_class flat c)) classes)
    → AreKnown sources (filter (λ c. not (is_clock_class flat c)) (class ∷ classes))
one_known flat sources class classes true e known rest = subst (AreKnown sources) (sym (split_off flat class classes true e)) rest
one_known flat sources class classes false e known rest = subst (AreKnown sources) (sym (split_off flat class classes false e)) (cons_known sources class _ (known refl) rest)

plain_known : (flat : Flat) (sources : ClassSources) (classes : List ℕ) → AreTold flat sources classes → AreKnown sources (filter (λ c. not (is_clock_class flat c)) classes)
plain_known flat sources [] told = λ p lt. absurd (omega (arith, lt))
plain_known flat sources (class ∷ classes) told = one_known flat sources class classes (is_clock_class flat class) refl (told 0 (omega arith)).1 (plain_known flat sources classes (λ p lt. told (suc p) (omega (arith, lt))))

-- ---- the whole list
-- its ports and listed nets are the sources of their classes
pub record Has (flat : Flat) (list new : CellList) (sources : ClassSources) : Type 0 where
  pub inputs : new.inputs ≡ list.inputs
  pub cells : new.cells ≡ list.cells
  pub starts : new.starts ≡ list.starts
  pub outs : new.outs ≡ sources_at sources (port_classes flat flat.outs)
  pub latches : new.latches ≡ sources_at sources (map (λ (latch : FlatLatch). class_of flat latch.input) flat.latches)
  pub nets : new.nets ≡ sources_at sources (cond flat.listed (map (λ (net : FlatNet). net.class) flat.nets) [])

-- these are the sources of classes that are known
pub record Ports (flat : Flat) (list : CellList) (sources : ClassSources) : Type 0 where
  pub order : List ℕ
  pub sourced : AreSourced flat (Made flat order) list sources
  pub outs_known : AreKnown sources (port_classes flat flat.outs)
  pub data_known : AreKnown sources (map (λ (latch : FlatLatch). class_of flat latch.input) flat.latches)
  pub nets_known : AreKnown sources (listed_classes flat)
  pub nets : sources_at sources (cond flat.listed (map (λ (net : FlatNet). net.class) flat.nets) []) ≡ map (source_at sources) (listed_classes flat)

pub ports : (flat : Flat) → IsSound flat → (list : CellList) (sources : ClassSources) → IsComplete flat list sources → Ports flat list sources
ports flat sound list sources whole =
    let told : AreTold flat sources (map (λ (net : FlatNet). net.class) flat.nets) = all_told flat sound whole.order whole.ordered list sources whole.mapped.sourced in
    record {
      order = whole.order;
      sourced = whole.mapped.sourced;
      outs_known = outs_known flat sound whole.order whole.ordered list sources whole.mapped.sourced;
      data_known = data_known flat sound whole.order whole.ordered list sources whole.mapped.sourced;
      nets_known = listed_known flat.listed (subst (AreKnown sources) (sym (classes_of_filtered flat flat.nets)) (plain_known flat sources (map (λ (net : FlatNet). net.class) flat.nets) told));
      nets = listed_gathered flat.listed (plain_gathered flat sources (map (λ (net : FlatNet). net.class) flat.nets) told ∙ ap (map (source_at sources)) (sym (classes_of_filtered flat flat.nets)));
    }
  where
    listed_known : (listed : Bool) → AreKnown sources (map (λ (net : FlatNet). net.class) (nets_but_clocks flat)) → AreKnown sources (map (λ (net : FlatNet). net.class) (cond listed (nets_but_clocks flat) []))
    listed_known true known = known
    listed_known false known = λ p lt. absurd (omega (arith, lt))

    listed_gathered : (listed : Bool) → sources_at sources (map (λ (net : FlatNet). net.class) flat.nets) ≡ map (source_at sources) (map (λ (net : FlatNet). net.class) (nets_but_clocks flat))
        → sources_at sources (cond listed (map (λ (net : FlatNet). net.class) flat.nets) []) ≡ map (source_at sources) (map (λ (net : FlatNet). net.class) (cond listed (nets_but_clocks flat) []))
    listed_gathered true e = e
    listed_gathered false e = refl

-- known classes have sources that are there
pub gathered_there : (flat : Flat) (made : FlatDriver → Type 0) (list : CellList) (sources : ClassSources) (classes : List ℕ) (found : List Src) → AreSourced flat made list sources → AreKnown sources classes → found ≡ map (source_at sources) classes
    → are_there list.inputs (length list.starts) (length list.cells) found ≡ true
gathered_there flat made list sources classes found first known is = ap (are_there list.inputs (length list.starts) (length list.cells)) is ∙ all_there flat made list sources classes first known

node_number : (flat : Flat) (order : List ℕ) → IsOrder flat order → (n : ℕ) → n < length flat.nodes → (j : ℕ) × (j < length order) × (get_or order j 0 ≡ n)
node_number flat order ordered n lt = let (j, within, is) = ordered.all n lt in (j, within, sym (get_or_default_zero order j n within) ∙ is)

-- ---- how many cells there are
pub few_cells : (flat : Flat) (list : CellList) (sources : ClassSources) → IsComplete flat list sources → length list.cells ≤ most_cells_of flat
few_cells flat list sources whole =
    let grown = whole.mapped.grows in
    let e : length list.cells ≡ length grown.more = ap length (grown.adds.cells ∙ ap (λ l. l ++ grown.more) whole.cells) in
    let w : sum_by (λ n. node_cells (node_at flat n)) whole.order ≤ sum_by node_cells flat.nodes = weigh_at_most node_cells flat.nodes no_node whole.order whole.ordered.once whole.ordered.nodes in
    omega (arith, e, grown.few, w)

one_within : (node : Node) → node_cells node ≤ 2 * rows_weight node.rows
one_within node = by (is_product node.rows node.on)
  where
    by : (b : Bool) → cond b (2 * sum_by literals node.rows) (2 * rows_weight node.rows) ≤ 2 * rows_weight node.rows
    by true = omega arith
    by false = omega arith

most_within : (nodes : List Node) → sum_by node_cells nodes ≤ 2 * sum_by (λ (node : Node). rows_weight node.rows) nodes
most_within [] = omega arith
most_within (node ∷ nodes) =
    let e = sum_by-cons node_cells node nodes in
    let f = sum_by-cons (λ (node : Node). rows_weight node.rows) node nodes in
    let here = one_within node in
    let rest = most_within nodes in
    omega (arith, e, f, here, rest)

pub finished : (flat : Flat) → IsSound flat → (list new : CellList) (sources : ClassSources) → IsComplete flat list sources → Has flat list new sources → IsMapped flat new
finished flat sound list new sources whole has =
    record {
      sources = source_at sources;
      inputs = has.inputs ∙ grown.adds.inputs ∙ whole.inputs;
      starts = has.starts ∙ grown.adds.starts ∙ whole.starts;
      outs = outs;
      latches = latches ∙ map-map (source_at sources) (λ (latch : FlatLatch). class_of flat latch.input) flat.latches;
      nets = nets;
      own = λ class d drives. first.own class d (source_at sources class) drives (made d class drives) (known_at sources class (driven_known flat whole.order whole.ordered list sources first class d drives));
      bits = λ listed inputs state bits solves class d drives.
          ap (λ cells. bit_in cells inputs state (source_at sources class)) has.cells
          ∙ first.bits inputs state bits solves class (source_at sources class) (known_at sources class (driven_known flat whole.order whole.ordered list sources first class d drives));
      single = λ listed n cell lt e.
          let (j, within, is) = node_number flat whole.order whole.ordered n lt in
          let (k, at, cell_at) = subst (HasSingle flat list sources) is (whole.mapped.single j within) cell e in
          (k, at, ap (λ (cells : List Cell). slice_get cells k) has.cells ∙ cell_at);
      constant = λ n src lt e.
          let (j, within, is) = node_number flat whole.order whole.ordered n lt in
          subst (HasConstant flat sources) is (whole.mapped.constant j within) src e;
      few = let same : length new.cells ≡ length list.cells = ap length has.cells in let few = few_cells flat list sources whole in let most = most_within flat.nodes in omega (arith, same, few, most);
      one = one;
    }
  where
    grown : Grows whole.start list (sum_by (λ n. node_cells (node_at flat n)) whole.order) (any_needs_one flat ≡ true)
    grown = whole.mapped.grows

    first : AreSourced flat (Made flat whole.order) list sources
    first = whole.mapped.sourced

    made : (d : FlatDriver) (class : ℕ) → FlatDrives flat d class → Made flat whole.order d
    made (FlatDriver.input i) class drives = slice_get_within flat.ins i drives.0 drives.1
    made (FlatDriver.latch i) class drives = slice_get_within flat.latches i drives.0 drives.1
    made (FlatDriver.node n) class drives = whole.ordered.all n drives.0

    at : Ports flat list sources
    at = ports flat sound list sources whole

    cells : list.cells ≡ grown.more
    cells = grown.adds.cells ∙ ap (λ l. l ++ grown.more) whole.cells

    outs : new.outs ≡ map (source_at sources) (port_classes flat flat.outs)
    outs = has.outs ∙ all_gathered sources _ at.outs_known

    latches : new.latches ≡ map (source_at sources) (map (λ (latch : FlatLatch). class_of flat latch.input) flat.latches)
    latches = has.latches ∙ all_gathered sources _ at.data_known

    nets : new.nets ≡ map (source_at sources) (listed_classes flat)
    nets = has.nets ∙ at.nets

    one_of : (found : List Src) (classes : List ℕ) → found ≡ map (source_at sources) classes → AreKnown sources classes → list_any is_one found ≡ true → any_needs_one flat ≡ true
    one_of found classes is known e = any_one flat (Made flat whole.order) list sources classes first known (ap (λ s. list_any is_one s) (sym is) ∙ e)

    one : names_one new ≡ true → any_needs_one flat ≡ true
    one e =
        ⊎_elim (λ e. ⊎_elim (λ e. ⊎_elim (λ e. grown.ones (ap read_one (sym (has.cells ∙ cells)) ∙ e)) (one_of new.outs _ outs at.outs_known) (or_cases _ _ e)) (one_of new.latches _ latches at.data_known) (or_cases _ _ e))
        (one_of new.nets _ nets at.nets_known) (or_cases _ _ e)

-- with the sources of the covers that are one cell
pub finished_with : (flat : Flat) → IsSound flat → (list new : CellList) (sources : ClassSources) → IsComplete flat list sources → Has flat list new sources
    → (singles : List Src) → singles ≡ cond flat.listed (filter_map (single_source flat sources) flat.nodes) [] → IsMappedWith flat new singles
unfolding finished
finished_with flat sound list new sources whole has singles are =
    record { mapped = finished flat sound list new sources whole has; among = singles_among flat sources singles are }

pub with_bits : (flat : Flat) → IsSound flat → (list new : CellList) (sources : ClassSources) → IsComplete flat list sources → Has flat list new sources
    → (inputs state : List Bool) (bits : ℕ → Bool) → IsFlatValuation flat inputs state bits → HasBits flat new inputs state bits
with_bits flat sound list new sources whole has inputs state bits solves =
    record {
      outs = told new.outs (port_classes flat flat.outs) (has.outs ∙ all_gathered sources _ at.outs_known) at.outs_known;
      latches = told new.latches (map (λ (latch : FlatLatch). class_of flat latch.input) flat.latches) (has.latches ∙ all_gathered sources _ at.data_known) at.data_known
          ∙ map-map bits (λ (latch : FlatLatch). class_of flat latch.input) flat.latches;
      nets = told new.nets (listed_classes flat) (has.nets ∙ at.nets) at.nets_known;
    }
  where
    at : Ports flat list sources
    at = ports flat sound list sources whole

    told : (found : List Src) (classes : List ℕ) → found ≡ map (source_at sources) classes → AreKnown sources classes → map (bit_of new inputs state) found ≡ map bits classes
    told found classes is known =
        ap (λ (cells : List Cell). map (bit_in cells inputs state) found) has.cells ∙ ap (map (bit_in list.cells inputs state)) is
        ∙ all_bits flat (Made flat whole.order) list sources classes whole.mapped.sourced known inputs state bits solves
