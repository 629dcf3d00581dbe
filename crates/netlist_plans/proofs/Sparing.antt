-- Plans without a loop.
use Rattle.std.proofs.Common.{◌≡◌, refl, sym, ◌∙◌, ap, ap₂, ℕ, ◌+◌, ◌*◌, ◌≤◌, ◌==◌, Bool, true, false, cond, ◌&&◌, ◌||◌, not, List, [], ◌∷◌, ◌++◌, map, flat_map, length, replicate, get_or, arith}
use Rattle.std.specs.Prelude.{All}
use Rattle.std.specs.List.{list_any}
use Rattle.std.proofs.lemmas.Bool.{or_parts, eqb-true}
use Rattle.std.proofs.lemmas.List.{append-nil, nil_from_length}
use Rattle.std.proofs.lemmas.List.Elements.{All-get_or}
use Rattle.std.proofs.lemmas.Simd.{map-map}
use Rattle.lists.proofs.Fills.{same_throughout}
use Rattle.lane_core.specs.declared.plan.Plan.{Plan}
use Rattle.lane_core.specs.Plans.{period_of}
use Rattle.netlist_core.specs.declared.flat.FlatLatch.{FlatLatch}
use Rattle.netlist_core.specs.declared.flat.FlatPort.{FlatPort}
use Rattle.netlist_core.specs.declared.flat.Net.{Net as FlatNet}
use Rattle.netlist_core.specs.declared.flat.Flat.{Flat}
use Rattle.netlist_meaning.specs.Flat.{IsWeighed, class_of, nets_but_clocks}
use Rattle.netlist_meaning.specs.FlatValuation.{flat_output_bits}
use Rattle.cell_core.specs.declared.cells.Src.{Src}
use Rattle.cell_core.specs.declared.cells.Src.TheVariants.{Input, Latch, One, Zero, Cell as Made}
use Rattle.cell_core.specs.declared.cells.Cell.{Cell}
use Rattle.cell_core.specs.declared.cells.Cell.TheVariants.{Or, Xor, AndNot}
use Rattle.cell_core.specs.declared.list.CellList.{CellList}
use Rattle.cell_core.specs.Loops.{names_one, loop_count}
use Rattle.cell_core.specs.Sources.{is_one}
use Rattle.cell_core.specs.Meaning.{source_bit, cell_bit, bits_from, bit_of}
use Rattle.cell_meaning.specs.Mapped.{HasBits}
use Rattle.cell_plans.specs.PlanOf.{IsPlanOfOne}
use Rattle.cover_mapper.specs.Sourced.{most_cells_of}
use Rattle.cell_polarity.specs.Zero.{zero_bit}
use Rattle.cell_polarity.specs.Needed.{ports_and_nets, needed, with_operands}
use Rattle.cell_polarity.proofs.Zeros.{nothing_there, names_none, nothing_is_one_at_zero}
use Rattle.plan_carries.specs.Compiled.{ComputesFlat}
use Rattle.netlist_plans.specs.Lists.{MapsFlat}
use Rattle.netlist_plans.specs.Sparing.{SparesOne, HasRoomForComplements, NamesNoOne}
use Rattle.netlist_plans.proofs.Bounds.{starts_many}

-- ---- inputs that are 0 are as none
source_alike : (n : ℕ) (made : List Bool) (src : Src) → source_bit (replicate n false) [] made src ≡ source_bit [] [] made src
source_alike n made (Input i) = same_throughout n i false ∙ sym (nothing_there i)
source_alike n made (Latch i) = refl
source_alike n made One = refl
source_alike n made Zero = refl
source_alike n made (Made i) = refl

cell_alike : (n : ℕ) (made : List Bool) (cell : Cell) → cell_bit (replicate n false) [] made cell ≡ cell_bit [] [] made cell
cell_alike n made (Or a b) = ap₂ (λ x y. x || y) (source_alike n made a) (source_alike n made b)
cell_alike n made (Xor a b) = ap₂ (λ x y. (x || y) && not (x && y)) (source_alike n made a) (source_alike n made b)
cell_alike n made (AndNot a b) = ap₂ (λ x y. x && not y) (source_alike n made a) (source_alike n made b)

bits_alike : (n : ℕ) (made : List Bool) (cells : List Cell) → bits_from (replicate n false) [] made cells ≡ bits_from [] [] made cells
bits_alike n made [] = refl
bits_alike n made (cell ∷ cells) = ap (λ b. bits_from (replicate n false) [] (made ++ b ∷ []) cells) (cell_alike n made cell) ∙ bits_alike n (made ++ cell_bit [] [] made cell ∷ []) cells

pub at_zeros : (n : ℕ) (list : CellList) (src : Src) → zero_bit list src ≡ bit_of list (replicate n false) [] src
at_zeros n list src = sym (ap (λ made. source_bit (replicate n false) [] made src) (bits_alike n [] list.cells) ∙ source_alike n (bits_from [] [] [] list.cells) src)

-- ---- the outputs at zero
pub any_of : {X Y : Type 0} → (p : Y → Bool) (q : X → Bool) (f : X → Y) → ((x : X) → p (f x) ≡ q x) → (xs : List X) → list_any p (map f xs) ≡ list_any q xs
any_of p q f same [] = refl
any_of p q f same (x ∷ xs) = ap₂ (λ a b. a || b) (same x) (any_of p q f same xs)

pub outputs_are : (flat : Flat) (list : CellList) (bits : ℕ → Bool) → HasBits flat list (replicate (length flat.ins) false) [] bits
    → list_any (zero_bit list) list.outs ≡ list_any (λ bit. bit) (flat_output_bits flat bits)
outputs_are flat list bits has =
    let n = length flat.ins in
    sym (any_of (λ bit. bit) (zero_bit list) (bit_of list (replicate n false) []) (λ src. sym (at_zeros n list src)) list.outs)
    ∙ ap (list_any (λ bit. bit)) (has.outs ∙ map-map bits (λ (port : FlatPort). class_of flat port.net) flat.outs)

-- ---- room for complements
only_outs : (list : CellList) (kept : List Src) → list.latches ≡ [] → list.nets ≡ [] → kept ≡ [] → needed list kept ≡ list.outs
only_outs list kept none_read nets none =
    ap (λ k. ports_and_nets list ++ flat_map (with_operands list.cells) k) none
    ∙ append-nil (ports_and_nets list)
    ∙ ap₂ (λ l m. list.outs ++ (l ++ m)) none_read nets
    ∙ append-nil list.outs

pub has_room : (flat : Flat) (list : CellList) (kept : List Src) → MapsFlat flat list kept → length list.cells ≤ most_cells_of flat → (flat.listed ≡ false → kept ≡ []) → SparesOne flat
    → HasRoomForComplements flat list kept
has_room flat list kept maps cells unlisted s =
    let mapped = maps.mapped.mapped in
    let kept_none : kept ≡ [] = unlisted s.unlisted in
    let none_read : list.latches ≡ [] =
    mapped.latches ∙ ap (map (λ (latch : FlatLatch). mapped.sources (class_of flat latch.input))) (nil_from_length flat.latches s.latches) in
    let nets : list.nets ≡ [] =
    mapped.nets ∙ ap (λ b. map mapped.sources (map (λ (net : FlatNet). net.class) (cond b (nets_but_clocks flat) []))) s.unlisted in
    record {
      few = let none : length kept ≡ 0 = ap (λ (k : List Src). length k) kept_none in let few = s.few in omega (arith, cells, none, few);
      none = ap (list_any (zero_bit list)) (only_outs list kept none_read nets kept_none) ∙ outputs_are flat list s.bits (maps.bits _ [] s.bits s.solves) ∙ s.zero;
    }

-- ---- no loop
pub no_loop : (flat : Flat) (lists : List CellList) (number : ℕ) (plan : Plan) → IsWeighed flat → length flat.latches ≡ 0 → All (ComputesFlat flat) lists → All NamesNoOne lists → IsPlanOfOne lists number plan
    → plan.latches ≡ 0
no_loop flat [] number plan weighed none all names (within, is) = absurd (omega (arith, within))
no_loop flat (first ∷ rest) number plan weighed none all names (within, is) =
    let list = get_or (first ∷ rest) number first in
    let loops : plan.latches ≡ loop_count list = (is first).computes.loops in
    let many = starts_many flat list (All-get_or (ComputesFlat flat) (first ∷ rest) number first within all).mapped weighed in
    let one : cond {A = ℕ} (names_one list) 1 0 ≡ 0 = ap (λ b. cond {A = ℕ} b 1 0) (All-get_or NamesNoOne (first ∷ rest) number first within names) in
    omega (arith, loops, many, one, none)

pub short : (plan : Plan) → plan.latches ≡ 0 → period_of plan ≡ 32
short plan none = ap (λ n. cond (n == 0) 32 (32 * (2 * length plan.columns + 4 * n))) none

-- ---- and back: without a loop nothing is 1 at zero
pub outs_zero : (list : CellList) → names_one list ≡ false → list_any (zero_bit list) list.outs ≡ false
outs_zero list none = all list.outs (names_none list none).outs
  where
    all : (sources : List Src) → list_any is_one sources ≡ false → list_any (zero_bit list) sources ≡ false
    all [] e = refl
    all (src ∷ sources) e =
        let parts = or_parts (is_one src) (list_any is_one sources) e in
        ap₂ (λ a b. a || b) (nothing_is_one_at_zero list.cells src (names_none list none).cells parts.0) (all sources parts.1)

no_loops : (n columns : ℕ) (b : Bool) → (n == 0) ≡ b → cond b 32 (32 * (2 * columns + 4 * n)) ≡ 32 → n ≡ 0
no_loops n columns true is e = eqb-true n 0 is
no_loops n columns false is e = absurd (let long : 32 * (2 * columns + 4 * n) ≡ 32 = e in omega (arith, long))

none_loops : (n columns : ℕ) → cond (n == 0) 32 (32 * (2 * columns + 4 * n)) ≡ 32 → n ≡ 0
none_loops n columns e = no_loops n columns (n == 0) refl e

none_named : (b : Bool) (n : ℕ) → n + cond b 1 0 ≡ 0 → b ≡ false
none_named true n e = absurd (omega (arith, e))
none_named false n e = refl

pub loopless : (list : CellList) (plan : Plan) → period_of plan ≡ 32 → plan.latches ≡ loop_count list → names_one list ≡ false
loopless list plan short loops = none_named (names_one list) (length list.starts) (sym loops ∙ none_loops plan.latches (length plan.columns) short)
