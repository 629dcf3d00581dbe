-- The nets of a flat netlist are at the entries of their drivers, or at the exits of cells.
use Rattle.std.proofs.Common.{◌≡◌, refl, sym, ◌∙◌, ap, subst, ℕ, ◌+◌, ◌-◌, ◌<◌, Bool, true, false, cond, List, [], ◌∷◌, length, get_or, map, Option, Some, None, option_map, inl, inr, ◌⊎◌, arith}
use Rattle.std.specs.Prelude.{codes}
use Rattle.std.proofs.lemmas.List.{length-map, get_or-map}
use Rattle.std.proofs.lemmas.Option.{none-some, same_Some, slice_get-get_or}
use Rattle.lane_core.specs.declared.plan.Plan.{Plan}
use Rattle.lane_core.specs.declared.plan.NetPlace.{NetPlace}
use Rattle.netlist_core.specs.declared.flat.Flat.{Flat}
use Rattle.netlist_core.specs.declared.flat.Net.{Net as FlatNet}
use Rattle.netlist_meaning.specs.Flat.{listed_nets, nets_but_clocks, class_of, node_at, in_classes, out_class, FlatDriver}
use Rattle.cell_core.specs.declared.cells.Src.{Src}
use Rattle.cell_core.specs.declared.cells.Src.TheVariants.{Input, Latch, One, Zero, Cell as Made}
use Rattle.cell_core.specs.declared.cells.Cell.{Cell}
use Rattle.cell_core.specs.declared.cells.Cell.TheVariants.{Or, Xor, AndNot}
use Rattle.cell_core.specs.declared.list.CellList.{CellList}
use Rattle.cell_core.specs.Loops.{loop_count}
use Rattle.cell_meaning.specs.Origins.{cell_instr, maker_on}
use Rattle.cell_meaning.specs.Mapped.{IsCell, IsMapped, constant_of}
use Rattle.cell_meaning.specs.Singles.{single_cell, are_pair, is_only}
use Rattle.row_placer.specs.Entries.{IsEntryOf, AreAtEntries}
use Rattle.row_placer.specs.Numbers.{IsThere}
use Rattle.row_placer.proofs.Sound.{sound as sources_there}
use Rattle.cell_plans.specs.Exits.{IsExitOf, AreAtExits}
use Rattle.netlist_plans.specs.NetPlaces.{IsEntry, IsCellExit, DrivesNet, HasNetPlaces}
use Rattle.netlist_plans.proofs.Lanes.{nets_many}

-- ---- which cell a cover is does not depend on what it reads
abbrev IsOfKind : (Src → Src → Option Cell) → Src → Src → Cell → Type 0
IsOfKind cell_of a b cell = (other : Cell) × (cell_of a b ≡ Some other) × ((lane : ℕ) → cell_instr lane other ≡ cell_instr lane cell)

abbrev chosen : Bool → Bool → Bool → Bool → Bool → Src → Src → Option Cell
chosen on p q r s a b = cond on (cond p (Some (Or a b)) (cond q (Some (Xor a b)) (cond r (Some (AndNot a b)) (cond s (Some (AndNot b a)) None)))) None

same_instr : (cell other : Cell) → Some cell ≡ Some other → (lane : ℕ) → cell_instr lane cell ≡ cell_instr lane other
same_instr cell other e lane = ap (cell_instr lane) (same_Some cell other e)

same_kind : (on p q r s : Bool) (a b c d : Src) (cell : Cell) → chosen on p q r s a b ≡ Some cell → IsOfKind (chosen on p q r s) c d cell
same_kind false p q r s a b c d cell e = absurd (none-some cell e)
same_kind true true q r s a b c d cell e = (Or c d, refl, λ lane. same_instr (Or a b) cell e lane)
same_kind true false true r s a b c d cell e = (Xor c d, refl, λ lane. same_instr (Xor a b) cell e lane)
same_kind true false false true s a b c d cell e = (AndNot c d, refl, λ lane. same_instr (AndNot a b) cell e lane)
same_kind true false false false true a b c d cell e = (AndNot d c, refl, λ lane. same_instr (AndNot b a) cell e lane)
same_kind true false false false false a b c d cell e = absurd (none-some cell e)

of_kind : (rows : List (List ℕ)) (on : Bool) (a b c d : Src) (cell : Cell) → single_cell (a ∷ b ∷ []) rows on ≡ Some cell → IsOfKind (λ x y. single_cell (x ∷ y ∷ []) rows on) c d cell
of_kind rows on a b c d cell e =
    same_kind on (are_pair rows (codes "1-") (codes "-1")) (are_pair rows (codes "10") (codes "01")) (is_only rows (codes "10")) (is_only rows (codes "01")) a b c d cell e

-- where there is a listed net, the nets are listed
are_listed : (listed : Bool) (nets : List FlatNet) (k : ℕ) → k < length (cond listed nets []) → listed ≡ true
are_listed true nets k lt = refl
are_listed false nets k lt = absurd (omega (arith, lt))

two : (xs : List Src) → length xs ≡ 2 → xs ≡ get_or xs 0 Zero ∷ get_or xs 1 Zero ∷ []
two [] e = absurd (omega (arith, e))
two (a ∷ []) e = absurd (omega (arith, e))
two (a ∷ b ∷ []) e = refl
two (a ∷ b ∷ c ∷ xs) e = absurd (omega (arith, e))

module _ (flat : Flat) (list : CellList) (m : IsMapped flat list) (plan : Plan) (loops : plan.latches ≡ loop_count list)
    (entries : AreAtEntries list plan.lanes plan.ins plan.nets) (exits : AreAtExits list plan.columns plan.nets) where
  few : (k : ℕ) → k < length (listed_nets flat) → k < length list.nets
  few k lt = let n = nets_many flat list m in omega (arith, lt, n)

  -- the source of a net is that of its class
  source_is : (k : ℕ) (net : FlatNet) → k < length (listed_nets flat) → get_or list.nets k Zero ≡ m.sources (get_or (listed_nets flat) k net).class
  source_is k net lt =
      ap (λ l. get_or l k Zero) m.nets
      ∙ get_or-map m.sources (map (λ (n : FlatNet). n.class) (listed_nets flat)) k 0 Zero (let l = length-map (listed_nets flat) (λ (n : FlatNet). n.class) in omega (arith, lt, l))
      ∙ ap m.sources (get_or-map (λ (n : FlatNet). n.class) (listed_nets flat) k net 0 lt)

  entry_at : (k : ℕ) (place : NetPlace) (src : Src) → k < length (listed_nets flat) → get_or list.nets k Zero ≡ src → IsEntryOf list plan.lanes plan.ins src (get_or plan.nets k place)
  entry_at k place src lt is = subst (λ s. IsEntryOf list plan.lanes plan.ins s (get_or plan.nets k place)) is (entries.each k Zero place (few k lt))

  owned : (k : ℕ) (net : FlatNet) (place : NetPlace) (src : Src) → k < length (listed_nets flat) → m.sources (get_or (listed_nets flat) k net).class ≡ src → IsEntryOf list plan.lanes plan.ins src (get_or plan.nets k place)
  owned k net place src lt is = entry_at k place src lt (source_is k net lt ∙ is)

  latch_lane : (i : ℕ) → plan.lanes - loop_count list + i ≡ plan.lanes - plan.latches + i
  latch_lane i = ap (λ n. plan.lanes - n + i) (sym loops)

  by_source : (k : ℕ) (place : NetPlace) (src : Src) → k < length (listed_nets flat) → get_or list.nets k Zero ≡ src → IsThere list (length list.cells) src
      → ((get_or plan.nets k place).after ≡ None) ⊎ IsCellExit plan (get_or plan.nets k place)
  by_source k place (Input i) lt is there = inl ((entry_at k place (Input i) lt is).1)
  by_source k place (Latch i) lt is there = inl ((entry_at k place (Latch i) lt is).1)
  by_source k place One lt is there = inl ((entry_at k place One lt is).1)
  by_source k place Zero lt is there = inl (entry_at k place Zero lt is)
  by_source k place (Made i) lt is there =
      let cell : Cell = get_or list.cells i (Or Zero Zero) in
      let lane : ℕ = (get_or plan.nets k place).lane in
      inr (cell, exits k Zero place (cell_instr lane cell) (few k lt) (ap (maker_on list.cells lane) is ∙ ap (option_map (cell_instr lane)) (slice_get-get_or list.cells i (Or Zero Zero) there)))

  constant_entry : (k n : ℕ) (net : FlatNet) (place : NetPlace) (src : Src) → DrivesNet flat (FlatDriver.node n) k net → constant_of flat n ≡ Some src → IsEntryOf list plan.lanes plan.ins src (get_or plan.nets k place)
  constant_entry k n net place src h e = owned k net place src h.0 (ap m.sources (sym h.1.1) ∙ m.constant n src h.1.0 e)

  one_entry : (k n : ℕ) (net : FlatNet) (place : NetPlace) → DrivesNet flat (FlatDriver.node n) k net → constant_of flat n ≡ Some One → IsEntry (plan.lanes - plan.latches + length flat.latches) (get_or plan.nets k place)
  one_entry k n net place h e =
      let at = constant_entry k n net place One h e in
      let starts : length list.starts ≡ length flat.latches = ap length m.starts ∙ length-map flat.latches _ in
      (at.0 ∙ latch_lane (length list.starts) ∙ ap (λ s. plan.lanes - plan.latches + s) starts, at.1)

  single_at : (k n : ℕ) (net : FlatNet) (place : NetPlace) (a b : Src) (cell : Cell) → DrivesNet flat (FlatDriver.node n) k net → length (node_at flat n).ins ≡ 2
      → single_cell (a ∷ b ∷ []) (node_at flat n).rows (node_at flat n).on ≡ Some cell → IsExitOf plan.columns (cell_instr (get_or plan.nets k place).lane cell) (get_or plan.nets k place).after
  single_at k n net place a b cell h many e =
      let sources : List Src = map m.sources (in_classes flat n) in
      let long : length sources ≡ 2 = length-map (in_classes flat n) m.sources ∙ length-map (node_at flat n).ins (class_of flat) ∙ many in
      let kind = of_kind (node_at flat n).rows (node_at flat n).on a b (get_or sources 0 Zero) (get_or sources 1 Zero) cell e in
      let is : IsCell list (m.sources (out_class flat n)) kind.0 = m.single (are_listed flat.listed (nets_but_clocks flat) k h.0) n kind.0 h.1.0 (ap (λ l. single_cell l (node_at flat n).rows (node_at flat n).on) (two sources long) ∙ kind.1) in
      let lane : ℕ = (get_or plan.nets k place).lane in
      let at : get_or list.nets k Zero ≡ Made is.0 = source_is k net h.0 ∙ ap m.sources (sym h.1.1) ∙ is.1 in
      let made : maker_on list.cells lane (get_or list.nets k Zero) ≡ Some (cell_instr lane kind.0) = ap (maker_on list.cells lane) at ∙ ap (option_map (cell_instr lane)) is.2 in
      subst (λ i. IsExitOf plan.columns i (get_or plan.nets k place).after) (kind.2 lane) (exits k Zero place (cell_instr lane kind.0) (few k h.0) made)

  pub net_places : HasNetPlaces flat plan
  net_places = record {
    many = entries.long ∙ nets_many flat list m;
    inputs = λ k i net place h. owned k net place (Input i) h.0 (m.own (get_or (listed_nets flat) k net).class (FlatDriver.input i) h.1);
    latches = λ k i net place h. (let e = owned k net place (Latch i) h.0 (m.own (get_or (listed_nets flat) k net).class (FlatDriver.latch i) h.1) in (e.0 ∙ latch_lane i, e.1));
    covers = λ k n net place h. by_source k place (get_or list.nets k Zero) h.0 refl ((sources_there list).nets k Zero (few k h.0));
    constants = λ k n net place h. (constant_entry k n net place Zero h, one_entry k n net place h);
    singles = single_at;
  }
