-- A list that is written anew is mapped from the same netlist.
use Rattle.std.proofs.Common.{◌≡◌, refl, sym, ◌∙◌, ap, ℕ, zero, suc, ◌*◌, ◌≤◌, Bool, true, false, cond, List, [], ◌∷◌, length, map, subst, Option, Some, None, option_map, ⊎_elim, arith}
use Rattle.std.specs.Prelude.{codes, Contains}
use Rattle.std.proofs.lemmas.Option.{none-some, same_Some}
use Rattle.lists.proofs.Members.{In, contains_from, in_from, in_map}
use Rattle.netlist_core.specs.declared.flat.Flat.{Flat}
use Rattle.netlist_meaning.specs.Flat.{node_at, in_classes, out_class, class_of, port_classes, FlatDriver, IsSound}
use Rattle.cell_core.specs.declared.cells.Src.{Src}
use Rattle.cell_core.specs.declared.cells.Src.TheVariants.{Input, Latch, One, Zero}
use Rattle.cell_core.specs.declared.cells.Cell.{Cell}
use Rattle.cell_core.specs.declared.cells.Cell.TheVariants.{Or, Xor, AndNot}
use Rattle.cell_core.specs.declared.list.CellList.{CellList}
use Rattle.cell_core.specs.Loops.{names_one}
use Rattle.cell_core.specs.Meaning.{bit_of}
use Rattle.cell_meaning.specs.Mapped.{IsCell, IsOwn, IsMappedWith}
use Rattle.cell_meaning.specs.Needs.{any_needs_one, covers_weight}
use Rattle.cell_meaning.specs.Singles.{single_cell, constant_source, are_pair, is_only}
use Rattle.cell_meaning.specs.Listed.{listed_classes}
use Rattle.cell_meaning.specs.Same.{is_cell, cell_over, Keeps}
use Rattle.cell_meaning.specs.Mapping.{MappedStays, BitsStay}
use Rattle.cell_core.proofs.Following.{∷-parts}
use Rattle.cell_meaning.proofs.Driven.{driven_are_listed}

mapped_twice : {X : Type 0} (f : X → Src) (g : Src → Src) (xs : List X) → map g (map f xs) ≡ map (λ x. g (f x)) xs
mapped_twice f g [] = refl
mapped_twice f g (x ∷ xs) = ap (λ l. g (f x) ∷ l) (mapped_twice f g xs)

pub contains_mapped : (f : Src → Src) (sources : List Src) (src : Src) → Contains sources src → Contains (map f sources) (f src)
contains_mapped f sources src c = contains_from (map f sources) (f src) (in_map f sources src (in_from sources src c))

-- bits that agree on a list agree on each of its sources
agree : (f g : Src → Bool) (to : Src → Src) (xs : List Src) (x : Src) → map f (map to xs) ≡ map g xs → In x xs → f (to x) ≡ g x
agree f g to [] x e i = absurd i
agree f g to (y ∷ ys) x e i =
    let parts : (f (to y) ≡ g y) × (map f (map to ys) ≡ map g ys) = ∷-parts e in
    ⊎_elim (λ (h : x ≡ y). ap (λ s. f (to s)) h ∙ parts.0 ∙ ap g (sym h)) (λ (h : In x ys). agree f g to ys x parts.1 h) i

-- ---- covers of a single cell
four : (to : Src → Src) (a b : Src) (p q r s : Bool) → cond p (Some (Or (to a) (to b))) (cond q (Some (Xor (to a) (to b))) (cond r (Some (AndNot (to a) (to b))) (cond s (Some (AndNot (to b) (to a))) None)))
    ≡ option_map (cell_over to) (cond p (Some (Or a b)) (cond q (Some (Xor a b)) (cond r (Some (AndNot a b)) (cond s (Some (AndNot b a)) None))))
four to a b true q r s = refl
four to a b false true r s = refl
four to a b false false true s = refl
four to a b false false false true = refl
four to a b false false false false = refl

single_by : (to : Src → Src) (sources : List Src) (rows : List (List ℕ)) (on : Bool) → single_cell (map to sources) rows on ≡ option_map (cell_over to) (single_cell sources rows on)
single_by to [] rows on = refl
single_by to (a ∷ []) rows on = refl
single_by to (a ∷ b ∷ []) rows true =
    four to a b (are_pair rows (codes "1-") (codes "-1")) (are_pair rows (codes "10") (codes "01")) (is_only rows (codes "10")) (is_only rows (codes "01"))
single_by to (a ∷ b ∷ []) rows false = refl
single_by to (a ∷ b ∷ c ∷ sources) rows on = refl

some_before : (to : Src → Src) (o : Option Cell) (new : Cell) → option_map (cell_over to) o ≡ Some new → (old : Cell) × (o ≡ Some old) × (cell_over to old ≡ new)
some_before to None new e = absurd (none-some new e)
some_before to (Some old) new e = (old, refl, same_Some _ _ e)

-- ---- covers that are constants
by_on : (on : Bool) → is_cell (cond on One Zero) ≡ false
by_on true = refl
by_on false = refl

constant_is_none : (nets : ℕ) (rows : List (List ℕ)) (on : Bool) (src : Src) → constant_source nets rows on ≡ Some src → is_cell src ≡ false
constant_is_none nets [] on src e = ap is_cell (sym (same_Some _ _ e))
constant_is_none zero (row ∷ rows) on src e = ap is_cell (sym (same_Some _ _ e)) ∙ by_on on
constant_is_none (suc nets) (row ∷ rows) on src e = absurd (none-some src e)

-- ---- all of it
own_stays : (to : Src → Src) → ((src : Src) → is_cell src ≡ false → to src ≡ src) → (d : FlatDriver) (src : Src) → IsOwn d src → IsOwn d (to src)
own_stays to stays (FlatDriver.input i) src own = ap to own ∙ stays (Input i) refl
own_stays to stays (FlatDriver.latch i) src own = ap to own ∙ stays (Latch i) refl
own_stays to stays (FlatDriver.node n) src own = own

-- a list that keeps the kept sources is mapped from the netlist too, if it has few enough cells and names constant 1 only if a cover needs it
pub mapped_keeps : (flat : Flat) (old new : CellList) (kept still : List Src) → IsSound flat → IsMappedWith flat old kept → Keeps old kept new still
    → length new.cells ≤ 2 * covers_weight flat → (names_one new ≡ true → any_needs_one flat ≡ true) → IsMappedWith flat new still
mapped_keeps flat old new kept still sound with same few one =
    let mapped = with.mapped in
    let m = same.moves in
    let to : Src → Src = same.to in
    let s : ℕ → Src = mapped.sources in
    let before : (n : ℕ) (cell : Cell) → single_cell (map (λ class. to (s class)) (in_classes flat n)) (node_at flat n).rows (node_at flat n).on ≡ Some cell
    → (c : Cell) × (single_cell (map s (in_classes flat n)) (node_at flat n).rows (node_at flat n).on ≡ Some c) × (cell_over to c ≡ cell) =
    λ n cell e. some_before to (single_cell (map s (in_classes flat n)) (node_at flat n).rows (node_at flat n).on) cell
    (sym (single_by to (map s (in_classes flat n)) (node_at flat n).rows (node_at flat n).on)
    ∙ ap (λ l. single_cell l (node_at flat n).rows (node_at flat n).on) (mapped_twice s to (in_classes flat n)) ∙ e) in
    record {
      mapped = record {
        sources = λ class. to (s class);
        inputs = m.inputs ∙ mapped.inputs;
        starts = m.starts ∙ mapped.starts;
        outs = m.outs_go ∙ ap (map to) mapped.outs ∙ mapped_twice s to (port_classes flat flat.outs);
        latches = m.latches_go ∙ ap (map to) mapped.latches ∙ mapped_twice (λ latch. s (class_of flat latch.input)) to flat.latches;
        nets = m.nets_go ∙ ap (map to) mapped.nets ∙ mapped_twice s to (listed_classes flat);
        own = λ class d drives. own_stays to m.stays d (s class) (mapped.own class d drives);
        bits = λ listed inputs state bits valuation class d drives.
            agree (bit_of new inputs state) (bit_of old inputs state) to old.nets (s class)
            (ap (map (bit_of new inputs state)) (sym m.nets_go) ∙ m.nets inputs state)
            (subst (λ l. In (s class) l) (sym mapped.nets) (in_map s (listed_classes flat) class (in_from (listed_classes flat) class (driven_are_listed flat sound listed class d drives))))
            ∙ mapped.bits listed inputs state bits valuation class d drives;
        single = λ listed n cell within e.
            let was = before n cell e in
            subst (λ c. IsCell new (to (s (out_class flat n))) c) was.2
            (same.cells (s (out_class flat n)) (with.among listed n was.0 within was.1) was.0 (mapped.single listed n was.0 within was.1));
        constant = λ n src within e. ap to (mapped.constant n src within e) ∙ m.stays src (constant_is_none (length (node_at flat n).ins) (node_at flat n).rows (node_at flat n).on src e);
        few = few;
        one = one;
      };
      among = λ listed n cell within e.
          let was = before n cell e in
          subst (λ (l : List Src). Contains l (to (s (out_class flat n)))) (sym same.follow) (contains_mapped to kept (s (out_class flat n)) (with.among listed n was.0 within was.1));
    }

pub mapped_stays : MappedStays
mapped_stays flat old new kept sound with same =
    (mapped_keeps flat old new kept (map same.to kept) sound with (record { to = same.to; moves = same.moves; cells = same.cells; bits = same.bits; follow = refl })
    (let a = same.few in let b = with.mapped.few in omega (arith, a, b)) (λ e. with.mapped.one (same.one e))).mapped

pub bits_stay : BitsStay
bits_stay flat old new kept inputs state bits same has =
    record {
      outs = same.moves.outs inputs state ∙ has.outs;
      latches = same.moves.latches inputs state ∙ has.latches;
      nets = same.moves.nets inputs state ∙ has.nets;
    }
