-- The runs of a list that computes a flat netlist are those of the netlist.
use Rattle.std.proofs.Common.{ℕ, zero, suc, ◌+◌, ◌*◌, ◌<◌, ◌≤◌, ◌≡◌, refl, sym, ap, ◌∙◌, subst, inl, inr, Bool, false, List, [], ◌∷◌, length, map, get_or, arith}
use Rattle.std.specs.Prelude.{Some, slice_get}
use Rattle.std.proofs.lemmas.Bool.{cases_lt}
use Rattle.std.proofs.lemmas.Option.{slice_get-get_or, slice_get_within, get_or_from_slice_get}
use Rattle.std.proofs.lemmas.Simd.{map-map}
use Rattle.std.proofs.lemmas.List.{get_or-map}
use Rattle.std.proofs.Math.Nat.{mul-le-mul_right}
use Rattle.ww_rule.specs.Wireworld.{Plane, driven}
use Rattle.ww_rule.specs.Grid.{plane_of}
use Rattle.netlist_core.specs.declared.flat.Flat.{Flat}
use Rattle.netlist_core.specs.declared.flat.Net.{Net as FlatNet}
use Rattle.netlist_core.specs.declared.flat.FlatPort.{FlatPort}
use Rattle.netlist_meaning.specs.Flat.{class_of, listed_nets}
use Rattle.netlist_meaning.specs.FlatValuation.{IsFlatRun, start_bits, flat_state_in, flat_output_bit}
use Rattle.cell_core.specs.declared.cells.Src.TheVariants.{Zero}
use Rattle.cell_core.specs.declared.list.CellList.{CellList}
use Rattle.cell_core.specs.Meaning.{bit_of}
use Rattle.cell_meaning.specs.Mapped.{HasBits}
use Rattle.carries.specs.Cells.{ShowsBitsFrom, drive}
use Rattle.routed_circuits.specs.Runs.{src_at, list_state, list_bit}
use Rattle.routed_circuits.specs.Tables.{ShowsBits}
use Rattle.plan_carries.specs.Compiled.{ComputesFlat}
use Rattle.plan_carries.proofs.Designs.{designs_are_carried}
use Rattle.routed_circuits.specs.Flats.{RoutedTextsCarry, RoutedDesignsAreCarried}

-- what shows bits without end shows the first of them below the end of their cycles
pub first_shown : (period first n g : ℕ) (bit other : ℕ → Bool) (plane : Plane) (x y : ℕ) → g < first + n * period → ((t : ℕ) → t < n → bit t ≡ other t) → ShowsBits first period bit g plane x y → ShowsBitsFrom first period n other g plane x y
first_shown period first n g bit other plane x y early same shown = (
  λ head. (let c = shown.0 head in
      let time : g ≡ first + c.0 * period = c.1 in
      let low = below c.0 time in
      (c.0, low, c.1, sym (same c.0 low) ∙ c.2)),
  λ at. shown.1 (at.0, at.2, same at.0 at.1 ∙ at.3),
)
  where
    below : (t : ℕ) → g ≡ first + t * period → t < n
    below t time =
        elim (cases_lt t n) [
          | inl lt ↦ lt
          | inr ge ↦ let more : n * period ≤ t * period = mul-le-mul_right period ge in absurd (omega (arith, time, early, more))
        ]

-- what stands at a place of mapped items, also past the end
pub mapped_at : {X Y : Type 0} (f : X → Y) (xs : List X) (i : ℕ) (d : X) (e : Y) → f d ≡ e → get_or (map f xs) i e ≡ f (get_or xs i d)
mapped_at f [] i d e same = sym same
mapped_at f (x ∷ xs) zero d e same = refl
mapped_at f (x ∷ xs) (suc i) d e same = mapped_at f xs i d e same

module _ (flat : Flat) (list : CellList) (f : ComputesFlat flat list) (rows : List (List Bool)) (run : ℕ → ℕ → Bool) (is : IsFlatRun flat (start_bits flat) rows run) where
  abbrev row : ℕ → List Bool
  row t = get_or rows t []

  has_at : (t : ℕ) → t < length rows → flat_state_in flat (start_bits flat) run t ≡ list_state list rows t → HasBits flat list (row t) (list_state list rows t) (run t)
  has_at t lt e = subst (λ state. HasBits flat list (row t) state (run t)) e (f.bits (row t) (flat_state_in flat (start_bits flat) run t) (run t) (is t (row t) (slice_get-get_or rows t [] lt)))

  -- while rows last, the latches have the bits of the list's run
  state_is : (t : ℕ) → t ≤ length rows → flat_state_in flat (start_bits flat) run t ≡ list_state list rows t
  state_is zero low = sym f.mapped.starts
  state_is (suc t) low = sym (has_at t (omega arith) (state_is t (omega arith))).latches

  has : (t : ℕ) → t < length rows → HasBits flat list (row t) (list_state list rows t) (run t)
  has t lt = has_at t lt (state_is t (omega (arith, lt)))

  out_is : (o t : ℕ) → t < length rows → list_bit list rows t (src_at list.outs o) ≡ flat_output_bit flat (run t) o
  out_is o t lt =
      sym (mapped_at (bit_of list (row t) (list_state list rows t)) list.outs o Zero false refl)
      ∙ ap (λ bits. get_or bits o false) (has t lt).outs
      ∙ ap (λ bits. get_or bits o false) (map-map (run t) (λ (port : FlatPort). class_of flat port.net) flat.outs)

  net_is : (k t : ℕ) (net : FlatNet) → slice_get (listed_nets flat) k ≡ Some net → t < length rows → list_bit list rows t (src_at list.nets k) ≡ run t net.class
  net_is k t net at lt =
      sym (mapped_at (bit_of list (row t) (list_state list rows t)) list.nets k Zero false refl)
      ∙ ap (λ bits. get_or bits k false) (has t lt).nets
      ∙ ap (λ bits. get_or bits k false) (map-map (run t) (λ (net : FlatNet). net.class) (listed_nets flat))
      ∙ get_or-map (λ (net : FlatNet). run t net.class) (listed_nets flat) k net false (slice_get_within (listed_nets flat) k net at)
      ∙ ap (λ (net : FlatNet). run t net.class) (get_or_from_slice_get (listed_nets flat) k net net at)

pub routed_texts_carry : RoutedTextsCarry
routed_texts_carry text flat list shown names runs computes =
    let grid = shown.grid in
    let ports = shown.ports in
    let shows = shown.shows in
    record {
      grid = grid;
      ports = ports;
      spells = shown.spells;
      contexts = shown.contexts;
      names = names;
      shows = record {
        conductors = λ rows are. shows.conductors rows;
        runs = runs;
        heads = λ rows are run is o line at g early. first_shown ports.p ports.l (length rows) g (λ t. list_bit list rows t (src_at list.outs o)) (λ t. flat_output_bit flat (run t) o) (driven (drive ports rows) (plane_of grid.rows) g) line.x line.y early (λ t lt. out_is flat list computes rows run is o t lt) (shows.outs rows o line at g);
        nets = λ rows are run is k net line is_net at g early. first_shown ports.p line.offset (length rows) g (λ t. list_bit list rows t (src_at list.nets k)) (λ t. run t net.class) (driven (drive ports rows) (plane_of grid.rows) g) line.x line.y early (λ t lt. net_is flat list computes rows run is k t net is_net lt) (shows.nets rows k line at g);
      };
    }

pub routed_designs_are_carried : RoutedDesignsAreCarried
routed_designs_are_carried text design flat list faultless clean is shown names runs computes =
    designs_are_carried text design flat faultless clean is (routed_texts_carry text flat list shown names runs computes)
