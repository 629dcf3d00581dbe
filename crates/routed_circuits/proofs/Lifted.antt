-- The runs of a list that computes a design are those of the design.
use Rattle.std.proofs.Common.{ℕ, zero, suc, ◌<◌, ◌≤◌, ◌≡◌, refl, sym, ap, ◌∙◌, Bool, false, List, [], length, map, get_or, arith}
use Rattle.std.proofs.lemmas.Option.{slice_get-get_or}
use Rattle.ww_rule.specs.Wireworld.{driven}
use Rattle.ww_rule.specs.Grid.{plane_of}
use Rattle.pattern_reading.specs.Ports.{names_of}
use Rattle.netlist_core.specs.declared.model.Design.{Design}
use Rattle.netlist_meaning.specs.Valuation.{Valuation, LatchState, IsRun, IsValuation, start_state, latches_in, output_bit}
use Rattle.flat_designs.specs.Laws.{state_in_order}
use Rattle.cell_core.specs.declared.cells.Src.TheVariants.{Zero}
use Rattle.cell_core.specs.declared.list.CellList.{CellList}
use Rattle.cell_core.specs.Meaning.{bit_of}
use Rattle.carries.specs.Cells.{drive}
use Rattle.lifted_designs.specs.Computes.{ComputesDesign}
use Rattle.lifted_designs.proofs.Lifted.{ins_are, lists_compute, names_at}
use Rattle.lifted_designs.proofs.Runs.{lifted_have_runs}
use Rattle.lifted_designs.specs.Lifted.{lifted_design}
use Rattle.routed_circuits.specs.Runs.{src_at, list_state, list_bit}
use Rattle.routed_circuits.specs.Lifted.{RoutedCarryDesigns, RoutedAreLifted}
use Rattle.routed_circuits.proofs.Flats.{first_shown, mapped_at}

module _ (design : Design) (list : CellList) (d : ComputesDesign list design) (rows : List (List Bool)) (run : ℕ → Valuation) (is : IsRun design rows run) where
  abbrev row : ℕ → List Bool
  row t = get_or rows t []

  abbrev latches : ℕ → LatchState
  latches t = latches_in design (start_state design) run t

  solves : (t : ℕ) → t < length rows → IsValuation design (row t) (latches t) (run t)
  solves t lt = is t (row t) (slice_get-get_or rows t [] lt)

  state_is : (t : ℕ) → t ≤ length rows → state_in_order design (latches t) ≡ list_state list rows t
  state_is zero low = sym d.starts
  state_is (suc t) low =
      sym (d.latch_data (row t) (latches t) (run t) (solves t (omega arith)))
      ∙ ap (λ state. map (bit_of list (row t) state) list.latches) (state_is t (omega arith))

  pub out_is : (o t : ℕ) → t < length rows → list_bit list rows t (src_at list.outs o) ≡ output_bit design (run t) o
  out_is o t lt =
      sym (mapped_at (bit_of list (row t) (list_state list rows t)) list.outs o Zero false refl)
      ∙ ap (λ state. get_or (map (bit_of list (row t) state) list.outs) o false) (sym (state_is t (omega (arith, lt))))
      ∙ ap (λ bits. get_or bits o false) (d.outs (row t) (latches t) (run t) (solves t lt))

pub routed_carry_designs : RoutedCarryDesigns
routed_carry_designs text design list shown names runs computes =
    let grid = shown.grid in
    let ports = shown.ports in
    let shows = shown.shows in
    record {
      grid = grid;
      ports = ports;
      spells = shown.spells;
      contexts = shown.contexts;
      names = names;
      shows = record {
        conductors = λ rows are. shows.conductors rows;
        runs = runs;
        heads = λ rows are run is o line at g early. first_shown ports.p ports.l (length rows) g (λ t. list_bit list rows t (src_at list.outs o)) (λ t. output_bit design (run t) o) (driven (drive ports rows) (plane_of grid.rows) g) line.x line.y early (λ t lt. out_is design list computes rows run is o t lt) (shows.outs rows o line at g);
      };
    }

pub routed_are_lifted : RoutedAreLifted
routed_are_lifted text list shown can =
    let ins = names_of shown.ports.ins in
    let outs = names_of shown.ports.outs in
    routed_carry_designs text (lifted_design ins outs list) list shown
    (record { ins = ins_are list ins outs can.ins can.outs can.plain; outs = sym (names_at 3 outs) })
    (lifted_have_runs list ins outs can.ins can.outs can.plain can.names can.few_cells can.few_latches)
    (lists_compute list ins outs can.ins can.outs can.plain)
