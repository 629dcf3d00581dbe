-- Nets that no cell makes are found at entries, and the others after the instructions of their cells.
use Rattle.std.proofs.Common.{◌≡◌, refl, sym, ◌∙◌, ap, subst, ℕ, cond, List, length, get_or, map, arith}
use Rattle.std.specs.Prelude.{All, Some, None, option_map, slice_get}
use Rattle.std.proofs.lemmas.List.{length-map, get_or-map}
use Rattle.std.proofs.lemmas.Option.{none-some, slice_get-get_or}
use Rattle.cell_core.specs.declared.cells.Src.{Src}
use Rattle.cell_core.specs.declared.cells.Src.TheVariants.{Input, Latch, One, Zero, Cell as Made}
use Rattle.cell_core.specs.declared.cells.Cell.{Cell}
use Rattle.cell_core.specs.declared.cells.Cell.TheVariants.{Or, Xor, AndNot}
use Rattle.cell_core.specs.declared.list.CellList.{CellList}
use Rattle.cell_core.specs.Loops.{names_one}
use Rattle.lane_core.specs.declared.plan.NetPlace.{NetPlace}
use Rattle.lane_core.specs.declared.instr.Instr.{Instr}
use Rattle.cell_meaning.specs.Origins.{cell_instr, maker_on}
use Rattle.row_placer.specs.declared.job.Job.{Job}
use Rattle.row_placer.specs.declared.job.NumberedCell.{NumberedCell}
use Rattle.row_placer.specs.Told.{MadeAt, gate_instr, instr_at}
use Rattle.row_placer.specs.Numbers.{IsThere, gate_of}
use Rattle.row_placer.specs.Placed.{AreHomes, net_place_of}
use Rattle.row_placer.specs.Entries.{IsEntryOf, AreAtEntries, AreAtCells}

entry_of : (list : CellList) (lanes : ℕ) (ins homes : List ℕ) (made : List NetPlace) → AreHomes list lanes ins homes → (src : Src) → IsThere list (length list.cells) src → IsEntryOf list lanes ins src (net_place_of list homes made src)
entry_of list lanes ins homes made h (Input i) there = (h.inputs i there, refl)
entry_of list lanes ins homes made h (Latch i) there = (h.loops i (omega (arith, there)), refl)
entry_of list lanes ins homes made h One there =
    let one : cond {A = ℕ} (names_one list) 1 0 ≡ 1 = ap (λ b. cond {A = ℕ} b 1 0) there in
    (h.loops (length list.starts) (omega (arith, one)), refl)
entry_of list lanes ins homes made h Zero there = refl
entry_of list lanes ins homes made h (Made i) there = tt

pub at_entries : (list : CellList) (lanes : ℕ) (ins homes : List ℕ) (made nets : List NetPlace) → AreHomes list lanes ins homes → All (IsThere list (length list.cells)) list.nets → nets ≡ map (net_place_of list homes made) list.nets → AreAtEntries list lanes ins nets
at_entries list lanes ins homes made nets h all is = record {
  long = ap length is ∙ length-map list.nets (net_place_of list homes made);
  each = λ k src place below.
      subst (IsEntryOf list lanes ins (get_or list.nets k src)) (sym (ap (λ ns. get_or ns k place) is ∙ get_or-map (net_place_of list homes made) list.nets k src place below))
      (entry_of list lanes ins homes made h (get_or list.nets k src) (all k src below));
}

-- a cell's instruction is that of its gate
gate_is_cell : (list : CellList) (cell : Cell) (lane : ℕ) → gate_instr (gate_of list cell).kind lane ≡ cell_instr lane cell
gate_is_cell list (Or a b) lane = refl
gate_is_cell list (Xor a b) lane = refl
gate_is_cell list (AndNot a b) lane = refl

-- a net's place, where a cell makes it
cell_place : (list : CellList) (job : Job) (instrs : List Instr) (homes : List ℕ) (made : List NetPlace) → job.gates ≡ map (gate_of list) list.cells → length made ≡ length list.cells → MadeAt job instrs made
    → (src : Src) (instr : Instr) → IsThere list (length list.cells) src → maker_on list.cells (net_place_of list homes made src).lane src ≡ Some instr → instr_at instrs (net_place_of list homes made src).after ≡ Some instr
cell_place list job instrs homes made gates all at (Input i) instr there e = absurd (none-some instr e)
cell_place list job instrs homes made gates all at (Latch i) instr there e = absurd (none-some instr e)
cell_place list job instrs homes made gates all at One instr there e = absurd (none-some instr e)
cell_place list job instrs homes made gates all at Zero instr there e = absurd (none-some instr e)
cell_place list job instrs homes made gates all at (Made i) instr there e =
    let none : NetPlace = record { lane = 0; after = None } in
    let cell : Cell = get_or list.cells i (Or Zero Zero) in
    let lane : ℕ = (get_or made i none).lane in
    let gate : get_or job.gates i (gate_of list cell) ≡ gate_of list cell = ap (λ gs. get_or gs i (gate_of list cell)) gates ∙ get_or-map (gate_of list) list.cells i (Or Zero Zero) (gate_of list cell) there in
    let found : option_map (cell_instr lane) (slice_get list.cells i) ≡ Some (cell_instr lane cell) = ap (option_map (cell_instr lane)) (slice_get-get_or list.cells i (Or Zero Zero) there) in
    at i (gate_of list cell) none (omega (arith, there, all))
    ∙ ap (λ (q : NumberedCell). Some (gate_instr q.kind lane)) gate ∙ ap Some (gate_is_cell list cell lane) ∙ sym found ∙ e

pub at_cells : (list : CellList) (job : Job) (instrs : List Instr) (homes : List ℕ) (made nets : List NetPlace) → job.gates ≡ map (gate_of list) list.cells → length made ≡ length list.cells → MadeAt job instrs made
    → All (IsThere list (length list.cells)) list.nets → nets ≡ map (net_place_of list homes made) list.nets → AreAtCells list instrs nets
at_cells list job instrs homes made nets gates all at there is k src place instr below =
    let same : get_or nets k place ≡ net_place_of list homes made (get_or list.nets k src) = ap (λ ns. get_or ns k place) is ∙ get_or-map (net_place_of list homes made) list.nets k src place below in
    subst (λ (p : NetPlace). maker_on list.cells p.lane (get_or list.nets k src) ≡ Some instr → instr_at instrs p.after ≡ Some instr) (sym same)
    (cell_place list job instrs homes made gates all at (get_or list.nets k src) instr (there k src below))
