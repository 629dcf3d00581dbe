-- The sources of gates' outputs have the bits of their answers.
use Rattle.std.proofs.Common.{◌≡◌, sym, ◌∙◌, ap, ap₂, ℕ, ◌<◌, Bool, ◌&&◌, ◌||◌, not, List, map, length, slice_get, Some}
use Rattle.std.proofs.Math.ListN.{get_or-map}
use Rattle.std.proofs.lemmas.List.{length-map}
use Rattle.std.proofs.lemmas.Option.{get_or_from_slice_get, slice_get_within}
use Rattle.lists.specs.Items.{flag_at}
use Rattle.cell_core.specs.declared.cells.Src.{Src}
use Rattle.cell_core.specs.declared.cells.Src.TheVariants.{Zero, Cell as Made}
use Rattle.cell_core.specs.declared.cells.Cell.{Cell}
use Rattle.cell_core.specs.declared.list.CellList.{CellList}
use Rattle.cell_core.specs.Meaning.{bit_of, cell_bit, cell_bits}
use Rattle.cell_core.proofs.OwnBits.{bit_of_cell}
use Rattle.gate_laws.specs.Drawings.{out_port_of}
use Rattle.gate_laws.specs.Crossings.{is_of_second}
use Rattle.routed_circuits.specs.Runs.{src_at}
use Rattle.gate_library.specs.declared.gate.Answer.{Answer}
use Rattle.gate_library.specs.declared.gate.Answer.TheVariants.{Copy, Or, Xor, AndNot}
use Rattle.gate_library.specs.declared.gate.Timing.{Timing}
use Rattle.gate_library.specs.declared.gate.Timing.TheVariants.{Together, Apart}
use Rattle.gate_library.specs.declared.gate.GateDrawing.{GateDrawing}
use Rattle.gate_library.specs.Lawful.{gate_by, gate_at, crossing_apart, IsLawful, answer_at, answer_bit}
use Rattle.route_tables.specs.Runs.{IsAnsweredBy}
use Rattle.route_tables.proofs.Ports.{length_spread}

-- ---- lengths
outs_by : (timing : Timing) (d : GateDrawing) (later : ℕ) → length (gate_by timing d later).outs ≡ length d.outs
outs_by Together d later = length-map d.outs out_port_of
outs_by Apart d later = length_spread (is_of_second (crossing_apart d)) later (map out_port_of d.outs) ∙ length-map d.outs out_port_of

pub length-gate_outs : (d : GateDrawing) (later : ℕ) → length (gate_at d later).outs ≡ length d.outs
length-gate_outs d later = outs_by d.timing d later

-- ---- bits
operand : (list : CellList) (inputs state : List Bool) (ins : List Src) (i : ℕ) → flag_at (map (bit_of list inputs state) ins) i ≡ bit_of list inputs state (src_at ins i)
operand list inputs state ins i = get_or-map (bit_of list inputs state) ins i Zero

made_bit : (list : CellList) (inputs state : List Bool) (out : Src) (n : ℕ) (cell : Cell) → out ≡ Made n → slice_get list.cells n ≡ Some cell
    → bit_of list inputs state out ≡ cell_bit inputs state (cell_bits inputs state list.cells) cell
made_bit list inputs state out n cell is at =
    ap (bit_of list inputs state) is ∙ bit_of_cell list n cell inputs state (slice_get_within list.cells n cell at)
    ∙ ap (cell_bit inputs state (cell_bits inputs state list.cells)) (get_or_from_slice_get list.cells n cell cell at)

answered_bit : (list : CellList) (inputs state : List Bool) (ins : List Src) (answer : Answer) (out : Src) → IsAnsweredBy list ins answer out
    → bit_of list inputs state out ≡ answer_bit (map (bit_of list inputs state) ins) answer
answered_bit list inputs state ins (Copy i) out is = ap (bit_of list inputs state) is ∙ sym (operand list inputs state ins i)
answered_bit list inputs state ins (Or i j) out (n, is, at) =
    made_bit list inputs state out n _ is at ∙ ap₂ (λ x y. x || y) (sym (operand list inputs state ins i)) (sym (operand list inputs state ins j))
answered_bit list inputs state ins (Xor i j) out (n, is, at) =
    made_bit list inputs state out n _ is at ∙ ap₂ (λ x y. (x || y) && not (x && y)) (sym (operand list inputs state ins i)) (sym (operand list inputs state ins j))
answered_bit list inputs state ins (AndNot i j) out (n, is, at) =
    made_bit list inputs state out n _ is at ∙ ap₂ (λ x y. x && not y) (sym (operand list inputs state ins i)) (sym (operand list inputs state ins j))

pub answers_hold : (list : CellList) (d : GateDrawing) (later : ℕ) (ins outs : List Src) → IsLawful d → length ins ≡ length d.ins → (o : ℕ) → o < length d.outs
    → IsAnsweredBy list ins (answer_at d o) (src_at outs o) → (inputs state : List Bool)
    → bit_of list inputs state (src_at outs o) ≡ (gate_at d later).answer (map (bit_of list inputs state) ins) o
answers_hold list d later ins outs lawful long o within answered inputs state =
    answered_bit list inputs state ins (answer_at d o) (src_at outs o) answered
    ∙ sym (lawful.answers later (map (bit_of list inputs state) ins) (length-map ins (bit_of list inputs state) ∙ long) o within)
