-- Streams of a netlist's inputs as the tape of its plan.
use Rattle.std.proofs.Common.{◌≡◌, refl, sym, ◌∙◌, subst, ℕ, ◌<◌, ◌≤◌, Bool, false, List, [], ◌∷◌, length, map, arith}
use Rattle.std.specs.Prelude.{All}
use Rattle.std.specs.List.{range_with_len}
use Rattle.std.proofs.lemmas.List.Elements.{All-map}
use Rattle.lane_core.specs.declared.plan.Plan.{Plan}
use Rattle.lane_core.specs.Tape.{AreTapeLists, cycles_of, tape_rows}
use Rattle.plan_waves.specs.Loaded.{with_tape}
use Rattle.netlist_core.specs.declared.flat.Flat.{Flat}
use Rattle.netlist_meaning.specs.FlatValuation.{AreFlatRows}
use Rattle.carries.specs.ByItself.{RunsByItselfFlat}
use Rattle.carries.specs.ByItselfLaws.{ZerosChangeNothing}
use Rattle.plan_ports.specs.Tables.{HasPortsOf}
use Rattle.streams.specs.declared.streams.Streams.{Streams}
use Rattle.streams.specs.Rows.{bits_across, rows_of}
use Rattle.netlist_plans.specs.Planned.{IsSmall}

-- lists of bits of so many cycles make a tape
pub are_lists : (lists : List (List Bool)) (cycles : ℕ) → 1 ≤ cycles → cycles ≤ 4096 → All (λ bits. length bits ≡ cycles) lists → AreTapeLists lists
are_lists lists cycles some few long = record {
  range = λ k d within. (let is = long k d within in (omega (arith, is, some), omega (arith, is, few)));
  alike = λ k d within. long k d within ∙ sym (first lists long (omega (arith, within)));
}
  where
    first : (lists : List (List Bool)) → All (λ bits. length bits ≡ cycles) lists → 0 < length lists → cycles_of lists ≡ cycles
    first [] long none = absurd (omega (arith, none))
    first (bits ∷ rest) long none = long 0 bits (omega arith)

-- the rows of the streams, where there are no inputs, are rows without bits
no_bits : (flat : Flat) → 0 ≡ length flat.ins → (cycles : List ℕ) → All (λ row. All (λ bit. bit ≡ false) row) (map (bits_across []) cycles) × AreFlatRows flat (map (bits_across []) cycles)
no_bits flat none cycles = (
  All-map (λ (row : List Bool). All (λ bit. bit ≡ false) row) (bits_across []) cycles (λ k d within i e low. absurd (omega (arith, low))),
  All-map (λ (row : List Bool). length row ≡ length flat.ins) (bits_across []) cycles (λ k d within. none),
)

-- what runs by itself on the rows of a tape does so on those of its streams
rows_are : (text : List ℕ) (flat : Flat) → ZerosChangeNothing → (lists : List (List Bool)) (cycles : ℕ) → length lists ≡ length flat.ins → All (λ bits. length bits ≡ cycles) lists
    → RunsByItselfFlat text flat (map (bits_across lists) (range_with_len 0 (cycles_of lists))) → RunsByItselfFlat text flat (map (bits_across lists) (range_with_len 0 cycles))
rows_are text flat zeros [] cycles many long runs =
    let rows = no_bits flat many (range_with_len 0 cycles) in
    zeros.1 text flat [] (map (bits_across []) (range_with_len 0 cycles)) runs (map (bits_across []) (range_with_len 0 cycles), rows.0, refl) rows.1
rows_are text flat zeros (first ∷ rest) cycles many long runs =
    subst (λ (n : ℕ). RunsByItselfFlat text flat (map (bits_across (first ∷ rest)) (range_with_len 0 n))) (long 0 first (omega arith)) runs

pub runs_on_streams : (text : List ℕ) (flat : Flat) (plan : Plan) (streams : Streams) → ZerosChangeNothing → length streams.bits ≡ length flat.ins → All (λ bits. length bits ≡ streams.cycles) streams.bits
    → RunsByItselfFlat text flat (tape_rows (with_tape streams.bits plan)) → RunsByItselfFlat text flat (rows_of streams)
runs_on_streams text flat plan streams zeros many long runs = rows_are text flat zeros streams.bits streams.cycles many long runs

-- a plan with other bits on its tape has the same ports, edges and size
pub ports_with_tape : (flat : Flat) (plan : Plan) (bits : List (List Bool)) → HasPortsOf flat plan → HasPortsOf flat (with_tape bits plan)
ports_with_tape flat plan bits many = record { ins = many.ins; outs = many.outs; nets = many.nets }

pub small_with_tape : (flat : Flat) (plan : Plan) (bits : List (List Bool)) → IsSmall flat plan → IsSmall flat (with_tape bits plan)
small_with_tape flat plan bits s = record { lanes = s.lanes; columns = s.columns; instrs = s.instrs; loops = s.loops; no_more_loops = s.no_more_loops }
