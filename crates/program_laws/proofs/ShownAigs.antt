-- The bits that a pattern which carries a circuit shows are those of the circuit's run.
use Rattle.std.proofs.Common.{ℕ, ◌≡◌, ◌+◌, ◌*◌, ◌-◌, ◌<◌, sym, ap, ◌∙◌, pos, Bool, false, List, [], map, flat_map, length, get_or, arith}
use Rattle.std.specs.Prelude.{Some, slice_get}
use Rattle.std.specs.List.{range_with_len}
use Rattle.std.proofs.lemmas.List.{append-nil, get_or-map, length-drop, length-map, length-take-le, same_lists}
use Rattle.std.proofs.lemmas.List.Elements.{All-map}
use Rattle.std.proofs.lemmas.List.FromFn.{length-map-range_with_len}
use Rattle.std.proofs.lemmas.Option.{slice_get-get_or}
use Rattle.ww_rule.specs.Grid.{plane_of}
use Rattle.ww_rule.specs.Wireworld.{Due, driven, is_head}
use Rattle.ww_rule.specs.Contexts.{due_of_contexts}
use Rattle.ww_rule.proofs.Contexts.{contexts_are_injected}
use Rattle.pattern_reading.specs.declared.ports.PortLine.{PortLine}
use Rattle.pattern_reading.specs.Ports.{cells_of}
use Rattle.netlist_run.proofs.Ran.{same_on_range}
use Rattle.streams.specs.declared.streams.Streams.{Streams}
use Rattle.streams.specs.Rows.{rows_of, stream_row}
use Rattle.streams.proofs.Contexts.{one_context}
use Rattle.carries.specs.Cells.{drive}
use Rattle.drive.specs.Driving.{AreFor, due_by, shown_at, shown_bits}
use Rattle.shown_runs.proofs.ShownContexts.{head_is}
use Rattle.aiger_text.specs.declared.aig.Aig.{Aig}
use Rattle.aiger_text.specs.SoundAig.{IsSoundAig, output_names}
use Rattle.aiger_meaning.specs.Circuit.{AreAigRows, IsAigRun, aig_output_bit}
use Rattle.aiger_plans.specs.CarriesAig.{CarriesAig}
use Rattle.aiger_plans.proofs.Cycles.{carries_aig_cycles}
use Rattle.program_laws.specs.ShownAigs.{CarriersShowAigRuns, aig_bits_in_run}

module _ (text : List ℕ) (aig : Aig) (s : IsSoundAig aig) (c : CarriesAig text aig) (streams : Streams) (are : AreFor c.ports streams) where
  one : streams.c ≡ 1
  one = are.same ∙ c.contexts

  -- as many streams as inputs, and as many OUT lines as outputs
  many_ins : length c.ports.ins ≡ length aig.inputs
  many_ins =
      sym (length-map c.ports.ins (λ (line : PortLine). line.name))
      ∙ ap (λ (names : List (List ℕ)). length names) c.names.ins
      ∙ length-take-le (length aig.inputs) aig.names (omega (arith, s.all_named))

  many_outs : length c.ports.outs ≡ length aig.outputs
  many_outs =
      let rest : length (output_names aig) ≡ length aig.names - length aig.inputs = length-drop (length aig.inputs) aig.names in
      sym (length-map c.ports.outs (λ (line : PortLine). line.name)) ∙ ap (λ (names : List (List ℕ)). length names) c.names.outs ∙ omega (arith, rest, s.all_named)

  many_streams : length streams.bits ≡ length aig.inputs
  many_streams = are.many ∙ ap (λ n. n * length c.ports.ins) c.contexts ∙ omega (arith, many_ins)

  aig_rows : AreAigRows aig (rows_of streams)
  aig_rows =
      All-map (λ (row : List Bool). length row ≡ length aig.inputs) (stream_row streams) (range_with_len 0 streams.cycles)
      (λ k d lt. length-map streams.bits _ ∙ many_streams)

  many_rows : length (rows_of streams) ≡ streams.cycles
  many_rows = length-map-range_with_len (stream_row streams) 0 streams.cycles

  -- the streams of one context inject what its rows do
  one_due : due_by c.ports streams ≡ drive c.ports (rows_of streams)
  one_due = ap (λ contexts. due_of_contexts c.ports.p (cells_of c.ports.ins) contexts) (one_context streams one) ∙ contexts_are_injected.one c.ports.p (cells_of c.ports.ins) (rows_of streams)

  module _ (run : ℕ → ℕ → Bool) (is : IsAigRun aig (rows_of streams) run) where
    -- the bit of an output in a cycle
    bit_at : (j : ℕ) (cell : PortLine) → slice_get c.ports.outs j ≡ Some cell → j < length aig.outputs → (t : ℕ) → t < streams.cycles
        → is_head (driven (due_by c.ports streams) (plane_of c.grid.rows) (c.ports.l + 32 * 0 + t * c.ports.p) (pos cell.x) (pos cell.y)) ≡ run t (get_or aig.outputs j 0)
    bit_at j cell e lt t less =
        ap (λ (due : Due). is_head (driven due (plane_of c.grid.rows) (c.ports.l + 32 * 0 + t * c.ports.p) (pos cell.x) (pos cell.y))) one_due
        ∙ ap (λ g. is_head (driven (drive c.ports (rows_of streams)) (plane_of c.grid.rows) g (pos cell.x) (pos cell.y))) (let same : c.ports.l + 32 * 0 + t * c.ports.p ≡ c.ports.l + t * c.ports.p = omega arith in same)
        ∙ head_is _ (aig_output_bit aig (run t) j) ((carries_aig_cycles text aig c (rows_of streams) aig_rows run is).bits j cell e t (omega (arith, less, many_rows)))
        ∙ get_or-map (run t) aig.outputs j 0 false lt

    shown_out : (j : ℕ) (cell : PortLine) → slice_get c.ports.outs j ≡ Some cell → j < length aig.outputs → shown_at c.ports streams (plane_of c.grid.rows) 0 cell ≡ aig_bits_in_run run streams.cycles (get_or aig.outputs j 0)
    shown_out j cell e lt = same_on_range _ _ streams.cycles (bit_at j cell e lt)

    shown_all : map (shown_at c.ports streams (plane_of c.grid.rows) 0) c.ports.outs ≡ map (aig_bits_in_run run streams.cycles) aig.outputs
    shown_all =
        let left = length-map c.ports.outs (shown_at c.ports streams (plane_of c.grid.rows) 0) in
        same_lists _ _ (left ∙ many_outs ∙ sym (length-map aig.outputs (aig_bits_in_run run streams.cycles)))
        (λ j d lt.
        let low : j < length c.ports.outs = omega (arith, lt, left) in
        let own : j < length aig.outputs = omega (arith, low, many_outs) in
        let cell = get_or c.ports.outs j blank in
        get_or-map (shown_at c.ports streams (plane_of c.grid.rows) 0) c.ports.outs j blank d low
        ∙ shown_out j cell (slice_get-get_or c.ports.outs j blank low) own
        ∙ sym (get_or-map (aig_bits_in_run run streams.cycles) aig.outputs j 0 d own))
      where
        blank : PortLine
        blank = record { x = 0; y = 0; name = [] }

    whole : shown_bits c.ports streams (plane_of c.grid.rows) ≡ map (aig_bits_in_run run streams.cycles) aig.outputs
    whole =
        ap (λ n. flat_map (λ context. map (shown_at c.ports streams (plane_of c.grid.rows) context) c.ports.outs) (range_with_len 0 n)) c.contexts
        ∙ append-nil (map (shown_at c.ports streams (plane_of c.grid.rows) 0) c.ports.outs)
        ∙ shown_all

pub carriers_show_aig_runs : CarriersShowAigRuns
carriers_show_aig_runs text aig s c streams are =
    let found = c.shows.runs (rows_of streams) (aig_rows text aig s c streams are) in record { run = found.0; is_run = found.1; shown = whole text aig s c streams are }
