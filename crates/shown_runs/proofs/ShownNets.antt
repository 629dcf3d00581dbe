-- The bits that the cell of a net's line shows are those of the net in a run of the design.
use Rattle.std.proofs.Common.{ℕ, ◌≡◌, ◌<◌, ◌+◌, ◌*◌, Bool, refl, sym, ap, ◌∙◌, subst, inl, inr, List, [], ◌∷◌, length, map, get_or, pos, arith}
use Rattle.std.specs.Prelude.{Some, slice_get}
use Rattle.std.specs.List.{range_with_len}
use Rattle.std.proofs.lemmas.List.{length-map, get_or-map}
use Rattle.std.proofs.lemmas.Option.{slice_get-get_or, slice_get_within, get_or_from_slice_get}
use Rattle.ww_rule.specs.Grid.{plane_of}
use Rattle.pattern_reading.specs.declared.ports.NetLine.{NetLine}
use Rattle.place_paths.specs.Paths.{name_and_path}
use Rattle.netlist_core.specs.declared.model.Design.{Design}
use Rattle.netlist_core.specs.Names.{Name}
use Rattle.netlist_meaning.specs.Nets.{Net, net_at, IsClockNet}
use Rattle.netlist_meaning.specs.InOrder.{nets_in_order}
use Rattle.netlist_meaning.specs.Valuation.{Valuation, LatchState, IsRun, IsRunFrom, start_state}
use Rattle.flat_designs.proofs.Listed.{net_is}
use Rattle.lists.proofs.Members.{In, in_got}
use Rattle.carries.specs.Nets.{CarriesNets, WithoutClocks}
use Rattle.carries.specs.DesignContexts.{CarriesNetsInContexts}
use Rattle.carries.proofs.ContextCycles.{carries_nets_of_each_context}
use Rattle.carries.proofs.OneContext.{nets_to_contexts}
use Rattle.streams.specs.declared.streams.Streams.{Streams}
use Rattle.streams.specs.Rows.{contexts_of, in_context, rows_of}
use Rattle.drive.specs.Driving.{AreFor, driven_by}
use Rattle.netlist_run.proofs.Ran.{same_on_range}
use Rattle.probe_view.specs.Probes.{probed_at}
use Rattle.shown_runs.specs.ShownRuns.{IsLineOf, net_bits_in_run, CarriersShowNets, CarriersShowNetsInContexts}
use Rattle.shown_runs.proofs.Shown.{all_rows, as_context}
use Rattle.shown_runs.proofs.ShownContexts.{contexts, head_is, own_rows}

-- what is kept of a list is of it, and is no clock net
kept : (design : Design) (nets rest : List Net) (net : Net) → WithoutClocks design nets rest → In net rest → In net nets × ¬ IsClockNet design net
kept design [] rest net WithoutClocks.none i = absurd i
kept design (first ∷ nets) rest net (WithoutClocks.kept free more) (inl same) = (inl same, λ clock. free (subst (IsClockNet design) same clock))
kept design (first ∷ nets) rest net (WithoutClocks.kept {rest = others} free more) (inr i) = let found = kept design nets others net more i in (inr found.0, found.1)
kept design (first ∷ nets) rest net (WithoutClocks.left_out clock more) i = let found = kept design nets rest net more i in (inr found.0, found.1)

module _ (text : List ℕ) (design : Design) (starts : List LatchState) (c : CarriesNetsInContexts text design starts) (number : ℕ) (line : NetLine) (at : slice_get c.carried.ports.nets number ≡ Some line) where
  abbrev any : Net
  any = net_at [] []

  abbrev net : Net
  net = get_or c.nets number any

  abbrev line_place : NetLine → Name × List ℕ
  line_place line = (line.name, line.path)

  abbrev net_place : Net → Name × List ℕ
  net_place net = name_and_path net.place net.name

  within : number < length c.nets
  within =
      let low : number < length c.carried.ports.nets = slice_get_within c.carried.ports.nets number line at in
      let lines : length (map line_place c.carried.ports.nets) ≡ length c.carried.ports.nets = length-map c.carried.ports.nets line_place in
      let nets : length (map net_place c.nets) ≡ length c.nets = length-map c.nets net_place in
      let same : length (map line_place c.carried.ports.nets) ≡ length (map net_place c.nets) = ap length c.names in
      omega (arith, low, lines, nets, same)

  is_net : slice_get c.nets number ≡ Some net
  is_net = slice_get-get_or c.nets number any within

  named : line_place line ≡ net_place net
  named =
      ap line_place (sym (get_or_from_slice_get c.carried.ports.nets number line line at))
      ∙ sym (get_or-map line_place c.carried.ports.nets number line ([], []) (slice_get_within c.carried.ports.nets number line at))
      ∙ ap (λ names. get_or names number ([], [])) c.names
      ∙ get_or-map net_place c.nets number any ([], []) within

  pub line_of : IsLineOf design line net
  line_of =
      let found = kept design (nets_in_order design) c.nets net c.are_nets (in_got c.nets number net is_net) in
      record { is_net = net_is design net found.0; no_clock = found.1; name = ap (λ p. p.0) named; path = ap (λ p. p.1) named }

  pub shown_in_context : (streams : Streams) → AreFor c.carried.ports streams → (context : ℕ) (start : LatchState) → slice_get starts context ≡ Some start
      → (run : ℕ → Valuation) → IsRunFrom design start (rows_of (in_context streams context)) run
      → probed_at c.carried.ports streams (plane_of c.carried.grid.rows) context line ≡ net_bits_in_run run streams.cycles net
  shown_in_context streams are context start is_start run is = same_on_range _ _ streams.cycles (λ t less.
      head_is (driven_by c.carried.ports streams (plane_of c.carried.grid.rows) (line.offset + 32 * context + t * c.carried.ports.p) (pos line.x) (pos line.y)) (run t net.place net.name)
      (carries_nets_of_each_context text design starts c streams.cycles (contexts_of streams) (contexts text design starts c.carried streams are) context start is_start run
      (subst (λ (rows : List (List Bool)). IsRunFrom design start rows run) (sym (own_rows text design starts c.carried streams are context start is_start)) is)
      number net line is_net at t less))

pub carriers_show_nets_in_contexts : CarriersShowNetsInContexts
carriers_show_nets_in_contexts text design starts c number line at =
    (net text design starts c number line at, line_of text design starts c number line at, shown_in_context text design starts c number line at)

-- what carries the nets of a design carries them in one context
abbrev nets_as_context : {text : List ℕ} {design : Design} → CarriesNets text design → CarriesNetsInContexts text design (start_state design ∷ [])
nets_as_context {text} {design} c = record {
  carried = as_context c.carried;
  nets = c.nets;
  are_nets = c.are_nets;
  names = c.names;
  shows = nets_to_contexts (plane_of c.carried.grid.rows) c.carried.ports design c.nets c.shows;
}

pub carriers_show_nets : CarriersShowNets
carriers_show_nets text design c number line at =
    let found = carriers_show_nets_in_contexts text design (start_state design ∷ []) (nets_as_context c) number line at in (
      found.0,
      found.1,
      λ streams are run is.
          ap (λ n. map (λ context. probed_at c.carried.ports streams (plane_of c.carried.grid.rows) context line) (range_with_len 0 n)) c.carried.contexts
          ∙ ap (λ (bits : List Bool). bits ∷ [])
          (found.2 streams are 0 (start_state design) refl run (subst (λ (rows : List (List Bool)). IsRun design rows run) (sym (all_rows text design c.carried streams are)) is)),
    )
