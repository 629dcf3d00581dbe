-- What `probe` prints of a text that carries the nets of a design in contexts is the lines of a net in runs from their starts.
use Rattle.std.proofs.Common.{ℕ, ◌≡◌, ◌<◌, refl, sym, ap, ◌∙◌, Bool, List, [], ◌∷◌, ◌++◌, length, map, flat_map, zip}
use Rattle.std.specs.List.{range_with_len}
use Rattle.std.specs.Str.{bytes_eq}
use Rattle.std.specs.Prelude.{Some, slice_get}
use Rattle.std.proofs.lemmas.Bool.{and_parts}
use Rattle.std.proofs.lemmas.Slice.Eq.{bytes_eq-Decides}
use Rattle.ww_rule.specs.Grid.{Grid, plane_of}
use Rattle.pattern_reading.specs.declared.ports.NetLine.{NetLine}
use Rattle.pattern_reading.specs.declared.ports.Ports.{Ports}
use Rattle.netlist_core.specs.declared.model.Design.{Design}
use Rattle.netlist_meaning.specs.Valuation.{LatchState, Valuation}
use Rattle.carries.specs.DesignContexts.{CarriesNetsInContexts}
use Rattle.lists.proofs.Members.{got_from}
use Rattle.streams.proofs.Ranges.{flat_map_same}
use Rattle.drive.specs.Driving.{AreFor}
use Rattle.probe_view.specs.Probes.{has_name_and_path, net_named, probed_at, probed_bits}
use Rattle.streams.specs.Cuts.{with_context}
use Rattle.start_words.specs.Starts.{starts_of_words}
use Rattle.shown_runs.specs.ShownRuns.{CarriersShowContexts, CarriersShowNetsInContexts, StreamsAreFor, net_bits_in_run}
use Rattle.blifww_tool.specs.Lines.{bits_line, context_line}
use Rattle.blifww_tool.specs.Probing.{PrintsProbe, net_text}
use Rattle.program_laws.specs.PrintsAlike.{AreRunsOn, CarriersPrintNetsInContexts, CompiledPrintNets, lines_of_net}
use Rattle.program_laws.proofs.Fed.{as_many, feeds, for_table, is_start, own_run, read, start_of}
use Rattle.program_laws.proofs.PrintsNet.{found}

-- a line for each pair of a name and bits
lines_of_pairs : (name : ℕ → List ℕ) (bits : ℕ → List Bool) (contexts : List ℕ)
    → flat_map (λ p. bits_line p.0 p.1) (zip (map name contexts) (map bits contexts)) ≡ flat_map (λ context. bits_line (name context) (bits context)) contexts
lines_of_pairs name bits [] = refl
lines_of_pairs name bits (context ∷ contexts) = ap (λ (l : List ℕ). bits_line (name context) (bits context) ++ l) (lines_of_pairs name bits contexts)

net_lines : (contexts : ℕ) (name : List ℕ) (bits given : ℕ → List Bool) → ((context : ℕ) → context < contexts → bits context ≡ given context)
    → net_text contexts name (map bits (range_with_len 0 contexts)) ≡ flat_map (λ context. context_line contexts context name (given context)) (range_with_len 0 contexts)
net_lines contexts name bits given same =
    lines_of_pairs (λ context. with_context contexts context name) bits (range_with_len 0 contexts)
    ∙ flat_map_same (λ context. context_line contexts context name (bits context)) (λ context. context_line contexts context name (given context)) contexts
    (λ context less. ap (context_line contexts context name) (same context less))

-- the lines of a line's net, in any such runs
pub lines_probed : (law : CarriersShowNetsInContexts) → (streams_for : StreamsAreFor) → (text : List ℕ) (design : Design) (starts : List LatchState) (c : CarriesNetsInContexts text design starts)
    (cycles : ℕ) (name path : List ℕ) (words : List (List ℕ)) (output : List ℕ) (printed : PrintsProbe cycles name path words text output)
    (number : ℕ) (line : NetLine) (at : slice_get c.carried.ports.nets number ≡ Some line) → printed.probes.probed.net ≡ line
    → (others : ℕ → ℕ → Valuation) → AreRunsOn design starts printed.probes.simulation.streams others
    → output ≡ lines_of_net (length starts) name (law text design starts c number line at).0 cycles others
lines_probed law streams_for text design starts c cycles name path words output printed number line at is_line others are_others =
    let probes = printed.probes in
    let s = probes.simulation in
    let k = c.carried in
    let same = read streams_for text design starts k cycles words s probes.is in
    let many : s.ports.c ≡ length starts = as_many streams_for text design starts k cycles words s probes.is in
    let are : AreFor k.ports s.streams = for_table streams_for text design starts k cycles words s probes.is in
    let (net, of_net, shown) = law text design starts c number line at in
    printed.lines
    ∙ ap (net_text s.ports.c name) (probes.probed.bits_are
    ∙ ap (λ (l : NetLine). probed_bits s.ports s.streams (plane_of s.grid.rows) l) is_line
    ∙ ap (λ (p : Ports). probed_bits p s.streams (plane_of s.grid.rows) line) (sym same.1)
    ∙ ap (λ (grid : Grid). probed_bits k.ports s.streams (plane_of grid.rows) line) (sym same.0)
    ∙ ap (λ (n : ℕ). map (λ context. probed_at k.ports s.streams (plane_of k.grid.rows) context line) (range_with_len 0 n)) k.contexts)
    ∙ ap (λ (n : ℕ). net_text n name (map (λ context. probed_at k.ports s.streams (plane_of k.grid.rows) context line) (range_with_len 0 (length starts)))) many
    ∙ net_lines (length starts) name (λ context. probed_at k.ports s.streams (plane_of k.grid.rows) context line) (λ context. net_bits_in_run (others context) s.streams.cycles net)
    (λ context less.
    shown s.streams are context (start_of text design starts k s.streams are others are_others context)
    (is_start text design starts k s.streams are others are_others context less)
    (others context)
    (own_run text design starts k s.streams are others are_others context less))
    ∙ ap (λ (n : ℕ). lines_of_net (length starts) name net n others) probes.is.many

pub carriers_print_nets_in_contexts : CarriersShowNetsInContexts → CarriersShowContexts → StreamsAreFor → CarriersPrintNetsInContexts
carriers_print_nets_in_contexts law shows streams_for text design starts c cycles name path words output printed =
    let probes = printed.probes in
    let s = probes.simulation in
    let k = c.carried in
    let same = read streams_for text design starts k cycles words s probes.is in
    let are : AreFor k.ports s.streams = for_table streams_for text design starts k cycles words s probes.is in
    let line : NetLine = probes.probed.net in
    let there : net_named k.ports name path ≡ Some line = ap (λ (p : Ports). net_named p name path) same.1 ∙ probes.probed.is_there in
    let passing = found (has_name_and_path name path) k.ports.nets line there in
    let equal = and_parts (bytes_eq line.name name) (bytes_eq line.path path) passing.1 in
    let at = got_from k.ports.nets line passing.0 in
    let (net, of_net, shown) = law text design starts c at.0 line at.1 in
    let ran = shows text design starts k s.streams are in
    record {
      fed = s.streams;
      feeds = feeds streams_for text design starts k cycles words s probes.is;
      runs = ran.runs;
      are_runs = ran.are_runs;
      net = net;
      is_net = of_net.is_net;
      no_clock = of_net.no_clock;
      named = sym of_net.name ∙ (bytes_eq-Decides line.name name).0 equal.0;
      placed = sym of_net.path ∙ (bytes_eq-Decides line.path path).0 equal.1;
      lines = lines_probed law streams_for text design starts c cycles name path words output printed at.0 line at.1 refl;
    }

pub compiled_print_nets : CarriersShowNetsInContexts → CarriersShowContexts → StreamsAreFor → CompiledPrintNets
compiled_print_nets law shows streams_for contexts starts netlist text compiled = (
  compiled.design,
  compiled.has.netlist,
  carriers_print_nets_in_contexts law shows streams_for text compiled.design (starts_of_words compiled.design starts contexts) compiled.nets,
)
