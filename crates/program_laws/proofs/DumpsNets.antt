-- What `vcd` writes of a text that carries the nets of a design is the nets' bits in its runs.
use Rattle.std.proofs.Common.{ℕ, zero, suc, ◌≡◌, ◌<◌, ◌≤◌, ◌+◌, ◌*◌, sym, ap, ◌∙◌, subst, Bool, false, List, [], ◌++◌, length, map, flat_map, get_or, length-append, arith}
use Rattle.std.specs.List.{range_with_len}
use Rattle.std.specs.Prelude.{Some, slice_get}
use Rattle.std.proofs.Math.Nat.{mul-le-mul_right, suc-mul, zero-mul}
use Rattle.std.proofs.lemmas.List.{length-map, same_lists}
use Rattle.std.proofs.lemmas.List.FromFn.{get_or-map-range_with_len, length-map-range_with_len}
use Rattle.std.proofs.lemmas.Option.{get_or_from_slice_get, slice_get-get_or, slice_get_within}
use Rattle.std.proofs.lemmas.Simd.{map-map}
use Rattle.ww_rule.specs.Grid.{Grid, plane_of}
use Rattle.pattern_reading.specs.declared.ports.NetLine.{NetLine}
use Rattle.pattern_reading.specs.declared.ports.Ports.{Ports}
use Rattle.netlist_core.specs.declared.model.Design.{Design}
use Rattle.netlist_core.specs.Names.{Name}
use Rattle.netlist_meaning.specs.Nets.{Net, net_at}
use Rattle.netlist_meaning.specs.Valuation.{LatchState, Valuation}
use Rattle.place_paths.specs.Paths.{name_and_path, names_and_paths}
use Rattle.streams.specs.Cuts.{with_context}
use Rattle.carries.specs.DesignContexts.{CarriesContexts, CarriesNetsInContexts}
use Rattle.streams.proofs.Ranges.{flat_map_same}
use Rattle.drive.specs.Driving.{AreFor}
use Rattle.drive.proofs.Ranges.{map-flat_map}
use Rattle.probe_view.specs.Probes.{probed_at}
use Rattle.shown_runs.specs.ShownRuns.{CarriersShowContexts, StreamsAreFor, net_bits_in_run}
use Rattle.shown_runs.proofs.ShownNets.{shown_in_context}
use Rattle.vcd_write.specs.Reading.{VcdVar, ReadsAsVcd, value_at}
use Rattle.vcd_write.specs.References.{escaped_reference}
use Rattle.vcd_write.specs.Writing.{Waves, var_of, vcd_form, vcd_id}
use Rattle.vcd_write.specs.NetWaves.{NetInContext, NetsHaveTheirBits, nets_in, nets_in_contexts, path_before, reference_of}
use Rattle.blifww_tool.specs.Dumping.{Dumps, waves_of}
use Rattle.blifww_tool.specs.Simulation.{Simulation, IsSimulation}
use Rattle.start_words.specs.Starts.{starts_of_words}
use Rattle.program_laws.specs.PrintsAlike.{AreRunsOn}
use Rattle.program_laws.specs.DumpsNets.{CarriersDumpNets, CompiledDumpNets, DumpsNets, HasVariables, net_reference, net_references}
use Rattle.program_laws.proofs.Fed.{as_many, feeds, for_table, is_start, own_run, read, start_of}
use Rattle.program_laws.proofs.NamedNets.{as_many_lines, line_of_net}

-- each context has a variable for each net
variables_many : (nets : List NetLine) (first many : ℕ) → length (flat_map (λ c. nets_in c nets) (range_with_len first many)) ≡ many * length nets
variables_many nets first zero = sym (zero-mul (length nets))
variables_many nets first (suc many) =
    let rest : List NetInContext = flat_map (λ c. nets_in c nets) (range_with_len (first + 1) many) in
    let here : length (nets_in first nets) ≡ length nets = length-map nets (λ net. record { context = first; net = net }) in
    omega (arith, length-append (nets_in first nets) rest, here, variables_many nets (first + 1) many, suc-mul many (length nets))

-- a net's variable is one of the dump's
pub is_variable : (s : Simulation) (context number : ℕ) → context < s.ports.c → number < length s.ports.nets
    → context * length s.ports.nets + number < length (waves_of s).references
is_variable s context number low within =
    let all : length (waves_of s).references ≡ length (nets_in_contexts s.ports) = length-map (nets_in_contexts s.ports) (reference_of s.ports.c) in
    let many : length (nets_in_contexts s.ports) ≡ s.ports.c * length s.ports.nets = variables_many s.ports.nets 0 s.ports.c in
    let next : suc context ≤ s.ports.c = omega (arith, low) in
    let after : suc context * length s.ports.nets ≤ s.ports.c * length s.ports.nets = mul-le-mul_right (length s.ports.nets) next in
    omega (arith, within, all, many, after, suc-mul context (length s.ports.nets))

-- a net's bit in a cycle of a run
bit_in_run : (run : ℕ → Valuation) (cycles cycle : ℕ) (net : Net) → cycle < cycles → get_or (net_bits_in_run run cycles net) cycle false ≡ run cycle net.place net.name
bit_in_run run cycles cycle net low = get_or-map-range_with_len (λ t. run t net.place net.name) 0 cycles cycle cycle false low (omega arith)

-- ---- the variables of a dump

-- where there is an element, no default is got
one_default : {X : Type 0} (xs : List X) (k : ℕ) (d e : X) → k < length xs → get_or xs k d ≡ get_or xs k e
one_default xs k d e low = sym (get_or_from_slice_get xs k (get_or xs k d) e (slice_get-get_or xs k d low))

-- elements by their numbers are the list
got_each : {X : Type 0} (xs : List X) (d : X) → map (λ n. get_or xs n d) (range_with_len 0 (length xs)) ≡ xs
got_each xs d =
    let many : length (map (λ n. get_or xs n d) (range_with_len 0 (length xs))) ≡ length xs = length-map-range_with_len (λ n. get_or xs n d) 0 (length xs) in
    same_lists _ xs many
    (λ k e low.
    let less : k < length xs = omega (arith, low, many) in
    get_or-map-range_with_len (λ n. get_or xs n d) 0 (length xs) k k e less (omega arith) ∙ one_default xs k d e less)

-- the form of waves has their variables
pub has_variables : (w : Waves) → HasVariables (vcd_form w) w.references
has_variables w = record {
  shown_as = map-map (λ (var : VcdVar). var.reference) (var_of w) (range_with_len 0 (length w.references)) ∙ got_each w.references [];
  ids = map-map (λ (var : VcdVar). var.id) (var_of w) (range_with_len 0 (length w.references));
}

-- a line's reference is that of its net
line_reference : (contexts context : ℕ) → Name × List ℕ → List ℕ
line_reference contexts context named = with_context contexts context (path_before named.1 ++ escaped_reference named.0)

-- lines that name nets have their references
references_are : (ports : Ports) (nets : List Net) → names_and_paths ports.nets ≡ map (λ net. name_and_path net.place net.name) nets → map (reference_of ports.c) (nets_in_contexts ports) ≡ net_references ports.c nets
unfolding line_reference
references_are ports nets named =
    map-flat_map (reference_of ports.c) (λ context. nets_in context ports.nets) (range_with_len 0 ports.c)
    ∙ flat_map_same (λ context. map (reference_of ports.c) (nets_in context ports.nets)) (λ context. map (net_reference ports.c context) nets) ports.c
    (λ context less.
    map-map (reference_of ports.c) (λ (net : NetLine). record { context = context; net = net }) ports.nets
    ∙ sym (map-map (line_reference ports.c context) (λ (line : NetLine). (line.name, line.path)) ports.nets)
    ∙ ap (map (line_reference ports.c context)) named
    ∙ map-map (line_reference ports.c context) (λ (net : Net). name_and_path net.place net.name) nets)

-- ---- a dump of a text that carries nets

module _ (their_bits : NetsHaveTheirBits) (shows : CarriersShowContexts) (streams_for : StreamsAreFor) (text : List ℕ) (design : Design) (starts : List LatchState) (c : CarriesNetsInContexts text design starts) (cycles : ℕ) (words : List (List ℕ)) (output : List ℕ) (printed : Dumps cycles words text output) where
  abbrev k : CarriesContexts text design starts
  k = c.carried

  abbrev s : Simulation
  s = printed.simulation

  abbrev is : IsSimulation cycles words text s
  is = printed.runs.is

  same : (k.grid ≡ s.grid) × (k.ports ≡ s.ports)
  same = read streams_for text design starts k cycles words s is

  many : s.ports.c ≡ length starts
  many = as_many streams_for text design starts k cycles words s is

  pub are : AreFor k.ports s.streams
  are = for_table streams_for text design starts k cycles words s is

  pub variables : HasVariables (vcd_form (waves_of s)) (net_references (length starts) c.nets)
  variables =
      let named : names_and_paths s.ports.nets ≡ map (λ net. name_and_path net.place net.name) c.nets = ap (λ (p : Ports). names_and_paths p.nets) (sym same.1) ∙ c.names in
      subst (λ (references : List (List ℕ)). HasVariables (vcd_form (waves_of s)) references)
      (references_are s.ports c.nets named ∙ ap (λ (n : ℕ). net_references n c.nets) many) (has_variables (waves_of s))

  pub bits : (number : ℕ) (net : Net) → slice_get c.nets number ≡ Some net → (context : ℕ) → context < length starts → (others : ℕ → ℕ → Valuation) → AreRunsOn design starts s.streams others
      → (cycle : ℕ) → cycle < cycles → value_at (vcd_form (waves_of s)) (vcd_id (context * length c.nets + number)) cycle ≡ Some (others context cycle net.place net.name)
  bits number net at context less others are_others cycle low =
      let (line, here) = line_of_net text design starts c number net at in
      let there : slice_get s.ports.nets number ≡ Some line = ap (λ (p : Ports). slice_get p.nets number) (sym same.1) ∙ here in
      let inside : context < s.ports.c = omega (arith, less, many) in
      let early : cycle < s.streams.cycles = omega (arith, low, is.many) in
      let as_many_nets : length c.nets ≡ length s.ports.nets = sym (as_many_lines text design starts c) ∙ ap (λ (p : Ports). length p.nets) same.1 in
      ap (λ (n : ℕ). value_at (vcd_form (waves_of s)) (vcd_id (context * n + number)) cycle) as_many_nets
      ∙ printed.says.bits (context * length s.ports.nets + number) cycle (is_variable s context number inside (slice_get_within s.ports.nets number line there)) early
      ∙ ap Some (
      their_bits s.ports s.streams (plane_of s.grid.rows) context number line cycle inside there
      ∙ ap (λ (p : Ports). get_or (probed_at p s.streams (plane_of s.grid.rows) context line) cycle false) (sym same.1)
      ∙ ap (λ (grid : Grid). get_or (probed_at k.ports s.streams (plane_of grid.rows) context line) cycle false) (sym same.0)
      ∙ ap (λ (shown : List Bool). get_or shown cycle false)
      (shown_in_context text design starts c number line here s.streams are context (start_of text design starts k s.streams are others are_others context)
      (is_start text design starts k s.streams are others are_others context less)
      (others context)
      (own_run text design starts k s.streams are others are_others context less))
      ∙ ap (λ (n : Net). get_or (net_bits_in_run (others context) s.streams.cycles n) cycle false) (get_or_from_slice_get c.nets number net (net_at [] []) at)
      ∙ bit_in_run (others context) s.streams.cycles cycle net early)

  unfoldable pub dumped : DumpsNets cycles words design starts output
  dumped =
      let ran = shows text design starts k s.streams are in
      record {
        fed = s.streams;
        feeds = feeds streams_for text design starts k cycles words s is;
        runs = ran.runs;
        are_runs = ran.are_runs;
        form = vcd_form (waves_of s);
        reads = subst (λ (t : List ℕ). ReadsAsVcd t (vcd_form (waves_of s))) (sym printed.written) printed.says.reads;
        nets = c.nets;
        are_nets = c.are_nets;
        variables = variables;
        ends = printed.says.ends ∙ is.many;
        bits = bits;
      }

pub carriers_dump_nets : NetsHaveTheirBits → CarriersShowContexts → StreamsAreFor → CarriersDumpNets
carriers_dump_nets their_bits shows streams_for text design starts c cycles words output printed = dumped their_bits shows streams_for text design starts c cycles words output printed

pub compiled_dump_nets : NetsHaveTheirBits → CarriersShowContexts → StreamsAreFor → CompiledDumpNets
compiled_dump_nets their_bits shows streams_for contexts starts netlist text compiled = (
  compiled.design,
  compiled.has.netlist,
  carriers_dump_nets their_bits shows streams_for text compiled.design (starts_of_words compiled.design starts contexts) compiled.nets,
)
