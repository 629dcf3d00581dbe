-- What is printed of a context depends on the bits that the words give it.
use Rattle.std.proofs.Common.{ℕ, zero, suc, ◌≡◌, ◌<◌, ◌+◌, ◌*◌, ◌==◌, refl, sym, ap, ap₂, ◌∙◌, subst, Bool, true, false, cond, List, [], ◌∷◌, ◌++◌, length, map, flat_map, take, drop, get_or, arith}
use Rattle.std.specs.Prelude.{Some, slice_get, unwrap_or}
use Rattle.std.specs.List.{range_with_len}
use Rattle.std.proofs.Math.Nat.{suc-mul, zero-mul}
use Rattle.std.proofs.Math.Seq.{drop-append-add, take_at}
use Rattle.std.proofs.lemmas.Bool.{eq-eqb, eqb-true}
use Rattle.std.proofs.lemmas.List.{append-nil, drop-map, length-map, take-map}
use Rattle.std.proofs.lemmas.List.FromFn.{length-map-range_with_len}
use Rattle.std.proofs.lemmas.Option.{same_Some, get_or_from_slice_get}
use Rattle.lists.proofs.Members.{got_from}
use Rattle.pattern_reading.specs.declared.ports.NetLine.{NetLine}
use Rattle.pattern_reading.specs.declared.ports.Ports.{Ports}
use Rattle.netlist_core.specs.declared.model.Design.{Design}
use Rattle.netlist_core.specs.Names.{Name}
use Rattle.netlist_meaning.specs.Nets.{Net, net_at}
use Rattle.netlist_meaning.specs.Valuation.{LatchState, Valuation, IsRunFrom}
use Rattle.netlist_meaning.proofs.Joined.{in_names_are_one}
use Rattle.streams.specs.declared.streams.Streams.{Streams}
use Rattle.streams.specs.Rows.{contexts_of, in_context, inputs_each, rows_of}
use Rattle.streams.specs.Streams.{Input, bits_for, inputs_of_context, inputs_of_contexts, stream_in, streams_of}
use Rattle.streams.proofs.Contexts.{context_at, inputs_are, inputs_many}
use Rattle.streams.proofs.Ranges.{flat_map_same}
use Rattle.probe_view.specs.Probes.{has_name_and_path, net_named}
use Rattle.carries.specs.DesignContexts.{CarriesNetsInContexts}
use Rattle.netlist_run.specs.Runs.{bits_in_run}
use Rattle.shown_runs.specs.ShownRuns.{CarriersShowContexts, CarriersShowNetsInContexts, StreamsAreFor, net_bits_in_run}
use Rattle.vcd_write.specs.NetWaves.{NetsHaveTheirBits}
use Rattle.start_words.specs.Starts.{start_of_words, starts_of_words}
use Rattle.blifww_tool.specs.Lines.{context_line}
use Rattle.blifww_tool.specs.Evaluation.{FeedsInputs}
use Rattle.program_laws.specs.Isolated.{AgreeOn, CompiledPrintApart, ContextsPrintApart, DumpsApart, NetsPrintApart, ProbesApart, SimulatesApart, lines_of_names}
use Rattle.program_laws.specs.PrintsAlike.{AreRunsOn, PrintsRuns, lines_of_net}
use Rattle.program_laws.proofs.PrintsRuns.{carriers_print_runs}
use Rattle.program_laws.proofs.DumpsNets.{dumped}
use Rattle.program_laws.proofs.Fed.{feeds, for_table, read}
use Rattle.program_laws.proofs.NamedNets.{got_within}
use Rattle.program_laws.proofs.PrintsNet.{found}
use Rattle.program_laws.proofs.PrintsNetInContexts.{lines_probed}

-- ---- the streams of a context

-- part k of parts of one length
part_of : {X : Type 0} (f : ℕ → List X) (n : ℕ) → ((c : ℕ) → length (f c) ≡ n) → (first many k : ℕ) → k < many
    → take n (drop (k * n) (flat_map f (range_with_len first many))) ≡ f (first + k)
part_of f n long first zero k less = absurd (omega (arith, less))
part_of f n long first (suc many) zero less =
    let rest = flat_map f (range_with_len (first + 1) many) in
    let at : first + 0 ≡ first = omega arith in
    ap (λ (m : ℕ). take n (drop m (f first ++ rest))) (zero-mul n) ∙ take_at (f first) rest n (long first) ∙ ap f (sym at)
part_of f n long first (suc many) (suc k) less =
    let rest = flat_map f (range_with_len (first + 1) many) in
    let past : suc k * n ≡ length (f first) + k * n = omega (arith, long first, suc-mul k n) in
    let at : first + 1 + k ≡ first + suc k = omega arith in
    ap (λ (m : ℕ). take n (drop m (f first ++ rest))) past
    ∙ ap (take n) (drop-append-add (f first) rest (k * n))
    ∙ part_of f n long (first + 1) many k (omega (arith, less))
    ∙ ap f at

-- the bits that words give an input
abbrev bits_given : (contexts : ℕ) → List (List ℕ) → Input → List Bool
bits_given contexts words input = stream_in (unwrap_or (bits_for contexts words input) [])

own_streams : (count : ℕ) (words names : List (List ℕ)) (streams : Streams) → streams.c ≡ count → streams.bits ≡ streams_of count words (inputs_of_contexts count names)
    → (context : ℕ) → context < count → (in_context streams context).bits ≡ streams_of count words (inputs_of_context context names)
own_streams count words names streams same are context less =
    let inputs = inputs_of_contexts count names in
    let n : ℕ = length names in
    let many : length streams.bits ≡ streams.c * n =
    ap (λ (b : List (List Bool)). length b) are ∙ length-map inputs (bits_given count words) ∙ inputs_many names count ∙ ap (λ (m : ℕ). m * n) (sym same) in
    let each : inputs_each streams ≡ n = inputs_are streams n (omega (arith, less, same)) many in
    ap (λ (m : ℕ). take m (drop (context * m) streams.bits)) each
    ∙ ap (λ (b : List (List Bool)). take n (drop (context * n) b)) are
    ∙ ap (take n) (drop-map (bits_given count words) (context * n) inputs)
    ∙ take-map (bits_given count words) n (drop (context * n) inputs)
    ∙ ap (map (bits_given count words)) (part_of (λ c. inputs_of_context c names) n (λ c. length-map names (λ name. (c, name))) 0 count context less ∙ ap (λ (c : ℕ). inputs_of_context c names) (let at : 0 + context ≡ context = omega arith in at))

-- words that agree on a context give it the same streams
same_streams : (count context : ℕ) (words others names : List (List ℕ)) → AgreeOn count context words others
    → streams_of count words (inputs_of_context context names) ≡ streams_of count others (inputs_of_context context names)
same_streams count context words others [] agree = refl
same_streams count context words others (name ∷ names) agree =
    ap₂ (λ (b : List Bool) (rest : List (List Bool)). b ∷ rest) (ap (λ bits. stream_in (unwrap_or bits [])) (agree name)) (same_streams count context words others names agree)

-- and the same rows
same_rows : (count cycles context : ℕ) (words others : List (List ℕ)) (design : Design) (fed given : Streams) → FeedsInputs count cycles words design fed → FeedsInputs count cycles others design given
    → context < count → AgreeOn count context words others → rows_of (in_context fed context) ≡ rows_of (in_context given context)
same_rows count cycles context words others design fed given h k less agree =
    let names : h.in_names ≡ k.in_names = in_names_are_one design h.in_names k.in_names h.names k.names in
    let bits : (in_context fed context).bits ≡ (in_context given context).bits =
    own_streams count words h.in_names fed h.contexts h.streams.bits_is context less
    ∙ same_streams count context words others h.in_names agree
    ∙ ap (λ (ns : List Name). streams_of count others (inputs_of_context context ns)) names
    ∙ sym (own_streams count others k.in_names given k.contexts k.streams.bits_is context less) in
    ap₂ (λ (n : ℕ) (b : List (List Bool)). rows_of (record { cycles = n; c = 1; bits = b })) (h.many ∙ sym k.many) bits

-- ---- runs in which one context is another's

-- the runs of one list, but in one context that of another
abbrev but_in : (context : ℕ) → (ℕ → Valuation) → (ℕ → ℕ → Valuation) → ℕ → ℕ → Valuation
but_in context run runs c = cond (c == context) run (runs c)

in_it : (context : ℕ) (run : ℕ → Valuation) (runs : ℕ → ℕ → Valuation) → but_in context run runs context ≡ run
in_it context run runs = ap (λ b. cond b run (runs context)) (eq-eqb context context refl)

-- they are runs on the other streams if the context has the same rows in both
are_runs_too : (design : Design) (starts : List LatchState) (fed given : Streams) (context : ℕ) → context < fed.c → context < given.c → rows_of (in_context fed context) ≡ rows_of (in_context given context)
    → (runs others : ℕ → ℕ → Valuation) → AreRunsOn design starts fed runs → AreRunsOn design starts given others → AreRunsOn design starts given (but_in context (runs context) others)
are_runs_too design starts fed given context low below same runs others are are_others c start is_start = by (c == context) refl
  where
    by : (b : Bool) → (c == context) ≡ b → IsRunFrom design start (get_or (contexts_of given) c []) (cond b (runs context) (others c))
    by false e = are_others c start is_start
    by true e =
        let here : c ≡ context = eqb-true c context e in
        let rows : get_or (contexts_of fed) context [] ≡ get_or (contexts_of given) c [] =
        context_at fed context [] low ∙ same ∙ sym (context_at given context [] below) ∙ ap (λ (n : ℕ). get_or (contexts_of given) n []) (sym here) in
        subst (λ (r : List (List Bool)). IsRunFrom design start r (runs context)) rows
        (are context start (subst (λ (n : ℕ). slice_get starts n ≡ Some start) here is_start))

-- ---- outputs

pub contexts_print_apart : CarriersShowContexts → StreamsAreFor → ContextsPrintApart
contexts_print_apart law streams_for text design starts k cycles words others shown seen printed too context less agree =
    let h : PrintsRuns cycles words design starts shown = carriers_print_runs law streams_for text design starts k cycles words shown printed in
    let l : PrintsRuns cycles others design starts seen = carriers_print_runs law streams_for text design starts k cycles others seen too in
    let same = same_rows (length starts) cycles context words others design h.fed l.fed h.feeds l.feeds less agree in
    let runs : ℕ → ℕ → Valuation = but_in context (h.runs context) l.runs in
    let are : AreRunsOn design starts l.fed runs =
    are_runs_too design starts h.fed l.fed context (omega (arith, less, h.feeds.contexts)) (omega (arith, less, l.feeds.contexts)) same h.runs l.runs h.are_runs l.are_runs in
    let own : (ℕ → Valuation) → Name → List Bool = λ run name. bits_in_run run cycles name in
    record {
      bits = λ c. own (h.runs c);
      others = λ c. own (runs c);
      many = λ c name. length-map-range_with_len _ 0 cycles;
      as_many = λ c name. length-map-range_with_len _ 0 cycles;
      shown_is = h.lines h.runs h.are_runs;
      seen_is = l.lines runs are;
      same = ap own (sym (in_it context (h.runs context) l.runs));
    }

-- ---- nets

-- the lines of one net
lines_of_one : (contexts : ℕ) (name : Name) (net : Net) (cycles : ℕ) (runs : ℕ → ℕ → Valuation)
    → lines_of_net contexts name net cycles runs ≡ lines_of_names contexts (name ∷ []) (λ context own. net_bits_in_run (runs context) cycles net)
lines_of_one contexts name net cycles runs =
    flat_map_same (λ context. context_line contexts context name (net_bits_in_run (runs context) cycles net))
    (λ context. context_line contexts context name (net_bits_in_run (runs context) cycles net) ++ []) contexts
    (λ context less. sym (append-nil (context_line contexts context name (net_bits_in_run (runs context) cycles net))))

probes_apart : CarriersShowNetsInContexts → CarriersShowContexts → StreamsAreFor → (text : List ℕ) (design : Design) (starts : List LatchState) → CarriesNetsInContexts text design starts → ProbesApart text (length starts)
probes_apart law shows streams_for text design starts c cycles name path words others shown seen printed too context less agree =
    let k = c.carried in
    let s = printed.probes.simulation in
    let t = too.probes.simulation in
    let line : NetLine = printed.probes.probed.net in
    let there : net_named k.ports name path ≡ Some line =
    ap (λ (p : Ports). net_named p name path) (read streams_for text design starts k cycles words s printed.probes.is).1 ∙ printed.probes.probed.is_there in
    let there_too : net_named k.ports name path ≡ Some too.probes.probed.net =
    ap (λ (p : Ports). net_named p name path) (read streams_for text design starts k cycles others t too.probes.is).1 ∙ too.probes.probed.is_there in
    let at = got_from k.ports.nets line (found (has_name_and_path name path) k.ports.nets line there).0 in
    let net : Net = (law text design starts c at.0 line at.1).0 in
    let fed : FeedsInputs (length starts) cycles words design s.streams = feeds streams_for text design starts k cycles words s printed.probes.is in
    let given : FeedsInputs (length starts) cycles others design t.streams = feeds streams_for text design starts k cycles others t too.probes.is in
    let ran = shows text design starts k s.streams (for_table streams_for text design starts k cycles words s printed.probes.is) in
    let ran_too = shows text design starts k t.streams (for_table streams_for text design starts k cycles others t too.probes.is) in
    let same = same_rows (length starts) cycles context words others design s.streams t.streams fed given less agree in
    let runs : ℕ → ℕ → Valuation = but_in context (ran.runs context) ran_too.runs in
    let are : AreRunsOn design starts t.streams runs =
    are_runs_too design starts s.streams t.streams context (omega (arith, less, fed.contexts)) (omega (arith, less, given.contexts)) same ran.runs ran_too.runs ran.are_runs ran_too.are_runs in
    let own : (ℕ → Valuation) → Name → List Bool = λ run line_name. net_bits_in_run run cycles net in
    record {
      bits = λ c. own (ran.runs c);
      others = λ c. own (runs c);
      many = λ c line_name. length-map-range_with_len _ 0 cycles;
      as_many = λ c line_name. length-map-range_with_len _ 0 cycles;
      shown_is = lines_probed law streams_for text design starts c cycles name path words shown printed at.0 line at.1 refl ran.runs ran.are_runs ∙ lines_of_one (length starts) name net cycles ran.runs;
      seen_is =
          lines_probed law streams_for text design starts c cycles name path others seen too at.0 line at.1 (same_Some too.probes.probed.net line (sym there_too ∙ there)) runs are
          ∙ lines_of_one (length starts) name net cycles runs;
      same = ap own (sym (in_it context (ran.runs context) ran_too.runs));
    }

dumps_apart : NetsHaveTheirBits → CarriersShowContexts → StreamsAreFor → (text : List ℕ) (design : Design) (starts : List LatchState) → CarriesNetsInContexts text design starts → DumpsApart text design (length starts)
unfolding dumped
dumps_apart their_bits shows streams_for text design starts c = (
  c.nets,
  c.are_nets,
  λ cycles words others shown seen printed too context less agree.
      let h = dumped their_bits shows streams_for text design starts c cycles words shown printed in
      let l = dumped their_bits shows streams_for text design starts c cycles others seen too in
      let same = same_rows (length starts) cycles context words others design h.fed l.fed h.feeds l.feeds less agree in
      let runs : ℕ → ℕ → Valuation = but_in context (h.runs context) l.runs in
      let are : AreRunsOn design starts l.fed runs =
      are_runs_too design starts h.fed l.fed context (omega (arith, less, h.feeds.contexts)) (omega (arith, less, l.feeds.contexts)) same h.runs l.runs h.are_runs l.are_runs in
      record {
        form = h.form;
        other = l.form;
        reads = h.reads;
        reads_too = l.reads;
        variables = h.variables;
        variables_too = l.variables;
        ends = h.ends;
        ends_too = l.ends;
        bit = λ number cycle. h.runs context cycle (get_or c.nets number (net_at [] [])).place (get_or c.nets number (net_at [] [])).name;
        gives = λ number cycle low early.
            let (net, at) = got_within c.nets number low in
            h.bits number net at context less h.runs h.are_runs cycle early
            ∙ ap (λ (n : Net). Some (h.runs context cycle n.place n.name)) (sym (get_or_from_slice_get c.nets number net (net_at [] []) at));
        gives_too = λ number cycle low early.
            let (net, at) = got_within c.nets number low in
            l.bits number net at context less runs are cycle early
            ∙ ap (λ (run : ℕ → Valuation). Some (run cycle net.place net.name)) (in_it context (h.runs context) l.runs)
            ∙ ap (λ (n : Net). Some (h.runs context cycle n.place n.name)) (sym (get_or_from_slice_get c.nets number net (net_at [] []) at));
      },
)

pub nets_print_apart : NetsHaveTheirBits → CarriersShowNetsInContexts → CarriersShowContexts → StreamsAreFor → NetsPrintApart
nets_print_apart their_bits law shows streams_for text design starts c = (probes_apart law shows streams_for text design starts c, dumps_apart their_bits shows streams_for text design starts c)

-- ---- what `compile` writes

pub compiled_print_apart : NetsHaveTheirBits → CarriersShowNetsInContexts → CarriersShowContexts → StreamsAreFor → CompiledPrintApart
compiled_print_apart their_bits law shows streams_for contexts starts netlist text compiled =
    let design : Design = compiled.design in
    let states : List LatchState = starts_of_words design starts contexts in
    let many : length states ≡ contexts = length-map-range_with_len (start_of_words design starts) 0 contexts in (
      design,
      compiled.has.netlist,
      subst (λ (n : ℕ). SimulatesApart text design n) many (contexts_print_apart shows streams_for text design states compiled.carries),
      subst (λ (n : ℕ). ProbesApart text n) many (probes_apart law shows streams_for text design states compiled.nets),
      subst (λ (n : ℕ). DumpsApart text design n) many (dumps_apart their_bits shows streams_for text design states compiled.nets),
    )
