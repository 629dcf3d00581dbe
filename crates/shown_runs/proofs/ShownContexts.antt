-- The bits that a pattern shows in each context are those of a run of its design.
use Rattle.std.proofs.Common.{ℕ, ◌≡◌, ◌+◌, ◌*◌, ◌<◌, suc, refl, sym, ap, ap₂, ◌∙◌, subst, Bool, true, false, true≢false, List, [], ◌∷◌, ◌++◌, length, map, flat_map, get_or, arith}
use Rattle.std.specs.Prelude.{◌↔◌, All, pos, Some, slice_get}
use Rattle.std.specs.List.{range_with_len}
use Rattle.std.proofs.lemmas.List.{length-map, get_or-map}
use Rattle.std.proofs.lemmas.List.Elements.{All-map}
use Rattle.std.proofs.lemmas.Option.{slice_get-get_or, slice_get_within}
use Rattle.ww_rule.specs.declared.pattern.State.{State}
use Rattle.ww_rule.specs.declared.pattern.State.TheVariants.{Empty, Head, Tail, Conductor}
use Rattle.ww_rule.specs.Wireworld.{Plane, is_head}
use Rattle.ww_rule.specs.Grid.{plane_of}
use Rattle.pattern_reading.specs.declared.ports.Ports.{Ports}
use Rattle.pattern_reading.specs.declared.ports.PortLine.{PortLine}
use Rattle.pattern_reading.specs.Ports.{names_of}
use Rattle.netlist_core.specs.declared.model.Design.{Design}
use Rattle.netlist_core.specs.Names.{Name}
use Rattle.netlist_meaning.specs.Places.{main_outputs}
use Rattle.netlist_meaning.specs.Valuation.{Valuation, LatchState, AreInputRows, IsRunFrom, output_bit, start_state}
use Rattle.carries.specs.Carries.{NamesPorts}
use Rattle.carries.specs.Contexts.{AreRunsFrom}
use Rattle.carries.specs.DesignContexts.{AreInputContexts, CarriesContexts}
use Rattle.carries.specs.ContextLaws.{ShowsContextCycles}
use Rattle.carries.proofs.ContextCycles.{carries_each_context}
use Rattle.streams.specs.declared.streams.Streams.{Streams}
use Rattle.streams.specs.Rows.{contexts_of, in_context, rows_of, stream_row}
use Rattle.streams.proofs.Contexts.{context_at, contexts_long, contexts_many, row_long}
use Rattle.streams.proofs.Ranges.{flat_map_same}
use Rattle.drive.specs.Driving.{AreFor, driven_by, shown_at, shown_bits}
use Rattle.netlist_run.specs.Runs.{bits_in_run}
use Rattle.netlist_run.proofs.Ran.{same_on_range}
use Rattle.shown_runs.specs.ShownRuns.{CarriersShowContexts, ShowsTheRun}

-- a head exactly where a bit is 1
pub head_is : (state : State) (bit : Bool) → (state ≡ Head) ↔ (bit ≡ true) → is_head state ≡ bit
head_is state true same = ap is_head (same.1 refl)
head_is Empty false same = refl
head_is Head false same = absurd (true≢false (sym (same.0 refl)))
head_is Tail false same = refl
head_is Conductor false same = refl

-- in the order of the outputs
pub same_in : (f : PortLine → List Bool) (g : Name → List Bool) (outs : List PortLine) → All (λ out. f out ≡ g out.name) outs → map f outs ≡ map g (names_of outs)
same_in f g [] h = refl
same_in f g (out ∷ outs) h = ap₂ (λ (bits : List Bool) (rest : List (List Bool)). bits ∷ rest) (h 0 out (omega arith)) (same_in f g outs (λ k d lt. h (suc k) d (omega (arith, lt))))

pub same_lines : (line : Name → List Bool → List ℕ) (f : PortLine → List Bool) (g : Name → List Bool) (outs : List PortLine) → All (λ out. f out ≡ g out.name) outs
    → flat_map (λ out. line out.name (f out)) outs ≡ flat_map (λ name. line name (g name)) (names_of outs)
same_lines line f g [] h = refl
same_lines line f g (out ∷ outs) h = ap₂ (λ (bits : List Bool) (rest : List ℕ). line out.name bits ++ rest) (h 0 out (omega arith)) (same_lines line f g outs (λ k d lt. h (suc k) d (omega (arith, lt))))

-- streams for a table's inputs are rows of input bits for each context
pub input_contexts : (design : Design) (ports : Ports) (count : ℕ) (streams : Streams) → NamesPorts ports design → ports.c ≡ count → AreFor ports streams → AreInputContexts design count streams.cycles (contexts_of streams)
input_contexts design ports count streams named many are = record {
  many = contexts_many streams ∙ are.same ∙ many;
  long = contexts_long streams;
  each = λ k d lt. let less : k < streams.c = subst (λ n. k < n) (contexts_many streams) lt in subst (AreInputRows design) (sym (context_at streams k d less)) (rows k less);
}
  where
    bits : length streams.bits ≡ streams.c * length ports.ins
    bits = are.many ∙ ap (λ n. n * length ports.ins) (sym are.same)

    rows : (k : ℕ) → k < streams.c → AreInputRows design (rows_of (in_context streams k))
    rows k less = (
      names_of ports.ins,
      named.ins,
      All-map (λ (row : List Bool). length row ≡ length (names_of ports.ins)) (stream_row (in_context streams k)) (range_with_len 0 streams.cycles)
          (λ j d lt. row_long streams (length ports.ins) k _ less bits ∙ sym (length-map ports.ins (λ (line : PortLine). line.name))),
    )

module _ (text : List ℕ) (design : Design) (starts : List LatchState) (k : CarriesContexts text design starts) (streams : Streams) (are : AreFor k.ports streams) where
  abbrev pub plane : Plane
  plane = plane_of k.grid.rows

  pub contexts : AreInputContexts design (length starts) streams.cycles (contexts_of streams)
  contexts = input_contexts design k.ports (length starts) streams k.names k.contexts are

  pub low : (context : ℕ) → context < length starts → context < streams.c
  low context less = subst (λ n. context < n) (sym (are.same ∙ k.contexts)) less

  -- the rows of a context
  pub own_rows : (context : ℕ) (start : LatchState) → slice_get starts context ≡ Some start → get_or (contexts_of streams) context [] ≡ rows_of (in_context streams context)
  own_rows context start is_start = context_at streams context [] (low context (slice_get_within starts context start is_start))

  module _ (context : ℕ) (start : LatchState) (is_start : slice_get starts context ≡ Some start) (run : ℕ → Valuation) (is : IsRunFrom design start (rows_of (in_context streams context)) run) where
    cycles : ShowsContextCycles k streams.cycles (contexts_of streams) context run
    cycles =
        carries_each_context text design starts k streams.cycles (contexts_of streams) contexts context start is_start run
        (subst (λ (rows : List (List Bool)). IsRunFrom design start rows run) (sym (own_rows context start is_start)) is)

    -- the bit of an output is that of its name
    bit_of : (j : ℕ) (d : PortLine) → j < length k.ports.outs → (t : ℕ) → output_bit design (run t) j ≡ run t [] (get_or k.ports.outs j d).name
    bit_of j d lt t =
        ap (λ (names : List Name). get_or (map (run t []) names) j false) (sym k.names.outs)
        ∙ get_or-map (run t []) (names_of k.ports.outs) j d.name false (subst (λ (n : ℕ). j < n) (sym (length-map k.ports.outs (λ (line : PortLine). line.name))) lt)
        ∙ ap (run t []) (get_or-map (λ (line : PortLine). line.name) k.ports.outs j d d.name lt)

    shown_in : (j : ℕ) (d : PortLine) → j < length k.ports.outs → (t : ℕ) → t < streams.cycles
        → is_head (driven_by k.ports streams plane (k.ports.l + 32 * context + t * k.ports.p) (pos (get_or k.ports.outs j d).x) (pos (get_or k.ports.outs j d).y)) ≡ run t [] (get_or k.ports.outs j d).name
    shown_in j d lt t less =
        head_is _ _ (cycles.bits j (get_or k.ports.outs j d) (slice_get-get_or k.ports.outs j d lt) t less)
        ∙ bit_of j d lt t

    each : All (λ out. shown_at k.ports streams plane context out ≡ bits_in_run run streams.cycles out.name) k.ports.outs
    each j d lt = same_on_range _ _ streams.cycles (shown_in j d lt)

    pub shows_the_run : ShowsTheRun plane k.ports design streams context run
    shows_the_run = record {
      each = each;
      all = same_in (shown_at k.ports streams plane context) (bits_in_run run streams.cycles) k.ports.outs each ∙ ap (map (bits_in_run run streams.cycles)) k.names.outs;
      lines = λ line.
          same_lines line (shown_at k.ports streams plane context) (bits_in_run run streams.cycles) k.ports.outs each
          ∙ ap (flat_map (λ name. line name (bits_in_run run streams.cycles name))) k.names.outs;
    }

  -- the start of a context
  start_of : (context : ℕ) → context < length starts → slice_get starts context ≡ Some (get_or starts context (start_state design))
  start_of context less = slice_get-get_or starts context (start_state design) less

  pub whole_run : (others : ℕ → ℕ → Valuation) → AreRunsFrom (IsRunFrom design) starts (contexts_of streams) others
      → shown_bits k.ports streams plane ≡ flat_map (λ context. map (bits_in_run (others context) streams.cycles) (main_outputs design)) (range_with_len 0 (length starts))
  whole_run others runs =
      ap (λ n. flat_map (λ context. map (shown_at k.ports streams plane context) k.ports.outs) (range_with_len 0 n)) k.contexts
      ∙ flat_map_same _ _ (length starts)
      (λ context less.
      let start = get_or starts context (start_state design) in
      let is_start = start_of context less in
      (shows_the_run context start is_start (others context)
      (subst (λ (rows : List (List Bool)). IsRunFrom design start rows (others context)) (own_rows context start is_start) (runs context start is_start))).all)

pub carriers_show_contexts : CarriersShowContexts
carriers_show_contexts text design starts k streams are =
    let found = k.shows.runs streams.cycles (contexts_of streams) (contexts text design starts k streams are) in
    record {
      runs = found.0;
      are_runs = found.1;
      shown = shows_the_run text design starts k streams are;
      whole = whole_run text design starts k streams are;
    }
