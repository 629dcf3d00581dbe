-- What a text that carries a design in several contexts shows of each of them.
use Rattle.std.proofs.Common.{◌≡◌, ◌≢◌, ◌↔◌, refl, sym, ◌∙◌, ap, ap₂, subst, pos, ℕ, suc, ◌+◌, ◌*◌, ◌<◌, ◌≤◌, Bool, true, false, ⊎_elim, List, [], ◌++◌, length, map, replicate, get_or, arith}
use Rattle.std.specs.Prelude.{◌==◌, Some, slice_get, All}
use Rattle.std.proofs.lemmas.Bool.{cases_lt, eqb-true, eq-eqb}
use Rattle.std.proofs.lemmas.List.{get_or-map, length-append, length-map, length-replicate}
use Rattle.std.proofs.lemmas.List.Elements.{All-append, All-map, All-replicate}
use Rattle.std.proofs.lemmas.Option.{slice_get-get_or, slice_get_within, same_Some}
use Rattle.std.proofs.Math.Nat.{mul-le-mul_right, suc-mul}
use Rattle.ww_rule.specs.declared.pattern.State.TheVariants.{Head}
use Rattle.ww_rule.specs.Wireworld.{Plane, driven}
use Rattle.ww_rule.specs.Grid.{plane_of}
use Rattle.ww_rule.proofs.Contexts.{contexts_are_injected, one_context}
use Rattle.pattern_reading.specs.declared.ports.Ports.{Ports}
use Rattle.pattern_reading.specs.declared.ports.PortLine.{PortLine}
use Rattle.pattern_reading.specs.declared.ports.NetLine.{NetLine}
use Rattle.pattern_reading.specs.Ports.{cells_of, names_of}
use Rattle.pattern_reading.specs.PortTable.{ReadsAsPorts}
use Rattle.netlist_core.specs.declared.model.Design.{Design}
use Rattle.netlist_meaning.specs.Nets.{Net, IsInNames}
use Rattle.netlist_meaning.specs.Valuation.{Valuation, LatchState, AreInputRows, IsRunFrom, start_state, output_bit}
use Rattle.netlist_meaning.proofs.Joined.{in_names_are_one}
use Rattle.carries.specs.Contexts.{AreRunsFrom, context_drive, ShowsBitsInContexts, ShowsOutputsInContexts, ShowsNetLinesInContexts}
use Rattle.carries.specs.DesignContexts.{AreInputContexts, ShowsContexts, CarriesContexts, CarriesNetsInContexts}
use Rattle.carries.specs.ContextLaws.{CarriesEachContext, CarriesNetsOfEachContext, OutputsAreIsolated, NetsAreIsolated}
use Rattle.carries.proofs.Period.{contexts_have_room, has_period}

-- each context begins within the period
pub begins_within : (text : List ℕ) (width height : ℕ) (ports : Ports) → ReadsAsPorts text width height ports → (c : ℕ) → c < ports.c → 32 * c < ports.p
begins_within text width height ports table c low =
    let some : ports.p ≢ 0 = has_period text width height ports table in
    ⊎_elim
    (λ several. omega (arith, low, contexts_have_room text width height ports table several))
    (λ one. omega (arith, low, one, some))
    (cases_lt 1 ports.c)

in_time : (first period c t cycles : ℕ) → 32 * c < period → t < cycles → first + 32 * c + t * period < first + cycles * period
in_time first period c t cycles low lt =
    let more : (t + 1) * period ≤ cycles * period = mul-le-mul_right period (omega (arith, lt)) in
    let one : (t + 1) * period ≡ t * period + period = (let s : t + 1 ≡ suc t = omega arith in ap (λ n. n * period) s ∙ suc-mul t period) in
    omega (arith, low, more, one)

-- at the generation of a cycle of a context a cell shows that cycle's bit
in_context : (first period count cycles : ℕ) (bit : ℕ → ℕ → Bool) (plane : Plane) (x y : ℕ) → ((c : ℕ) → c < count → 32 * c < period) → (c t : ℕ) → c < count → t < cycles
    → ShowsBitsInContexts first period count cycles bit (first + 32 * c + t * period) plane x y → (plane (pos x) (pos y) ≡ Head) ↔ (bit c t ≡ true)
in_context first period count cycles bit plane x y within c t low lt shown = (
  λ head. (let found = shown.0 head in
      let same = one_context period found.0 found.1 c t (within found.0 found.2) (within c low) (omega (arith, found.4)) in
      ap (λ n. bit n t) (sym same.0) ∙ ap (λ n. bit found.0 n) (sym same.1) ∙ found.5),
  λ is. shown.1 (c, t, low, lt, refl, is),
)

-- runs, but for one context this run
module _ {Start Bits : Type 0} (IsRun : Start → List (List Bool) → (ℕ → Bits) → Type 0) (starts : List Start) (contexts : List (List (List Bool)))
    (runs : ℕ → ℕ → Bits) (are : AreRunsFrom IsRun starts contexts runs)
    (c : ℕ) (start : Start) (is_start : slice_get starts c ≡ Some start) (run : ℕ → Bits) (is : IsRun start (get_or contexts c []) run) where
  pick : Bool → ℕ → ℕ → Bits
  pick true n = run
  pick false n = runs n

  pub with_run : ℕ → ℕ → Bits
  with_run n = pick (n == c) n

  pub at_own : (t : ℕ) → with_run c t ≡ run t
  unfolding with_run pick
  at_own t = ap (λ (b : Bool). pick b c t) (eq-eqb c c refl)

  pub are_with : AreRunsFrom IsRun starts contexts with_run
  unfolding with_run pick
  are_with n other is_other = by (n == c) refl
    where
      by : (b : Bool) → (n == c) ≡ b → IsRun other (get_or contexts n []) (pick b n)
      by true e =
          let same : n ≡ c = eqb-true n c e in
          let one : other ≡ start = same_Some other start (sym is_other ∙ ap (slice_get starts) same ∙ is_start) in
          subst (λ (i : ℕ). IsRun other (get_or contexts i []) run) (sym same) (subst (λ (s : Start). IsRun s (get_or contexts c []) run) (sym one) is)
      by false e = are n other is_other

-- a run for each context, and for context c this one
module _ (design : Design) (starts : List LatchState) (plane : Plane) (ports : Ports) (shows : ShowsContexts plane ports design starts)
    (cycles : ℕ) (contexts : List (List (List Bool))) (are : AreInputContexts design (length starts) cycles contexts)
    (c : ℕ) (start : LatchState) (is_start : slice_get starts c ≡ Some start) (run : ℕ → Valuation) (is : IsRunFrom design start (get_or contexts c []) run) where
  found : (runs : ℕ → ℕ → Valuation) × AreRunsFrom (IsRunFrom design) starts contexts runs
  found = shows.runs cycles contexts are

  pub all : ℕ → ℕ → Valuation
  all = with_run (IsRunFrom design) starts contexts found.0 found.1 c start is_start run is

  pub own : (t : ℕ) → all c t ≡ run t
  unfolding all
  own = at_own (IsRunFrom design) starts contexts found.0 found.1 c start is_start run is

  pub are_runs : AreRunsFrom (IsRunFrom design) starts contexts all
  unfolding all
  are_runs = are_with (IsRunFrom design) starts contexts found.0 found.1 c start is_start run is

-- the contexts of rows that drive a pattern begin within its period
rows_within : (text : List ℕ) (design : Design) (starts : List LatchState) (k : CarriesContexts text design starts) (cycles : ℕ) (contexts : List (List (List Bool)))
    → AreInputContexts design (length starts) cycles contexts → (n : ℕ) → n < length contexts → 32 * n < k.ports.p
rows_within text design starts k cycles contexts are n low =
    begins_within text k.grid.width k.grid.height k.ports k.spells.table n (omega (arith, low, are.many, k.contexts))

pub carries_each_context : CarriesEachContext
carries_each_context text design starts k cycles contexts are c start is_start run is = record { bits = bits; dark = dark }
  where
    plane : ℕ → Plane
    plane = driven (context_drive k.ports contexts) (plane_of k.grid.rows)

    runs : ℕ → ℕ → Valuation
    runs = all design starts (plane_of k.grid.rows) k.ports k.shows cycles contexts are c start is_start run is

    shows : ShowsOutputsInContexts (plane_of k.grid.rows) k.ports cycles contexts (λ c t. output_bit design (runs c t))
    shows = k.shows.heads cycles contexts are runs (are_runs design starts (plane_of k.grid.rows) k.ports k.shows cycles contexts are c start is_start run is)

    within : (n : ℕ) → n < length contexts → 32 * n < k.ports.p
    within = rows_within text design starts k cycles contexts are

    low : c < length contexts
    low = let inside = slice_get_within starts c start is_start in omega (arith, inside, are.many)

    bits : (output : ℕ) (cell : PortLine) → slice_get k.ports.outs output ≡ Some cell → (t : ℕ) → t < cycles
        → (plane (k.ports.l + 32 * c + t * k.ports.p) (pos cell.x) (pos cell.y) ≡ Head) ↔ (output_bit design (run t) output ≡ true)
    bits output cell e t lt =
        subst (λ (v : Valuation). (plane (k.ports.l + 32 * c + t * k.ports.p) (pos cell.x) (pos cell.y) ≡ Head) ↔ (output_bit design v output ≡ true))
        (own design starts (plane_of k.grid.rows) k.ports k.shows cycles contexts are c start is_start run is t)
        (in_context k.ports.l k.ports.p (length contexts) cycles (λ n t. output_bit design (runs n t) output) (plane (k.ports.l + 32 * c + t * k.ports.p)) cell.x cell.y within c t low lt
        (shows output cell e (k.ports.l + 32 * c + t * k.ports.p) (in_time k.ports.l k.ports.p c t cycles (within c low) lt)))

    dark : (output : ℕ) (cell : PortLine) → slice_get k.ports.outs output ≡ Some cell → (g : ℕ) → g < k.ports.l → plane g (pos cell.x) (pos cell.y) ≢ Head
    dark output cell e g lt head =
        let at = (shows output cell e g (omega (arith, lt))).0 head in
        omega (arith, lt, at.4)

pub carries_nets_of_each_context : CarriesNetsOfEachContext
carries_nets_of_each_context text design starts k cycles contexts are c start is_start run is number net line is_net is_line t lt =
    subst (λ (v : Valuation). (plane (line.offset + 32 * c + t * k.carried.ports.p) (pos line.x) (pos line.y) ≡ Head) ↔ (v net.place net.name ≡ true))
    (own design starts (plane_of k.carried.grid.rows) k.carried.ports k.carried.shows cycles contexts are c start is_start run is t)
    (in_context line.offset k.carried.ports.p (length contexts) cycles (λ n t. runs n t net.place net.name) (plane (line.offset + 32 * c + t * k.carried.ports.p)) line.x line.y within c t low lt
    (shows number net line is_net is_line (line.offset + 32 * c + t * k.carried.ports.p) (in_time line.offset k.carried.ports.p c t cycles (within c low) lt)))
  where
    plane : ℕ → Plane
    plane = driven (context_drive k.carried.ports contexts) (plane_of k.carried.grid.rows)

    runs : ℕ → ℕ → Valuation
    runs = all design starts (plane_of k.carried.grid.rows) k.carried.ports k.carried.shows cycles contexts are c start is_start run is

    shows : ShowsNetLinesInContexts (plane_of k.carried.grid.rows) k.carried.ports cycles contexts k.nets (λ c t net. runs c t net.place net.name)
    shows = k.shows cycles contexts are runs (are_runs design starts (plane_of k.carried.grid.rows) k.carried.ports k.carried.shows cycles contexts are c start is_start run is)

    within : (n : ℕ) → n < length contexts → 32 * n < k.carried.ports.p
    within = rows_within text design starts k.carried cycles contexts are

    low : c < length contexts
    low = let inside = slice_get_within starts c start is_start in omega (arith, inside, are.many)

-- a run of context c on the rows of either of two drives that agree on it
module _ (design : Design) (starts : List LatchState) (plane : Plane) (ports : Ports) (shows : ShowsContexts plane ports design starts)
    (cycles : ℕ) (contexts others : List (List (List Bool))) (are : AreInputContexts design (length starts) cycles contexts)
    (c : ℕ) (low : c < length starts) (agree : get_or contexts c [] ≡ get_or others c []) where
  abbrev pub start_of : LatchState
  start_of = get_or starts c (start_state design)

  pub is_start_of : slice_get starts c ≡ Some start_of
  is_start_of = slice_get-get_or starts c (start_state design) low

  abbrev pub run_of : ℕ → Valuation
  run_of = (shows.runs cycles contexts are).0 c

  pub is_run_of : IsRunFrom design start_of (get_or contexts c []) run_of
  is_run_of = (shows.runs cycles contexts are).1 c start_of is_start_of

  pub is_run_of_other : IsRunFrom design start_of (get_or others c []) run_of
  is_run_of_other = subst (λ (rows : List (List Bool)). IsRunFrom design start_of rows run_of) agree is_run_of

-- in the cycles of the rows
outputs_alike : (text : List ℕ) (design : Design) (starts : List LatchState) (k : CarriesContexts text design starts)
    (cycles : ℕ) (contexts others : List (List (List Bool))) → AreInputContexts design (length starts) cycles contexts → AreInputContexts design (length starts) cycles others
    → (c : ℕ) → c < length starts → get_or contexts c [] ≡ get_or others c []
    → (output : ℕ) (cell : PortLine) → slice_get k.ports.outs output ≡ Some cell → (t : ℕ) → t < cycles
    → (driven (context_drive k.ports contexts) (plane_of k.grid.rows) (k.ports.l + 32 * c + t * k.ports.p) (pos cell.x) (pos cell.y) ≡ Head)
    ↔ (driven (context_drive k.ports others) (plane_of k.grid.rows) (k.ports.l + 32 * c + t * k.ports.p) (pos cell.x) (pos cell.y) ≡ Head)
outputs_alike text design starts k cycles contexts others are are' c low agree output cell e t lt =
    let at = is_start_of design starts (plane_of k.grid.rows) k.ports k.shows cycles contexts others are c low agree in
    let run = run_of design starts (plane_of k.grid.rows) k.ports k.shows cycles contexts others are c low agree in
    let start = start_of design starts (plane_of k.grid.rows) k.ports k.shows cycles contexts others are c low agree in
    let here = (carries_each_context text design starts k cycles contexts are c start at run (is_run_of design starts (plane_of k.grid.rows) k.ports k.shows cycles contexts others are c low agree)).bits output cell e t lt in
    let there = (carries_each_context text design starts k cycles others are' c start at run (is_run_of_other design starts (plane_of k.grid.rows) k.ports k.shows cycles contexts others are c low agree)).bits output cell e t lt in
    (λ head. there.1 (here.0 head), λ head. here.1 (there.0 head))

nets_alike : (text : List ℕ) (design : Design) (starts : List LatchState) (k : CarriesNetsInContexts text design starts)
    (cycles : ℕ) (contexts others : List (List (List Bool))) → AreInputContexts design (length starts) cycles contexts → AreInputContexts design (length starts) cycles others
    → (c : ℕ) → c < length starts → get_or contexts c [] ≡ get_or others c []
    → (number : ℕ) (net : Net) (line : NetLine) → slice_get k.nets number ≡ Some net → slice_get k.carried.ports.nets number ≡ Some line → (t : ℕ) → t < cycles
    → (driven (context_drive k.carried.ports contexts) (plane_of k.carried.grid.rows) (line.offset + 32 * c + t * k.carried.ports.p) (pos line.x) (pos line.y) ≡ Head)
    ↔ (driven (context_drive k.carried.ports others) (plane_of k.carried.grid.rows) (line.offset + 32 * c + t * k.carried.ports.p) (pos line.x) (pos line.y) ≡ Head)
nets_alike text design starts k cycles contexts others are are' c low agree number net line is_net is_line t lt =
    let shows = k.carried.shows in
    let plane = plane_of k.carried.grid.rows in
    let ports = k.carried.ports in
    let at = is_start_of design starts plane ports shows cycles contexts others are c low agree in
    let run = run_of design starts plane ports shows cycles contexts others are c low agree in
    let start = start_of design starts plane ports shows cycles contexts others are c low agree in
    let here = carries_nets_of_each_context text design starts k cycles contexts are c start at run (is_run_of design starts plane ports shows cycles contexts others are c low agree) number net line is_net is_line t lt in
    let there = carries_nets_of_each_context text design starts k cycles others are' c start at run (is_run_of_other design starts plane ports shows cycles contexts others are c low agree) number net line is_net is_line t lt in
    (λ head. there.1 (here.0 head), λ head. here.1 (there.0 head))

-- so many rows of 0 bits at the end of each context, which change nothing
module _ (ports : Ports) (design : Design) (named : IsInNames design (names_of ports.ins)) (more : ℕ) where
  zeros : List (List Bool)
  zeros = replicate more (replicate (length (names_of ports.ins)) false)

  pub padded : List (List (List Bool)) → List (List (List Bool))
  padded contexts = map (λ rows. rows ++ zeros) contexts

  pub same_drive : (contexts : List (List (List Bool))) → context_drive ports (padded contexts) ≡ context_drive ports contexts
  unfolding padded zeros
  same_drive contexts = contexts_are_injected.rest ports.p (cells_of ports.ins) contexts zeros
      (All-replicate (λ row. All (λ bit. bit ≡ false) row) more (replicate (length (names_of ports.ins)) false) (All-replicate (λ bit. bit ≡ false) (length (names_of ports.ins)) false refl))

  rows_padded : (rows : List (List Bool)) → AreInputRows design rows → AreInputRows design (rows ++ zeros)
  unfolding zeros
  rows_padded rows (names, are, long) =
      let same : length (names_of ports.ins) ≡ length names = ap length (in_names_are_one design (names_of ports.ins) names named are) in (
        names,
        are,
        All-append (λ row. length row ≡ length names) rows zeros long
            (All-replicate (λ row. length row ≡ length names) more (replicate (length (names_of ports.ins)) false) (length-replicate (length (names_of ports.ins)) false ∙ same)),
      )

  pub are_padded : (count cycles : ℕ) (contexts : List (List (List Bool))) → AreInputContexts design count cycles contexts → AreInputContexts design count (cycles + more) (padded contexts)
  unfolding padded zeros
  are_padded count cycles contexts are = record {
    many = length-map contexts (λ rows. rows ++ zeros) ∙ are.many;
    long = All-map (λ (rows : List (List Bool)). length rows ≡ cycles + more) (λ rows. rows ++ zeros) contexts
        (λ k d lt. length-append (get_or contexts k d) zeros ∙ ap₂ (λ m n. m + n) (are.long k d lt) (length-replicate more (replicate (length (names_of ports.ins)) false)));
    each = All-map (AreInputRows design) (λ rows. rows ++ zeros) contexts (λ k d lt. rows_padded (get_or contexts k d) (are.each k d lt));
  }

  pub agree_padded : (contexts others : List (List (List Bool))) (c : ℕ) → c < length contexts → c < length others → get_or contexts c [] ≡ get_or others c [] → get_or (padded contexts) c [] ≡ get_or (padded others) c []
  unfolding padded
  agree_padded contexts others c low low' agree =
      get_or-map (λ rows. rows ++ zeros) contexts c [] [] low ∙ ap (λ rows. rows ++ zeros) agree ∙ sym (get_or-map (λ rows. rows ++ zeros) others c [] [] low')

pub outputs_are_isolated : OutputsAreIsolated
outputs_are_isolated text design starts k cycles contexts others are are' c low agree output cell e t =
    let alike = outputs_alike text design starts k (cycles + suc t) (padded k.ports design k.names.ins (suc t) contexts) (padded k.ports design k.names.ins (suc t) others)
    (are_padded k.ports design k.names.ins (suc t) (length starts) cycles contexts are) (are_padded k.ports design k.names.ins (suc t) (length starts) cycles others are')
    c low (agree_padded k.ports design k.names.ins (suc t) contexts others c (omega (arith, low, are.many)) (omega (arith, low, are'.many)) agree) output cell e t (omega arith) in
    subst (λ due. (driven due (plane_of k.grid.rows) (k.ports.l + 32 * c + t * k.ports.p) (pos cell.x) (pos cell.y) ≡ Head)
    ↔ (driven (context_drive k.ports others) (plane_of k.grid.rows) (k.ports.l + 32 * c + t * k.ports.p) (pos cell.x) (pos cell.y) ≡ Head)) (same_drive k.ports design k.names.ins (suc t) contexts)
    (subst (λ due. (driven (context_drive k.ports (padded k.ports design k.names.ins (suc t) contexts)) (plane_of k.grid.rows) (k.ports.l + 32 * c + t * k.ports.p) (pos cell.x) (pos cell.y) ≡ Head)
    ↔ (driven due (plane_of k.grid.rows) (k.ports.l + 32 * c + t * k.ports.p) (pos cell.x) (pos cell.y) ≡ Head)) (same_drive k.ports design k.names.ins (suc t) others) alike)

pub nets_are_isolated : NetsAreIsolated
nets_are_isolated text design starts k cycles contexts others are are' c low agree number net line is_net is_line t =
    let ports = k.carried.ports in
    let named = k.carried.names.ins in
    let plane = plane_of k.carried.grid.rows in
    let alike = nets_alike text design starts k (cycles + suc t) (padded ports design named (suc t) contexts) (padded ports design named (suc t) others)
    (are_padded ports design named (suc t) (length starts) cycles contexts are) (are_padded ports design named (suc t) (length starts) cycles others are')
    c low (agree_padded ports design named (suc t) contexts others c (omega (arith, low, are.many)) (omega (arith, low, are'.many)) agree) number net line is_net is_line t (omega arith) in
    subst (λ due. (driven due plane (line.offset + 32 * c + t * ports.p) (pos line.x) (pos line.y) ≡ Head)
    ↔ (driven (context_drive ports others) plane (line.offset + 32 * c + t * ports.p) (pos line.x) (pos line.y) ≡ Head)) (same_drive ports design named (suc t) contexts)
    (subst (λ due. (driven (context_drive ports (padded ports design named (suc t) contexts)) plane (line.offset + 32 * c + t * ports.p) (pos line.x) (pos line.y) ≡ Head)
    ↔ (driven due plane (line.offset + 32 * c + t * ports.p) (pos line.x) (pos line.y) ≡ Head)) (same_drive ports design named (suc t) others) alike)
