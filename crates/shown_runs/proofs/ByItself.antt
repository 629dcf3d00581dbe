-- A text that runs by itself shows a run of its design, whatever streams one gives.
use Rattle.std.proofs.Common.{ℕ, ◌≡◌, ◌≢◌, ◌+◌, ◌*◌, ◌<◌, ◌≤◌, refl, sym, ap, ◌∙◌, subst, ℤ, pos, Bool, true, false, List, [], ◌∷◌, ◌++◌, length, map, flat_map, get_or, arith}
use Rattle.std.specs.Prelude.{◌↔◌, All, Some, None, slice_get}
use Rattle.std.specs.List.{range_with_len}
use Rattle.std.proofs.lemmas.Bool.{false_from_ne_true}
use Rattle.std.proofs.lemmas.List.{length-map, get_or-map}
use Rattle.std.proofs.lemmas.Option.{slice_get-get_or}
use Rattle.std.proofs.Math.Path.{fun_ext}
use Rattle.ww_rule.specs.declared.pattern.Injection.{Injection}
use Rattle.ww_rule.specs.declared.pattern.State.TheVariants.{Head}
use Rattle.ww_rule.specs.Contexts.{due_of_contexts}
use Rattle.ww_rule.specs.Wireworld.{Plane, Due, driven, evolve, undriven, is_head}
use Rattle.ww_rule.specs.Grid.{plane_of}
use Rattle.ww_rule.specs.Injections.{injections_from}
use Rattle.ww_rule.proofs.Contexts.{contexts_injected}
use Rattle.ww_rule.proofs.Generations.{undriven_evolves}
use Rattle.pattern_reading.specs.declared.ports.NetLine.{NetLine}
use Rattle.pattern_reading.specs.declared.ports.Ports.{Ports}
use Rattle.pattern_reading.specs.declared.ports.PortLine.{PortLine}
use Rattle.pattern_reading.specs.Ports.{cells_of, names_of}
use Rattle.netlist_core.specs.declared.model.Design.{Design}
use Rattle.netlist_core.specs.Names.{Name}
use Rattle.netlist_meaning.specs.Nets.{Net}
use Rattle.netlist_meaning.specs.Valuation.{Valuation, AreInputRows, IsRun, output_bit}
use Rattle.carries.specs.ByItself.{ThenZeros, RunsByItself}
use Rattle.carries.proofs.Cycles.{in_time, in_cycle}
use Rattle.carries.proofs.Period.{has_period}
use Rattle.streams.specs.declared.streams.Streams.{Streams}
use Rattle.streams.specs.Rows.{contexts_of}
use Rattle.drive.specs.Driving.{AreFor, due_by, driven_by, cycle_rows, injections_of, first_miss, shown_at}
use Rattle.drive.specs.Misses.{first_of_misses}
use Rattle.netlist_run.specs.Runs.{bits_in_run}
use Rattle.netlist_run.proofs.Ran.{same_on_range}
use Rattle.probe_view.specs.Probes.{probed_at}
use Rattle.shown_runs.specs.ShownRuns.{ShowsTheRun, net_bits_in_run}
use Rattle.shown_runs.specs.ByItself.{RunnerShows, RunnersShowRuns}
use Rattle.shown_runs.proofs.ShownContexts.{head_is, same_in, same_lines}
use Rattle.shown_runs.proofs.Shown.{shown_alone}

-- without inputs nothing is due
nothing_due : (period : ℕ) (contexts : List (List (List Bool))) → due_of_contexts period [] contexts ≡ undriven
nothing_due period contexts =
    fun_ext (λ (g : ℕ). fun_ext (λ (x : ℤ). fun_ext (λ (y : ℤ).
    false_from_ne_true (due_of_contexts period [] contexts g x y) (λ e. (let bit = (contexts_injected period [] contexts g x y).0 e in absurd (omega (arith, bit.in_cells)))))))

-- and nothing is injected
none_of_rows : (g period : ℕ) (rows : List (List Bool)) → injections_from g period [] rows ≡ []
none_of_rows g period [] = refl
none_of_rows g period (row ∷ rows) = none_of_rows (g + period) period rows

none_in_all : {X : Type 0} (f : X → List Injection) → ((x : X) → f x ≡ []) → (xs : List X) → flat_map f xs ≡ []
none_in_all f none [] = refl
none_in_all f none (x ∷ xs) = ap (λ (first : List Injection). first ++ flat_map f xs) (none x) ∙ none_in_all f none xs

module _ (ports : Ports) (none : ports.ins ≡ []) (streams : Streams) (plane : Plane) where
  not_driven : (g : ℕ) → driven_by ports streams plane g ≡ evolve g plane
  not_driven g =
      ap (λ (lines : List PortLine). driven (due_of_contexts ports.p (cells_of lines) (contexts_of streams)) plane g) none
      ∙ ap (λ (due : Due). driven due plane g) (nothing_due ports.p (contexts_of streams))
      ∙ undriven_evolves plane g

  no_injections : injections_of ports streams ≡ []
  no_injections =
      ap (λ (lines : List PortLine). flat_map (λ cycle. injections_from (cycle * ports.p) 32 (cells_of lines) (cycle_rows streams cycle)) (range_with_len 0 streams.cycles)) none
      ∙ none_in_all (λ cycle. injections_from (cycle * ports.p) 32 [] (cycle_rows streams cycle)) (λ cycle. none_of_rows (cycle * ports.p) 32 (cycle_rows streams cycle)) (range_with_len 0 streams.cycles)

  is_quiet : (g : ℕ) → first_miss ports streams plane g ≡ None
  is_quiet g = ap (λ (injections : List Injection). first_of_misses injections (due_by ports streams) plane g) no_injections

module _ (text : List ℕ) (design : Design) (rows : List (List Bool)) (k : RunsByItself text design rows) (all : List (List Bool)) (after : ThenZeros rows all) (are : AreInputRows design all)
    (run : ℕ → Valuation) (is : IsRun design all run) (streams : Streams) (for : AreFor k.ports streams) (few : streams.cycles ≤ length all) where
  abbrev plane : Plane
  plane = plane_of k.grid.rows

  period : k.ports.p ≢ 0
  period = has_period text k.grid.width k.grid.height k.ports k.spells.table

  -- a cell that shows bits from a generation on
  cell_shows : (first : ℕ) (bit : ℕ → Bool) (x y : ℕ)
      → ((t : ℕ) → t < length all → (evolve (first + t * k.ports.p) plane (pos x) (pos y) ≡ Head) ↔ (bit t ≡ true))
      → (t : ℕ) → t < streams.cycles → is_head (driven_by k.ports streams plane (first + 32 * 0 + t * k.ports.p) (pos x) (pos y)) ≡ bit t
  cell_shows first bit x y shown t less =
      let here : first + 32 * 0 + t * k.ports.p ≡ first + t * k.ports.p = omega arith in
      ap (λ g. is_head (driven_by k.ports streams plane g (pos x) (pos y))) here
      ∙ ap (λ (p : Plane). is_head (p (pos x) (pos y))) (not_driven k.ports k.no_inputs streams plane (first + t * k.ports.p))
      ∙ head_is _ _ (shown t (omega (arith, less, few)))

  bit_of : (j : ℕ) (d : PortLine) → j < length k.ports.outs → (t : ℕ) → output_bit design (run t) j ≡ run t [] (get_or k.ports.outs j d).name
  bit_of j d lt t =
      ap (λ (names : List Name). get_or (map (run t []) names) j false) (sym k.outs)
      ∙ get_or-map (run t []) (names_of k.ports.outs) j d.name false (subst (λ (n : ℕ). j < n) (sym (length-map k.ports.outs (λ (line : PortLine). line.name))) lt)
      ∙ ap (run t []) (get_or-map (λ (line : PortLine). line.name) k.ports.outs j d d.name lt)

  each : All (λ out. shown_at k.ports streams plane 0 out ≡ bits_in_run run streams.cycles out.name) k.ports.outs
  each j d lt =
      let out = get_or k.ports.outs j d in
      same_on_range _ _ streams.cycles
      (λ t less. cell_shows k.ports.l (λ t. output_bit design (run t) j) out.x out.y
      (λ t within. in_cycle k.ports.l k.ports.p (length all) t (λ t. output_bit design (run t) j) (evolve (k.ports.l + t * k.ports.p) plane) out.x out.y period within
      (k.shows.heads all after are run is j out (slice_get-get_or k.ports.outs j d lt) (k.ports.l + t * k.ports.p) (in_time k.ports.l k.ports.p (length all) t period within)))
      t less ∙ bit_of j d lt t)

  outs : ShowsTheRun plane k.ports design streams 0 run
  outs = record {
    each = each;
    all = same_in (shown_at k.ports streams plane 0) (bits_in_run run streams.cycles) k.ports.outs each ∙ ap (map (bits_in_run run streams.cycles)) k.outs;
    lines = λ line.
        same_lines line (shown_at k.ports streams plane 0) (bits_in_run run streams.cycles) k.ports.outs each
        ∙ ap (flat_map (λ name. line name (bits_in_run run streams.cycles name))) k.outs;
  }

  nets : (number : ℕ) (net : Net) (line : NetLine) → slice_get k.seen number ≡ Some net → slice_get k.ports.nets number ≡ Some line
      → probed_at k.ports streams plane 0 line ≡ net_bits_in_run run streams.cycles net
  nets number net line is_net is_line =
      same_on_range _ _ streams.cycles
      (cell_shows line.offset (λ t. run t net.place net.name) line.x line.y
      (λ t within. in_cycle line.offset k.ports.p (length all) t (λ t. run t net.place net.name) (evolve (line.offset + t * k.ports.p) plane) line.x line.y period within
      (k.shows.nets all after are run is number net line is_net is_line (line.offset + t * k.ports.p) (in_time line.offset k.ports.p (length all) t period within))))

  pub runner_shows : RunnerShows k run streams
  runner_shows = record {
    outs = outs;
    whole = shown_alone k.ports streams plane k.contexts ∙ outs.all;
    nets = nets;
    quiet = is_quiet k.ports k.no_inputs streams plane;
  }

pub runners_show_runs : RunnersShowRuns
runners_show_runs text design rows k all after are run is streams for few = runner_shows text design rows k all after are run is streams for few
