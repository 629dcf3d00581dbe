-- The bits that a pattern of one context shows are those of a run of its design.
use Rattle.std.proofs.Common.{ℕ, ◌≡◌, refl, sym, ap, ◌∙◌, subst, ◌<◌, Bool, List, [], ◌∷◌, map, flat_map, arith}
use Rattle.std.specs.List.{range_with_len}
use Rattle.std.proofs.lemmas.List.{append-nil}
use Rattle.ww_rule.specs.Grid.{plane_of}
use Rattle.ww_rule.specs.Wireworld.{Plane}
use Rattle.pattern_reading.specs.declared.ports.Ports.{Ports}
use Rattle.netlist_core.specs.declared.model.Design.{Design}
use Rattle.netlist_meaning.specs.Places.{main_outputs}
use Rattle.netlist_meaning.specs.Valuation.{Valuation, IsRun, start_state}
use Rattle.carries.specs.Carries.{Carries}
use Rattle.carries.specs.DesignContexts.{CarriesContexts}
use Rattle.carries.proofs.OneContext.{to_contexts}
use Rattle.streams.specs.declared.streams.Streams.{Streams}
use Rattle.streams.specs.Rows.{in_context, rows_of}
use Rattle.streams.proofs.Contexts.{context_at, only_context}
use Rattle.drive.specs.Driving.{AreFor, shown_at, shown_bits}
use Rattle.netlist_run.specs.Runs.{bits_in_run}
use Rattle.shown_runs.specs.ShownRuns.{CarriersShowRuns, ShowsTheRun}
use Rattle.shown_runs.proofs.ShownContexts.{carriers_show_contexts, shows_the_run}

-- what carries a design carries it in one context, from the start state on
abbrev pub as_context : {text : List ℕ} {design : Design} → Carries text design → CarriesContexts text design (start_state design ∷ [])
as_context {text} {design} c = record { grid = c.grid; ports = c.ports; spells = c.spells; contexts = c.contexts; names = c.names; shows = to_contexts (plane_of c.grid.rows) c.ports design c.shows }

-- where there is one context, its bits are all
pub shown_alone : (ports : Ports) (streams : Streams) (plane : Plane) → ports.c ≡ 1 → shown_bits ports streams plane ≡ map (shown_at ports streams plane 0) ports.outs
shown_alone ports streams plane one =
    ap (λ n. flat_map (λ context. map (shown_at ports streams plane context) ports.outs) (range_with_len 0 n)) one ∙ append-nil (map (shown_at ports streams plane 0) ports.outs)

module _ (text : List ℕ) (design : Design) (c : Carries text design) (streams : Streams) (are : AreFor c.ports streams) where
  -- its rows are all rows
  pub all_rows : rows_of (in_context streams 0) ≡ rows_of streams
  all_rows = ap rows_of (only_context streams (are.same ∙ c.contexts))

  pub shown_in_run : (run : ℕ → Valuation) → IsRun design (rows_of streams) run → ShowsTheRun (plane_of c.grid.rows) c.ports design streams 0 run
  shown_in_run run is = shows_the_run text design (start_state design ∷ []) (as_context c) streams are 0 (start_state design) refl run (subst (λ (rows : List (List Bool)). IsRun design rows run) (sym all_rows) is)

  pub first : 0 < streams.c
  first = let one = are.same ∙ c.contexts in omega (arith, one)

  whole_run : (run : ℕ → Valuation) → IsRun design (rows_of streams) run → shown_bits c.ports streams (plane_of c.grid.rows) ≡ map (bits_in_run run streams.cycles) (main_outputs design)
  whole_run run is =
      shown_alone c.ports streams (plane_of c.grid.rows) c.contexts ∙ (shown_in_run run is).all

pub carriers_show_runs : CarriersShowRuns
carriers_show_runs text design c streams are =
    let found = carriers_show_contexts text design (start_state design ∷ []) (as_context c) streams are in
    record {
      run = found.runs 0;
      is_run =
          subst (λ (rows : List (List Bool)). IsRun design rows (found.runs 0))
          (context_at streams 0 [] (first text design c streams are) ∙ all_rows text design c streams are) (found.are_runs 0 (start_state design) refl);
      shown = shown_in_run text design c streams are;
      whole = whole_run text design c streams are;
    }
