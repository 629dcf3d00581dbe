-- A text and words give a view, or are refused in one way.
use Rattle.std.proofs.Common.{ℕ, ◌≡◌, refl, sym, ◌∙◌, subst, List}
use Rattle.command_words.specs.declared.command.View.{View}
use Rattle.blifww_tool.specs.Simulation.{Simulation, IsSimulation, HasNoStreams, MissesAt}
use Rattle.blifww_tool.specs.Viewing.{cycles_in, HasView, HasNoView}
use Rattle.program_runs.specs.declared.causes.Cause.{Cause}
use Rattle.program_runs.specs.declared.causes.Cause.TheVariants.{NetlistFault, WeightTooLarge, Loop, AigAtFault, AigLoop, Pattern, GridTooLarge, PortTable, Streams, StartWord, NoSuchNet, TooFar, TooManyContexts, NotQuiet, NotCircuit}
use Rattle.blifww_tool.proofs.SimulationOrNot.{miss_or_not, one_miss, one_streams_cause, same_simulation, simulation_or_not}

-- the ways to be refused
data Reason (view : View) (words : List (List ℕ)) (text : List ℕ) (r : Cause) : Type 0 where
  early : HasNoStreams (cycles_in words) words text r → Reason view words text r
  by_miss : (g x y : ℕ) → r ≡ NotQuiet g x y → (s : Simulation) → IsSimulation (cycles_in words) words text s → MissesAt s view.generation g x y → Reason view words text r

reason_of : (view : View) (words : List (List ℕ)) (text : List ℕ) (r : Cause) → HasNoView view words text r → Reason view words text r
reason_of view words text (NetlistFault fault) h = early h
reason_of view words text (WeightTooLarge weight) h = early h
reason_of view words text (Loop names) h = early h
reason_of view words text (AigAtFault fault) h = early h
reason_of view words text (AigLoop literals) h = early h
reason_of view words text (Pattern fault) h = early h
reason_of view words text (GridTooLarge width height) h = early h
reason_of view words text (PortTable fault) h = early h
reason_of view words text (Streams fault) h = early h
reason_of view words text (StartWord fault) h = early h
reason_of view words text (NoSuchNet name) h = early h
reason_of view words text (TooFar generations) h = early h
reason_of view words text (TooManyContexts contexts limit) h = early h
reason_of view words text (NotQuiet generation x y) h = by_miss generation x y refl h.0 h.1 h.2
reason_of view words text (NotCircuit fault) h = early h

module _ (view : View) (words : List (List ℕ)) (text : List ℕ) where
  -- two simulations have one miss up to the view
  missed_too : (s t : Simulation) (g x y : ℕ) → IsSimulation (cycles_in words) words text s → IsSimulation (cycles_in words) words text t → MissesAt s view.generation g x y → MissesAt t view.generation g x y
  missed_too s t g x y h k misses = subst (λ (u : Simulation). MissesAt u view.generation g x y) (same_simulation (cycles_in words) words text s t h k) misses

  not_refused : (s : Simulation) (r : Cause) → HasView view words text s → Reason view words text r → ⊥
  not_refused s r h (early k) = simulation_or_not (cycles_in words) words text s r h.is k
  not_refused s r h (by_miss g x y e t k misses) = miss_or_not s view.generation g x y (missed_too t s g x y k h.is misses) h.quiet

  -- a view is not refused
  pub view_or_not : (s : Simulation) (r : Cause) → HasView view words text s → HasNoView view words text r → ⊥
  view_or_not s r h k = not_refused s r h (reason_of view words text r k)

  one_reason : (r r' : Cause) → Reason view words text r → Reason view words text r' → r ≡ r'
  one_reason r r' (early h) (early k) = one_streams_cause (cycles_in words) words text r r' h k
  one_reason r r' (early h) (by_miss g x y e s k misses) = absurd (simulation_or_not (cycles_in words) words text s r k h)
  one_reason r r' (by_miss g x y e s k misses) (early h) = absurd (simulation_or_not (cycles_in words) words text s r' k h)
  one_reason r r' (by_miss g x y e s k misses) (by_miss g' x' y' e' s' k' misses') =
      e ∙ one_miss s' view.generation g x y g' x' y' (missed_too s s' g x y k k' misses) misses' ∙ sym e'

  pub one_cause : (r r' : Cause) → HasNoView view words text r → HasNoView view words text r' → r ≡ r'
  one_cause r r' h k = one_reason r r' (reason_of view words text r h) (reason_of view words text r' k)
