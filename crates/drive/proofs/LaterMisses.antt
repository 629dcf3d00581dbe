-- A run's first miss stays the first, and is why a run does not go on.
use Rattle.std.proofs.Common.{◌≡◌, ◌≤◌, ℕ, refl, ap, ◌∙◌, Option, Some, None}
use Rattle.std.specs.Option.{option_map}
use Rattle.std.proofs.lemmas.Option.{none-some}
use Rattle.ww_rule.specs.declared.pattern.Injection.{Injection}
use Rattle.ww_rule.specs.Wireworld.{Plane}
use Rattle.pattern_reading.specs.declared.ports.Ports.{Ports}
use Rattle.streams.specs.declared.streams.Streams.{Streams}
use Rattle.drive.specs.declared.error.SimulateError.{SimulateError}
use Rattle.drive.specs.declared.error.SimulateError.TheVariants.{NoMemory, TooFar, NotQuiet}
use Rattle.drive.specs.declared.run.Run.{Run}
use Rattle.drive.specs.Driving.{HasRunCause, HasSimulateCause, first_miss, greatest_generation}
use Rattle.drive.specs.Runs.{IsBandRun, first_miss_in, first_miss_of, injection_laid, injection_misses}
use Rattle.drive.proofs.FirstMisses.{first_found}

pub later_cause : (run : Run) (g h : ℕ) (e : SimulateError) → IsBandRun run → g ≤ h → HasRunCause (first_miss_of run g) e → HasRunCause (first_miss_of run h) e
later_cause run g h NoMemory is le cause = tt
later_cause run g h (TooFar generations) is le cause = absurd cause
later_cause run g h (NotQuiet generation x y) is le cause = go (first_miss_in run.bands g) (λ i found. found) cause
  where
    go : (o : Option Injection) → ((i : Injection) → o ≡ Some i → first_miss_in run.bands g ≡ Some i)
        → option_map (injection_laid run.orientation) o ≡ Some (record { generation = generation; x = x; y = y })
        → option_map (injection_laid run.orientation) (first_miss_in run.bands h) ≡ Some (record { generation = generation; x = x; y = y })
    go None found e = absurd (none-some _ e)
    go (Some i) found e =
        ap (option_map (injection_laid run.orientation)) (first_found (injection_misses run.bands) g i h 0 run.bands.injections is.whole.in_order le (found i refl)) ∙ e

pub simulate_cause : (ports : Ports) (streams : Streams) (plane : Plane) (needed : ℕ) (e : SimulateError) → needed ≤ greatest_generation
    → HasRunCause (first_miss ports streams plane needed) e → HasSimulateCause ports streams plane needed e
simulate_cause ports streams plane needed NoMemory near cause = tt
simulate_cause ports streams plane needed (TooFar generations) near cause = absurd cause
simulate_cause ports streams plane needed (NotQuiet generation x y) near cause = (near, cause)
