-- A pattern's run in bands that are all at one generation.
use Rattle.std.specs.Prelude.{◌≡◌, ◌≤◌, ◌<◌, ◌+◌, ℕ, Bool, true, length, drop}
use Rattle.std.specs.Option.{option_map}
use Rattle.std.specs.declared.option.Option.{Option}
use Rattle.ww_rule.specs.declared.pattern.Injection.{Injection}
use Rattle.ww_rule.specs.Wireworld.{Plane, driven}
use Rattle.ww_rule.specs.Grid.{plane_of}
use Rattle.ww_rule.specs.Injections.{due_of_list}
use Rattle.ww_rule.specs.Due.{AreLeftAt}
use Rattle.band_core.specs.Bands.{BandedPattern, IsBandedPattern, generation_of}
use Rattle.ww_rule.specs.Turns.{turned, injection_turned}
use Rattle.drive.specs.declared.run.Orientation.{Orientation}
use Rattle.drive.specs.declared.run.Orientation.TheVariants.{Upright, Turned}
use Rattle.drive.specs.declared.run.Run.{Run}
use Rattle.drive.specs.Misses.{misses, first_of_misses}

-- all bands are at a generation
abbrev pub AreAt : ℕ → BandedPattern → Type 0
AreAt g pattern = (b : ℕ) → b < length pattern.generations → generation_of pattern b ≡ g

-- the pattern's planes when the injections drive it
abbrev pub evolution : BandedPattern → ℕ → Plane
evolution pattern = driven (due_of_list pattern.injections) (plane_of pattern.grid.rows)

-- the cell of an injection is no conductor before it; and below, the first such injection up to a
-- generation
abbrev pub injection_misses : BandedPattern → Injection → Bool
injection_misses pattern = misses (due_of_list pattern.injections) (plane_of pattern.grid.rows)

abbrev pub first_miss_in : BandedPattern → ℕ → Option Injection
first_miss_in pattern g =
    first_of_misses pattern.injections (due_of_list pattern.injections)
    (plane_of pattern.grid.rows) g

-- the planes of a pattern that lies in its bands in this orientation, and below, an injection of it
abbrev pub laid : Orientation → (ℕ → Plane) → ℕ → Plane
laid Upright planes = planes
laid Turned planes = λ g. turned (planes g)

abbrev pub injection_laid : Orientation → Injection → Injection
injection_laid Upright injection = injection
injection_laid Turned injection = injection_turned injection

-- the planes that a run shows, generation after generation
abbrev pub planes_of : Run → ℕ → Plane
planes_of run = laid run.orientation (evolution run.bands)

-- the first miss of a run up to each generation
abbrev pub first_miss_of : Run → ℕ → Option Injection
first_miss_of run = λ g. option_map (injection_laid run.orientation) (first_miss_in run.bands g)

-- What holds of each run: its width, its rows and the rows of a band are those of its bands, and
-- the injections from its next one on are those of later generations. A run that is still shows at
-- each later generation what it shows now, with no other miss.
pub record IsBandRun (run : Run) : Type 0 where
  pub whole : IsBandedPattern run.bands
  pub at : AreAt run.generation run.bands
  pub height : run.bands.height ≡ run.band_rows
  pub width : run.width ≡ run.bands.grid.width
  pub rows : run.rows ≡ length run.bands.grid.rows
  pub next : run.next_injection ≤ length run.bands.injections
  pub left : AreLeftAt (run.generation + 1) run.bands.injections
      (drop run.next_injection run.bands.injections)
  pub missed : run.missed ≡ first_miss_in run.bands run.generation
  pub still : run.is_still ≡ true → (g : ℕ) → run.generation ≤ g
      → evolution run.bands g ≡ evolution run.bands run.generation
  pub no_more : run.is_still ≡ true → (g : ℕ) → run.generation ≤ g
      → first_miss_in run.bands g ≡ first_miss_in run.bands run.generation

-- A run has gone on, at most to generation `last`.
pub record HasGoneOn (last : ℕ) (old new : Run) : Type 0 where
  pub run : IsBandRun new
  pub order : new.generation ≤ last
  pub planes : planes_of new ≡ planes_of old
  pub misses : first_miss_of new ≡ first_miss_of old
