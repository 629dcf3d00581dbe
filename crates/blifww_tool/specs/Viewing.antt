-- A part of the plane that a text's pattern has come to at a generation, as lines.
use Rattle.std.specs.Prelude.{◌≡◌, ℕ, List, [], ◌∷◌, length, None}
use Rattle.ww_rule.specs.Grid.{plane_of}
use Rattle.command_words.specs.declared.command.View.{View}
use Rattle.streams.specs.Cuts.{bits_in}
use Rattle.drive.specs.Driving.{driven_by}
use Rattle.probe_view.specs.Windows.{window_text}
use Rattle.blifww_tool.specs.Simulation.{Simulation, IsSimulation, HasNoStreams, MissesAt, miss_up_to}
use Rattle.program_runs.specs.declared.causes.Cause.{Cause}
use Rattle.program_runs.specs.declared.causes.Cause.TheVariants.{NotQuiet}

-- the number of cycles that stream words give by themselves: the number of the first word's bits,
-- or 0 without words
abbrev pub cycles_in : List (List ℕ) → ℕ
cycles_in [] = 0
cycles_in (word ∷ words) = length (bits_in word)

-- the text and the words are a simulation, in which each injection up to the view's generation
-- meets a conductor
pub record HasView (view : View) (words : List (List ℕ)) (text : List ℕ)
    (s : Simulation) : Type 0 where
  pub is : IsSimulation (cycles_in words) words text s
  pub quiet : miss_up_to s view.generation ≡ None

-- The text and the words have the view, and these are the lines of that part of the plane at the
-- view's generation.
pub record ShowsPart (view : View) (words : List (List ℕ)) (text output : List ℕ) : Type 0 where
  pub simulation : Simulation
  pub has : HasView view words text simulation
  pub lines : output ≡ window_text (driven_by simulation.ports simulation.streams
      (plane_of simulation.grid.rows) view.generation)
      view.x view.y view.width view.height

-- why the text and the words have no view: they are no simulation, or an injection up to the view's
-- generation meets no conductor
abbrev pub HasNoView : View → List (List ℕ) → List ℕ → Cause → Type 0
HasNoView view words text (NotQuiet generation x y) =
    (s : Simulation) × IsSimulation (cycles_in words) words text s
    × MissesAt s view.generation generation x y
HasNoView view words text cause = HasNoStreams (cycles_in words) words text cause
