-- A driven pattern in bands of rows, each at a generation of its own.
use Rattle.std.specs.Prelude.{pos, ℕ, zero, suc, ◌+◌, ◌-◌, ◌*◌, ◌/◌, ◌≤◌, ◌<◌, ◌≡◌, ◌⊎◌, true, ◌||◌, ◌==◌, nat_lt, if◌then◌else◌, List, length, get_or, map, slice_set, replicate, All, Some, None}
use Rattle.std.specs.declared.option.Option.{Option}
use Rattle.std.specs.Option.{option_or}
use Rattle.ww_rule.specs.Due.{AreInOrderFrom}
use Rattle.ww_rule.specs.declared.pattern.State.{State}
use Rattle.ww_rule.specs.declared.pattern.State.TheVariants.{Head, Tail}
use Rattle.ww_rule.specs.declared.pattern.Injection.{Injection}
use Rattle.ww_rule.specs.Wireworld.{driven}
use Rattle.ww_rule.specs.Grid.{Grid, IsGrid, plane_of}
use Rattle.ww_rule.specs.Injections.{AreInside, due_of_list}
use Rattle.band_core.specs.declared.error.NotReady.{NotReady}
use Rattle.band_core.specs.declared.error.NotSkipped.{NotSkipped}
use Rattle.band_core.specs.declared.error.NotSkipped.TheVariants as not_skipped

-- what `Bands` are to their callers: the pattern and the injections that they were given, the
-- height of a band, and how far each band has come, from the top down
pub record BandedPattern : Type 0 where
  pub grid : Grid
  pub injections : List Injection
  pub height : ℕ
  pub generations : List ℕ

-- how many bands of a height so many rows make; the last one may be shorter
abbrev pub bands_in : (rows height : ℕ) → ℕ
bands_in rows height = (rows + (height - 1)) / height

-- what holds of all bands: the pattern and the injections have their form, and each row lies in a
-- band
pub record IsBandedPattern (pattern : BandedPattern) : Type 0 where
  pub grid : IsGrid pattern.grid.width pattern.grid.height pattern.grid.rows
  pub inside : AreInside pattern.grid.width pattern.grid.height pattern.injections
  pub in_order : AreInOrderFrom 0 pattern.injections
  pub height : 0 < pattern.height
  pub many : length pattern.generations ≡ bands_in (length pattern.grid.rows) pattern.height

-- all bands at generation 0
abbrev pub begun : Grid → List Injection → ℕ → BandedPattern
begun grid injections height =
    record {
      grid = grid;
      injections = injections;
      height = height;
      generations = replicate (bands_in (length grid.rows) height) 0;
    }

-- how many generations a band has come
abbrev pub generation_of : BandedPattern → ℕ → ℕ
generation_of pattern b = get_or pattern.generations b 0

-- the state of a cell in the one driven evolution of the pattern, at a band's generation
abbrev pub band_at : BandedPattern → ℕ → ℕ → ℕ → State
band_at pattern b x y =
    driven (due_of_list pattern.injections) (plane_of pattern.grid.rows) (generation_of pattern b)
    (pos x) (pos y)

-- one band has moved on by one generation
abbrev pub moved_on : ℕ → BandedPattern → BandedPattern
moved_on b pattern =
    record pattern { generations = slice_set pattern.generations b (generation_of pattern b + 1) }

-- all bands are at one generation
abbrev pub AreLevel : BandedPattern → Type 0
AreLevel pattern = All (λ g. g ≡ generation_of pattern 0) pattern.generations

-- each band has moved on by so many generations
abbrev pub all_moved_on : ℕ → BandedPattern → BandedPattern
all_moved_on n pattern = record pattern { generations = map (λ g. g + n) pattern.generations }

-- the same pattern under the same injections, in the same bands
pub record IsSamePattern (old new : BandedPattern) : Type 0 where
  pub grid : new.grid ≡ old.grid
  pub injections : new.injections ≡ old.injections
  pub height : new.height ≡ old.height
  pub many : length new.generations ≡ length old.generations

-- the cell of column x and row y lies in band b
pub record IsCellOf (pattern : BandedPattern) (b x y : ℕ) : Type 0 where
  pub column : x < pattern.grid.width
  pub from : b * pattern.height ≤ y
  pub below : y < b * pattern.height + pattern.height
  pub within : y < length pattern.grid.rows

-- the cell of band b is a head or a tail, at the band's generation
pub data IsLit (pattern : BandedPattern) (b x y : ℕ) : Type 0 where
  head : IsCellOf pattern b x y → band_at pattern b x y ≡ Head → IsLit pattern b x y
  tail : IsCellOf pattern b x y → band_at pattern b x y ≡ Tail → IsLit pattern b x y

-- no cell of any band is lit
abbrev pub IsUnlit : BandedPattern → Type 0
IsUnlit pattern = (b x y : ℕ) → ¬ IsLit pattern b x y

-- the cell lies in the last row above band b, or in the first one below it
pub record IsFacing (pattern : BandedPattern) (b x y : ℕ) : Type 0 where
  pub column : x < pattern.grid.width
  pub beside : (y + 1 ≡ b * pattern.height) ⊎ (y ≡ b * pattern.height + pattern.height)
  pub within : y < length pattern.grid.rows

-- a neighbour of band b, if its generation among these is neither band b's nor one more
abbrev pub not_ready : List ℕ → ℕ → ℕ → Option NotReady
not_ready generations b neighbour =
    let own = get_or generations b 0 in
    let other = get_or generations neighbour 0 in
    if other == own || other == own + 1 then None
    else Some (record { neighbour = neighbour; generation = other })

abbrev pub upper_not_ready : List ℕ → ℕ → Option NotReady
upper_not_ready generations zero = None
upper_not_ready generations (suc b) = not_ready generations (suc b) b

abbrev pub lower_not_ready : List ℕ → ℕ → Option NotReady
lower_not_ready generations b =
    if nat_lt (b + 1) (length generations) then not_ready generations b (b + 1) else None

-- the neighbour that keeps band b from moving on, if there is one; the upper one is looked at first
abbrev pub unready_neighbour : List ℕ → ℕ → Option NotReady
unready_neighbour generations b =
    option_or (upper_not_ready generations b) (lower_not_ready generations b)

-- A cell keeps a band awake, at the band's generation: it is a head or a tail of the band, a head
-- of a row that faces the band, or a cell of the band where an injection is due at the next
-- generation.
pub data IsAwake (pattern : BandedPattern) (b x y : ℕ) : Type 0 where
  head : IsCellOf pattern b x y → band_at pattern b x y ≡ Head → IsAwake pattern b x y
  tail : IsCellOf pattern b x y → band_at pattern b x y ≡ Tail → IsAwake pattern b x y
  faced : IsFacing pattern b x y → band_at pattern b x y ≡ Head → IsAwake pattern b x y
  due : IsCellOf pattern b x y → due_of_list pattern.injections (generation_of pattern b + 1)
      (pos x) (pos y) ≡ true → IsAwake pattern b x y

-- why a band was not skipped
abbrev pub HasReasonToStay : BandedPattern → ℕ → NotSkipped → Type 0
HasReasonToStay pattern b (not_skipped.NotReady refusal) =
    unready_neighbour pattern.generations b ≡ Some refusal
HasReasonToStay pattern b (not_skipped.Awake x y) =
    (unready_neighbour pattern.generations b ≡ None) × IsAwake pattern b x y
