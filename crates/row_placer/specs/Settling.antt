-- Exchanges of neighbours that bring loops' data to their lanes.
use Rattle.std.specs.Prelude.{ℕ, ◌+◌, ◌*◌, ◌<◌, ◌≤◌, ◌≡◌, List, [], ◌∷◌, length, All}
use Rattle.channel_router.specs.Routes.{swapped}
use Rattle.row_placer.specs.declared.roles.Tag.{Tag}
use Rattle.row_placer.specs.declared.job.Job.{Job}
use Rattle.row_placer.specs.Told.{Rearranged}
use Rattle.row_placer.specs.Ready.{AreSettled}

-- the lane from which a lane's tag comes, when neighbours are exchanged one pair after another
abbrev pub came_from : List ℕ → ℕ → ℕ
came_from [] lane = lane
came_from (at ∷ more) lane = swapped at (came_from more lane)

-- each exchange is of two of so many lanes
abbrev pub AreOnLanes : ℕ → List ℕ → Type 0
AreOnLanes lanes swaps = All (λ at. at + 1 < lanes) swaps

-- exchanges of lanes that are there make the new tags of the old ones
pub record Exchanges (old : List Tag) (swaps : List ℕ) (new : List Tag) : Type 0 where
  pub within : AreOnLanes (length old) swaps
  pub long : length new ≡ length old
  pub moved : Rearranged old new (came_from swaps)

-- after these exchanges, which are few, the loops' data stand on their lanes
pub record Settles (job : Job) (loops : ℕ) (tags : List Tag) (swaps : List ℕ) : Type 0 where
  pub within : AreOnLanes (length tags) swaps
  pub few : length swaps ≤ loops * length tags
  pub settled : (new : List Tag) → length new ≡ length tags
      → Rearranged tags new (came_from swaps) → AreSettled job loops new
