-- Lanes of ports, and places of nets.
use Rattle.std.specs.Prelude.{ℕ, ◌<◌, ◌≢◌, List, All, AllPairs}
use Rattle.std.specs.Option.{ForSome}
use Rattle.lane_core.specs.declared.plan.NetPlace.{NetPlace}

-- lanes below a limit, no lane twice
pub record AreDistinctBelow (limit : ℕ) (lanes : List ℕ) : Type 0 where
  pub below : All (λ lane. lane < limit) lanes
  pub distinct : AllPairs (λ a b. a ≢ b) lanes

-- the place is on one of the lanes, at the start or after one of the steps
pub record IsPlaceWithin (lanes steps : ℕ) (place : NetPlace) : Type 0 where
  pub lane : place.lane < lanes
  pub after : ForSome place.after (λ step. step < steps)
