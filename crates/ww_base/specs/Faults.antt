-- What a call does to a source's or a sink's count of faults. So a call neither hides a failure nor
-- meets a second one: the count would have risen with an `Ok`, or by two.
use Rattle.std.specs.Prelude.{ℕ, ◌≡◌, ◌+◌, ◌-◌, ◌^◌, ◌≤◌, min, OnOk, OnErr, Result}

-- the count rose by one, or stands at the greatest u64
pub record RoseByOne (before now : ℕ) : Type 0 where
  pub later : before ≤ now
  pub by_one : now ≡ min (before + 1) (2 ^ 64 - 1)

-- `Ok` leaves the count as it is, and `Err` raises it by one
pub record HasCause {T E : Type 0} (before now : ℕ) (result : Result T E) : Type 0 where
  pub kept : OnOk result (now ≡ before)
  pub failed : OnErr result (RoseByOne before now)
