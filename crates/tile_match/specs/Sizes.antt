-- How many lanes, columns and loops a box, a period and a latency have.
use Rattle.std.specs.Prelude.{ℕ, ◌<◌, ◌≡◌, ◌^◌, ◌*◌, ◌+◌, ◌≤◌, ◌==◌, ◌↔◌, cond}

-- a plan of so many lanes, columns and loops has this box, this period and this latency
pub record IsSizeOfPlan (width height period latency lanes columns loops : ℕ) : Type 0 where
  pub few_lanes : lanes < 2 ^ 32
  pub few_columns : columns < 2 ^ 40
  pub both : (lanes ≡ 0) ↔ (columns ≡ 0)
  pub loops_on_lanes : loops ≤ lanes
  pub loops_in_columns : loops ≤ columns
  pub latency_is : latency ≡ 32 * columns
  pub period_is : period ≡ cond (loops == 0) 32 (32 * (2 * columns + 4 * loops))
  pub width_is : width ≡ cond (lanes == 0) 0 (32 * (columns + 2 * loops) + 1)
  pub height_is : height ≡ cond (lanes == 0) 0 (16 * (lanes + loops))
