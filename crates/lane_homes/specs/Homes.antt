-- The lanes on which values stand at the start.
use Rattle.std.specs.Prelude.{ℕ, ◌+◌, ◌<◌, ◌≡◌, ◌≢◌, Bool, true, cond, List, length, get_or, AllPairs}

-- Homes of inputs, then of loops, and of one value more if a lane is to stay dark. No two are the
-- same; those of loops stand side by side from lane `above` on, and the others above them.
pub record AreHomesAbove (above inputs loops : ℕ) (is_dark : Bool) (homes : List ℕ) : Type 0 where
  pub long : length homes ≡ inputs + loops + cond is_dark 1 0
  pub apart : AllPairs (λ a b. a ≢ b) homes
  pub ins : (i : ℕ) → i < inputs → get_or homes i 0 < above
  pub side_by_side : (s : ℕ) → s < loops → get_or homes (inputs + s) 0 ≡ above + s
  pub dark : is_dark ≡ true → get_or homes (inputs + loops) 0 < above
