-- Lanes without a signal.
use Rattle.std.proofs.Common.{◌≡◌, ℕ, false, get_or, replicate}
use Rattle.lists.proofs.Fills.{same_throughout}

-- bits that are all false are false at each place, and beyond
pub dark : (n i : ℕ) → get_or (replicate n false) i false ≡ false
dark n i = same_throughout n i false
