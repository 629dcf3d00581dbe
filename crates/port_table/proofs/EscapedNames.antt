-- Names with escapes, byte by byte.
use Rattle.std.proofs.Common.{ℕ, ◌≡◌, refl, ap, List, [], ◌∷◌, ◌++◌, append_assoc}
use Rattle.std.specs.Prelude.{Option, Some, None, option_map}
use Rattle.pattern_reading.specs.Escapes.{onto}

-- one more byte at the end of those so far, or at the front of the rest
pub byte_moved : (bytes : List ℕ) (b : ℕ) (rest : Option (List ℕ)) → option_map (λ more. (bytes ++ b ∷ []) ++ more) rest ≡ option_map (λ more. bytes ++ more) (onto b rest)
byte_moved bytes b None = refl
byte_moved bytes b (Some more) = ap Some (append_assoc bytes (b ∷ []) more)
