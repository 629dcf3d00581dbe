use Rattle.std.proofs.Common.{ℕ, zero, suc, ◌<◌, ◌==◌, refl, ap, arith}
use Rattle.std.specs.Prelude.{◌≢◌}
use Rattle.std.specs.Int.{w64}
use Rattle.std.proofs.lemmas.Nat.Bits.{bit_at-trailing_zeros}
use Rattle.band_rows.proofs.field_light.set_place.Goals as goal

some : (n : ℕ) → n ≢ 0 → 0 < n
some zero ne = absurd (ne refl)
some (suc n) ne = omega arith

pub returns : goal.returns
returns c =
    let z = bit_at-trailing_zeros w64 c.args.word (some c.args.word c.requires) c.ranges.word.fits in
    record { small = z.0; set = ap (λ n. n == 1) z.1 }
