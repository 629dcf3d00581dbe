-- The band of a row.
use Rattle.std.proofs.Common.{ℕ, ◌+◌, ◌*◌, ◌/◌, ◌%◌, ◌<◌, ◌≤◌, ◌≡◌, sym, subst, length, arith}
use Rattle.std.proofs.Math.Nat.{mul_comm}
use Rattle.band_core.specs.Bands.{BandedPattern, IsBandedPattern, IsCellOf}
use Rattle.band_core.proofs.Evolution.{in_bands}

module _ (p : BandedPattern) (whole : IsBandedPattern p) (y : ℕ) where
  pub is_cell : (x : ℕ) → x < p.grid.width → y < length p.grid.rows → IsCellOf p (y / p.height) x y
  is_cell x column row =
      let h = p.height in
      let some = whole.height in
      let r : y % h < h = omega (arith, some) in
      let parts : h * (y / h) + y % h ≡ y = omega (arith, some) in
      let turned = mul_comm h (y / h) in
      record { column = column; from = omega (arith, parts, turned); below = omega (arith, r, parts, turned); within = row }

  pub is_band : y < length p.grid.rows → y / p.height < length p.generations
  is_band row =
      let h = p.height in
      let some = whole.height in
      let parts : h * (y / h) + y % h ≡ y = omega (arith, some) in
      let turned = mul_comm h (y / h) in
      let from : y / h * h ≤ y = omega (arith, parts, turned) in
      subst (λ n. y / h < n) (sym whole.many) (in_bands (y / h) h y (length p.grid.rows) some from row)
