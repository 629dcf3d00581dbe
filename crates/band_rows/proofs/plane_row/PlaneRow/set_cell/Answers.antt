use Rattle.std.proofs.Common.{ℕ, zero, suc, ◌≡◌, ◌<◌, ◌*◌, ◌+◌, ◌==◌, refl, sym, ap, ◌∙◌, inl, inr, arith}
use Rattle.std.specs.Prelude.{◌≢◌}
use Rattle.std.specs.Int.{w64, trailing_zeros}
use Rattle.std.proofs.lemmas.Bool.{cases_lt}
use Rattle.std.proofs.lemmas.Nat.Bits.{bit_at-trailing_zeros}
use Rattle.lists.specs.Bits.{has_bit}
use Rattle.lane_kernel.proofs.Places.{is_set_at}
use Rattle.lane_kernel.proofs.PlaneRows.{row_past}
use Rattle.band_rows.specs.Facing.{words_in}
use Rattle.band_rows.proofs.ClosedFields.{unset}
use Rattle.band_rows.proofs.plane_row.PlaneRow.set_cell.Goals as goal

some : (n : ℕ) → n ≢ 0 → 0 < n
some zero ne = absurd (ne refl)
some (suc n) ne = omega arith

pub returns-then-word-ne0-clause-some : goal.returns-then-word-ne0-clause-some
returns-then-word-ne0-clause-some c =
    let words = words_in c.args.self.now in
    let j = c.loop-c.c in
    let w = c.word-word.result in
    let z = bit_at-trailing_zeros w64 w (some w c.if-word-ne0.true) c.word-word.type_inv in
    let tz = trailing_zeros w64 w in
    let place : 64 * j + tz ≡ j * 64 + tz = omega arith in
    is_set_at words (64 * j + tz) j tz place z.0 ∙ ap (λ w. has_bit w tz) (sym c.word-word.ensures) ∙ ap (λ n. n == 1) z.1

pub returns-clause-none : goal.returns-clause-none
returns-clause-none c is =
    let self = c.args.self.now in
    unset (words_in self) (λ j.
    elim (cases_lt j self.columns) [
      | inl lt ↦ c.loop-c.invariant j (omega (arith, lt, c.loop-c-test.false, c.loop-c.auto.c-end))
      | inr ge ↦ row_past self.columns self.stride self.plane.now self.r j ge
    ])
