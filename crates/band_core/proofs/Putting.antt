-- A band put into its place.
use Rattle.std.proofs.Common.{ℕ, ◌<◌, refl, sym, subst, inl, inr, List, length, get_or, slice_set, arith}
use Rattle.std.proofs.lemmas.Bool.{cases_eq}
use Rattle.std.proofs.lemmas.Grind.{get_or-set_at}
use Rattle.std.proofs.lemmas.List.{length-set, get_or-set_other}
use Rattle.band_core.specs.declared.band.Band.{Band}

-- what holds of all bands holds after one was put into its place
pub put_one : (P : ℕ → Band → Type 0) (bands : List Band) (b : ℕ) (next : Band) → b < length bands → P b next → ((k : ℕ) (d : Band) → k < length bands → P k (get_or bands k d)) → (k : ℕ) (d : Band) → k < length (slice_set bands b next) → P k (get_or (slice_set bands b next) k d)
put_one P bands b next inside here each k d lt =
    let l = length-set bands b next in
    elim (cases_eq k b) [
      | inl q ↦ subst (λ k. P k (get_or (slice_set bands b next) k d)) (sym q) (subst (P b) (sym (get_or-set_at bands b b next d refl inside)) here)
      | inr ne ↦ subst (P k) (sym (get_or-set_other bands b k next d ne)) (each k d (omega (arith, lt, l)))
    ]
