-- Marks of all words of a plane.
use Rattle.std.proofs.Common.{ℕ, ◌<◌, ◌≡◌, sym, ap, subst, ◌∙◌, inl, inr, List, length, get_or, arith}
use Rattle.std.specs.Prelude.{◌≢◌}
use Rattle.std.proofs.lemmas.Bool.{cases_eq}
use Rattle.std.proofs.lemmas.Nat.{and_comm}
use Rattle.std.specs.Int.RustNames.{bit_and}
use Rattle.lane_kernel.specs.declared.free_cells.Free.{Free}
use Rattle.lane_kernel.specs.Around.{Way, beside, free_of, near_heads, IsInner}
use Rattle.lane_kernel.specs.Marked.{AreOn, AreTold, IsMarked, IsTold, opposite}
use Rattle.lane_kernel.proofs.UnderWay.{no_tails}
use Rattle.lane_kernel.proofs.Ways.{there_and_back, back_again, near_none}

module _ (free : Free) (heads bytes : List ℕ) (on : AreOn free.cells.now heads)
    (dark : (i : ℕ) → IsInner free.stride (length free.cells.now) i → get_or bytes i 0 ≡ 0 → (get_or heads i 0 ≡ 0) × (get_or free.tails.now i 0 ≡ 0))
    (told : (i : ℕ) → IsInner free.stride (length free.cells.now) i → AreTold free (get_or heads i 0) i bytes) where
  abbrev stride : ℕ
  stride = free.stride

  abbrev tails : List ℕ
  tails = free.tails.now

  abbrev cells : List ℕ
  cells = free.cells.now

  calm_beside : (i : ℕ) (way : Way) → get_or cells i 0 ≢ 0 → get_or bytes i 0 < 2 → bit_and (near_heads way (get_or heads (beside stride way i) 0)) (free_of (get_or cells i 0) (get_or tails i 0)) ≡ 0
  calm_beside i way some low =
      let j = beside stride way i in
      let wires = free_of (get_or cells i 0) (get_or tails i 0) in
      elim (cases_eq (get_or cells j 0) 0) [
        | inl empty ↦ ap (λ h. bit_and (near_heads way h) wires) (no_tails cells heads j on empty) ∙ ap (λ n. bit_and n wires) (near_none way)
        | inr there ↦
            let back : beside stride (opposite way) j ≡ i = there_and_back stride (length cells) way i (free.framed i some) in
            let h = get_or heads j 0 in
            let here : IsTold (near_heads (opposite (opposite way)) h) tails cells bytes i = subst (IsTold (near_heads (opposite (opposite way)) h) tails cells bytes) back (told j (free.framed j there) (opposite way)) in
            elim here [
              | inl two ↦ absurd (omega (arith, low, two))
              | inr none ↦ ap (λ w. bit_and (near_heads w h) wires) (sym (back_again way)) ∙ none
            ]
      ]

  pub all_marked : IsMarked stride heads tails cells bytes
  all_marked =
      record {
        dark = λ i zero.
            elim (cases_eq (get_or cells i 0) 0) [
              | inl empty ↦ inl empty
              | inr some ↦ inr (dark i (free.framed i some) zero)
            ];
        calm = λ i low way.
            elim (cases_eq (get_or cells i 0) 0) [
              | inl empty ↦ ap (λ c. bit_and (near_heads way (get_or heads (beside stride way i) 0)) (free_of c (get_or tails i 0))) empty ∙ and_comm _ 0
              | inr some ↦ calm_beside i way some low
            ];
      }
