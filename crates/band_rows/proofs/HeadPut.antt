-- The marks after a cell was made a head.
use Rattle.std.proofs.Common.{ℕ, ◌<◌, ◌≤◌, ◌≡◌, sym, ap, subst, ◌∙◌, inl, inr, List, length, get_or, slice_set, arith}
use Rattle.std.specs.Prelude.{◌≢◌}
use Rattle.std.proofs.lemmas.Bool.{cases_eq}
use Rattle.std.proofs.lemmas.List.{get_or-set_same, get_or-set_other}
use Rattle.std.proofs.lemmas.Nat.{and_comm}
use Rattle.std.specs.Int.RustNames.{bit_and}
use Rattle.lane_kernel.specs.Around.{Way, beside, free_of, near_heads, IsFramed}
use Rattle.lane_kernel.specs.Marked.{AreMore, IsMarked, IsTold, opposite}
use Rattle.lane_kernel.proofs.Ways.{there_and_back, back_again}

-- the words beside word i, by these heads of it, in a plane with these tails and cells
abbrev pub AreToldOf : (stride h i : ℕ) (tails cells bytes : List ℕ) → Type 0
AreToldOf stride h i tails cells bytes = (way : Way) → IsTold (near_heads (opposite way) h) tails cells bytes (beside stride way i)

pub told_of : (stride : ℕ) {h h' : ℕ} (i : ℕ) {tails tails' cells cells' : List ℕ} (new : List ℕ) → h ≡ h' → tails ≡ tails' → cells ≡ cells'
    → AreToldOf stride h i tails cells new → AreToldOf stride h' i tails' cells' new
told_of stride {h} {h'} i {tails} {tails'} {cells} {cells'} new p q r told =
    subst (λ c. AreToldOf stride h' i tails' c new) r
    (subst (λ t. AreToldOf stride h' i t cells new) q
    (subst (λ h. AreToldOf stride h i tails cells new) p told))

module _ (stride : ℕ) (heads tails cells bytes : List ℕ) (i h c : ℕ) (new : List ℕ) (in_heads : i < length heads) (in_cells : i < length cells)
    (framed : IsFramed stride (slice_set cells i c)) (was : IsMarked stride heads tails cells bytes) (more : AreMore bytes new) (here : 2 ≤ get_or new i 0)
    (told : AreToldOf stride h i tails (slice_set cells i c) new) where
  abbrev H : List ℕ
  H = slice_set heads i h

  abbrev C : List ℕ
  C = slice_set cells i c

  other : (j : ℕ) → get_or new j 0 < 2 → j ≢ i
  other j low e = let q = ap (λ j. get_or new j 0) e in omega (arith, low, q, here)

  pub head_marked : IsMarked stride H tails C new
  head_marked =
      record {
        dark = λ j zero.
            let ne = other j (omega (arith, zero)) in
            let m = more j in
            let hj = get_or-set_other heads i j h 0 ne in
            let cj = get_or-set_other cells i j c 0 ne in
            elim (was.dark j (omega (arith, m, zero))) [
              | inl empty ↦ inl (cj ∙ empty)
              | inr d ↦ inr (hj ∙ d.0, d.1)
            ];
        calm = λ j low way.
            let ne = other j low in
            let m = more j in
            let cj = get_or-set_other cells i j c 0 ne in
            let s = beside stride way j in
            let t = get_or tails j 0 in
            elim (cases_eq s i) [
              | inr away ↦
                  ap (λ w. bit_and (near_heads way w) (free_of (get_or C j 0) t)) (get_or-set_other heads i s h 0 away)
                  ∙ ap (λ w. bit_and (near_heads way (get_or heads s 0)) (free_of w t)) cj
                  ∙ was.calm j (omega (arith, m, low)) way
              | inl e ↦
                  elim (cases_eq (get_or C j 0) 0) [
                    | inl empty ↦ ap (λ w. bit_and (near_heads way (get_or H s 0)) (free_of w t)) empty ∙ and_comm _ 0
                    | inr some ↦
                        let back : beside stride (opposite way) i ≡ j = sym (ap (beside stride (opposite way)) e) ∙ there_and_back stride (length C) way j (framed j some) in
                        let at : IsTold (near_heads (opposite (opposite way)) h) tails C new j = subst (IsTold (near_heads (opposite (opposite way)) h) tails C new) back (told (opposite way)) in
                        elim at [
                          | inl two ↦ absurd (omega (arith, low, two))
                          | inr none ↦
                              ap (λ w. bit_and (near_heads way w) (free_of (get_or C j 0) t)) (ap (λ s. get_or H s 0) e ∙ get_or-set_same heads i h 0 in_heads)
                              ∙ ap (λ w. bit_and (near_heads w h) (free_of (get_or C j 0) t)) (sym (back_again way))
                              ∙ none
                        ]
                  ]
            ];
      }
