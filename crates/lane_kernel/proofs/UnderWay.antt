-- A generation of the listed words, entry by entry.
use Rattle.std.proofs.Common.{ℕ, ◌+◌, ◌<◌, ◌≡◌, refl, sym, ap, subst, ◌∙◌, inl, inr, List, length, get_or, slice_set, arith}
use Rattle.std.specs.Prelude.{◌≢◌}
use Rattle.std.proofs.lemmas.Bool.{cases_eq}
use Rattle.std.proofs.lemmas.List.{get_or-set_same, get_or-set_other}
use Rattle.std.proofs.lemmas.Nat.{and_comm}
use Rattle.std.specs.Int.RustNames.{bit_and}
use Rattle.lane_kernel.specs.declared.free_cells.Free.{Free}
use Rattle.lane_kernel.specs.Around.{Way, beside, near_heads, free_of, wires_of, heads_alone, next_word, StepsAlone}
use Rattle.lane_kernel.specs.Around.Way.{north, south, west, east, north_west, north_east, south_west, south_east}
use Rattle.lane_kernel.specs.Words.{new_heads_of}
use Rattle.lane_kernel.proofs.Calm.{alone, same_next}
use Rattle.lane_kernel.proofs.Places.{Fit}
use Rattle.lane_kernel.specs.Marked.{coming_word, AreCleared, AreMore, AreOn, AreTold, IsAmong, IsMarked, IsTold, IsUnderWay, opposite}
use Rattle.lane_kernel.proofs.Listing.{still_told}
use Rattle.lane_kernel.proofs.Ways.{there_and_back, back_again, near_none}

-- a word without cells gets no heads
pub none_without_cells : (stride : ℕ) (heads tails cells : List ℕ) (i : ℕ) → get_or cells i 0 ≡ 0 → next_word stride heads tails cells i ≡ 0
none_without_cells stride heads tails cells i none =
    let at = λ (way : Way). get_or heads (beside stride way i) 0 in
    ap (λ c. new_heads_of (at north_west) (at north) (at north_east) (at west) (get_or heads i 0) (at east) (at south_west) (at south) (at south_east) (wires_of c (get_or heads i 0) (get_or tails i 0))) none

-- nor does a calm word without heads
pub none_alone : (stride : ℕ) (heads tails cells : List ℕ) (i : ℕ) → Fit heads → Fit cells → StepsAlone stride heads tails cells i → get_or heads i 0 ≡ 0 → next_word stride heads tails cells i ≡ 0
none_alone stride heads tails cells i fh fc calm none =
    let w = wires_of (get_or cells i 0) (get_or heads i 0) (get_or tails i 0) in
    alone stride heads tails cells i fh fc calm ∙ ap (λ h. heads_alone h w) none ∙ and_comm w 0

pub no_tails : (cells tails : List ℕ) (i : ℕ) → AreOn cells tails → get_or cells i 0 ≡ 0 → get_or tails i 0 ≡ 0
no_tails cells tails i on none = sym (on i) ∙ ap (λ c. bit_and c (get_or tails i 0)) none

-- a word without heads tells nothing
pub none_told : (free : Free) (heads i : ℕ) (bytes : List ℕ) → heads ≡ 0 → AreTold free heads i bytes
none_told free heads i bytes none way =
    let cells = get_or free.cells.now (beside free.stride way i) 0 in
    let tails = get_or free.tails.now (beside free.stride way i) 0 in
    inr (ap (λ h. bit_and (near_heads (opposite way) h) (free_of cells tails)) none
    ∙ ap (λ n. bit_and n (free_of cells tails)) (near_none (opposite way)))

pub same_told : (free : Free) (h h' i : ℕ) (bytes : List ℕ) → h ≡ h' → AreTold free h i bytes → AreTold free h' i bytes
same_told free h h' i bytes e told = subst (λ h. AreTold free h i bytes) e told

module _ (coming : Free) (old entries : List ℕ) where
  abbrev stride : ℕ
  stride = coming.stride

  abbrev heads : List ℕ
  heads = coming.tails.now

  abbrev cells : List ℕ
  cells = coming.cells.now

  abbrev N : ℕ → ℕ
  N i = coming_word coming old i

  -- before the first entry
  pub begun : (bytes soon : List ℕ) → Fit heads → Fit cells → AreOn cells old → IsMarked stride heads old cells bytes → ((i : ℕ) → get_or bytes i 0 ≢ 0 → IsAmong entries 0 (length entries) i) → IsUnderWay coming old entries 0 old bytes soon
  begun bytes soon fh fc on marked each =
      let none : (i : ℕ) → get_or bytes i 0 ≡ 0 → N i ≡ 0 = λ i zero.
      elim (marked.dark i zero) [
        | inl empty ↦ none_without_cells stride heads old cells i empty
        | inr dark ↦ none_alone stride heads old cells i fh fc (marked.calm i (omega (arith, zero))) dark.0
      ] in
      record {
        old = λ i some. refl;
        calm = λ i one. marked.calm i (omega (arith, one));
        left = each;
        done = λ i zero.
            elim (marked.dark i zero) [
              | inl empty ↦ no_tails cells old i on empty ∙ sym (none i zero)
              | inr dark ↦ dark.1 ∙ sym (none i zero)
            ];
        dark = λ i zero unmarked.
            elim (marked.dark i zero) [
              | inl empty ↦ inl empty
              | inr dark ↦ inr (none i zero, dark.0)
            ];
        told = λ i zero. none_told coming (N i) i soon (none i zero);
      }

  -- an entry whose word has no mark
  pub passed : (k : ℕ) (tails bytes soon : List ℕ) → get_or bytes (get_or entries k 0) 0 ≡ 0 → IsUnderWay coming old entries k tails bytes soon → IsUnderWay coming old entries (k + 1) tails bytes soon
  passed k tails bytes soon none u =
      record {
        old = u.old;
        calm = u.calm;
        left = λ i some.
            let a = u.left i some in
            let first = a.first in
            let at = a.is in
            record {
              place = a.place;
              first = elim (cases_eq a.place k) [
                | inl e ↦ absurd (some (sym (ap (λ j. get_or bytes j 0) (sym (ap (λ p. get_or entries p 0) e) ∙ at)) ∙ none))
                | inr ne ↦ omega (arith, first, ne)
              ];
              last = a.last;
              is = at;
            };
        done = u.done;
        dark = u.dark;
        told = u.told;
      }

  -- an entry whose word has stepped
  pub stepped : (k i v : ℕ) (tails bytes soon soon' : List ℕ) → i ≡ get_or entries k 0 → i < length tails → i < length bytes → get_or bytes i 0 ≢ 0
      → v ≡ next_word stride heads tails cells i → AreMore soon soon'
      → (get_or soon' i 0 ≡ 0 → (v ≡ 0) × (get_or heads i 0 ≡ 0)) → AreTold coming v i soon'
      → IsUnderWay coming old entries k tails bytes soon
      → IsUnderWay coming old entries (k + 1) (slice_set tails i v) (slice_set bytes i 0) soon'
  stepped k i v tails bytes soon soon' at in_tails in_bytes some is more dark told u =
      let new : v ≡ N i = is ∙ same_next stride heads tails old cells i (u.old i some) in
      let gone : get_or (slice_set bytes i 0) i 0 ≡ 0 = get_or-set_same bytes i 0 0 in_bytes in
      let unmarked : (j : ℕ) → j ≢ i → get_or (slice_set bytes i 0) j 0 ≡ get_or bytes j 0 = λ j ne. get_or-set_other bytes i j 0 0 ne in
      let differs : (j : ℕ) → get_or (slice_set bytes i 0) j 0 ≢ 0 → j ≢ i = λ j kept e. kept (ap (λ j. get_or (slice_set bytes i 0) j 0) e ∙ gone) in
      record {
        old = λ j kept.
            let ne = differs j kept in
            get_or-set_other tails i j v 0 ne ∙ u.old j (λ zero. kept (unmarked j ne ∙ zero));
        calm = λ j one.
            let ne = differs j (λ zero. absurd (omega (arith, one, zero))) in
            u.calm j (sym (unmarked j ne) ∙ one);
        left = λ j kept.
            let ne = differs j kept in
            let a = u.left j (λ zero. kept (unmarked j ne ∙ zero)) in
            let first = a.first in
            let here = a.is in
            record {
              place = a.place;
              first = elim (cases_eq a.place k) [
                | inl e ↦ absurd (ne (sym here ∙ ap (λ p. get_or entries p 0) e ∙ sym at))
                | inr other ↦ omega (arith, first, other)
              ];
              last = a.last;
              is = here;
            };
        done = λ j zero.
            elim (cases_eq j i) [
              | inl e ↦ ap (λ j. get_or (slice_set tails i v) j 0) e ∙ get_or-set_same tails i v 0 in_tails ∙ new ∙ sym (ap N e)
              | inr ne ↦ get_or-set_other tails i j v 0 ne ∙ u.done j (sym (unmarked j ne) ∙ zero)
            ];
        dark = λ j zero clear.
            elim (cases_eq j i) [
              | inl e ↦
                  let d = dark (sym (ap (λ j. get_or soon' j 0) e) ∙ clear) in
                  inr (ap N e ∙ sym new ∙ d.0, ap (λ j. get_or heads j 0) e ∙ d.1)
              | inr ne ↦ let m = more j in u.dark j (sym (unmarked j ne) ∙ zero) (omega (arith, m, clear))
            ];
        told = λ j zero.
            elim (cases_eq j i) [
              | inl e ↦ subst (λ j. AreTold coming (N j) j soon') (sym e) (same_told coming v (N i) i soon' new told)
              | inr ne ↦ λ way. still_told (near_heads (opposite way) (N j)) heads cells soon soon' (beside stride way j) more (u.told j (sym (unmarked j ne) ∙ zero) way)
            ];
      }

  -- after the last entry
  pub none_left : (tails bytes soon : List ℕ) → IsUnderWay coming old entries (length entries) tails bytes soon → AreCleared bytes
  none_left tails bytes soon u i =
      elim (cases_eq (get_or bytes i 0) 0) [
        | inl e ↦ e
        | inr ne ↦ let a = u.left i ne in let first = a.first in let last = a.last in absurd (omega (arith, first, last))
      ]

  pub ended : (tails bytes soon : List ℕ) → IsUnderWay coming old entries (length entries) tails bytes soon → IsMarked stride tails heads cells soon
  ended tails bytes soon u =
      let clear = none_left tails bytes soon u in
      record {
        dark = λ i zero.
            elim (u.dark i (clear i) zero) [
              | inl empty ↦ inl empty
              | inr d ↦ inr (u.done i (clear i) ∙ d.0, d.1)
            ];
        calm = λ i low way.
            elim (cases_eq (get_or cells i 0) 0) [
              | inl empty ↦ ap (λ c. bit_and (near_heads way (get_or tails (beside stride way i) 0)) (free_of c (get_or heads i 0))) empty ∙ and_comm _ 0
              | inr some ↦
                  let j = beside stride way i in
                  let back : beside stride (opposite way) j ≡ i = there_and_back stride (length cells) way i (coming.framed i some) in
                  let told = u.told j (clear j) (opposite way) in
                  let here : IsTold (near_heads (opposite (opposite way)) (N j)) heads cells soon i = subst (IsTold (near_heads (opposite (opposite way)) (N j)) heads cells soon) back told in
                  elim here [
                    | inl two ↦ absurd (omega (arith, low, two))
                    | inr none ↦
                        ap (λ h. bit_and (near_heads way h) (free_of (get_or cells i 0) (get_or heads i 0))) (u.done j (clear j))
                        ∙ ap (λ w. bit_and (near_heads w (N j)) (free_of (get_or cells i 0) (get_or heads i 0))) (sym (back_again way))
                        ∙ none
                  ]
            ];
      }
