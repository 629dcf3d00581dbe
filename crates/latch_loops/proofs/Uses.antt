-- The last use of a lane, and the bits after it.
use Rattle.std.proofs.Common.{◌≡◌, refl, sym, ◌∙◌, ap, ap₂, ℕ, zero, suc, ◌+◌, ◌<◌, ◌≤◌, Bool, true, false, cond, ⊎_elim, List, [], ◌∷◌, ◌++◌, length, get_or, take, drop, map, Option, Some, None, arith, inl, inr, ◌⊎◌}
use Rattle.std.proofs.lemmas.Bool.{cases_eq}
use Rattle.std.proofs.lemmas.List.{take-append-drop}
use Rattle.lane_core.specs.declared.instr.Instr.{Instr}
use Rattle.lane_core.specs.declared.instr.Column.{Column}
use Rattle.lane_core.specs.declared.plan.NetPlace.{NetPlace}
use Rattle.lane_core.specs.Instrs.{bit_on, is_on, after_instrs}
use Rattle.lane_core.specs.Columns.{after_columns}
use Rattle.lane_core.specs.Entering.{bits_after}
use Rattle.column_packer.specs.Numbers.{used_by, column_numbers}
use Rattle.column_packer.specs.Packing.{IsPacked}
use Rattle.column_packer.proofs.Uses.{cases_on}
use Rattle.column_packer.proofs.Numbers.{from_front, number, used_push, past_uses, used_within}
use Rattle.column_packer.proofs.First.{number_of, used_next, used_on, used_off}
use Rattle.column_packer.proofs.Packed.{packed_front}
use Rattle.latch_loops.specs.Places.{last_of, column_of_place, closed_place, PlacesAreLastUses}
use Rattle.latch_loops.specs.Closed.{IsPadded}
use Rattle.latch_loops.proofs.Padding.{padded_front}

pub used_here : (instrs : List Instr) (numbers : List ℕ) (left lane used : ℕ) (d : Instr) → numbers ≡ column_numbers instrs → left < length instrs → used_by (take (left + 1) instrs) lane ≡ used
    → is_on lane (get_or instrs left d) ≡ true → Some (get_or numbers left 0) ≡ last_of used
used_here instrs numbers left lane used d are within same on =
    let last : suc (get_or numbers left 0) ≡ used = omega (arith, ap (λ ns. get_or ns left 0) are, same, used_on instrs left lane d within on) in
    ap last_of last

pub not_used_here : (instrs : List Instr) (left lane used : ℕ) (d : Instr) → left < length instrs → used_by (take (left + 1) instrs) lane ≡ used
    → is_on lane (get_or instrs left d) ≡ false → used_by (take left instrs) lane ≡ used
not_used_here instrs left lane used d within same off = sym (used_off instrs left lane d within off) ∙ same

-- the last use in a front, or none
abbrev LastIn : List Instr → ℕ → ℕ → Instr → Type 0
LastIn xs lane k d =
    ((m : ℕ) × (m < k) × (is_on lane (get_or xs m d) ≡ true) × ((j : ℕ) → m < j → j < k → is_on lane (get_or xs j d) ≡ false) × (used_by (take k xs) lane ≡ number_of xs m + 1))
    ⊎ (((j : ℕ) → j < k → is_on lane (get_or xs j d) ≡ false) × (used_by (take k xs) lane ≡ 0))

last_in : (xs : List Instr) (lane : ℕ) (d : Instr) (k : ℕ) → k ≤ length xs → LastIn xs lane k d
last_in xs lane d zero within = inr (λ j low. absurd (omega (arith, low)), refl)
last_in xs lane d (suc k) within =
    ⊎_elim
    (λ on. inl (k, omega arith, on, λ j high low. absurd (omega (arith, high, low)), used_next xs k lane ∙ used_on xs k lane d (omega (arith, within)) on))
    (λ off. ⊎_elim
    (λ u. inl (u.0, omega (arith, u.1), u.2, λ j high low. from_last off j low (λ lt. u.3 j high lt), used_next xs k lane ∙ used_off xs k lane d (omega (arith, within)) off ∙ u.4))
    (λ none. inr (λ j low. from_last off j low (λ lt. none.0 j lt), used_next xs k lane ∙ used_off xs k lane d (omega (arith, within)) off ∙ none.1))
    (last_in xs lane d k (omega (arith, within))))
    (cases_on lane (get_or xs k d))
  where
    from_last : is_on lane (get_or xs k d) ≡ false → (j : ℕ) → j < suc k → (j < k → is_on lane (get_or xs j d) ≡ false) → is_on lane (get_or xs j d) ≡ false
    from_last off j low earlier = ⊎_elim (λ here. ap (λ n. is_on lane (get_or xs n d)) here ∙ off) (λ ne. earlier (omega (arith, low, ne))) (cases_eq j k)

pub places_are_last_uses : PlacesAreLastUses
places_are_last_uses xs lane n d within =
    ⊎_elim
    (λ u. inl (
      u.0,
      record { before = omega (arith, u.1); on = u.2; later = λ j high low. u.3 j high (omega (arith, low)) },
      (let e : used_by (take (n + 1) xs) lane ≡ suc (number_of xs u.0) = omega (arith, u.4) in ap last_of e),
    ))
    (λ none. inr (λ j low. none.0 j (omega (arith, low)), ap last_of none.1))
    (last_in xs lane d (n + 1) (omega (arith, within)))

-- the last use in a front is none past the last of all
pub used_front : (front rest : List Instr) (lane : ℕ) → used_by front lane ≤ used_by (front ++ rest) lane
used_front front rest lane = from_front (λ xs. used_by front lane ≤ used_by xs lane) step front rest (omega arith)
  where
    step : (xs : List Instr) (i : Instr) → used_by front lane ≤ used_by xs lane → used_by front lane ≤ used_by (xs ++ i ∷ []) lane
    step xs i low =
        ⊎_elim
        (λ on. omega (arith, low, past_uses (used_by xs) i lane on, used_push xs i lane ∙ ap (λ b. cond b (number xs i + 1) (used_by xs lane)) on))
        (λ off. omega (arith, low, used_push xs i lane ∙ ap (λ b. cond b (number xs i + 1) (used_by xs lane)) off))
        (cases_on lane i)

pub used_in_columns : (instrs : List Instr) (columns : List Column) → IsPacked instrs columns → (n lane : ℕ) → used_by (take n instrs) lane ≤ length columns
used_in_columns instrs columns p n lane =
    let low = used_front (take n instrs) (drop n instrs) lane in
    let same : used_by (take n instrs ++ drop n instrs) lane ≡ used_by instrs lane = ap (λ xs. used_by xs lane) (take-append-drop n instrs) in
    omega (arith, low, same, used_within instrs lane, p.count)

to_last : (columns : List Column) (used : ℕ) (bits : List Bool) → bits_after after_columns columns (last_of used) bits ≡ after_columns (take used columns) bits
to_last columns zero bits = refl
to_last columns (suc c) bits = (let e : c + 1 ≡ suc c = omega arith in ap (λ n. after_columns (take n columns) bits) e)

-- a place has the same bit in the program and in the plan
pub place_bit : (least : ℕ) (instrs : List Instr) (columns padded : List Column) → IsPacked instrs columns → IsPadded least columns padded → (bits : List Bool) (lane : ℕ) (after : Option ℕ)
    → bit_on (bits_after after_columns padded (column_of_place instrs lane after) bits) lane ≡ bit_on (bits_after after_instrs instrs after bits) lane
place_bit least instrs columns padded k p bits lane None = refl
place_bit least instrs columns padded k p bits lane (Some n) =
    let used = used_by (take (n + 1) instrs) lane in
    ap (λ b. bit_on b lane)
    (to_last padded used bits ∙ ap (λ cs. after_columns cs bits) (padded_front least columns padded p used (used_in_columns instrs columns k (n + 1) lane)))
    ∙ packed_front instrs columns k (n + 1) lane bits

pub place_bits : (least : ℕ) (instrs : List Instr) (columns padded : List Column) → IsPacked instrs columns → IsPadded least columns padded → (bits : List Bool) (places : List NetPlace)
    → map (λ place. bit_on (bits_after after_columns padded place.after bits) place.lane) (map (closed_place instrs) places)
    ≡ map (λ place. bit_on (bits_after after_instrs instrs place.after bits) place.lane) places
place_bits least instrs columns padded k p bits [] = refl
place_bits least instrs columns padded k p bits (place ∷ places) = ap₂ (λ b bs. b ∷ bs) (place_bit least instrs columns padded k p bits place.lane place.after) (place_bits least instrs columns padded k p bits places)
