-- Latches of one clock.
use Rattle.std.proofs.Common.{ℕ, ◌≡◌, refl, sym, ap, ◌∙◌, subst, ◌+◌, ◌<◌, ◌≤◌, ◌⊎◌, inl, inr, List, length, get_or, Some, slice_get, arith}
use Rattle.std.proofs.lemmas.Option.{slice_get_within, slice_get-get_or, same_Some}
use Rattle.lists.proofs.Numbers.{less_or_last}
use Rattle.netlist_core.specs.declared.flat.FlatLatch.{FlatLatch}
use Rattle.netlist_core.specs.declared.flat.Flat.{Flat}
use Rattle.netlist_rules.specs.FlatClocks.{HasSameFlatClock, HasOneFlatClock, IsFlatTwoClocks, flat_control_word}

-- the first latches agree with this one
abbrev pub Agree : Flat → FlatLatch → List FlatLatch → ℕ → Type 0
Agree flat first latches count = (k : ℕ) (latch : FlatLatch) → k < count → slice_get latches k ≡ Some latch → HasSameFlatClock flat first latch

pub agree_more : (flat : Flat) (first : FlatLatch) (latches : List FlatLatch) (i : ℕ) (d : FlatLatch) → i < length latches → Agree flat first latches i → HasSameFlatClock flat first (get_or latches i d) → Agree flat first latches (i + 1)
agree_more flat first latches i d within agree same k latch less got = by (less_or_last k i less)
  where
    by : (k < i) ⊎ (k ≡ i) → HasSameFlatClock flat first latch
    by (inl l) = agree k latch l got
    by (inr e) =
        let here : get_or latches i d ≡ latch = same_Some _ _ (sym (slice_get-get_or latches i d within) ∙ ap (slice_get latches) (sym e) ∙ got) in
        subst (HasSameFlatClock flat first) here same

pub is_two_clocks : (flat : Flat) (latches : List FlatLatch) (first : FlatLatch) (i : ℕ) (d : FlatLatch) → latches ≡ flat.latches → slice_get latches 0 ≡ Some first → i < length latches → Agree flat first latches i → ¬ HasSameFlatClock flat first (get_or latches i d)
    → IsFlatTwoClocks flat (get_or latches i d).line (flat_control_word flat (get_or latches i d).control)
is_two_clocks flat latches first i d are is_first within agree differs = record {
  first = first;
  found = get_or latches i d;
  number = i;
  is_first = ap (λ (ls : List FlatLatch). slice_get ls 0) (sym are) ∙ is_first;
  is_found = ap (λ (ls : List FlatLatch). slice_get ls i) (sym are) ∙ slice_get-get_or latches i d within;
  differs = differs;
  agree_before = λ k latch l got. agree k latch l (ap (λ (ls : List FlatLatch). slice_get ls k) are ∙ got);
  is_line = refl;
  is_word = refl;
}

pub is_one_clock : (flat : Flat) (latches : List FlatLatch) (first : FlatLatch) (count : ℕ) → latches ≡ flat.latches → slice_get latches 0 ≡ Some first → length latches ≤ count → Agree flat first latches count → HasOneFlatClock flat
is_one_clock flat latches first count are is_first all agree line word two =
    let got : slice_get latches two.number ≡ Some two.found = ap (λ (ls : List FlatLatch). slice_get ls two.number) are ∙ two.is_found in
    let within : two.number < length latches = slice_get_within latches two.number two.found got in
    let same : first ≡ two.first = same_Some _ _ (sym is_first ∙ ap (λ (ls : List FlatLatch). slice_get ls 0) are ∙ two.is_first) in
    two.differs (subst (λ (v : FlatLatch). HasSameFlatClock flat v two.found) same (agree two.number two.found (omega arith) got))
