-- The order of latches, and that a clock fault is one.
use Rattle.netlist_meaning.proofs.PlaceOrder.{one_of_three}
use Rattle.std.proofs.Common.{◌≡◌, ◌<◌, ◌≤◌, ◌⊎◌, sym, ap, ◌∙◌, subst, arith, inl, inr, ℕ}
use Rattle.std.proofs.lemmas.Option.{same_Some}
use Rattle.std.proofs.lemmas.Bool.{cases_order}
use Rattle.netlist_core.specs.declared.model.Design.{Design}
use Rattle.netlist_core.specs.Names.{Name}
use Rattle.netlist_meaning.specs.Places.{latch_at, IsBefore}
use Rattle.netlist_rules.specs.Clocks.{PlacedLatch, IsPlacedLatch, ComesBefore, HasSameControl, HasSameClock, control_word, IsTwoClocks, IsClockRead}

-- of two latches one comes before the other, or they are one
two_latches : (design : Design) (a b : PlacedLatch) → IsPlacedLatch design a → IsPlacedLatch design b → ComesBefore a b ⊎ ((a.place ≡ b.place) × (a.latch ≡ b.latch)) ⊎ ComesBefore b a
two_latches design a b has_a has_b = by_place (one_of_three a.place b.place)
  where
    one : a.place ≡ b.place → a.number ≡ b.number → a.latch ≡ b.latch
    one top same = same_Some _ _ (sym has_a ∙ ap (λ p. latch_at design p a.number) top ∙ ap (latch_at design b.place) same ∙ has_b)

    by_number : a.place ≡ b.place → (a.number ≡ b.number) ⊎ ((a.number < b.number) ⊎ (b.number < a.number)) → ComesBefore a b ⊎ ((a.place ≡ b.place) × (a.latch ≡ b.latch)) ⊎ ComesBefore b a
    by_number top (inl same) = inr (inl (top, one top same))
    by_number top (inr (inl lt)) = inl (inr (top, lt))
    by_number top (inr (inr lt)) = inr (inr (inr (sym top, lt)))

    by_place : IsBefore a.place b.place ⊎ (a.place ≡ b.place) ⊎ IsBefore b.place a.place → ComesBefore a b ⊎ ((a.place ≡ b.place) × (a.latch ≡ b.latch)) ⊎ ComesBefore b a
    by_place (inl before) = inl (inl before)
    by_place (inr (inl top)) = by_number top (cases_order a.number b.number)
    by_place (inr (inr after)) = inr (inr (inl after))

-- latches that neither comes before the other are one
only_one : (design : Design) (a b : PlacedLatch) → IsPlacedLatch design a → IsPlacedLatch design b → ¬ ComesBefore a b → ¬ ComesBefore b a → (a.place ≡ b.place) × (a.latch ≡ b.latch)
only_one design a b has_a has_b not_before not_after =
    elim (two_latches design a b has_a has_b) [
      | inl before ↦ absurd (not_before before)
      | inr rest ↦ elim rest [ inl one ↦ one | inr after ↦ absurd (not_after after) ]
    ]

same_clock_moved : (design : Design) (a b c : PlacedLatch) → a.place ≡ b.place → a.latch ≡ b.latch → HasSameClock design a c → HasSameClock design b c
same_clock_moved design a b c top same h =
    record {
      same_type = ap (λ l. l.kind) (sym same) ∙ h.same_type;
      same_control = subst (λ p. HasSameControl design p b.latch.control c.place c.latch.control) top
          (subst (λ l. HasSameControl design a.place l.control c.place c.latch.control) same h.same_control);
    }

pub two_clocks_are_one : (design : Design) (line other_line : ℕ) (word other_word : Name) → IsTwoClocks design line word → IsTwoClocks design other_line other_word → (line ≡ other_line) × (word ≡ other_word)
two_clocks_are_one design line other_line word other_word h k =
    let (top, same) = only_one design h.first k.first h.has_first k.has_first (k.is_first h.first h.has_first) (h.is_first k.first k.has_first) in
    let (found_top, found_same) = only_one design h.found k.found h.has_found k.has_found
    (λ before. h.differs (same_clock_moved design k.first h.first h.found (sym top) (sym same) (k.agree_before h.found h.has_found before)))
    (λ after. k.differs (same_clock_moved design h.first k.first k.found top same (h.agree_before k.found k.has_found after))) in
    (h.is_line ∙ ap (λ l. l.line) found_same ∙ sym k.is_line, h.is_word ∙ ap (λ l. control_word l.control) found_same ∙ sym k.is_word)

pub clock_read_is_on_one_line : (design : Design) (line other_line : ℕ) (word other_word : Name) → IsClockRead design line word → IsClockRead design other_line other_word → line ≡ other_line
clock_read_is_on_one_line design line other_line word other_word h k =
    both (h.is_earliest other_line k.position k.net k.is_use) (k.is_earliest line h.position h.net h.is_use)
  where
    both : (line < other_line) ⊎ ((line ≡ other_line) × (h.position ≤ k.position)) → (other_line < line) ⊎ ((other_line ≡ line) × (k.position ≤ h.position)) → line ≡ other_line
    both (inr e) later = e.0
    both (inl lt) (inr e) = sym e.0
    both (inl lt) (inl lt') = absurd (omega arith)
