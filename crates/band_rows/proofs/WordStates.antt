-- The states of cells by three words of bits.
use Rattle.std.proofs.Common.{ℕ, ◌*◌, ◌%◌, ◌^◌, ◌<◌, ◌≡◌, refl, sym, ap, ap₂, ◌∙◌, inl, inr, Bool, true, false, cond, ◌||◌, ◌==◌}
use Rattle.std.specs.Int.RustNames.{bit_or}
use Rattle.std.proofs.lemmas.Bool.{cases_eq, ne_eqb, true≢false}
use Rattle.ww_rule.specs.declared.pattern.State.{State}
use Rattle.ww_rule.specs.declared.pattern.State.TheVariants.{Conductor, Empty, Head, Tail}
use Rattle.lists.specs.Bits.{has_bit}
use Rattle.lane_kernel.specs.Rows.{state_of}
use Rattle.band_rows.specs.declared.cell_bits.CellBits.{CellBits}
use Rattle.band_rows.specs.CellWords.{state_by, IsOnCells}
use Rattle.band_rows.proofs.HeadPlaced.{on_both, on_cell}
use Rattle.band_rows.proofs.PlaceCells.{head_state, set_here}

tail_state : (b h t c : Bool) → (b ≡ true → state_of h t c ≡ Empty) → state_of h (b || t) (b || c) ≡ cond b Tail (state_of h t c)
tail_state true true t c empty = let e : Head ≡ Empty = empty refl in cc
tail_state true false t c empty = refl
tail_state false h t c empty = refl

wire_state : (b h t c : Bool) → (b ≡ true → state_of h t c ≡ Empty) → state_of h t (b || c) ≡ cond b Conductor (state_of h t c)
wire_state true true t c empty = let e : Head ≡ Empty = empty refl in cc
wire_state true false true c empty = let e : Tail ≡ Empty = empty refl in cc
wire_state true false false c empty = refl
wire_state false h t c empty = refl

-- bits that get those of cell b, which was empty
module _ (bits : CellBits) (b : ℕ) (low : b < 64) (empty : state_by bits b ≡ Empty) (on : IsOnCells bits) where
  abbrev bit : ℕ
  bit = 1 * 2 ^ b % 2 ^ 64

  set : (word i : ℕ) → has_bit (bit_or word bit) i ≡ (i == b || has_bit word i)
  set word i = set_here word b i low

  empty_there : (i : ℕ) → (i == b) ≡ true → state_by bits i ≡ Empty
  empty_there i e =
      elim (cases_eq i b) [
        | inl same ↦ ap (state_by bits) same ∙ empty
        | inr away ↦ absurd (true≢false (sym e ∙ ne_eqb i b away))
      ]

  abbrev with_head : CellBits
  with_head = record { heads = bit_or bits.heads bit; tails = bits.tails; cells = bit_or bits.cells bit }

  abbrev with_tail : CellBits
  with_tail = record { heads = bits.heads; tails = bit_or bits.tails bit; cells = bit_or bits.cells bit }

  abbrev with_wire : CellBits
  with_wire = record { heads = bits.heads; tails = bits.tails; cells = bit_or bits.cells bit }

  pub head_states : (state : State) → state ≡ Head → (i : ℕ) → state_by with_head i ≡ cond (i == b) state (state_by bits i)
  head_states state is i =
      ap₂ (λ h w. state_of h (has_bit bits.tails i) w) (set bits.heads i) (set bits.cells i)
      ∙ head_state (i == b) (has_bit bits.heads i) (has_bit bits.tails i) (has_bit bits.cells i)
      ∙ ap (λ s. cond (i == b) s (state_by bits i)) (sym is)

  pub tail_states : (state : State) → state ≡ Tail → (i : ℕ) → state_by with_tail i ≡ cond (i == b) state (state_by bits i)
  tail_states state is i =
      ap₂ (state_of (has_bit bits.heads i)) (set bits.tails i) (set bits.cells i)
      ∙ tail_state (i == b) (has_bit bits.heads i) (has_bit bits.tails i) (has_bit bits.cells i) (empty_there i)
      ∙ ap (λ s. cond (i == b) s (state_by bits i)) (sym is)

  pub wire_states : (state : State) → state ≡ Conductor → (i : ℕ) → state_by with_wire i ≡ cond (i == b) state (state_by bits i)
  wire_states state is i =
      ap (state_of (has_bit bits.heads i) (has_bit bits.tails i)) (set bits.cells i)
      ∙ wire_state (i == b) (has_bit bits.heads i) (has_bit bits.tails i) (has_bit bits.cells i) (empty_there i)
      ∙ ap (λ s. cond (i == b) s (state_by bits i)) (sym is)

  pub head_on : IsOnCells with_head
  head_on = record { heads = on_both bits.cells bits.heads bit on.heads; tails = on_cell bits.cells bits.tails bit on.tails }

  pub tail_on : IsOnCells with_tail
  tail_on = record { heads = on_cell bits.cells bits.heads bit on.heads; tails = on_both bits.cells bits.tails bit on.tails }

  pub wire_on : IsOnCells with_wire
  wire_on = record { heads = on_cell bits.cells bits.heads bit on.heads; tails = on_cell bits.cells bits.tails bit on.tails }
