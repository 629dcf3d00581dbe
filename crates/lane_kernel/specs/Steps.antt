-- Rows of words that step by one generation, and what a step asks of them.
use Rattle.std.specs.Prelude.{ℕ, ◌<◌, ◌≤◌, ◌≡◌, List, length, get_or}
use Rattle.lane_kernel.specs.Spans.{IsBeyond}
use Rattle.lane_kernel.specs.Words.{heads_word, wires_word}

-- three rows of heads, and the tails and wires of the middle one, of as many words
pub record AreEquallyLong (above heads below tails wires : List ℕ) : Type 0 where
  pub long_above : length above ≡ length heads
  pub long_below : length below ≡ length heads
  pub long_tails : length tails ≡ length heads
  pub long_wires : length wires ≡ length heads

-- the words of a row one generation later
pub record IsStepped (above heads below tails wires new_heads new_wires : List ℕ) : Type 0 where
  pub long_heads : length new_heads ≡ length heads
  pub long_wires : length new_wires ≡ length heads
  pub heads_are : (j : ℕ) → get_or new_heads j 0 ≡ heads_word above heads below wires j
  pub wires_are : (j : ℕ) → get_or new_wires j 0 ≡ wires_word above heads below tails wires j

-- The words of a row from one place up to another are those one generation later, with the new
-- heads in the tails' place; all other words are unchanged.
pub record AreWordsStepped (lo hi : ℕ)
    (above heads below tails wires new_tails new_wires : List ℕ) : Type 0 where
  pub long_tails : length new_tails ≡ length heads
  pub long_wires : length new_wires ≡ length heads
  pub heads_are : (j : ℕ) → lo ≤ j → j < hi
      → get_or new_tails j 0 ≡ heads_word above heads below wires j
  pub wires_are : (j : ℕ) → lo ≤ j → j < hi
      → get_or new_wires j 0 ≡ wires_word above heads below tails wires j
  pub other_tails : (j : ℕ) → IsBeyond lo hi j → get_or new_tails j 0 ≡ get_or tails j 0
  pub other_wires : (j : ℕ) → IsBeyond lo hi j → get_or new_wires j 0 ≡ get_or wires j 0
