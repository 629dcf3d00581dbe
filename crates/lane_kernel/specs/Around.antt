-- The words around a word of a plane. A plane's words are numbered word column by word column, down each of them.
-- A word column has `stride` words, so the word at place i has its western neighbour at place i - stride.
use Rattle.std.specs.Prelude.{ℕ, ◌+◌, ◌-◌, ◌*◌, ◌/◌, ◌%◌, ◌^◌, ◌<◌, ◌≤◌, ◌≡◌, ◌≢◌, List, length, get_or}
use Rattle.std.specs.Int.RustNames.{bit_and, bit_or, bit_xor}
use Rattle.lane_kernel.specs.Words.{new_heads_of, spread_of}
use Rattle.lane_kernel.specs.Spans.{IsBeyond}

pub data Way : Type 0 where
  north : Way
  south : Way
  west : Way
  east : Way
  north_west : Way
  north_east : Way
  south_west : Way
  south_east : Way

-- the place of the word that lies this way from place i
abbrev pub beside : (stride : ℕ) → Way → ℕ → ℕ
beside stride north i = i - 1
beside stride south i = i + 1
beside stride west i = i - stride
beside stride east i = i + stride
beside stride north_west i = i - 1 - stride
beside stride north_east i = i - 1 + stride
beside stride south_west i = i + 1 - stride
beside stride south_east i = i + 1 + stride

-- the cells of a word beside which a head of the word that lies this way stands, by that word's
-- heads: above and below up to three beside each head, to the sides only the cell at the border
abbrev pub near_heads : Way → ℕ → ℕ
near_heads north heads = spread_of 0 heads 0
near_heads south heads = spread_of 0 heads 0
near_heads west heads = heads / 2 ^ 63
near_heads north_west heads = heads / 2 ^ 63
near_heads south_west heads = heads / 2 ^ 63
near_heads east heads = heads * 2 ^ 63 % 2 ^ 64
near_heads north_east heads = heads * 2 ^ 63 % 2 ^ 64
near_heads south_east heads = heads * 2 ^ 63 % 2 ^ 64

-- the cells of a word that are no tails, and below, those that are neither heads nor tails
abbrev pub free_of : (cells tails : ℕ) → ℕ
free_of cells tails = bit_xor cells (bit_and cells tails)

abbrev pub wires_of : (cells heads tails : ℕ) → ℕ
wires_of cells heads tails = free_of cells (bit_or heads tails)

-- No head of another word stands beside a free cell of word i (one that is no tail). So its next
-- heads need no other word.
abbrev pub StepsAlone : (stride : ℕ) (heads tails cells : List ℕ) → ℕ → Type 0
StepsAlone stride heads tails cells i =
    (way : Way) → bit_and (near_heads way (get_or heads (beside stride way i) 0))
    (free_of (get_or cells i 0) (get_or tails i 0)) ≡ 0

-- the heads of word i one generation later
abbrev pub next_word : (stride : ℕ) (heads tails cells : List ℕ) → ℕ → ℕ
next_word stride heads tails cells i =
    new_heads_of (get_or heads (beside stride north_west i) 0) (get_or heads (beside stride north i) 0)
    (get_or heads (beside stride north_east i) 0) (get_or heads (beside stride west i) 0)
    (get_or heads i 0) (get_or heads (beside stride east i) 0)
    (get_or heads (beside stride south_west i) 0) (get_or heads (beside stride south i) 0)
    (get_or heads (beside stride south_east i) 0)
    (wires_of (get_or cells i 0) (get_or heads i 0) (get_or tails i 0))

-- the new heads of a word, if no other word has a head beside its wires
abbrev pub heads_alone : (heads wires : ℕ) → ℕ
heads_alone heads wires = bit_and wires (bit_or (heads * 2 ^ 1 % 2 ^ 64) (heads / 2 ^ 1))

-- the word has words all around it, in a plane of so many words
pub record IsInner (stride many i : ℕ) : Type 0 where
  pub from : stride + 1 ≤ i
  pub to : i + stride + 1 < many

-- only inner words have cells
abbrev pub IsFramed : (stride : ℕ) → List ℕ → Type 0
IsFramed stride cells = (i : ℕ) → get_or cells i 0 ≢ 0 → IsInner stride (length cells) i

-- The words from one place up to another are the heads one generation later, in the tails' place;
-- all others are as they were.
pub record AreNextWords (stride : ℕ) (heads tails cells : List ℕ) (first end : ℕ)
    (new_tails : List ℕ) : Type 0 where
  pub long : length new_tails ≡ length tails
  pub inside : (i : ℕ) → first ≤ i → i < end
      → get_or new_tails i 0 ≡ next_word stride heads tails cells i
  pub outside : (i : ℕ) → IsBeyond first end i → get_or new_tails i 0 ≡ get_or tails i 0
