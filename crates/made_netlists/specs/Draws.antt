-- Numbers drawn from a seed, one after another.
use Rattle.std.specs.Prelude.{ℕ, zero, suc, ◌+◌, ◌*◌, ◌/◌, ◌%◌}

-- the next state
abbrev pub next_seed : ℕ → ℕ
next_seed state = (1103515245 * state + 12345) % 2147483648

-- the number below n that a state gives
abbrev pub number_below : ℕ → ℕ → ℕ
number_below n state = (state / 65536) % n

-- the state after so many draws
abbrev pub state_after : ℕ → ℕ → ℕ
state_after seed zero = seed
state_after seed (suc i) = next_seed (state_after seed i)

-- the number below n that is drawn after i others
abbrev pub draw_after : ℕ → ℕ → ℕ → ℕ
draw_after seed i n = number_below n (state_after seed (i + 1))
