-- Wireworld, as Brian Silverman defined it: an empty cell stays empty; a head becomes a tail; a
-- tail becomes a conductor; a conductor becomes a head exactly when one or two of its eight
-- neighbours are heads, else it stays one.
use Rattle.std.specs.Prelude.{ℤ, pos, ◌+ℤ◌, ◌-ℤ◌, ℕ, zero, suc, ◌+◌, ◌||◌, ◌==◌, cond, Bool, true, false}
use Rattle.ww_rule.specs.declared.pattern.State.{State}
use Rattle.ww_rule.specs.declared.pattern.State.TheVariants.{Empty, Head, Tail, Conductor}

-- A plane: a state for every pair of integers, where x goes east and y goes down. It may have
-- infinitely many cells that are not empty; a plane that begins with finitely many keeps finitely
-- many, under the rule and under lists of injections (`StaysFinite`).
abbrev pub Plane : Type 0
Plane = ℤ → ℤ → State

-- 1 for a head, and 0 for any other state
abbrev pub count_head : State → ℕ
count_head Empty = 0
count_head Head = 1
count_head Tail = 0
count_head Conductor = 0

abbrev pub is_head : State → Bool
is_head Head = true
is_head _ = false

-- how many of the eight neighbours are heads
abbrev pub heads_around : Plane → ℤ → ℤ → ℕ
heads_around p x y =
    count_head (p (x -ℤ pos 1) (y -ℤ pos 1))
    + count_head (p x (y -ℤ pos 1))
    + count_head (p (x +ℤ pos 1) (y -ℤ pos 1))
    + count_head (p (x -ℤ pos 1) y)
    + count_head (p (x +ℤ pos 1) y)
    + count_head (p (x -ℤ pos 1) (y +ℤ pos 1))
    + count_head (p x (y +ℤ pos 1))
    + count_head (p (x +ℤ pos 1) (y +ℤ pos 1))

-- what a cell becomes, by its state and the number of heads around it
abbrev pub next_state : State → ℕ → State
next_state Empty n = Empty
next_state Head n = Tail
next_state Tail n = Conductor
next_state Conductor n = cond (n == 1 || n == 2) Head Conductor

-- the next plane
abbrev pub next_plane : Plane → Plane
next_plane p x y = next_state (p x y) (heads_around p x y)

-- the plane after n generations
abbrev pub evolve : ℕ → Plane → Plane
evolve zero p = p
evolve (suc n) p = next_plane (evolve n p)

-- which cells are made heads at a generation: a test of a generation and a cell
abbrev pub Due : Type 0
Due = ℕ → ℤ → ℤ → Bool

-- no cell is ever due: the pattern is not driven
abbrev pub undriven : Due
undriven g x y = false

-- the plane with the cells that are due made heads, whatever they held
abbrev pub injected : (ℤ → ℤ → Bool) → Plane → Plane
injected due p x y = cond (due x y) Head (p x y)

-- the driven evolution: at generation 0 the plane with the injections of generation 0,
-- and at each later one the rule on the generation before, with the injections that are due then
abbrev pub driven : Due → Plane → ℕ → Plane
driven due p zero = injected (due zero) p
driven due p (suc g) = injected (due (suc g)) (next_plane (driven due p g))
