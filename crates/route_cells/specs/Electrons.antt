-- Electrons on a wire, by the bits that come out at its end.
use Rattle.std.specs.Prelude.{ℕ, suc, ◌-◌, ◌/◌, ◌%◌, ◌==◌, nat_le, Bool, ◌&&◌, if◌then◌else◌, List}
use Rattle.lists.specs.Items.{flag_at}
use Rattle.ww_rule.specs.declared.pattern.State.{State}
use Rattle.ww_rule.specs.declared.pattern.State.TheVariants.{Head, Tail, Conductor}

-- Is a signal lit at generation g that comes first at this one, and has these bits?
abbrev pub comes_at : (first period : ℕ) → List Bool → (g : ℕ) → Bool
comes_at first period bits g =
    nat_le first g && (g - first) % period == 0 && flag_at bits ((g - first) / period)

-- the state at generation 0 of a wire's cell after which so many cells come
abbrev pub state_before : (first period : ℕ) → List Bool → (after : ℕ) → State
state_before first period bits after =
    if comes_at first period bits (suc after) then Head
    else if comes_at first period bits after then Tail
    else Conductor
