-- Injections whose cells are no conductors: there the pattern is not quiet.
use Rattle.std.specs.Prelude.{pos, ℕ, nat_le, not, Bool, true, false, List, filter}
use Rattle.std.specs.List.{find}
use Rattle.std.specs.declared.option.Option.{Option}
use Rattle.ww_rule.specs.declared.pattern.State.{State}
use Rattle.ww_rule.specs.declared.pattern.State.TheVariants.{Conductor}
use Rattle.ww_rule.specs.declared.pattern.Injection.{Injection}
use Rattle.ww_rule.specs.Wireworld.{Plane, Due}
use Rattle.ww_rule.specs.Injections.{before_injections}

abbrev pub is_conductor : State → Bool
is_conductor Conductor = true
is_conductor _ = false

-- an injection's cell is no conductor before the injections of its generation
abbrev pub misses : Due → Plane → Injection → Bool
misses due plane i =
    not (is_conductor (before_injections due plane i.generation (pos i.x) (pos i.y)))

-- the first injection of a list, among those up to a generation, that misses
abbrev pub first_of_misses : List Injection → Due → Plane → ℕ → Option Injection
first_of_misses injections due plane g =
    find (misses due plane) (filter (λ i. nat_le i.generation g) injections)
