-- Plans of flat netlists with streams on their tapes.
use Rattle.std.specs.Prelude.{◌≡◌}
use Rattle.lane_core.specs.declared.plan.Plan.{Plan}
use Rattle.plan_waves.specs.Loaded.{with_tape}
use Rattle.streams.specs.declared.streams.Streams.{Streams}

-- the plan with the bits of these streams on its tape; all else stays
abbrev pub IsLoadedWith : Streams → (plan loaded : Plan) → Type 0
IsLoadedWith streams plan loaded = loaded ≡ with_tape streams.bits plan
