-- The plane of a plan.
use Rattle.std.specs.Prelude.{◌≡◌}
use Rattle.ww_rule.specs.Wireworld.{evolve}
use Rattle.tile_core.specs.declared.kind.Kind.{Kind}
use Rattle.tile_core.specs.Drawing.{Drawing}
use Rattle.tiling.specs.Tiling.{Tiling, Lit, drawn}

-- 32 generations after the plane is drawn with some edges, it is drawn with others
abbrev pub IsDrawnAfter32 : (Kind → Drawing) → Tiling → Lit → Lit → Type 0
IsDrawnAfter32 library tiling before after =
    evolve 32 (drawn library tiling before) ≡ drawn library tiling after
