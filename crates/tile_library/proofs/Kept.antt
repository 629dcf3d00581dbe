-- The shipped drawings keep the timing law of their kinds.
use Rattle.tile_core.specs.declared.kind.Kind.{Kind}
use Rattle.tile_core.specs.Kinds.{interface}
use Rattle.tile_core.specs.TimingLaw.{MeetsTimingLaw}
use Rattle.tile_library.specs.Drawings.{shipped_drawing}
use Rattle.tile_library.specs.contracts.shipped.ShippedLibrary.TheImpl.Laws.{law-law}

pub shipped_keeps_law : (kind : Kind) → MeetsTimingLaw (interface kind) (shipped_drawing kind)
shipped_keeps_law = law-law (record {})
