use Rattle.std.proofs.Common.{◌<◌, take}
use Rattle.std.specs.Prelude.{All, MatchOption}
use Rattle.macro_grid.specs.Spans.{IsLeastFrom}
use Rattle.macro_grid.proofs.ports.least_from.Given as goal

abbrev pub invariant-loop-lane : goal.invariant-loop-lane
invariant-loop-lane l =
    MatchOption l.least (All (λ lane. lane < l.from) (take l.lane-index l.lanes)) (IsLeastFrom l.from (take l.lane-index l.lanes))
