use Rattle.std.proofs.Common.{◌≡◌, ◌-◌, length, map, take}
use Rattle.row_placer.specs.Placed.{net_place_of}
use Rattle.row_placer.proofs.reading.places_of.Given as goal

abbrev pub invariant-loop-at : goal.invariant-loop-at
invariant-loop-at l = l.places.items ≡ map (net_place_of l.fn.list l.fn.homes l.fn.made) (take l.at l.fn.list.nets)

abbrev pub decreases-loop-at : goal.decreases-loop-at
decreases-loop-at l = length l.fn.list.nets - l.at
