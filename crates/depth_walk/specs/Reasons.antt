-- Why there is no order.
use Rattle.depth_walk.specs.Links.{Links}
use Rattle.depth_walk.specs.Order.{IsCircleOf}
use Rattle.depth_walk.specs.declared.error.WalkError.{WalkError}
use Rattle.depth_walk.specs.declared.error.WalkError.TheVariants.{NoMemory, Circle}

-- a refusal names a circle, unless memory ran out
abbrev pub IsWalkRefusal : Links → WalkError → Type 0
IsWalkRefusal links NoMemory = Unit {0}
IsWalkRefusal links (Circle numbers) = IsCircleOf links numbers
