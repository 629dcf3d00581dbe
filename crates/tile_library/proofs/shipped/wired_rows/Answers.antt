use Rattle.std.proofs.Common.{◌∙◌, refl, ap, pos, ◌-ℤ◌}
use Rattle.tile_library.specs.Drawings.{shipped_drawing}
use Rattle.tile_library.specs.declared.drawings.TheConstants.{AND_NOT, EAST, EAST_SOUTH, FORK, NORTH_EAST, OR, SOUTH, SOUTH_WEST, SWAP, WEST_NORTH, XOR}
use Rattle.tile_library.proofs.Blank.{beside}
use Rattle.tile_library.proofs.shipped.wired_rows.Goals as goal

pub returns-in-Swap : goal.returns-in-Swap
returns-in-Swap c = λ x y out. (ap (λ k. shipped_drawing k (pos x) (pos y)) c.in-Swap.is ∙ beside 5 27 SWAP refl (pos x) y out)

pub returns-in-Xor : goal.returns-in-Xor
returns-in-Xor c = λ x y out. (ap (λ k. shipped_drawing k (pos x) (pos y)) c.in-Xor.is ∙ beside 8 24 XOR refl (pos x) y out)

pub returns-in-Or : goal.returns-in-Or
returns-in-Or c = λ x y out. (ap (λ k. shipped_drawing k (pos x) (pos y)) c.in-Or.is ∙ beside 8 24 OR refl (pos x) y out)

pub returns-in-AndNot : goal.returns-in-AndNot
returns-in-AndNot c = λ x y out. (ap (λ k. shipped_drawing k (pos x) (pos y)) c.in-AndNot.is ∙ beside 8 25 AND_NOT refl (pos x) y out)

pub returns-in-Fork : goal.returns-in-Fork
returns-in-Fork c = λ x y out. (ap (λ k. shipped_drawing k (pos x) (pos y)) c.in-Fork.is ∙ beside 6 24 FORK refl (pos x) y out)

pub returns-in-East : goal.returns-in-East
returns-in-East c = λ x y out. (ap (λ k. shipped_drawing k (pos x) (pos y)) c.in-East.is ∙ beside 8 8 EAST refl (pos x) y out)

pub returns-in-South : goal.returns-in-South
returns-in-South c = λ x y out. (ap (λ k. shipped_drawing k (pos x) (pos y)) c.in-South.is ∙ beside 0 15 SOUTH refl (pos x) y out)

pub returns-in-North : goal.returns-in-North
returns-in-North c = λ x y out. (ap (λ k. shipped_drawing k (pos x) (pos y)) c.in-North.is ∙ beside 0 15 SOUTH refl (pos x) y out)

pub returns-in-EastSouth : goal.returns-in-EastSouth
returns-in-EastSouth c = λ x y out. (ap (λ k. shipped_drawing k (pos x) (pos y)) c.in-EastSouth.is ∙ beside 8 15 EAST_SOUTH refl (pos x) y out)

pub returns-in-SouthWest : goal.returns-in-SouthWest
returns-in-SouthWest c = λ x y out. (ap (λ k. shipped_drawing k (pos x) (pos y)) c.in-SouthWest.is ∙ beside 0 8 SOUTH_WEST refl (pos x) y out)

pub returns-in-WestNorth : goal.returns-in-WestNorth
returns-in-WestNorth c = λ x y out. (ap (λ k. shipped_drawing k (pos x) (pos y)) c.in-WestNorth.is ∙ beside 0 8 WEST_NORTH refl (pos x) y out)

pub returns-in-NorthEast : goal.returns-in-NorthEast
returns-in-NorthEast c = λ x y out. (ap (λ k. shipped_drawing k (pos x) (pos y)) c.in-NorthEast.is ∙ beside 8 15 NORTH_EAST refl (pos x) y out)

pub returns-in-West : goal.returns-in-West
returns-in-West c = λ x y out. (ap (λ k. shipped_drawing k (pos x) (pos y)) c.in-West.is ∙ beside 8 8 EAST refl (pos x) y out)

pub returns-in-WestSwap : goal.returns-in-WestSwap
returns-in-WestSwap c = λ x y out. (ap (λ k. shipped_drawing k (pos x) (pos y)) c.in-WestSwap.is ∙ beside 5 27 SWAP refl (pos 31 -ℤ pos x) y out)
