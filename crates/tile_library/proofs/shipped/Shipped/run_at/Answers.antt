use Rattle.std.proofs.Common.{◌-◌, pos, subst, sym}
use Rattle.tile_library.specs.Drawings.{shipped_drawing}
use Rattle.tile_library.specs.RowRuns.{IsRowRun}
use Rattle.tile_library.proofs.shipped.Shipped.run_at.Goals as goal

pub returns-in-Swap : goal.returns-in-Swap
returns-in-Swap c = subst (λ k. IsRowRun (λ x. shipped_drawing k (pos x) (pos c.args.y)) c.args.x (32 - c.args.x) c.run_from.result) (sym c.in-Swap.is) c.run_from.ensures

pub returns-in-Xor : goal.returns-in-Xor
returns-in-Xor c = subst (λ k. IsRowRun (λ x. shipped_drawing k (pos x) (pos c.args.y)) c.args.x (32 - c.args.x) c.run_from-in-Xor.result) (sym c.in-Xor.is) c.run_from-in-Xor.ensures

pub returns-in-Or : goal.returns-in-Or
returns-in-Or c = subst (λ k. IsRowRun (λ x. shipped_drawing k (pos x) (pos c.args.y)) c.args.x (32 - c.args.x) c.run_from-in-Or.result) (sym c.in-Or.is) c.run_from-in-Or.ensures

pub returns-in-AndNot : goal.returns-in-AndNot
returns-in-AndNot c = subst (λ k. IsRowRun (λ x. shipped_drawing k (pos x) (pos c.args.y)) c.args.x (32 - c.args.x) c.run_from-in-AndNot.result) (sym c.in-AndNot.is) c.run_from-in-AndNot.ensures

pub returns-in-Fork : goal.returns-in-Fork
returns-in-Fork c = subst (λ k. IsRowRun (λ x. shipped_drawing k (pos x) (pos c.args.y)) c.args.x (32 - c.args.x) c.run_from-in-Fork.result) (sym c.in-Fork.is) c.run_from-in-Fork.ensures

pub returns-in-East : goal.returns-in-East
returns-in-East c = subst (λ k. IsRowRun (λ x. shipped_drawing k (pos x) (pos c.args.y)) c.args.x (32 - c.args.x) c.run_from-in-East.result) (sym c.in-East.is) c.run_from-in-East.ensures

pub returns-in-South : goal.returns-in-South
returns-in-South c = subst (λ k. IsRowRun (λ x. shipped_drawing k (pos x) (pos c.args.y)) c.args.x (32 - c.args.x) c.run_from-in-South.result) (sym c.in-South.is) c.run_from-in-South.ensures

pub returns-in-North : goal.returns-in-North
returns-in-North c = subst (λ k. IsRowRun (λ x. shipped_drawing k (pos x) (pos c.args.y)) c.args.x (32 - c.args.x) c.run_from-in-North.result) (sym c.in-North.is) c.run_from-in-North.ensures

pub returns-in-EastSouth : goal.returns-in-EastSouth
returns-in-EastSouth c = subst (λ k. IsRowRun (λ x. shipped_drawing k (pos x) (pos c.args.y)) c.args.x (32 - c.args.x) c.run_from-in-EastSouth.result) (sym c.in-EastSouth.is) c.run_from-in-EastSouth.ensures

pub returns-in-SouthWest : goal.returns-in-SouthWest
returns-in-SouthWest c = subst (λ k. IsRowRun (λ x. shipped_drawing k (pos x) (pos c.args.y)) c.args.x (32 - c.args.x) c.run_from-in-SouthWest.result) (sym c.in-SouthWest.is) c.run_from-in-SouthWest.ensures

pub returns-in-WestNorth : goal.returns-in-WestNorth
returns-in-WestNorth c = subst (λ k. IsRowRun (λ x. shipped_drawing k (pos x) (pos c.args.y)) c.args.x (32 - c.args.x) c.run_from-in-WestNorth.result) (sym c.in-WestNorth.is) c.run_from-in-WestNorth.ensures

pub returns-in-NorthEast : goal.returns-in-NorthEast
returns-in-NorthEast c = subst (λ k. IsRowRun (λ x. shipped_drawing k (pos x) (pos c.args.y)) c.args.x (32 - c.args.x) c.run_from-in-NorthEast.result) (sym c.in-NorthEast.is) c.run_from-in-NorthEast.ensures

pub returns-in-West : goal.returns-in-West
returns-in-West c = subst (λ k. IsRowRun (λ x. shipped_drawing k (pos x) (pos c.args.y)) c.args.x (32 - c.args.x) c.run_from-in-West.result) (sym c.in-West.is) c.run_from-in-West.ensures

pub returns-in-WestSwap : goal.returns-in-WestSwap
returns-in-WestSwap c = subst (λ k. IsRowRun (λ x. shipped_drawing k (pos x) (pos c.args.y)) c.args.x (32 - c.args.x) c.run_from_mirrored.result) (sym c.in-WestSwap.is) c.run_from_mirrored.ensures
