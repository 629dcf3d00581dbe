use Rattle.std.proofs.Common.{◌≡◌, take}
use Rattle.ww_rule.specs.Wireworld.{injected}
use Rattle.ww_rule.specs.Grid.{IsGrid, plane_of}
use Rattle.ww_rule.specs.Injections.{has_cell}
use Rattle.ww_rule.proofs.plane.Plane.inject.Given as goal

abbrev pub invariant-loop-x : goal.invariant-loop-x
invariant-loop-x l =
    record {
      grid : IsGrid l.width l.height l.rows;
      cells : plane_of l.rows ≡ injected (has_cell (take l.x-index l.injections)) (plane_of l.fn.self.rows);
    }
