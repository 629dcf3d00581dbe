use Rattle.std.proofs.Common.{◌≡◌, ◌<◌, ℕ, pos, [], length, get_or}
use Rattle.ww_rule.specs.declared.pattern.State.TheVariants.{Empty}
use Rattle.ww_rule.specs.Wireworld.{next_plane}
use Rattle.ww_rule.specs.Grid.{plane_of}
use Rattle.ww_rule.proofs.plane.step_plain.Given as goal

abbrev pub invariant-loop-y : goal.invariant-loop-y
invariant-loop-y l =
    record {
      many : length l.rows ≡ l.y;
      long : (k : ℕ) → k < l.y → length (get_or l.rows k []) ≡ length (get_or l.old k []);
      cells : (k : ℕ) → k < l.y → (x : ℕ) → x < length (get_or l.old k []) → get_or (get_or l.rows k []) x Empty ≡ next_plane (plane_of l.old) (pos x) (pos k);
    }
