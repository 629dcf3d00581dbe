use Rattle.std.proofs.Common.{◌≡◌, ◌<◌, ℕ, pos, [], ◌∷◌, length, get_or}
use Rattle.ww_rule.specs.declared.pattern.State.TheVariants.{Empty}
use Rattle.ww_rule.specs.Wireworld.{next_plane}
use Rattle.ww_rule.specs.Grid.{plane_of}
use Rattle.ww_rule.proofs.rows.next_row.Given as goal

abbrev pub invariant-loop-x : goal.invariant-loop-x
invariant-loop-x l =
    record {
      long : length l.next.items ≡ l.x;
      cells : (k : ℕ) → k < l.x → get_or l.next.items k Empty ≡ next_plane (plane_of (l.above ∷ l.row ∷ l.below ∷ [])) (pos k) (pos 1);
    }
