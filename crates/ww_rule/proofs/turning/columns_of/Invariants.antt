use Rattle.std.proofs.Common.{ℕ, ◌≡◌, ◌<◌, [], length, get_or}
use Rattle.ww_rule.specs.declared.pattern.State.TheVariants.{Empty}
use Rattle.ww_rule.proofs.turning.columns_of.Given as goal

abbrev pub invariant-loop-y : goal.invariant-loop-y
invariant-loop-y l =
    record {
      many : length l.made ≡ l.width;
      long : (v : ℕ) → v < l.width → length (get_or l.made v []) ≡ length l.rows;
      cells : (u v : ℕ) → u < l.y → v < l.width → get_or (get_or l.made v []) u Empty ≡ get_or (get_or l.rows u []) v Empty;
    }
