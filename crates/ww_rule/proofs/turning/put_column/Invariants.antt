use Rattle.std.proofs.Common.{ℕ, ◌≡◌, ◌≢◌, ◌<◌, [], length, get_or}
use Rattle.ww_rule.specs.declared.pattern.State.TheVariants.{Empty}
use Rattle.ww_rule.proofs.turning.put_column.Given as goal

abbrev pub invariant-loop-y : goal.invariant-loop-y
invariant-loop-y l =
    record {
      many : length l.rows ≡ length l.fn.rows;
      long : (k : ℕ) → length (get_or l.rows k []) ≡ length (get_or l.fn.rows k []);
      here : (k : ℕ) → k < l.y → get_or (get_or l.rows k []) l.x Empty ≡ get_or l.column k Empty;
      others : (u k : ℕ) → u ≢ l.x → get_or (get_or l.rows k []) u Empty ≡ get_or (get_or l.fn.rows k []) u Empty;
    }
