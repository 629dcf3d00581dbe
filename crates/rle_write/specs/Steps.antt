-- Steps: more cells whose bytes are known, wherever on a line they begin, if they fit on it.
use Rattle.std.specs.Prelude.{ℕ, ◌+◌, ◌≤◌, ◌≡◌, List, ◌++◌, drop, length, replicate, IfSome}
use Rattle.ww_rule.specs.declared.pattern.State.{State}
use Rattle.std.specs.declared.option.Option.{Option}
use Rattle.rle_write.specs.declared.rows.Run.{Run}
use Rattle.rle_write.specs.declared.steps.Step.{Step}
use Rattle.rle_write.specs.Left.{row_left, text_left}
use Rattle.rle_write.specs.Runs.{IsCellTag, spelled}

-- from one kept run to another: if no row end is due and these bytes fit on the line, they are the
-- text of the first run and of these tags, but for the second run
abbrev pub IsStep : Run → List ℕ → List ℕ → Run → Type 0
IsStep from tags bytes after =
    (here : List ℕ) (column : ℕ) → column + length bytes ≤ 70 → (more : List ℕ) (rows : List (List State)) →
    text_left here column (row_left 0 (replicate from.count from.tag ++ (tags ++ more)) rows)
    ≡ text_left (here ++ bytes) (column + length bytes) (row_left 0 (replicate after.count after.tag ++ more) rows)

-- a step over the cells that runs spell
pub record IsStepOver (from : Run) (runs : List Run) (bytes : List ℕ) (after : Run) : Type 0 where
  pub step : IsStep from (spelled runs) bytes after
  pub cell : IsCellTag after.tag
  pub short : after.count ≤ from.count + length (spelled runs)

-- a step that goes on: from wherever the bytes before led to `before`, they lead with these tags to `after`
pub record IsNextStep (before : Run) (tags : List ℕ) (old new : List ℕ) (after : Run) : Type 0 where
  pub next : (from : Run) (done : List ℕ) → IsStep from done old before → IsStep from (done ++ tags) new after
  pub cell : IsCellTag after.tag
  pub short : after.count ≤ before.count + length tags

-- a step over the cells of all but the first two runs of a row, if there is one
abbrev pub IsRowStep : Option Step → List Run → List ℕ → Type 0
IsRowStep step runs bytes = IfSome step (λ s. IsStepOver s.from (drop 2 runs) bytes s.after)
