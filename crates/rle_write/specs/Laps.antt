-- Laps: copies of the same cells after which the column and the kept run are what they were.
use Rattle.std.specs.Prelude.{ℕ, List, [], ◌≡◌, ◌++◌, replicate}
use Rattle.ww_rule.specs.declared.pattern.State.{State}
use Rattle.rle_write.specs.declared.rows.Kept.{Kept}
use Rattle.rle_write.specs.declared.rows.Run.{Run}
use Rattle.rle_write.specs.Left.{row_left, text_left}
use Rattle.rle_write.specs.Runs.{repeated, spelled}

-- with this column on the line and this run kept, so many copies of the cells that runs spell have
-- these bytes, and the column and the run are then the same
abbrev pub IsLap : ℕ → Kept → List Run → ℕ → List ℕ → Type 0
IsLap column kept runs copies bytes =
    (more : List ℕ) (rows : List (List State)) →
    text_left [] column (row_left kept.due (replicate kept.run.count kept.run.tag ++ (repeated copies (spelled runs) ++ more)) rows)
    ≡ bytes ++ text_left [] column (row_left kept.due (replicate kept.run.count kept.run.tag ++ more) rows)
