-- The text that is still to come when a writer is somewhere in a pattern.
use Rattle.std.specs.Prelude.{◌≡◌, ◌≢◌, ℕ, zero, suc, List, [], ◌∷◌, ◌++◌, map, flat_map, replicate, codes}
use Rattle.ww_rule.specs.declared.pattern.State.{State}
use Rattle.ww_rule.specs.declared.pattern.State.TheVariants.{Empty}
use Rattle.pattern_writing.specs.Writer.{TagRun, tag_of, row_end, without_end, row_tags, runs_of, run_text, wrapped}
use Rattle.rle_write.specs.declared.rows.Kept.{Kept}

-- the tags of rows, if row ends are due before them
abbrev pub rows_left : ℕ → List (List State) → List ℕ
rows_left ends rows = without_end row_end (replicate ends row_end ++ flat_map row_tags rows)

-- the tags of the rest of a row and of the rows after it, if row ends are due before them
abbrev pub row_left : ℕ → List ℕ → List (List State) → List ℕ
row_left ends tags rows =
    without_end row_end (replicate ends row_end
    ++ (without_end (tag_of Empty) tags ++ row_end ∷ flat_map row_tags rows))

-- the item of the row ends that are due
abbrev pub end_items : ℕ → List TagRun
end_items zero = []
end_items (suc n) = record { count = suc n; tag = row_end } ∷ []

-- what is held, and the text of items on a line that already has some bytes
abbrev pub line_left : List ℕ → ℕ → List (List ℕ) → List ℕ
line_left held column items = held ++ wrapped column items

-- the same for items and the `!` after them
abbrev pub items_left : List ℕ → ℕ → List TagRun → List ℕ
items_left held column items = line_left held column (map run_text items ++ codes "!" ∷ [])

-- the same for the items of tags
abbrev pub text_left : List ℕ → ℕ → List ℕ → List ℕ
text_left held column tags = items_left held column (runs_of tags)

-- the same for the tags that are still to come in a row after what is kept of it
abbrev pub kept_left : List ℕ → ℕ → Kept → List ℕ → List (List State) → List ℕ
kept_left held column kept tags rows =
    text_left held column (row_left kept.due (replicate kept.run.count kept.run.tag ++ tags) rows)

-- the tags do not begin with this one
abbrev pub BeginsOther : ℕ → List ℕ → Type 0
BeginsOther t [] = Unit {0}
BeginsOther t (z ∷ zs) = t ≢ z

-- a run of a row's cells and the tags that follow it: the first of these is another tag, and the
-- run does not lie at the row's empty end
pub record IsRunBefore (count tag : ℕ) (tags : List ℕ) : Type 0 where
  pub other : BeginsOther tag tags
  pub inside : without_end (tag_of Empty) (replicate count tag ++ tags) ≡ replicate count tag
      ++ without_end (tag_of Empty) tags
