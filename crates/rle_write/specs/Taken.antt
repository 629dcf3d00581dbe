-- What is written where more cells of a row are taken, and of items and texts.
use Rattle.std.specs.Prelude.{ℕ, List, ◌∷◌, ◌++◌}
use Rattle.std.specs.declared.option.Option.{Option}
use Rattle.ww_rule.specs.declared.pattern.State.{State}
use Rattle.ww_base.specs.declared.page.Page.{Page}
use Rattle.ww_base.specs.Pages.{held, column_of}
use Rattle.ww_base.specs.Progress.{Wrote, Broke}
use Rattle.rle_write.specs.declared.rows.Kept.{Kept}
use Rattle.rle_write.specs.Left.{kept_left, line_left}

-- The text of what was kept and of these tags was written, but for what is kept then, whatever
-- follows in the row and after it. The bytes and faults are those of the sink, before and after.
abbrev pub TakesTags : (a b : Option (List ℕ)) (f g : ℕ) (old new : Page) → Kept → List ℕ → Kept → Type 0
TakesTags a b f g old new kept tags k =
    (more : List ℕ) (rows : List (List State))
    → Wrote a b f g (kept_left (held old) (column_of old) kept (tags ++ more) rows)
    (kept_left (held new) (column_of new) k more rows)

-- a write failed within that text
abbrev pub BreaksInTags : (a b : Option (List ℕ)) (f g : ℕ) → Page → Kept → List ℕ → Type 0
BreaksInTags a b f g old kept tags =
    (more : List ℕ) (rows : List (List State))
    → Broke a b f g (kept_left (held old) (column_of old) kept (tags ++ more) rows)

-- the text of an item was written, whichever items follow
abbrev pub WritesItem : (a b : Option (List ℕ)) (f g : ℕ) (old new : Page) → List ℕ → Type 0
WritesItem a b f g old new item =
    (items : List (List ℕ))
    → Wrote a b f g (line_left (held old) (column_of old) (item ∷ items)) (line_left (held new) (column_of new) items)

-- a write failed within that text
abbrev pub BreaksInItem : (a b : Option (List ℕ)) (f g : ℕ) → Page → List ℕ → Type 0
BreaksInItem a b f g old item =
    (items : List (List ℕ)) → Broke a b f g (line_left (held old) (column_of old) (item ∷ items))

-- a text was written, whatever follows
abbrev pub WritesText : (a b : Option (List ℕ)) (f g : ℕ) (old new : Page) → List ℕ → Type 0
WritesText a b f g old new text =
    (rest : List ℕ) → Wrote a b f g (held old ++ (text ++ rest)) (held new ++ rest)

-- a write failed within it
abbrev pub BreaksInText : (a b : Option (List ℕ)) (f g : ℕ) → Page → List ℕ → Type 0
BreaksInText a b f g old text = (rest : List ℕ) → Broke a b f g (held old ++ (text ++ rest))
