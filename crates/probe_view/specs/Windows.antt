-- A part of a plane as text.
use Rattle.std.specs.Prelude.{◌≡◌, ⊤, Some, ℕ, pos, List, [], ◌∷◌, ◌++◌, map, flat_map}
use Rattle.std.specs.List.{range_with_len}
use Rattle.ww_rule.specs.Wireworld.{Plane}
use Rattle.pattern_reading.specs.declared.ports.Ports.{Ports}
use Rattle.pattern_writing.specs.Writer.{tag_of}
use Rattle.streams.specs.declared.streams.Streams.{Streams}
use Rattle.drive.specs.Driving.{first_miss}
use Rattle.probe_view.specs.declared.error.WindowError.{WindowError}
use Rattle.probe_view.specs.declared.error.WindowError.TheVariants.{NoMemory, NotQuiet}

-- the tags of `width` cells of a row, from column x on: `.` for an empty cell, `A` for a head, `B`
-- for a tail, `C` for a conductor
abbrev pub window_tags : Plane → (row x width : ℕ) → List ℕ
window_tags plane row x width =
    map (λ column. tag_of (plane (pos column) (pos row))) (range_with_len x width)

-- `height` lines, one for each row from row y on
abbrev pub window_text : Plane → (x y width height : ℕ) → List ℕ
window_text plane x y width height =
    flat_map (λ row. window_tags plane row x width ++ 10 ∷ []) (range_with_len y height)

-- why nothing is shown at a generation
abbrev pub HasWindowCause : Ports → Streams → Plane → (generation : ℕ) → WindowError → Type 0
HasWindowCause ports streams plane g NoMemory = ⊤
HasWindowCause ports streams plane g (NotQuiet generation x y) =
    first_miss ports streams plane g ≡ Some (record { generation = generation; x = x; y = y })
