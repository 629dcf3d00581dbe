-- The text that is written reads as what was written.
use Rattle.std.proofs.Common.{ℕ, ◌≡◌, refl, sym, ap, ◌∙◌, true, false, not, List, [], ◌∷◌, ◌++◌, map, get_or, arith}
use Rattle.std.specs.Prelude.{take_while, filter_map}
use Rattle.std.specs.List.{AllByRecursion, list_any}
use Rattle.std.proofs.lemmas.List.Sums.{take_while-cons}
use Rattle.ww_rule.specs.declared.pattern.State.TheVariants.{Empty}
use Rattle.ww_rule.specs.Grid.{Grid}
use Rattle.pattern_reading.specs.Lines.{Line, lines_of}
use Rattle.pattern_reading.specs.Header.{is_skipped}
use Rattle.pattern_reading.specs.Items.{Item, End, is_end, placed_after}
use Rattle.pattern_reading.specs.PortLines.{PortForm, table_entry, table_line, table_of, version_of_entries}
use Rattle.pattern_reading.specs.Pattern.{ReadsAsPattern, fault_at, state_at}
use Rattle.pattern_reading.specs.PortTable.{ReadsAsPorts, ports_of}
use Rattle.pattern_reading.specs.Laws.{later_by}
use Rattle.pattern_reading.specs.Spelling.{IsSpellable, IsSoundAfter, port_forms}
use Rattle.pattern_reading.specs.SpelledPattern.{SpelledItem, SpellsGrid, items_of_text, lines_text, places_of, spelled_header}
use Rattle.pattern_reading.specs.declared.ports.Ports.{Ports}
use Rattle.pattern_reading.proofs.PortForms.{its_forms}
use Rattle.pattern_reading.proofs.SoundLines.{sound_lines, spellable_lines}
use Rattle.pattern_reading.proofs.LineText.{first_line}
use Rattle.pattern_reading.proofs.Spelled.{same_pattern, spelled_ports}
use Rattle.pattern_reading.proofs.SpelledHeader.{spelled_header_is}
use Rattle.pattern_reading.proofs.SpelledPattern.{not_skipped, on_one_line, spelled_pattern}
use Rattle.pattern_writing.specs.Writer as writer
use Rattle.pattern_writing.specs.Laws.{spelled}
use Rattle.pattern_writing.proofs.Runs.{spelled_runs}
use Rattle.pattern_writing.specs.WrittenText.{HasWrittenPattern, HasWrittenPorts, HasWrittenText, IsWritable, pattern_text, written}
use Rattle.pattern_writing.proofs.Look.{Mark, RowEnd, Of, look, look_grid, mark_of}
use Rattle.pattern_writing.proofs.Inside.{AreInside, grid_inside}
use Rattle.pattern_writing.proofs.ReadRuns.{item, item_of, placed, run_states}
use Rattle.pattern_writing.proofs.Faults.{IsKnown, run_faults, runs_known, some_runs}
use Rattle.pattern_writing.proofs.Text.{AreLines, items_spelled, lines_of_runs, lines_spelled, meanings, meanings_of_lines, text_is}
use Rattle.pattern_reading.proofs.SpelledItems.{meaning}

no_end : (n : ℕ) (m : Mark) → is_end (item n m) ≡ false
no_end n RowEnd = refl
no_end n (Of state) = refl

before_end : (runs : List writer.TagRun) → take_while (λ i. not (is_end i)) (map item_of runs ++ End ∷ []) ≡ map item_of runs
before_end [] = refl
before_end (run ∷ runs) =
    take_while-cons (λ i. not (is_end i)) (item_of run) (map item_of runs ++ End ∷ []) ∙ rw (no_end run.count (mark_of run.tag)) (ap (λ l. item_of run ∷ l) (before_end runs))

has_end : (runs : List writer.TagRun) → list_any is_end (map item_of runs ++ End ∷ []) ≡ true
has_end [] = refl
has_end (run ∷ runs) = rw (no_end run.count (mark_of run.tag)) (has_end runs)

module _ (grid : Grid) (w : IsWritable grid) where
  abbrev runs : List writer.TagRun
  runs = writer.runs_of (writer.grid_tags grid.rows)

  tags_are : spelled runs ≡ writer.grid_tags grid.rows
  tags_are = spelled_runs (writer.grid_tags grid.rows)

  inside : AreInside grid.width grid.height (spelled runs) 0 0
  inside = rw tags_are (grid_inside grid.width grid.height grid.rows w.in_rows)

  known : AllByRecursion IsKnown runs
  known = runs_known grid.width grid.height runs [] 0 0 w.width w.height (some_runs (writer.grid_tags grid.rows)) (refl, refl) (omega arith) inside

  places : (items : List Item) → items ≡ map item_of runs ++ End ∷ [] → places_of items ≡ placed [] runs
  places items e = ap (λ l. placed_after [] (on_one_line l)) (ap (take_while (λ i. not (is_end i))) e ∙ before_end runs)

  cells : (x y : ℕ) → get_or (get_or grid.rows y []) x Empty ≡ state_at (placed [] runs) x y
  cells x y =
      sym (look_grid grid.rows x y) ∙ ap (λ ts. look ts 0 0 x y) (sym tags_are) ∙ sym (run_states runs [] 0 0 x y (some_runs (writer.grid_tags grid.rows)) (refl, refl))

  spells : (items : List Item) → items ≡ map item_of runs ++ End ∷ [] → SpellsGrid items grid
  spells items e = record {
    no_fault = ap (filter_map (fault_at grid.width grid.height)) (places items e) ∙ run_faults grid.width grid.height runs [] 0 0 (some_runs (writer.grid_tags grid.rows)) (refl, refl) (omega arith) inside;
    ends = ap (list_any is_end) e ∙ has_end runs;
    in_rows = w.in_rows;
    cells = λ x y a b. cells x y ∙ ap (λ ps. state_at ps x y) (sym (places items e));
  }

  items_are : (lines : List (List SpelledItem)) → AreLines runs lines → items_of_text lines ≡ map item_of runs ++ End ∷ []
  items_are lines h = meanings_of_lines lines ∙ ap (map meaning) h.all ∙ meanings runs known

  body : List (List SpelledItem) → List ℕ
  body lines = spelled_header grid.width grid.height ++ 10 ∷ (lines_text lines ++ [])

  body_reads : (lines : List (List SpelledItem)) → AreLines runs lines → ReadsAsPattern (body lines) grid
  unfolding body
  body_reads lines h =
      let header = spelled_header_is grid w.width w.height in
      spelled_pattern (spelled_header grid.width grid.height) lines [] grid header.0 header.1 (lines_spelled lines (rw (h.all) (items_spelled runs known))) (spells (items_of_text lines) (items_are lines h))

  pub pattern_reads : (forms : List PortForm) → AllByRecursion IsSpellable forms → ReadsAsPattern (written grid forms) grid
  unfolding body
  pattern_reads forms h =
      let on = lines_of_runs runs known in
      rw (text_is grid forms on.0 on.1.text) (same_pattern forms (body on.0) grid h (body_reads on.0 on.1))

  no_table : (lines : List (List SpelledItem)) → table_of (body lines) ≡ []
  unfolding body
  no_table lines =
      let header = spelled_header_is grid w.width w.height in
      ap (λ ls. filter_map (table_line (version_of_entries (filter_map table_entry ls))) ls) (
      ap (take_while is_skipped) (first_line (spelled_header grid.width grid.height) (lines_text lines ++ []) header.0)
      ∙ ended (record { number = 1; bytes = spelled_header grid.width grid.height; is_ended = true }) (map (later_by 1) (lines_of (lines_text lines ++ []))) (not_skipped 1 (spelled_header grid.width grid.height) _ header.1.1))
    where
      ended : (line : Line) (rest : List Line) → is_skipped line ≡ false → take_while is_skipped (line ∷ rest) ≡ []
      ended line rest e = take_while-cons is_skipped line rest ∙ rw e refl

  pub ports_read : (forms : List PortForm) → AllByRecursion IsSpellable forms → IsSoundAfter grid.width grid.height [] forms → ReadsAsPorts (written grid forms) grid.width grid.height (ports_of forms)
  unfolding body
  ports_read forms h sound =
      let on = lines_of_runs runs known in
      rw (text_is grid forms on.0 on.1.text) (spelled_ports forms (body on.0) grid.width grid.height h sound (no_table on.0))

pub written_pattern : (grid : Grid) (forms : List PortForm) → HasWrittenPattern grid forms
written_pattern grid forms w h = pattern_reads grid w forms h

pub written_ports : (grid : Grid) (forms : List PortForm) → HasWrittenPorts grid forms
written_ports grid forms w h sound = ports_read grid w forms h sound

pub written_text : (grid : Grid) (ports : Ports) → HasWrittenText grid ports
written_text grid ports w table cells =
    let spellable = spellable_lines ports table in
    let sound = sound_lines grid.width grid.height ports table cells in
    let read : ReadsAsPorts (pattern_text grid ports) grid.width grid.height (ports_of (port_forms ports)) = ports_read grid w (port_forms ports) spellable sound in
    (pattern_reads grid w (port_forms ports) spellable, rw (its_forms ports) at read)
