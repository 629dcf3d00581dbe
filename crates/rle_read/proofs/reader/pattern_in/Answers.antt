use Rattle.std.proofs.Common.{◌*◌, ◌≤◌, sym, ◌∙◌, subst}
use Rattle.std.proofs.lemmas.Bool.{ltb-false}
use Rattle.std.proofs.lemmas.Result.{err_from_is_err_and}
use Rattle.ww_rule.specs.Grid.{IsGrid}
use Rattle.pattern_reading.specs.Pattern.{HasBox, most_cells}
use Rattle.pattern_lines.specs.Lines.{line_of}
use Rattle.rle_read.specs.Texts.{header_of}
use Rattle.rle_read.specs.Drawn.{Drawn, drawn_of}
use Rattle.rle_read.proofs.DrawnText.{blank_grid}
use Rattle.rle_read.proofs.ReadText.{header_box, text_reads, text_refused}
use Rattle.rle_read.proofs.reader.pattern_in.Goals as goal

pub draw_text-requires-clause-in_rows : goal.draw_text-requires-clause-in_rows
draw_text-requires-clause-in_rows c =
    subst (λ (d : Drawn). IsGrid d.width d.height d.rows) (sym c.in_ok-drawing.ensures.drawn) (blank_grid c.in_ok-width.field-0.width c.in_ok-width.field-0.height)

pub returns-in_err-draw_text-clause-refused : goal.returns-in_err-draw_text-clause-refused
returns-in_err-draw_text-clause-refused c =
    let p = err_from_is_err_and c.from_residual-in_err-draw_text.result c.from_residual-in_err-draw_text.ensures.1 in
    let head = c.in_ok-line.ensures.found in
    let header = c.in_ok-width.ensures.header in
    let width = c.in_ok-width.field-0.width in
    let height = c.in_ok-width.field-0.height in
    let box : HasBox c.args.text.now width height = header_box c.args.text.now (line_of c.in_ok-line.line) (header_of c.in_ok-width.field-0) head.header header.0 header.1 in
    let small : width * height ≤ most_cells = ltb-false most_cells (width * height) (sym c.is_too_large.ensures ∙ c.if-is_too_large.false) in
    rw (p.1, p.2) (text_refused c.args.text.now (c.in_ok-line.line, c.in_ok-line.rest) head width height box (drawn_of c.in_ok-drawing.drawing) c.in_ok-drawing.ensures.drawn small c.in_err-draw_text.field-0.0 c.in_err-draw_text.ensures)

pub invariant_of-result : goal.invariant_of-result
invariant_of-result c =
    let head = c.in_ok-line.ensures.found in
    let header = c.in_ok-width.ensures.header in
    let width = c.in_ok-width.field-0.width in
    let height = c.in_ok-width.field-0.height in
    let box : HasBox c.args.text.now width height = header_box c.args.text.now (line_of c.in_ok-line.line) (header_of c.in_ok-width.field-0) head.header header.0 header.1 in
    let reads = text_reads c.args.text.now (c.in_ok-line.line, c.in_ok-line.rest) head width height box (drawn_of c.in_ok-drawing.drawing) c.in_ok-drawing.ensures.drawn (drawn_of c.draw_text.new.drawing) c.in_ok-draw_text.ensures in
    record { in_rows = reads.in_rows }

pub returns-clause-pattern : goal.returns-clause-pattern
returns-clause-pattern c =
    let head = c.in_ok-line.ensures.found in
    let header = c.in_ok-width.ensures.header in
    let width = c.in_ok-width.field-0.width in
    let height = c.in_ok-width.field-0.height in
    let box : HasBox c.args.text.now width height = header_box c.args.text.now (line_of c.in_ok-line.line) (header_of c.in_ok-width.field-0) head.header header.0 header.1 in
    let reads = text_reads c.args.text.now (c.in_ok-line.line, c.in_ok-line.rest) head width height box (drawn_of c.in_ok-drawing.drawing) c.in_ok-drawing.ensures.drawn (drawn_of c.draw_text.new.drawing) c.in_ok-draw_text.ensures in
    let small : width * height ≤ most_cells = ltb-false most_cells (width * height) (sym c.is_too_large.ensures ∙ c.if-is_too_large.false) in
    (reads, small)
