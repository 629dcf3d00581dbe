use Rattle.std.proofs.Common.{◌≡◌, length}
use Rattle.ww_rule.specs.Grid.{IsGrid}
use Rattle.rle_read.specs.Drawn.{drawn_of, drawn_with}
use Rattle.pattern_lines.specs.Lines.{line_of}
use Rattle.rle_read.proofs.DrawnLines.{items_from}
use Rattle.rle_read.proofs.draw_text.draw_line.Given as goal

abbrev pub invariant-loop-rest : goal.invariant-loop-rest
invariant-loop-rest l =
    record {
      in_rows : IsGrid l.drawing.width l.drawing.height l.drawing.rows;
      drawn : drawn_with (drawn_of l.drawing) (items_from (line_of l.fn.line) l.rest) ≡ drawn_with (drawn_of l.fn.drawing) (items_from (line_of l.fn.line) l.fn.line.bytes.now);
    }

abbrev pub decreases-loop-rest : goal.decreases-loop-rest
decreases-loop-rest l = length l.rest
