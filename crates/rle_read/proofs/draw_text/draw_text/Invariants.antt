use Rattle.std.proofs.Common.{◌≡◌, ◌+◌, ◌^◌, ◌<◌, length}
use Rattle.ww_rule.specs.Grid.{IsGrid}
use Rattle.pattern_reading.specs.Lines.{lines_from, with_line_feeds}
use Rattle.pattern_reading.specs.Items.{items_of_lines}
use Rattle.rle_read.specs.Drawn.{drawn_of, drawn_with}
use Rattle.rle_read.proofs.draw_text.draw_text.Given as goal

abbrev pub invariant-loop-rest : goal.invariant-loop-rest
invariant-loop-rest l =
    record {
      room : l.lines + length l.rest < 2 ^ 64;
      in_rows : IsGrid l.drawing.width l.drawing.height l.drawing.rows;
      count : l.lines + length (lines_from (l.lines + 1) (with_line_feeds l.rest)) ≡ l.lines_before + length (lines_from (l.lines_before + 1) (with_line_feeds l.fn.text));
      drawn : drawn_with (drawn_of l.drawing) (items_of_lines (lines_from (l.lines + 1) (with_line_feeds l.rest))) ≡ drawn_with (drawn_of l.fn.drawing) (items_of_lines (lines_from (l.lines_before + 1) (with_line_feeds l.fn.text)));
    }

abbrev pub decreases-loop-rest : goal.decreases-loop-rest
decreases-loop-rest l = length l.rest
