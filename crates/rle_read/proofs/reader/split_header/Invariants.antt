use Rattle.std.proofs.Common.{◌≡◌, ◌+◌, ◌^◌, ◌<◌, length}
use Rattle.std.specs.Prelude.{find}
use Rattle.std.specs.List.{after_first}
use Rattle.pattern_reading.specs.Lines.{lines_from, lines_of, with_line_feeds}
use Rattle.pattern_reading.specs.Header.{header_line, lines_after_header}
use Rattle.rle_read.proofs.HeaderLines.{is_header}
use Rattle.rle_read.proofs.reader.split_header.Given as goal

abbrev pub invariant-loop-rest : goal.invariant-loop-rest
invariant-loop-rest l =
    record {
      room : l.lines + length l.rest < 2 ^ 64;
      found : find is_header (lines_from (l.lines + 1) (with_line_feeds l.rest)) ≡ header_line l.fn.text;
      after : after_first is_header (lines_from (l.lines + 1) (with_line_feeds l.rest)) ≡ lines_after_header l.fn.text;
      count : l.lines + length (lines_from (l.lines + 1) (with_line_feeds l.rest)) ≡ length (lines_of l.fn.text);
    }

abbrev pub decreases-loop-rest : goal.decreases-loop-rest
decreases-loop-rest l = length l.rest
