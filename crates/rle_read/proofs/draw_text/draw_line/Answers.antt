use Rattle.std.proofs.Common.{◌≡◌, sym, ◌∙◌, subst}
use Rattle.std.specs.Prelude.{None}
use Rattle.ww_rule.specs.Grid.{IsGrid}
use Rattle.pattern_reading.specs.Pattern.{item_fault}
use Rattle.pattern_lines.specs.Lines.{line_of}
use Rattle.rle_read.specs.Texts.{item_of, tagged_digits_of}
use Rattle.rle_read.specs.Drawn.{Drawn, drawn_of, place_of}
use Rattle.rle_read.proofs.DrawnLines.{next_item, not_end, drawn_grid}
use Rattle.rle_read.proofs.draw_text.draw_line.Goals as goal

pub loop-rest-preserved : goal.loop-rest-preserved
loop-rest-preserved c =
    let d = drawn_of c.loop-rest.drawing in
    let line = line_of c.args.line in
    let item = item_of c.item_in-item.result in
    let sound : item_fault d.width d.height (place_of 0 d item) item ≡ None = sym c.item_fault.ensures ∙ c.in_default-item_fault.is in
    record {
      in_rows = subst (λ (d : Drawn). IsGrid d.width d.height d.rows) (sym c.draw.ensures) (drawn_grid d item c.loop-rest.invariant.in_rows c.item_in-item.ensures.counted sound);
      drawn = next_item line d c.loop-rest.rest.now c.split_piece.result.1.now (tagged_digits_of c.split_piece.result.0) item c.split_piece.ensures.pieces c.item_in-item.ensures.item (drawn_of c.draw.new.self) (not_end c.item_in-item.result c.in_default.not-End) sound c.draw.ensures ∙ c.loop-rest.invariant.drawn;
    }
