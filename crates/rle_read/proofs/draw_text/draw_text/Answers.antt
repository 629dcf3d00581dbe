use Rattle.std.proofs.Common.{◌≡◌, ◌+◌, ◌∷◌, ℕ, List, length, ap, sym, ◌∙◌, inl, arith}
use Rattle.std.proofs.lemmas.Result.{err_from_is_err_and}
use Rattle.pattern_reading.specs.Lines.{Line}
use Rattle.pattern_lines.specs.Lines.{line_of}
use Rattle.rle_read.specs.Drawn.{drawn_of, Open, Ended, Fault, rle_fault_of, reached_of}
use Rattle.std.specs.Prelude.{Ok}
use Rattle.rle_read.proofs.DrawnLines.{after_line}
use Rattle.rle_read.proofs.draw_text.draw_text.Goals as goal

pub returns-in_err-draw_line : goal.returns-in_err-draw_line
returns-in_err-draw_line c =
    let p = err_from_is_err_and c.from_residual.result c.from_residual.ensures.1 in
    let d = drawn_of c.loop-rest.drawing in
    rw (p.1, p.2) (inl (sym c.loop-rest.invariant.drawn ∙ after_line d (line_of c.split_line.result.0) _ _ (Fault (rle_fault_of c.in_err-draw_line.field-0.0)) c.split_line.ensures.lines c.in_err-draw_line.ensures.drawn))

pub returns-in-OfPattern : goal.returns-in-OfPattern
returns-in-OfPattern c =
    let d = drawn_of c.loop-rest.drawing in
    let after = drawn_of c.draw_line.new.drawing in
    let reached : Ended after ≡ reached_of (Ok c.in_ok-draw_line.field-0) after = ap (λ e. reached_of (Ok e) after) (sym c.in-OfPattern.is) in
    sym c.loop-rest.invariant.drawn ∙ after_line d (line_of c.split_line.result.0) _ _ (Ended after) c.split_line.ensures.lines (reached ∙ c.in_ok-draw_line.ensures.drawn)

more_lines : (n total : ℕ) (line : Line) (all more : List Line) → all ≡ line ∷ more → n + length all ≡ total → n + 1 + length more ≡ total
more_lines n total line all more e is = omega (arith, ap length e, is)

pub loop-rest-preserved : goal.loop-rest-preserved
loop-rest-preserved c =
    let d = drawn_of c.loop-rest.drawing in
    let after = drawn_of c.draw_line.new.drawing in
    let reached : Open after ≡ reached_of (Ok c.in_ok-draw_line.field-0) after = ap (λ e. reached_of (Ok e) after) (sym c.in_default.is) in
    record {
      room = omega (arith, c.loop-rest.invariant.room, c.split_line.ensures.shorter);
      in_rows = c.in_ok-draw_line.ensures.in_rows;
      count = more_lines c.loop-rest.lines _ (line_of c.split_line.result.0) _ _ c.split_line.ensures.lines c.loop-rest.invariant.count;
      drawn = sym (after_line d (line_of c.split_line.result.0) _ _ (Open after) c.split_line.ensures.lines (reached ∙ c.in_ok-draw_line.ensures.drawn)) ∙ c.loop-rest.invariant.drawn;
    }
