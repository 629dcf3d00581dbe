use Rattle.std.proofs.Common.{◌+◌, ◌*◌, ◌++◌, sym, ap, ◌∙◌, arith, ℕ, List, Bool}
use Rattle.ww_rule.specs.Wireworld.{Plane}
use Rattle.drive.specs.Runs.{planes_of}
use Rattle.drive.specs.Shown.{bits_on, row_of_cycle}
use Rattle.drive.proofs.Ranges.{pieces_more}
use Rattle.drive.proofs.bits.row_of_cycle.Goals as goal

pub loop-context-preserved : goal.loop-context-preserved
loop-context-preserved c =
    let gone = c.loop-context.invariant.gone in
    let planes = planes_of c.args.run.now in
    let first = c.args.first in
    let cells = c.args.cells.now in
    let context = c.loop-context.context in
    let before = row_of_cycle planes context first cells in
    let order = c.go_on.ensures.order in
    let same = c.go_on.ensures.planes ∙ gone.planes in
    let now = c.go_on.ensures.shows ∙ ap (λ (e : ℕ → Plane). e (first + 32 * context)) same in
    record {
      gone = record { run = c.go_on.ensures.run; order = omega (arith, order); planes = same; misses = c.go_on.ensures.misses ∙ gone.misses };
      row =
          c.in_ok-push_bits.ensures
          ∙ ap (λ (row : List Bool). row ++ bits_on (planes_of c.go_on.new.self c.go_on.new.self.generation) cells) c.loop-context.invariant.row
          ∙ ap (λ (plane : Plane). before ++ bits_on plane cells) now
          ∙ sym (pieces_more (λ (context : ℕ). bits_on (planes (first + 32 * context)) cells) context);
    }
