use Rattle.std.proofs.Common.{◌≡◌, sym, ◌∙◌, ap, ℕ, pos, true, false, ◌==◌, get_or}
use Rattle.ww_rule.specs.Wireworld.{Plane, is_head}
use Rattle.drive.specs.Runs.{planes_of}
use Rattle.vcd_write.proofs.DueSteps.{marked_head, marked_none}
use Rattle.vcd_write.proofs.reading.read_bit.Goals as goal

pub returns-then-is_head-clause-bits : goal.returns-then-is_head-clause-bits
returns-then-is_head-clause-bits c k =
    let bit = c.args.bit in
    let run = c.go_on.new.self in
    let shows = ap (λ (p : Plane). is_head (p (pos bit.x) (pos bit.y))) (c.go_on.ensures.shows ∙ ap (λ (planes : ℕ → Plane). planes bit.generation) c.go_on.ensures.planes) in
    let head : is_head (planes_of c.args.run.now bit.generation (pos bit.x) (pos bit.y)) ≡ true = sym shows ∙ sym c.is_head.ensures ∙ c.if-is_head.true in
    c.set.ensures.bits k ∙ marked_head (k == bit.place) (is_head (planes_of c.args.run.now bit.generation (pos bit.x) (pos bit.y))) (get_or c.args.bits.now k false) head

pub returns-else-is_head-clause-bits : goal.returns-else-is_head-clause-bits
returns-else-is_head-clause-bits c k =
    let bit = c.args.bit in
    let shows = ap (λ (p : Plane). is_head (p (pos bit.x) (pos bit.y))) (c.go_on.ensures.shows ∙ ap (λ (planes : ℕ → Plane). planes bit.generation) c.go_on.ensures.planes) in
    let head : is_head (planes_of c.args.run.now bit.generation (pos bit.x) (pos bit.y)) ≡ false = sym shows ∙ sym c.is_head.ensures ∙ c.if-is_head.false in
    marked_none (k == bit.place) (is_head (planes_of c.args.run.now bit.generation (pos bit.x) (pos bit.y))) (get_or c.args.bits.now k false) head
