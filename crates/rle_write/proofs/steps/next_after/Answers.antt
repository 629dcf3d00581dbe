use Rattle.std.proofs.Common.{sym}
use Rattle.rle_write.specs.StepBytes.{bytes_in}
use Rattle.rle_write.proofs.StepTexts.{step_joined, step_on}
use Rattle.rle_write.proofs.steps.next_after.Goals as goal

pub returns-then-run-before : goal.returns-then-run-before
returns-then-run-before c = step_joined c.args.before c.args.run.count c.args.run.tag (bytes_in c.args.bytes.now) c.requires.cell c.if-run-before.true

pub returns : goal.returns
returns c =
    step_on c.args.before c.args.run (bytes_in c.args.bytes.now) (bytes_in c.put_item.new.bytes) (c.put_item.ensures.some c.if-not-put_item.false)
    c.requires.cell c.requires.run (λ e. c.if-run-before.false (sym e)) (c.put_item.ensures.bytes c.if-not-put_item.false)
