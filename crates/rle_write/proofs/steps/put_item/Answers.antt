use Rattle.std.proofs.Common.{◌∙◌, ◌++◌, sym, ap, arith}
use Rattle.pattern_writing.specs.Writer.{run_text}
use Rattle.rle_write.specs.StepBytes.{bytes_in}
use Rattle.rle_write.proofs.ShortItems.{short_item, longer_item}
use Rattle.rle_write.proofs.steps.put_item.Goals as goal

pub returns-then-count-lt10-clause-bytes : goal.returns-then-count-lt10-clause-bytes
returns-then-count-lt10-clause-bytes c done =
    let item = short_item c.args.run.count c.byte_of-tag.result _ c.if-count-eq1.false c.if-count-lt10.true c.digit.ensures in
    c.put-then-count-lt10.ensures done
    ∙ ap (λ l. bytes_in c.args.bytes.now ++ l) (sym item ∙ ap (λ t. run_text record { count = c.args.run.count; tag = t }) c.byte_of-tag.ensures)

pub returns-then-count-lt100-clause-bytes : goal.returns-then-count-lt100-clause-bytes
returns-then-count-lt100-clause-bytes c done =
    let item = longer_item c.args.run.count c.byte_of-tag.result _ _ (omega (arith, c.if-count-lt10.false)) c.if-count-lt100.true
    c.digit-then-count-lt100.ensures c.digit-then-count-lt100-2.ensures in
    c.put-then-count-lt100.ensures done
    ∙ ap (λ l. bytes_in c.args.bytes.now ++ l) (sym item ∙ ap (λ t. run_text record { count = c.args.run.count; tag = t }) c.byte_of-tag.ensures)
