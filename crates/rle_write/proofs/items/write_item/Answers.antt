use Rattle.std.proofs.Common.{◌∷◌, ◌++◌, ap, arith}
use Rattle.std.proofs.lemmas.Result.{on_ok_weaker, on_err_weaker}
use Rattle.pattern_writing.specs.Writer.{wrapped}
use Rattle.ww_base.specs.Pages.{held, column_of}
use Rattle.ww_base.proofs.Steps.{wrote_as, broke_as}
use Rattle.rle_write.proofs.ShortItems.{short_item, longer_item}
use Rattle.rle_write.proofs.items.write_item.Goals as goal

pub returns-then-count-lt10-clause-ok : goal.returns-then-count-lt10-clause-ok
returns-then-count-lt10-clause-ok g c =
    let e = short_item c.args.count c.args.tag _ c.if-count-eq1.false c.if-count-lt10.true c.digit.ensures in
    on_ok_weaker c.write_bytes-then-count-lt10.result (λ wrote items.
    wrote_as (ap (λ item. held c.args.page.now ++ wrapped (column_of c.args.page.now) (item ∷ items)) e) (wrote items))
    c.write_bytes-then-count-lt10.ensures.ok

pub returns-then-count-lt10-clause-err : goal.returns-then-count-lt10-clause-err
returns-then-count-lt10-clause-err g c =
    let e = short_item c.args.count c.args.tag _ c.if-count-eq1.false c.if-count-lt10.true c.digit.ensures in
    on_err_weaker c.write_bytes-then-count-lt10.result (λ broke items.
    broke_as (ap (λ item. held c.args.page.now ++ wrapped (column_of c.args.page.now) (item ∷ items)) e) (broke items))
    c.write_bytes-then-count-lt10.ensures.err

pub returns-then-count-lt100-clause-ok : goal.returns-then-count-lt100-clause-ok
returns-then-count-lt100-clause-ok g c =
    let e = longer_item c.args.count c.args.tag _ _ (omega (arith, c.if-count-lt10.false)) c.if-count-lt100.true
    c.digit-then-count-lt100.ensures c.digit-then-count-lt100-2.ensures in
    on_ok_weaker c.write_bytes-then-count-lt100.result (λ wrote items.
    wrote_as (ap (λ item. held c.args.page.now ++ wrapped (column_of c.args.page.now) (item ∷ items)) e) (wrote items))
    c.write_bytes-then-count-lt100.ensures.ok

pub returns-then-count-lt100-clause-err : goal.returns-then-count-lt100-clause-err
returns-then-count-lt100-clause-err g c =
    let e = longer_item c.args.count c.args.tag _ _ (omega (arith, c.if-count-lt10.false)) c.if-count-lt100.true
    c.digit-then-count-lt100.ensures c.digit-then-count-lt100-2.ensures in
    on_err_weaker c.write_bytes-then-count-lt100.result (λ broke items.
    broke_as (ap (λ item. held c.args.page.now ++ wrapped (column_of c.args.page.now) (item ∷ items)) e) (broke items))
    c.write_bytes-then-count-lt100.ensures.err
