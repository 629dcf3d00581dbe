use Rattle.std.proofs.Common.{◌≡◌, ◌+◌, ℕ, List, ◌++◌, length, refl, sym, ap, ◌∙◌, append_assoc}
use Rattle.pattern_writing.specs.Writer.{line_break, used_after, wrapped}
use Rattle.ww_base.specs.Pages.{held, column_of}
use Rattle.lists.proofs.Results.{on_err}
use Rattle.ww_base.proofs.Steps.{wrote_then, wrote_broke, wrote_as, wrote_to, broke_as}
use Rattle.rle_write.proofs.items.write_bytes.Goals as goal

pub returns-in_err-put-clause-err : goal.returns-in_err-put-clause-err
returns-in_err-put-clause-err g c =
    let item : List ℕ = c.args.item.now in
    let column : ℕ = column_of c.args.page.now in
    let f = λ (items : List (List ℕ)).
    let rest : List ℕ = wrapped (used_after column item) items in
    broke_as (ap (λ l. held c.args.page.now ++ l) (append_assoc (line_break column item) item rest))
    (wrote_broke (c.in_ok-break_line.ensures.ok item (item ++ rest) refl) (c.in_err-put.ensures.err rest)) in
    on_err _ f

pub returns-clause-ok : goal.returns-clause-ok
returns-clause-ok g c items =
    let item : List ℕ = c.args.item.now in
    let column : ℕ = column_of c.args.page.now in
    let rest : List ℕ = wrapped (used_after column item) items in
    let now : column_of c.advance.new.self ≡ used_after column item =
    c.advance.ensures.column ∙ ap (λ k. k + length item) c.put.ensures.column ∙ c.in_ok-break_line.ensures.start item refl in
    wrote_as (ap (λ l. held c.args.page.now ++ l) (append_assoc (line_break column item) item rest))
    (wrote_to
    (ap (λ h. h ++ rest) (sym c.advance.ensures.held) ∙ ap (λ k. held c.advance.new.self ++ wrapped k items) (sym now))
    (wrote_then (c.in_ok-break_line.ensures.ok item (item ++ rest) refl) (c.in_ok-put.ensures.ok rest)))
