use Rattle.std.proofs.Common.{◌≡◌, ◌+◌, ℕ, List, ◌∷◌, ◌++◌, length, sym, ap, ◌∙◌}
use Rattle.pattern_writing.specs.Writer.{count_text, run_text, line_break, used_after, wrapped}
use Rattle.ww_base.specs.Pages.{held, column_of}
use Rattle.rle_write.proofs.ItemBytes.{item_long, item_cut}
use Rattle.lists.proofs.Results.{on_err}
use Rattle.ww_base.proofs.Steps.{wrote_then, wrote_broke, wrote_as, wrote_to, broke_as}
use Rattle.rle_write.proofs.items.write_long.Goals as goal

pub returns-in_err-put-clause-err : goal.returns-in_err-put-clause-err
returns-in_err-put-clause-err g c =
    let item : List ℕ = run_text record { count = c.args.count; tag = c.args.tag } in
    let column : ℕ = column_of c.args.page.now in
    let digits : List ℕ = c.as_bytes.result.now in
    let same : digits ≡ count_text c.args.count = cc in
    let long : length item ≡ length c.count_digits-digits.result.now + 1 = item_long c.args.count c.args.tag _ c.count_digits-digits.ensures.text in
    let f = λ (items : List (List ℕ)).
    let rest : List ℕ = wrapped (used_after column item) items in
    broke_as (item_cut (held c.args.page.now) (line_break column item) digits rest c.args.count c.args.tag same)
    (wrote_broke (c.in_ok-break_line.ensures.ok item (digits ++ (c.args.tag ∷ rest)) long)
    (c.in_err-put.ensures.err (c.args.tag ∷ rest))) in
    on_err _ f

pub returns-in_err-put-2-clause-err : goal.returns-in_err-put-2-clause-err
returns-in_err-put-2-clause-err g c =
    let item : List ℕ = run_text record { count = c.args.count; tag = c.args.tag } in
    let column : ℕ = column_of c.args.page.now in
    let digits : List ℕ = c.as_bytes.result.now in
    let same : digits ≡ count_text c.args.count = cc in
    let long : length item ≡ length c.count_digits-digits.result.now + 1 = item_long c.args.count c.args.tag _ c.count_digits-digits.ensures.text in
    let f = λ (items : List (List ℕ)).
    let rest : List ℕ = wrapped (used_after column item) items in
    broke_as (item_cut (held c.args.page.now) (line_break column item) digits rest c.args.count c.args.tag same)
    (wrote_broke
    (wrote_then (c.in_ok-break_line.ensures.ok item (digits ++ (c.args.tag ∷ rest)) long)
    (c.in_ok-put.ensures.ok (c.args.tag ∷ rest)))
    (c.in_err-put-2.ensures.err rest)) in
    on_err _ f

pub returns-clause-ok : goal.returns-clause-ok
returns-clause-ok g c items =
    let item : List ℕ = run_text record { count = c.args.count; tag = c.args.tag } in
    let column : ℕ = column_of c.args.page.now in
    let digits : List ℕ = c.as_bytes.result.now in
    let same : digits ≡ count_text c.args.count = cc in
    let long : length item ≡ length c.count_digits-digits.result.now + 1 = item_long c.args.count c.args.tag _ c.count_digits-digits.ensures.text in
    let rest : List ℕ = wrapped (used_after column item) items in
    let now : column_of c.advance.new.self ≡ used_after column item =
    c.advance.ensures.column
    ∙ ap (λ k. k + (length c.count_digits-digits.result.now + 1)) (c.put-2.ensures.column ∙ c.put.ensures.column)
    ∙ c.in_ok-break_line.ensures.start item long in
    wrote_as (item_cut (held c.args.page.now) (line_break column item) digits rest c.args.count c.args.tag same)
    (wrote_to
    (ap (λ h. h ++ rest) (sym c.advance.ensures.held) ∙ ap (λ k. held c.advance.new.self ++ wrapped k items) (sym now))
    (wrote_then
    (wrote_then (c.in_ok-break_line.ensures.ok item (digits ++ (c.args.tag ∷ rest)) long)
    (c.in_ok-put.ensures.ok (c.args.tag ∷ rest)))
    (c.in_ok-put-2.ensures.ok rest)))
