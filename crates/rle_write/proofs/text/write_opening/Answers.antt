use Rattle.std.proofs.Common.{◌≡◌, ℕ, List, ◌++◌, ap, append_assoc}
use Rattle.std.proofs.lemmas.Result.{on_ok_weaker, on_err_weaker}
use Rattle.pattern_reading.specs.Spelling.{port_lines}
use Rattle.pattern_writing.specs.Writer.{ended_lines, header_text}
use Rattle.ww_base.specs.Pages.{held}
use Rattle.lists.proofs.Results.{on_err}
use Rattle.ww_base.proofs.Steps.{wrote_then, wrote_broke, wrote_as, broke_as}
use Rattle.rle_write.proofs.text.write_opening.Goals as goal

joined : (here lines header rest : List ℕ) → here ++ ((lines ++ header) ++ rest) ≡ here ++ (lines ++ (header ++ rest))
joined here lines header rest = ap (λ l. here ++ l) (append_assoc lines header rest)

pub returns-in_err-write_table-clause-err : goal.returns-in_err-write_table-clause-err
returns-in_err-write_table-clause-err g c =
    let lines : List ℕ = ended_lines (port_lines c.args.ports.now) in
    let header : List ℕ = header_text c.args.width c.args.height in
    let f = λ (rest : List ℕ). broke_as (joined (held c.args.page.now) lines header rest) (c.in_err-write_table.ensures.err (header ++ rest)) in
    on_err _ f

pub returns-clause-ok : goal.returns-clause-ok
returns-clause-ok g c =
    let lines : List ℕ = ended_lines (port_lines c.args.ports.now) in
    let header : List ℕ = header_text c.args.width c.args.height in
    on_ok_weaker c.write_header.result (λ wrote rest.
    wrote_as (joined (held c.args.page.now) lines header rest) (wrote_then (c.in_ok-write_table.ensures.ok (header ++ rest)) (wrote rest)))
    c.write_header.ensures.ok

pub returns-clause-err : goal.returns-clause-err
returns-clause-err g c =
    let lines : List ℕ = ended_lines (port_lines c.args.ports.now) in
    let header : List ℕ = header_text c.args.width c.args.height in
    on_err_weaker c.write_header.result (λ broke rest.
    broke_as (joined (held c.args.page.now) lines header rest) (wrote_broke (c.in_ok-write_table.ensures.ok (header ++ rest)) (broke rest)))
    c.write_header.ensures.err
