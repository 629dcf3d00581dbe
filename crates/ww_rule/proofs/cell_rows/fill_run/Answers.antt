use Rattle.std.proofs.Common.{◌≡◌, ◌++◌, ◌+◌, ◌-◌, List, replicate, take, drop, length, ap, ap₂, ◌∙◌, arith, length-drop, length-take}
use Rattle.ww_rule.specs.declared.pattern.State.{State}
use Rattle.std.proofs.lemmas.List.{drop-drop}
use Rattle.ww_rule.proofs.cell_rows.fill_run.Goals as goal

pub returns : goal.returns
returns c =
    let row = c.args.row.now in
    let x = c.args.x in
    let n = c.args.count in
    let many : length (take (x + n - x) (drop x row)) ≡ n = omega (arith, length-take (x + n - x) (drop x row), length-drop x row, c.requires) in
    let filled : c.fill.new.self ≡ replicate n c.args.state = c.fill.ensures.after (λ y h. h) ∙ ap (λ k. replicate k c.args.state) many in
    let full : x + (x + n - x) ≡ x + n = omega arith in
    ap₂ (λ (run rest : List State). take x row ++ (run ++ rest)) filled (drop-drop (x + n - x) x row ∙ ap (λ k. drop k row) full)
