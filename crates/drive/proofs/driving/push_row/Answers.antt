use Rattle.std.proofs.Common.{◌++◌, ◌∷◌, [], sym, ap, ◌∙◌, ◌<◌, take, true, false, length, List, Vec, arith}
use Rattle.std.proofs.lemmas.List.{append_assoc, append-nil}
use Rattle.ww_rule.specs.declared.pattern.Injection.{Injection}
use Rattle.ww_rule.specs.Injections.{injections_of_row}
use Rattle.pattern_reading.specs.Ports.{cells_of}
use Rattle.drive.proofs.Rows.{row_turn}
use Rattle.drive.proofs.driving.push_row.Goals as goal
use Rattle.drive.proofs.driving.push_row.Goals.{then-row-i+in_ok-push, else-row-i}

pub loop-i-preserved : goal.loop-i-preserved
loop-i-preserved c =
    let g = c.args.generation in
    let inputs = c.args.inputs.now in
    let row = c.args.row.now in
    let i = c.loop-i.i in
    let input = c.index-inputs-i.result in
    let in_row : i < length row = omega (arith, c.requires, c.loop-i-test.true) in
    let before = c.args.due.now.items in
    let passed = injections_of_row g (take i (cells_of inputs)) (take i row) in
    let new : List Injection = record { generation = g; x = input.x; y = input.y } ∷ [] in
    elim c.if-row-i.branch [
      | then-row-i+in_ok-push w ↦
          ap (λ (due : Vec Injection _). due.items) w.due-is
          ∙ (w.in_ok-push.ensures {u = tt}).items
          ∙ ap (λ (due : List Injection). due ++ new) c.loop-i.invariant
          ∙ append_assoc before passed new
          ∙ ap (λ (due : List Injection). before ++ due) (sym (row_turn g inputs row i input true false c.loop-i-test.true in_row c.index-inputs-i.is (sym w.if-row-i.true)))
      | else-row-i w ↦
          ap (λ (due : Vec Injection _). due.items) w.due-is
          ∙ c.loop-i.invariant
          ∙ ap (λ (due : List Injection). before ++ due)
          (sym (append-nil passed) ∙ sym (row_turn g inputs row i input false false c.loop-i-test.true in_row c.index-inputs-i.is (sym w.if-row-i.false)))
    ]
