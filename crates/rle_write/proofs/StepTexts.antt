-- The text of steps.
use Rattle.std.proofs.Common.{◌≡◌, ◌≢◌, refl, sym, ◌∙◌, ap, ℕ, ◌+◌, ◌≤◌, true, arith, List, [], ◌∷◌, ◌++◌, length, map, codes, replicate, append_assoc}
use Rattle.std.proofs.lemmas.Bool.{le-leb}
use Rattle.std.proofs.lemmas.List.{append-nil, length-append, length-replicate}
use Rattle.ww_rule.specs.declared.pattern.State.{State}
use Rattle.pattern_writing.specs.Writer.{TagRun, fits_after, run_text, runs_of, wrapped}
use Rattle.rle_write.specs.declared.rows.Run.{Run}
use Rattle.rle_write.specs.declared.rows.Kept.{Kept}
use Rattle.rle_write.specs.Left.{row_left, kept_left, items_left, text_left}
use Rattle.rle_write.specs.Runs.{IsCellRun, IsCellTag}
use Rattle.rle_write.specs.Steps.{IsNextStep, IsStep}
use Rattle.rle_write.proofs.Lefts.{left_by}
use Rattle.rle_write.proofs.Tags.{row_left_run, run_before_run, run_joined}

-- an item that fits on the line
item_fits : (column : ℕ) (item : List ℕ) (items : List (List ℕ)) → column + length item ≤ 70
    → wrapped column (item ∷ items) ≡ item ++ wrapped (column + length item) items
item_fits column item items fits =
    let e : fits_after column item ≡ true = le-leb (column + length item) 70 fits in rw e refl

-- a run that is kept is the next item if another run follows, and this is kept then
run_fits : (here : List ℕ) (column : ℕ) (before run : Run) → before.count ≢ 0 → IsCellTag before.tag → IsCellRun run → before.tag ≢ run.tag
    → (item : List ℕ) → item ≡ run_text record { count = before.count; tag = before.tag } → column + length item ≤ 70
    → (more : List ℕ) (rows : List (List State))
    → text_left here column (row_left 0 (replicate before.count before.tag ++ (replicate run.count run.tag ++ more)) rows)
    ≡ text_left (here ++ item) (column + length item) (row_left 0 (replicate run.count run.tag ++ more) rows)
run_fits here column before run some cell is other item same fits more rows =
    let tags : List ℕ = replicate run.count run.tag ++ more in
    let left : List TagRun = runs_of (row_left 0 tags rows) in
    let texts : List (List ℕ) = map run_text left ++ codes "!" ∷ [] in
    ap (items_left here column) (row_left_run 0 before.count before.tag tags rows some cell.other (run_before_run before.count before.tag run.count run.tag more is.some other))
    ∙ ap (λ i. here ++ wrapped column (i ∷ texts)) (sym same)
    ∙ ap (λ l. here ++ l) (item_fits column item texts fits)
    ∙ sym (append_assoc here item (wrapped (column + length item) texts))

-- a step is none at first
pub step_none : (from : Run) (bytes : List ℕ) → bytes ≡ [] → IsStep from [] bytes from
step_none from bytes none here column fits more rows =
    let row : List ℕ = row_left 0 (replicate from.count from.tag ++ more) rows in
    ap (λ k. text_left here k row) (let e : column ≡ column + 0 = omega arith in e)
    ∙ ap (λ h. text_left h (column + 0) row) (sym (append-nil here))
    ∙ ap (λ b. text_left (here ++ b) (column + length b) row) (sym none)

-- it goes on over more cells of the kept run
pub step_joined : (before : Run) (count tag : ℕ) (bytes : List ℕ) → IsCellTag before.tag → tag ≡ before.tag
    → IsNextStep before (replicate count tag) bytes bytes record { count = before.count + count; tag = tag }
step_joined before count tag bytes cell same = record {
  next = λ from done step here column fits more rows.
      left_by here column 0 from.count from.tag rows (append_assoc done (replicate count tag) more)
      ∙ step here column fits (replicate count tag ++ more) rows
      ∙ ap (λ t. text_left (here ++ bytes) (column + length bytes) (row_left 0 (replicate before.count t ++ (replicate count tag ++ more)) rows)) (sym same)
      ∙ ap (λ l. text_left (here ++ bytes) (column + length bytes) (row_left 0 l rows)) (run_joined before.count count tag more);
  cell = rw same cell;
  short = omega (arith, length-replicate count tag);
}

-- and over another run, with the item of the kept one
pub step_on : (before run : Run) (old new : List ℕ) → before.count ≢ 0 → IsCellTag before.tag → IsCellRun run → before.tag ≢ run.tag
    → new ≡ old ++ run_text record { count = before.count; tag = before.tag } → IsNextStep before (replicate run.count run.tag) old new run
step_on before run old new some cell is other joined = record {
  next = λ from done step here column fits more rows.
      let tags : List ℕ = replicate run.count run.tag in
      let item : List ℕ = run_text record { count = before.count; tag = before.tag } in
      let long : length new ≡ length old + length item = ap length joined ∙ length-append old item in
      let end : column + length old + length item ≡ column + length new = omega (arith, long) in
      let row : List ℕ = row_left 0 (tags ++ more) rows in
      left_by here column 0 from.count from.tag rows (append_assoc done tags more)
      ∙ step here column (omega (arith, fits, long)) (tags ++ more) rows
      ∙ run_fits (here ++ old) (column + length old) before run some cell is other item refl (omega (arith, fits, long)) more rows
      ∙ ap (λ k. text_left ((here ++ old) ++ item) k row) end
      ∙ ap (λ h. text_left h (column + length new) row) (append_assoc here old item ∙ ap (λ b. here ++ b) (sym joined));
  cell = is.cell;
  short = omega (arith, length-replicate run.count run.tag);
}

-- what is left begins with the bytes of a step
pub step_taken : (here : List ℕ) (column : ℕ) (kept : Kept) (from after : Run) (tags bytes : List ℕ) → kept.due ≡ 0 → kept.run ≡ from
    → IsStep from tags bytes after → column + length bytes ≤ 70 → (more : List ℕ) (rows : List (List State))
    → kept_left here column kept (tags ++ more) rows
    ≡ here ++ (bytes ++ text_left [] (column + length bytes) (row_left 0 (replicate after.count after.tag ++ more) rows))
step_taken here column kept from after tags bytes none same step fits more rows =
    let left : List ℕ = text_left [] (column + length bytes) (row_left 0 (replicate after.count after.tag ++ more) rows) in
    ap (λ d. text_left here column (row_left d (replicate kept.run.count kept.run.tag ++ (tags ++ more)) rows)) none
    ∙ ap (λ (r : Run). text_left here column (row_left 0 (replicate r.count r.tag ++ (tags ++ more)) rows)) same
    ∙ step here column fits more rows
    ∙ append_assoc here bytes left
