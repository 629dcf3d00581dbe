-- The text of laps.
use Rattle.std.proofs.Common.{◌≡◌, sym, subst, ◌∙◌, ap, ℕ, ◌-◌, ◌≤◌, ◌<◌, None, arith, List, [], ◌++◌, replicate, append_assoc}
use Rattle.std.specs.Prelude.{Some, IfSome, Option}
use Rattle.std.specs.Option.{unwrap_or}
use Rattle.ww_rule.specs.declared.pattern.State.{State}
use Rattle.ww_base.specs.Progress.{Wrote}
use Rattle.rle_write.specs.declared.rows.Kept.{Kept}
use Rattle.rle_write.specs.declared.rows.Run.{Run}
use Rattle.rle_write.specs.Laps.{IsLap}
use Rattle.rle_write.specs.Left.{row_left, text_left}
use Rattle.rle_write.specs.Runs.{repeated, spelled}
use Rattle.rle_write.proofs.Lefts.{left_by}
use Rattle.rle_write.proofs.CopiedTags.{repeated_split}

-- what is left begins with the bytes of a lap
pub lap_next : (here : List ℕ) (column : ℕ) (kept : Kept) (runs : List Run) (copies : ℕ) (bytes : List ℕ) → IsLap column kept runs copies bytes
    → (left : ℕ) → copies ≤ left → (more : List ℕ) (rows : List (List State))
    → text_left here column (row_left kept.due (replicate kept.run.count kept.run.tag ++ (repeated left (spelled runs) ++ more)) rows)
    ≡ here ++ (bytes ++ text_left [] column (row_left kept.due (replicate kept.run.count kept.run.tag ++ (repeated (left - copies) (spelled runs) ++ more)) rows))
lap_next here column kept runs copies bytes lap left le more rows =
    let tags : List ℕ = spelled runs in
    let rest : List ℕ = repeated (left - copies) tags ++ more in
    left_by here column kept.due kept.run.count kept.run.tag rows
    (ap (λ l. l ++ more) (repeated_split copies left tags le) ∙ append_assoc (repeated copies tags) (repeated (left - copies) tags) more)
    ∙ ap (λ l. here ++ l) (lap rest rows)

-- a number of copies that is not zero is that of a lap
pub lap_found : (here column : ℕ) (kept : Kept) (runs : List Run) (bytes : List ℕ) (found : Option ℕ) (copies : ℕ) → here ≡ column
    → IfSome found (λ n. (1 ≤ n) × IsLap here kept runs n bytes) → copies ≡ unwrap_or found 0 → 0 < copies → IsLap column kept runs copies bytes
lap_found here column kept runs bytes None copies same is none some = absurd (omega (arith, none, some))
lap_found here column kept runs bytes (Some n) copies same is this some =
    subst (λ k. IsLap k kept runs copies bytes) same (subst (λ m. IsLap here kept runs m bytes) (sym this) is.1)

-- what a sink that had no bytes took of a text is what it has
pub taken_of : {old new : List ℕ} {f g : ℕ} {before after : List ℕ} → old ≡ [] → Wrote (Some old) (Some new) f g before after → before ≡ new ++ after
taken_of {after = after} none w =
    w.joined ∙ ap (λ l. l ++ after) (sym (w.taken ∙ ap (λ l. l ++ w.text) none))
