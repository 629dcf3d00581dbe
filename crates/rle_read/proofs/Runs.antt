-- Runs of cells in rows.
use Rattle.std.proofs.Common.{ℕ, ◌+◌, ◌-◌, ◌<◌, ◌≤◌, ◌≡◌, ◌≢◌, refl, sym, ap, ◌∙◌, Bool, true, false, List, [], ◌++◌, length, take, drop, get_or, set, replicate, arith, length-take, ◌⊎◌, inl, inr}
use Rattle.std.specs.Prelude.{if◌then◌else◌, Some, None}
use Rattle.std.proofs.lemmas.Bool.{and_parts, leb-true, ltb-true}
use Rattle.std.proofs.lemmas.Option.{none-some}
use Rattle.std.proofs.lemmas.Bool.{cases_eq}
use Rattle.std.proofs.lemmas.Grind.{get_or-set_at}
use Rattle.std.proofs.lemmas.List.{length-replicate, length-set, get_or_append_left, get_or-append_right, get_or-take, get_or-drop, get_or-replicate, get_or-set_other}
use Rattle.ww_rule.specs.declared.pattern.State.{State}
use Rattle.ww_rule.specs.declared.pattern.State.TheVariants.{Empty, Head, Tail, Conductor}
use Rattle.ww_rule.specs.Grid.{IsGrid}
use Rattle.ww_rule.proofs.RowLemmas.{in_rows, same_grid}
use Rattle.pattern_reading.specs.declared.faults.RleFaultKind.TheVariants.{CellOutside}
use Rattle.pattern_reading.specs.Items.{Placed}
use Rattle.pattern_reading.specs.Pattern.{run_fault}
use Rattle.ww_rule.specs.Cuts.{with_run}
use Rattle.ww_rule.proofs.CutLemmas.{length-with_run}

-- a run that is not at fault lies in the box
inside : (b : Bool) → (if b then None else Some CellOutside) ≡ None → b ≡ true
inside true e = refl
inside false e = absurd (none-some _ (sym e))

pub run_inside : (width height : ℕ) (p : Placed) (n : ℕ) (state : State) → state ≢ Empty → run_fault width height p n state ≡ None → (p.x + n ≤ width) × (p.y < height)
run_inside width height p n Empty some e = absurd (some refl)
run_inside width height p n Head some e = let parts = and_parts _ _ (inside _ e) in (leb-true _ _ parts.0, ltb-true _ _ parts.1)
run_inside width height p n Tail some e = let parts = and_parts _ _ (inside _ e) in (leb-true _ _ parts.0, ltb-true _ _ parts.1)
run_inside width height p n Conductor some e = let parts = and_parts _ _ (inside _ e) in (leb-true _ _ parts.0, ltb-true _ _ parts.1)

-- and so in the rows
pub run_in_rows : (width height : ℕ) (rows : List (List State)) (x y n : ℕ) → IsGrid width height rows → 0 < n → x + n ≤ width → y < height → (y < length rows) × (x + n ≤ length (get_or rows y []))
run_in_rows width height rows x y n grid some right low =
    let here : x < width = omega arith in
    let iny : y < length rows = in_rows width height x y rows grid here low in
    let long : length (get_or rows y []) ≡ width = grid.long y [] iny in
    (iny, omega (arith, long, right))

-- a row with a run
run_before : (row : List State) (x n c : ℕ) (state d : State) → x + n ≤ length row → c < x → get_or (with_run row x n state) c d ≡ get_or row c d
run_before row x n c state d h k =
    get_or_append_left (take x row) (replicate n state ++ drop (x + n) row) d c (omega (arith, length-take x row)) ∙ get_or-take x row c d k

run_from : (row : List State) (x n c : ℕ) (state d : State) → x + n ≤ length row → x ≤ c → get_or (with_run row x n state) c d ≡ get_or (replicate n state ++ drop (x + n) row) (c - x) d
run_from row x n c state d h k = get_or-append_right (take x row) (replicate n state ++ drop (x + n) row) x c d (omega (arith, length-take x row)) k

pub run_covers : (row : List State) (x n c : ℕ) (state d : State) → x + n ≤ length row → x ≤ c → c < x + n → get_or (with_run row x n state) c d ≡ state
run_covers row x n c state d h k l =
    run_from row x n c state d h k
    ∙ get_or_append_left (replicate n state) (drop (x + n) row) d (c - x) (omega (arith, length-replicate n state))
    ∙ get_or-replicate n (c - x) state d (omega arith)

run_after : (row : List State) (x n c : ℕ) (state d : State) → x + n ≤ length row → x + n ≤ c → get_or (with_run row x n state) c d ≡ get_or row c d
run_after row x n c state d h k =
    let placed : x + n + (c - x - n) ≡ c = omega arith in
    run_from row x n c state d h (omega arith)
    ∙ get_or-append_right (replicate n state) (drop (x + n) row) n (c - x) d (length-replicate n state) (omega arith)
    ∙ get_or-drop (x + n) row (c - x - n) d
    ∙ ap (λ k. get_or row k d) placed

pub run_spares : (row : List State) (x n c : ℕ) (state d : State) → x + n ≤ length row → (c < x) ⊎ (x + n ≤ c) → get_or (with_run row x n state) c d ≡ get_or row c d
run_spares row x n c state d h (inl k) = run_before row x n c state d h k
run_spares row x n c state d h (inr k) = run_after row x n c state d h k

-- rows with a run are a box of the same size
pub run_grid : (width height : ℕ) (rows : List (List State)) (x y n : ℕ) (state : State) → IsGrid width height rows → y < length rows → x + n ≤ length (get_or rows y []) → IsGrid width height (set rows y (with_run (get_or rows y []) x n state))
run_grid width height rows x y n state grid iny inx =
    same_grid width height rows (set rows y (with_run (get_or rows y []) x n state)) grid (length-set rows y (with_run (get_or rows y []) x n state)) (λ k h. at k (cases_eq k y))
  where
    at : (k : ℕ) → (k ≡ y) ⊎ (k ≡ y → ⊥) → length (get_or (set rows y (with_run (get_or rows y []) x n state)) k []) ≡ length (get_or rows k [])
    at k (inl e) = ap length (get_or-set_at rows y k (with_run (get_or rows y []) x n state) [] e iny) ∙ length-with_run (get_or rows y []) x n state inx ∙ ap (λ j. length (get_or rows j [])) (sym e)
    at k (inr ne) = ap length (get_or-set_other rows y k (with_run (get_or rows y []) x n state) [] ne)
