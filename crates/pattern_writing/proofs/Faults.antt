-- Runs of tags that stand in a box have no fault there, and their counts fit 64 bits.
use Rattle.std.proofs.Common.{ℕ, zero, suc, ◌+◌, ◌^◌, ◌≡◌, ◌≢◌, ◌<◌, ◌≤◌, inl, inr, ◌⊎◌, refl, List, [], ◌∷◌, ◌++◌, replicate, arith}
use Rattle.std.specs.Prelude.{None, filter_map}
use Rattle.std.specs.List.{AllByRecursion, cons_option}
use Rattle.std.proofs.lemmas.Bool.{le-leb, lt-ltb}
use Rattle.std.proofs.lemmas.Bool.Decides.{eqb_tells}
use Rattle.ww_rule.specs.declared.pattern.State.{State}
use Rattle.ww_rule.specs.declared.pattern.State.TheVariants.{Empty, Head, Tail, Conductor}
use Rattle.pattern_reading.specs.Items.{Item, Placed, column_after, row_after}
use Rattle.pattern_reading.specs.Pattern.{RleFaultAt, fault_at, item_fault, run_fault}
use Rattle.pattern_writing.specs.Writer as writer
use Rattle.pattern_writing.specs.Laws.{spelled}
use Rattle.pattern_writing.proofs.Look.{Mark, RowEnd, Of, mark_of, tag}
use Rattle.pattern_writing.proofs.Inside.{AreInside, GoesOn}
use Rattle.pattern_writing.proofs.ReadRuns.{IsRun, Stands, after_cells, after_ends, item, item_of, placed}

-- a run whose count can be written, of a tag that stands for something
pub record IsKnown (run : writer.TagRun) : Type 0 where
  pub some : run.count ≢ 0
  pub small : run.count < 2 ^ 64
  pub known : run.tag ≡ tag (mark_of run.tag)

as_mark : (m k : Mark) (A B C : Type 0) → m ≡ k → GoesOn m A B C → GoesOn k A B C
as_mark m k A B C e h = rw (← e) h

module _ (w h : ℕ) where
  first_inside : (n t : ℕ) (ts : List ℕ) (cx cy : ℕ) → n ≢ 0 → AreInside w h (replicate n t ++ ts) cx cy → (t ≡ tag (mark_of t)) × (cy < h)
  first_inside zero t ts cx cy some k = absurd (some refl)
  first_inside (suc n) t ts cx cy some k = (k.0, k.1)

  cells_inside : (t : ℕ) (state : State) → mark_of t ≡ Of state → (n : ℕ) (ts : List ℕ) (cx cy : ℕ) → cx ≤ w → AreInside w h (replicate n t ++ ts) cx cy → AreInside w h ts (cx + n) cy × (cx + n ≤ w)
  cells_inside t state e zero ts cx cy fits k =
      let here : cx + 0 ≡ cx = omega arith in
      rw here (k, fits)
  cells_inside t state e (suc n) ts cx cy fits k =
      let there : cx + suc n ≡ cx + 1 + n = omega arith in
      let on : GoesOn (Of state) (cx < w) (AreInside w h (replicate n t ++ ts) 0 (cy + 1)) (AreInside w h (replicate n t ++ ts) (cx + 1) cy) = as_mark (mark_of t) (Of state) _ _ _ e k.2 in
      rw there (cells_inside t state e n ts (cx + 1) cy (omega (arith, on.0)) on.1)

  ends_inside_from : (t : ℕ) → mark_of t ≡ RowEnd → (n : ℕ) (ts : List ℕ) (cy : ℕ) → cy ≤ h → AreInside w h (replicate n t ++ ts) 0 cy → AreInside w h ts 0 (cy + n) × (cy + n ≤ h)
  ends_inside_from t e zero ts cy fits k =
      let here : cy + 0 ≡ cy = omega arith in
      rw here (k, fits)
  ends_inside_from t e (suc n) ts cy fits k =
      let there : cy + suc n ≡ cy + 1 + n = omega arith in
      let below : GoesOn RowEnd (0 < w) (AreInside w h (replicate n t ++ ts) 0 (cy + 1)) (AreInside w h (replicate n t ++ ts) (0 + 1) cy) = as_mark (mark_of t) RowEnd _ _ _ e k.2 in
      rw there (ends_inside_from t e n ts (cy + 1) (omega (arith, k.1)) below)

  ends_inside : (t : ℕ) → mark_of t ≡ RowEnd → (n : ℕ) (ts : List ℕ) (cx cy : ℕ) → n ≢ 0 → AreInside w h (replicate n t ++ ts) cx cy → AreInside w h ts 0 (cy + n) × (cy + n ≤ h)
  ends_inside t e zero ts cx cy some k = absurd (some refl)
  ends_inside t e (suc n) ts cx cy some k =
      let there : cy + suc n ≡ cy + 1 + n = omega arith in
      let below : GoesOn RowEnd (cx < w) (AreInside w h (replicate n t ++ ts) 0 (cy + 1)) (AreInside w h (replicate n t ++ ts) (cx + 1) cy) = as_mark (mark_of t) RowEnd _ _ _ e k.2 in
      rw there (ends_inside_from t e n ts (cy + 1) (omega (arith, k.1)) below)

  cells_fault : (p : Placed) (n : ℕ) (state : State) → p.x + n ≤ w → p.y < h → run_fault w h p n state ≡ None
  cells_fault p n Empty a b = refl
  cells_fault p n Head a b = rw (le-leb (p.x + n) w a, lt-ltb p.y h b) refl
  cells_fault p n Tail a b = rw (le-leb (p.x + n) w a, lt-ltb p.y h b) refl
  cells_fault p n Conductor a b = rw (le-leb (p.x + n) w a, lt-ltb p.y h b) refl

  -- a run at its place, and the place after it
  record GoesWell (run : writer.TagRun) (before : List Item) (ts : List ℕ) (cx cy : ℕ) : Type 0 where
    no_fault : item_fault w h (record { line = 0; x = column_after before; y = row_after before; item = item_of run }) (item_of run) ≡ None
    count : (run.count ≤ w) ⊎ (run.count ≤ h)
    known : run.tag ≡ tag (mark_of run.tag)
    next_x : ℕ
    next_y : ℕ
    stands : Stands (item_of run ∷ before) next_x next_y
    fits : next_x ≤ w
    inside : AreInside w h ts next_x next_y

  goes_well : (run : writer.TagRun) (before : List Item) (ts : List ℕ) (cx cy : ℕ) → IsRun run → Stands before cx cy → cx ≤ w → AreInside w h (replicate run.count run.tag ++ ts) cx cy → GoesWell run before ts cx cy
  goes_well run before ts cx cy some s fits k = by_mark (mark_of run.tag) refl
    where
      by_mark : (m : Mark) → mark_of run.tag ≡ m → GoesWell run before ts cx cy
      by_mark RowEnd e =
          let first = first_inside run.count run.tag ts cx cy some k in
          let rest = ends_inside run.tag e run.count ts cx cy some k in
          record {
            no_fault = rw e refl;
            count = inr (omega (arith, rest.1));
            known = first.0;
            next_x = 0;
            next_y = cy + run.count;
            stands = rw e (after_ends run.count before cx cy s);
            fits = omega arith;
            inside = rest.0;
          }
      by_mark (Of state) e =
          let first = first_inside run.count run.tag ts cx cy some k in
          let rest = cells_inside run.tag state e run.count ts cx cy fits k in
          let wide : column_after before + run.count ≤ w = rw s.0 rest.1 in
          let low : row_after before < h = rw s.1 first.1 in
          record {
            no_fault = rw e (cells_fault (record { line = 0; x = column_after before; y = row_after before; item = item run.count (Of state) }) run.count state wide low);
            count = inl (omega (arith, rest.1));
            known = first.0;
            next_x = cx + run.count;
            next_y = cy;
            stands = rw e (after_cells run.count state before cx cy s);
            fits = rest.1;
            inside = rest.0;
          }

  no_fault_first : (p : Placed) (faults : List RleFaultAt) → item_fault w h p p.item ≡ None → faults ≡ [] → cons_option (fault_at w h p) faults ≡ []
  no_fault_first p faults e k = rw (e, k) refl

  pub run_faults : (runs : List writer.TagRun) (before : List Item) (cx cy : ℕ) → AllByRecursion IsRun runs → Stands before cx cy → cx ≤ w → AreInside w h (spelled runs) cx cy → filter_map (fault_at w h) (placed before runs) ≡ []
  run_faults [] before cx cy some s fits k = refl
  run_faults (run ∷ runs) before cx cy some s fits k =
      let well = goes_well run before (spelled runs) cx cy some.0 s fits k in
      no_fault_first (record { line = 0; x = column_after before; y = row_after before; item = item_of run }) _ well.no_fault (run_faults runs (item_of run ∷ before) well.next_x well.next_y some.1 well.stands well.fits well.inside)

  small_count : (n : ℕ) → w < 2 ^ 64 → h < 2 ^ 64 → (n ≤ w) ⊎ (n ≤ h) → n < 2 ^ 64
  small_count n a b (inl c) = omega (arith, a, c)
  small_count n a b (inr c) = omega (arith, b, c)

  pub runs_known : (runs : List writer.TagRun) (before : List Item) (cx cy : ℕ) → w < 2 ^ 64 → h < 2 ^ 64 → AllByRecursion IsRun runs → Stands before cx cy → cx ≤ w → AreInside w h (spelled runs) cx cy → AllByRecursion IsKnown runs
  runs_known [] before cx cy a b some s fits k = tt
  runs_known (run ∷ runs) before cx cy a b some s fits k =
      let well = goes_well run before (spelled runs) cx cy some.0 s fits k in
      (record { some = some.0; small = small_count run.count a b well.count; known = well.known }, runs_known runs (item_of run ∷ before) well.next_x well.next_y a b some.1 well.stands well.fits well.inside)

-- the runs of tags are not empty
some_with : (t : ℕ) (runs : List writer.TagRun) → AllByRecursion IsRun runs → AllByRecursion IsRun (writer.with_tag t runs)
some_with t [] h = (λ e. omega (arith, e), tt)
some_with t (run ∷ runs) h = elim (eqb_tells t run.tag) as (λ _. AllByRecursion IsRun (writer.with_tag t (run ∷ runs))) [
  | inl same ↦ rw (same.0) (λ e. omega (arith, e), h.1)
  | inr other ↦ rw (other.0) (λ e. omega (arith, e), h)
]

pub some_runs : (tags : List ℕ) → AllByRecursion IsRun (writer.runs_of tags)
some_runs [] = tt
some_runs (t ∷ ts) = some_with t (writer.runs_of ts) (some_runs ts)
