-- Spans of rows, and boxes, whose cells are a plan's.
use Rattle.std.proofs.Common.{pos, ◌≡◌, sym, ◌∙◌, subst, ⊎_elim, ℕ, ◌+◌, ◌-◌, ◌<◌, ◌≤◌, List, [], length, get_or, take, drop, arith}
use Rattle.std.specs.Prelude.{All}
use Rattle.std.proofs.lemmas.Bool.{cases_lt}
use Rattle.std.proofs.lemmas.List.{get_or-take, get_or-drop, get_or_default, length-drop, length-take-le}
use Rattle.ww_rule.specs.declared.pattern.State.{State}
use Rattle.ww_rule.specs.declared.pattern.State.TheVariants.{Empty}
use Rattle.tile_library.specs.Drawings.{shipped_drawing}
use Rattle.tile_library.specs.RowRuns.{IsRowRun}
use Rattle.lane_core.specs.declared.plan.Plan.{Plan}
use Rattle.plan_layout.specs.Tape.{drawn_plane}
use Rattle.tile_match.specs.Drawn.{IsSpanDrawn, IsBoxDrawn}

-- a part of a span, and two spans side by side
pub span_part : (plan : Plan) (cells : List State) (y from until from' until' : ℕ) → from ≤ from' → until' ≤ until
    → IsSpanDrawn plan cells y from until → IsSpanDrawn plan cells y from' until'
span_part plan cells y from until from' until' low high s =
    record { each = λ x l h. s.each x (omega (arith, low, l)) (omega (arith, high, h)) }

pub span_join : (plan : Plan) (cells : List State) (y from mid until : ℕ)
    → IsSpanDrawn plan cells y from mid → IsSpanDrawn plan cells y mid until → IsSpanDrawn plan cells y from until
span_join plan cells y from mid until a b =
    record { each = λ x low high. ⊎_elim (λ before. a.each x low before) (λ after. b.each x after high) (cases_lt x mid) }

-- so many cells of a row from a place on
part_long : (cells : List State) (x count : ℕ) → x + count ≤ length cells → length (take count (drop x cells)) ≡ count
part_long cells x count fit =
    let left : length (drop x cells) ≡ length cells - x = length-drop x cells in length-take-le count (drop x cells) (omega (arith, left, fit))

-- cells that are alike where those of the drawing are
pub run_span : (plan : Plan) (cells : List State) (y x limit count : ℕ) (state : State)
    → IsRowRun (λ k. drawn_plane shipped_drawing plan (pos k) (pos y)) x limit (state, count)
    → x + count ≤ length cells → All (λ cell. cell ≡ state) (take count (drop x cells)) → IsSpanDrawn plan cells y x (x + count)
run_span plan cells y x limit count state run within all = record {
  each = λ k low high.
      (let lt : k - x < count = omega (arith, low, high) in
      let here : x + (k - x) ≡ k = omega (arith, low) in
      subst (λ n. get_or cells n Empty ≡ drawn_plane shipped_drawing plan (pos n) (pos y)) here
      (sym (get_or-take count (drop x cells) (k - x) Empty lt ∙ get_or-drop x cells (k - x) Empty)
      ∙ all (k - x) Empty (omega (arith, lt, part_long cells x count within))
      ∙ sym (run.alike (k - x) lt)));
}

pub span_run : (plan : Plan) (cells : List State) (y x limit count : ℕ) (state : State) (until : ℕ)
    → IsRowRun (λ k. drawn_plane shipped_drawing plan (pos k) (pos y)) x limit (state, count)
    → x + count ≤ until → until ≤ length cells → IsSpanDrawn plan cells y x until → All (λ cell. cell ≡ state) (take count (drop x cells))
span_run plan cells y x limit count state until run few within s i d lt =
    let inside : i < count = omega (arith, lt, part_long cells x count (omega (arith, few, within))) in
    get_or-take count (drop x cells) i d inside
    ∙ get_or-drop x cells i d
    ∙ get_or_default cells (x + i) d Empty (omega (arith, inside, few, within))
    ∙ s.each (x + i) (omega arith) (omega (arith, inside, few))
    ∙ run.alike i inside

-- no rows
pub no_box : (plan : Plan) (rows : List (List State)) (top bottom from until : ℕ) → bottom ≤ top → IsBoxDrawn plan rows top bottom from until
no_box plan rows top bottom from until le = record { each = λ y low high. absurd (omega (arith, le, low, high)) }

-- a box with one row more
pub box_more : (plan : Plan) (rows : List (List State)) (top y from until : ℕ)
    → IsBoxDrawn plan rows top y from until → IsSpanDrawn plan (get_or rows y []) y from until → IsBoxDrawn plan rows top (y + 1) from until
box_more plan rows top y from until b s = record {
  each = λ k low high.
      ⊎_elim
      (λ before. b.each k low before)
      (λ last. (let same : y ≡ k = omega (arith, last, high) in subst (λ n. IsSpanDrawn plan (get_or rows n []) n from until) same s))
      (cases_lt k y);
}

-- a narrower box, boxes side by side, and one below another
pub box_part : (plan : Plan) (rows : List (List State)) (top bottom from until from' until' : ℕ) → from ≤ from' → until' ≤ until
    → IsBoxDrawn plan rows top bottom from until → IsBoxDrawn plan rows top bottom from' until'
box_part plan rows top bottom from until from' until' low high b =
    record { each = λ y l h. span_part plan (get_or rows y []) y from until from' until' low high (b.each y l h) }

pub box_beside : (plan : Plan) (rows : List (List State)) (top bottom from mid until : ℕ)
    → IsBoxDrawn plan rows top bottom from mid → IsBoxDrawn plan rows top bottom mid until → IsBoxDrawn plan rows top bottom from until
box_beside plan rows top bottom from mid until a b =
    record { each = λ y l h. span_join plan (get_or rows y []) y from mid until (a.each y l h) (b.each y l h) }

pub box_below : (plan : Plan) (rows : List (List State)) (top mid bottom from until : ℕ)
    → IsBoxDrawn plan rows top mid from until → IsBoxDrawn plan rows mid bottom from until → IsBoxDrawn plan rows top bottom from until
box_below plan rows top mid bottom from until a b =
    record { each = λ y low high. ⊎_elim (λ before. a.each y low before) (λ after. b.each y after high) (cases_lt y mid) }

pub box_rows : (plan : Plan) (rows : List (List State)) (top bottom from until top' bottom' : ℕ) → top ≤ top' → bottom' ≤ bottom
    → IsBoxDrawn plan rows top bottom from until → IsBoxDrawn plan rows top' bottom' from until
box_rows plan rows top bottom from until top' bottom' low high b =
    record { each = λ y l h. b.each y (omega (arith, low, l)) (omega (arith, high, h)) }
