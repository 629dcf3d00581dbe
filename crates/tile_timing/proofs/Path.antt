-- A path of conductors in which only consecutive cells touch carries an electron one cell a generation.
use Rattle.std.proofs.Common.{ℤ, pos, ◌+ℤ◌, ◌-ℤ◌, ℕ, zero, suc, ◌+◌, ◌<◌, ◌≡◌, refl, sym, ap, ap₂, ◌∙◌, Bool, true, false, ◌||◌, ◌&&◌, not, cond, ◌==◌, List, [], ◌∷◌, ◌++◌, drop, length, arith, int_eq, inl, inr}
use Rattle.std.proofs.lemmas.Int.{ints}
use Rattle.std.proofs.lemmas.Bool.{and_parts, or_cases, cases_Bool, true≢false}
use Rattle.std.proofs.lemmas.Bool.Decides.{Decides-int_eq}
use Rattle.std.proofs.Math.Path.{fun_ext}
use Rattle.std.proofs.Math.Bool.{or_assoc, beq}
use Rattle.std.specs.Cmp.{booleans_Decides}
use Rattle.ww_rule.specs.declared.pattern.State.TheVariants.{Empty, Head, Tail, Conductor}
use Rattle.ww_rule.specs.Wireworld.{next_plane, evolve, next_state, heads_around, count_head}
use Rattle.tile_core.specs.Drawing.{Cell, is_cell_of, Drawing, picture}
use Rattle.tile_timing.proofs.Traces.{none_of, none_of-says}
use Rattle.tile_timing.proofs.Sound.{same_place, evolve-front}
use Rattle.ww_rule.proofs.Cells.{sum_same as sum_is}
use Rattle.ww_rule.proofs.Integers.{other_int}

-- where a number stands from another: one below it, at it, one above it, or elsewhere
pub data Side : Type 0 where
  Below : Side
  At : Side
  Above : Side
  Far : Side

abbrev pub is_below : Side → Bool
is_below Below = true
is_below At = false
is_below Above = false
is_below Far = false

abbrev pub is_at : Side → Bool
is_at Below = false
is_at At = true
is_at Above = false
is_at Far = false

abbrev pub is_above : Side → Bool
is_above Below = false
is_above At = false
is_above Above = true
is_above Far = false

pub record SideOf (x c : ℤ) : Type 0 where
  pub side : Side
  pub next : int_eq (x +ℤ pos 1) c ≡ is_below side
  pub same : int_eq x c ≡ is_at side
  pub last : int_eq (x -ℤ pos 1) c ≡ is_above side

pub side_of : (x c : ℤ) → SideOf x c
side_of x c =
    elim (cases_Bool (int_eq (x +ℤ pos 1) c)) [
      | inl t ↦ let e : x +ℤ pos 1 ≡ c = (Decides-int_eq (x +ℤ pos 1) c).0 t in record { side = Below; next = t; same = other_int x c (λ f. omega (arith, ints)); last = other_int (x -ℤ pos 1) c (λ f. omega (arith, ints)) }
      | inr f ↦
          elim (cases_Bool (int_eq x c)) [
            | inl t ↦ let e : x ≡ c = (Decides-int_eq x c).0 t in record { side = At; next = f; same = t; last = other_int (x -ℤ pos 1) c (λ g. omega (arith, ints)) }
            | inr g ↦
                elim (cases_Bool (int_eq (x -ℤ pos 1) c)) [
                  | inl t ↦ record { side = Above; next = f; same = g; last = t }
                  | inr h ↦ record { side = Far; next = f; same = g; last = h }
                ]
          ]
    ]

-- 1 for a cell that is the head
abbrev pub hit : Bool → Bool → ℕ
hit a b = cond (a && b) 1 0

-- a cell beside the one head sees one head
hits : (s t : Side) → hit (is_above s) (is_above t) + hit (is_at s) (is_above t) + hit (is_below s) (is_above t) + hit (is_above s) (is_at t) + hit (is_below s) (is_at t) + hit (is_above s) (is_below t) + hit (is_at s) (is_below t) + hit (is_below s) (is_below t) ≡ cond ((is_below s || is_at s || is_above s) && (is_below t || is_at t || is_above t) && not (is_at s && is_at t)) 1 0
hits Below Below = refl
hits Below At = refl
hits Below Above = refl
hits Below Far = refl
hits At Below = refl
hits At At = refl
hits At Above = refl
hits At Far = refl
hits Above Below = refl
hits Above At = refl
hits Above Above = refl
hits Above Far = refl
hits Far Below = refl
hits Far At = refl
hits Far Above = refl
hits Far Far = refl

-- is x, y one of the eight neighbours of c?
abbrev pub is_beside : ℤ → ℤ → Cell → Bool
is_beside x y c =
    (int_eq (x +ℤ pos 1) c.x || int_eq x c.x || int_eq (x -ℤ pos 1) c.x) && (int_eq (y +ℤ pos 1) c.y || int_eq y c.y || int_eq (y -ℤ pos 1) c.y) && not (int_eq x c.x && int_eq y c.y)

hit_cases : (w a b t : Bool) → ((a && b) ≡ true → w ≡ true) → count_head (cond w (cond ((a && b) || false) Head (cond t Tail Conductor)) Empty) ≡ hit a b
hit_cases true true true t h = refl
hit_cases true true false true h = refl
hit_cases true true false false h = refl
hit_cases true false b true h = refl
hit_cases true false b false h = refl
hit_cases false true true t h = absurd (true≢false (sym (h refl)))
hit_cases false true false t h = refl
hit_cases false false b t h = refl

hit_at : (drawing : Drawing) (c : Cell) (ts : List Cell) (u v : ℤ) → drawing c.x c.y ≡ true → count_head (picture drawing (c ∷ []) ts u v) ≡ hit (int_eq u c.x) (int_eq v c.y)
hit_at drawing c ts u v w =
    hit_cases (drawing u v) (int_eq u c.x) (int_eq v c.y) (is_cell_of u v ts) (λ e. let s = same_place u v c.x c.y e in ap₂ drawing s.0 s.1 ∙ w)

-- one head alone counts once beside it, and nowhere else
pub one_head : (drawing : Drawing) (c : Cell) (ts : List Cell) (x y : ℤ) → drawing c.x c.y ≡ true → heads_around (picture drawing (c ∷ []) ts) x y ≡ cond (is_beside x y c) 1 0
one_head drawing c ts x y w =
    let s = side_of x c.x in
    let t = side_of y c.y in
    let at = λ (u v : ℤ) (a b : Bool) (e : int_eq u c.x ≡ a) (f : int_eq v c.y ≡ b). hit_at drawing c ts u v w ∙ ap₂ hit e f in
    sum_is _ _ _ _ _ _ _ _ _ _ _ _ _ _ _ _ (at _ _ _ _ s.last t.last) (at _ _ _ _ s.same t.last) (at _ _ _ _ s.next t.last) (at _ _ _ _ s.last t.same) (at _ _ _ _ s.next t.same) (at _ _ _ _ s.last t.next) (at _ _ _ _ s.same t.next) (at _ _ _ _ s.next t.next)
    ∙ hits s.side t.side
    ∙ simp (s.next, s.same, s.last, t.next, t.same, t.last)

-- on the drawing, the cells beside c are those before it and those after it, and these are apart
pub record Follows (drawing : Drawing) (before : List Cell) (c : Cell) (after : List Cell) : Type 0 where
  pub drawn : drawing c.x c.y ≡ true
  pub beside : (x y : ℤ) → drawing x y ≡ true → is_beside x y c ≡ (is_cell_of x y after || is_cell_of x y before)
  pub not_itself : (x y : ℤ) → (is_cell_of x y (c ∷ []) && is_cell_of x y after) ≡ false
  pub not_back : (x y : ℤ) → (is_cell_of x y before && is_cell_of x y after) ≡ false

path_rule : (w a b c : Bool) (n : ℕ) → (w ≡ true → n ≡ cond (c || b) 1 0) → (a && c) ≡ false → (b && c) ≡ false → next_state (cond w (cond a Head (cond b Tail Conductor)) Empty) n ≡ cond w (cond c Head (cond a Tail Conductor)) Empty
path_rule false a b c n e p q = refl
path_rule true true b true n e p q = absurd (true≢false p)
path_rule true true b false n e p q = refl
path_rule true false true true n e p q = absurd (true≢false q)
path_rule true false true false n e p q = refl
path_rule true false false true n e p q = ap (λ k. cond (k == 1 || k == 2) Head Conductor) (e refl)
path_rule true false false false n e p q = ap (λ k. cond (k == 1 || k == 2) Head Conductor) (e refl)

-- an electron at c goes on to the cell after it
pub goes_on : (drawing : Drawing) (before : List Cell) (c : Cell) (after : List Cell) → Follows drawing before c after → next_plane (picture drawing (c ∷ []) before) ≡ picture drawing after (c ∷ [])
goes_on drawing before c after f =
    fun_ext (λ x. fun_ext (λ y. path_rule (drawing x y) (is_cell_of x y (c ∷ [])) (is_cell_of x y before) (is_cell_of x y after) (heads_around (picture drawing (c ∷ []) before) x y) (λ w. one_head drawing c before x y f.drawn ∙ ap (λ b. cond b 1 0) (f.beside x y w)) (f.not_itself x y) (f.not_back x y)))

abbrev pub first : List Cell → List Cell
first [] = []
first (c ∷ cs) = c ∷ []

-- a chordless path, entered from the cells before it
abbrev pub IsPath : Drawing → List Cell → List Cell → Type 0
IsPath drawing before [] = Unit {0}
IsPath drawing before (c ∷ cs) = Follows drawing before c (first cs) × IsPath drawing (c ∷ []) cs

-- the electron is at cell g of the path in generation g, and its tail at the cell before
pub runs_along : (drawing : Drawing) (g : ℕ) (before path : List Cell) → IsPath drawing before path → g < length path → evolve (suc g) (picture drawing (first path) before) ≡ picture drawing (first (drop (suc g) path)) (first (drop g path))
runs_along drawing g before [] p h = absurd (omega arith)
runs_along drawing zero before (c ∷ cs) p h = goes_on drawing before c (first cs) p.0
runs_along drawing (suc g) before (c ∷ cs) p h =
    let h' : g < length cs = omega arith in
    evolve-front (suc g) (picture drawing (c ∷ []) before) ∙ ap (evolve (suc g)) (goes_on drawing before c (first cs) p.0) ∙ runs_along drawing g (c ∷ []) cs p.1 h'

-- a test of a list of cells that computes: each cell's neighbours in the list are the cell before it and the cell after it
abbrev pub sees_only : Cell → List Cell → List Cell → Bool
sees_only c near [] = true
sees_only c near (d ∷ ds) = beq (is_beside d.x d.y c) (is_cell_of d.x d.y near) && sees_only c near ds

abbrev pub is_chordless : List Cell → List Cell → List Cell → Bool
is_chordless cells before [] = true
is_chordless cells before (c ∷ cs) =
    is_cell_of c.x c.y cells
    && sees_only c (first cs ++ before) cells
    && none_of (c ∷ []) (first cs)
    && none_of before (first cs)
    && is_chordless cells (c ∷ []) cs

sees_only-says : (c : Cell) (near cells : List Cell) (x y : ℤ) → sees_only c near cells ≡ true → is_cell_of x y cells ≡ true → is_beside x y c ≡ is_cell_of x y near
sees_only-says c near [] x y t e = absurd (true≢false (sym e))
sees_only-says c near (d ∷ ds) x y t e =
    let parts = and_parts _ _ t in
    elim (or_cases (int_eq x d.x && int_eq y d.y) (is_cell_of x y ds) e) [
      | inl here ↦ let s = same_place x y d.x d.y here in ap₂ (λ u v. is_beside u v c) s.0 s.1 ∙ (booleans_Decides _ _).0 parts.0 ∙ sym (ap₂ (λ u v. is_cell_of u v near) s.0 s.1)
      | inr later ↦ sees_only-says c near ds x y parts.1 later
    ]

among_either : (cs ds : List Cell) (x y : ℤ) → is_cell_of x y (cs ++ ds) ≡ (is_cell_of x y cs || is_cell_of x y ds)
among_either [] ds x y = refl
among_either (c ∷ cs) ds x y =
    ap (λ b. (int_eq x c.x && int_eq y c.y) || b) (among_either cs ds x y) ∙ sym (or_assoc (int_eq x c.x && int_eq y c.y) (is_cell_of x y cs) (is_cell_of x y ds))

apart : (cs ds : List Cell) (x y : ℤ) → none_of cs ds ≡ true → (is_cell_of x y cs && is_cell_of x y ds) ≡ false
apart cs ds x y t =
    elim (cases_Bool (is_cell_of x y cs)) [
      | inl e ↦ ap (λ b. b && is_cell_of x y ds) e ∙ none_of-says cs ds x y t e
      | inr e ↦ ap (λ b. b && is_cell_of x y ds) e
    ]

-- a list of cells that passes is a chordless path in the drawing of its cells
pub chordless_path : (cells before path : List Cell) → is_chordless cells before path ≡ true → IsPath (λ x y. is_cell_of x y cells) before path
chordless_path cells before [] t = tt
chordless_path cells before (c ∷ cs) t =
    let p1 = and_parts _ _ t in
    let p2 = and_parts _ _ p1.0 in
    let p3 = and_parts _ _ p2.0 in
    let p4 = and_parts _ _ p3.0 in (
      record {
        drawn = p4.0;
        beside = λ x y e. sees_only-says c (first cs ++ before) cells x y p4.1 e ∙ among_either (first cs) before x y;
        not_itself = λ x y. apart (c ∷ []) (first cs) x y p3.1;
        not_back = λ x y. apart before (first cs) x y p2.1;
      },
      chordless_path cells (c ∷ []) cs p1.1,
    )

-- so it carries an electron from its first cell, one cell a generation
pub carries : (path : List Cell) (g : ℕ) → is_chordless path [] path ≡ true → g < length path → evolve (suc g) (picture (λ x y. is_cell_of x y path) (first path) []) ≡ picture (λ x y. is_cell_of x y path) (first (drop (suc g) path)) (first (drop g path))
carries path g t h = runs_along (λ x y. is_cell_of x y path) g [] path (chordless_path path [] path t) h
