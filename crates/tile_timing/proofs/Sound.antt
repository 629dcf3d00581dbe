-- One step of the lists of heads and tails is one step of the plane.
use Rattle.std.proofs.Common.{ℤ, pos, ◌+ℤ◌, ◌-ℤ◌, ℕ, zero, suc, ◌<◌, ◌≡◌, refl, sym, ap, ap₂, ◌∙◌, Bool, true, false, ◌||◌, ◌&&◌, not, cond, ◌==◌, List, [], ◌∷◌, get_or, arith, int_eq}
use Rattle.std.proofs.lemmas.Bool.Decides.{Decides-int_eq, same_from_decides, Decides-like}
use Rattle.std.proofs.lemmas.Bool.{and_parts, or_parts, or_from}
use Rattle.std.proofs.Math.IntN.{+ℤ-neg_ℤ_cancel, -ℤ-+ℤ_cancel}
use Rattle.std.proofs.Math.Path.{fun_ext}
use Rattle.std.proofs.Math.Bool.{or-false}
use Rattle.ww_rule.specs.declared.pattern.State.TheVariants.{Empty, Head, Tail, Conductor}
use Rattle.ww_rule.specs.Wireworld.{Plane, next_plane, evolve, next_state, heads_around, count_head}
use Rattle.tile_core.specs.Drawing.{Cell, is_cell_of, Drawing, picture}
use Rattle.tile_timing.proofs.Heads.{all_around, is_head, collect, next_heads, trace}
use Rattle.ww_rule.proofs.Cells.{sum_none as sum_of_none}

pub eq_down : (x a : ℤ) → int_eq (x -ℤ pos 1) a ≡ int_eq x (a +ℤ pos 1)
eq_down x a =
    same_from_decides _ _ (Decides-int_eq (x -ℤ pos 1) a)
    (Decides-like _ (λ e. ap (λ z. z -ℤ pos 1) e ∙ +ℤ-neg_ℤ_cancel a (pos 1)) (λ e. sym (-ℤ-+ℤ_cancel x (pos 1)) ∙ ap (λ z. z +ℤ pos 1) e) (Decides-int_eq x (a +ℤ pos 1)))

pub eq_up : (x a : ℤ) → int_eq (x +ℤ pos 1) a ≡ int_eq x (a -ℤ pos 1)
eq_up x a =
    same_from_decides _ _ (Decides-int_eq (x +ℤ pos 1) a)
    (Decides-like _ (λ e. ap (λ z. z +ℤ pos 1) e ∙ -ℤ-+ℤ_cancel a (pos 1)) (λ e. sym (+ℤ-neg_ℤ_cancel x (pos 1)) ∙ ap (λ z. z -ℤ pos 1) e) (Decides-int_eq x (a -ℤ pos 1)))

-- no neighbour of x, y is in the list
pub record IsFar (x y : ℤ) (cs : List Cell) : Type 0 where
  pub nw : is_cell_of (x -ℤ pos 1) (y -ℤ pos 1) cs ≡ false
  pub n : is_cell_of x (y -ℤ pos 1) cs ≡ false
  pub ne : is_cell_of (x +ℤ pos 1) (y -ℤ pos 1) cs ≡ false
  pub w : is_cell_of (x -ℤ pos 1) y cs ≡ false
  pub e : is_cell_of (x +ℤ pos 1) y cs ≡ false
  pub sw : is_cell_of (x -ℤ pos 1) (y +ℤ pos 1) cs ≡ false
  pub s : is_cell_of x (y +ℤ pos 1) cs ≡ false
  pub se : is_cell_of (x +ℤ pos 1) (y +ℤ pos 1) cs ≡ false

both : (a b c d : Bool) → a ≡ c → b ≡ d → (c && d) ≡ false → (a && b) ≡ false
both a b c d p q h = cc

pub far : (x y : ℤ) (cs : List Cell) → is_cell_of x y (all_around cs) ≡ false → IsFar x y cs
far x y [] h = record { nw = refl; n = refl; ne = refl; w = refl; e = refl; sw = refl; s = refl; se = refl }
far x y (c ∷ cs) h =
    let h1 = or_parts _ _ h in
    let h2 = or_parts _ _ h1.1 in
    let h3 = or_parts _ _ h2.1 in
    let h4 = or_parts _ _ h3.1 in
    let h5 = or_parts _ _ h4.1 in
    let h6 = or_parts _ _ h5.1 in
    let h7 = or_parts _ _ h6.1 in
    let h8 = or_parts _ _ h7.1 in
    let more = far x y cs h8.1 in
    record {
      nw = or_from _ _ (both _ _ _ _ (eq_down x c.x) (eq_down y c.y) h8.0) more.nw;
      n = or_from _ _ (both _ _ _ _ refl (eq_down y c.y) h7.0) more.n;
      ne = or_from _ _ (both _ _ _ _ (eq_up x c.x) (eq_down y c.y) h6.0) more.ne;
      w = or_from _ _ (both _ _ _ _ (eq_down x c.x) refl h5.0) more.w;
      e = or_from _ _ (both _ _ _ _ (eq_up x c.x) refl h4.0) more.e;
      sw = or_from _ _ (both _ _ _ _ (eq_down x c.x) (eq_up y c.y) h3.0) more.sw;
      s = or_from _ _ (both _ _ _ _ refl (eq_up y c.y) h2.0) more.s;
      se = or_from _ _ (both _ _ _ _ (eq_up x c.x) (eq_up y c.y) h1.0) more.se;
    }

dark_cases : (b1 b2 b3 : Bool) → b2 ≡ false → count_head (cond b1 (cond b2 Head (cond b3 Tail Conductor)) Empty) ≡ 0
dark_cases false b2 b3 h = refl
dark_cases true true b3 h = cc
dark_cases true false true h = refl
dark_cases true false false h = refl

count_dark : (drawing : Drawing) (hs ts : List Cell) (x y : ℤ) → is_cell_of x y hs ≡ false → count_head (picture drawing hs ts x y) ≡ 0
count_dark drawing hs ts x y h = dark_cases (drawing x y) (is_cell_of x y hs) (is_cell_of x y ts) h

pub none_around : (drawing : Drawing) (hs ts : List Cell) (x y : ℤ) → is_cell_of x y (all_around hs) ≡ false → heads_around (picture drawing hs ts) x y ≡ 0
none_around drawing hs ts x y h =
    let f = far x y hs h in
    sum_of_none _ _ _ _ _ _ _ _ (count_dark drawing hs ts _ _ f.nw) (count_dark drawing hs ts _ _ f.n) (count_dark drawing hs ts _ _ f.ne) (count_dark drawing hs ts _ _ f.w) (count_dark drawing hs ts _ _ f.e) (count_dark drawing hs ts _ _ f.sw) (count_dark drawing hs ts _ _ f.s) (count_dark drawing hs ts _ _ f.se)

fires : (t m : Bool) → m ≡ is_head (cond t Head Conductor) → cond t Head Conductor ≡ cond m Head Conductor
fires true m e = ap (λ v. cond v Head Conductor) (sym e)
fires false m e = ap (λ v. cond v Head Conductor) (sym e)

-- the rule at a cell, by what the cell holds: m says whether it is listed as a head of the next generation, and a whether it lies beside a head
rule_cases : (b1 b2 b3 a m : Bool) (n : ℕ) → m ≡ (a && is_head (next_state (cond b1 (cond b2 Head (cond b3 Tail Conductor)) Empty) n)) → (a ≡ false → n ≡ 0) → next_state (cond b1 (cond b2 Head (cond b3 Tail Conductor)) Empty) n ≡ cond b1 (cond m Head (cond b2 Tail Conductor)) Empty
rule_cases false b2 b3 a m n e d = refl
rule_cases true true b3 false m n e d = ap (λ v. cond v Head Tail) (sym e)
rule_cases true true b3 true m n e d = ap (λ v. cond v Head Tail) (sym e)
rule_cases true false true false m n e d = ap (λ v. cond v Head Conductor) (sym e)
rule_cases true false true true m n e d = ap (λ v. cond v Head Conductor) (sym e)
rule_cases true false false false m n e d =
    ap (λ v. cond (v == 1 || v == 2) Head Conductor) (d refl) ∙ ap (λ v. cond v Head Conductor) (sym e)
rule_cases true false false true m n e d = fires (n == 1 || n == 2) m e

same_cell : (f r h : Bool) → (cond (h && not f) true f || (r && h)) ≡ (f || h)
same_cell false false false = refl
same_cell false false true = refl
same_cell false true false = refl
same_cell false true true = refl
same_cell true r false = refl
same_cell true r true = refl

merges : (e f r h hc fc : Bool) → (e ≡ true → hc ≡ h) → (e ≡ true → fc ≡ f) → (cond (hc && not fc) (e || f) f || (r && h)) ≡ (f || ((e || r) && h))
merges false f r h false fc p q = refl
merges false f r h true false p q = refl
merges false f r h true true p q = refl
merges true f r h hc fc p q = rw (p refl, q refl) (same_cell f r h)

among_cond : (t : Bool) (c : Cell) (found : List Cell) (x y : ℤ) → is_cell_of x y (cond t (c ∷ found) found) ≡ cond t ((int_eq x c.x && int_eq y c.y) || is_cell_of x y found) (is_cell_of x y found)
among_cond true c found x y = refl
among_cond false c found x y = refl

pub same_place : (x y a b : ℤ) → (int_eq x a && int_eq y b) ≡ true → (x ≡ a) × (y ≡ b)
same_place x y a b h =
    let parts = and_parts (int_eq x a) (int_eq y b) h in
    ((Decides-int_eq x a).0 parts.0, (Decides-int_eq y b).0 parts.1)

pub among_collect : (p : Plane) (cs found : List Cell) (x y : ℤ) → is_cell_of x y (collect p cs found) ≡ (is_cell_of x y found || (is_cell_of x y cs && is_head (next_plane p x y)))
among_collect p [] found x y = sym (or-false (is_cell_of x y found))
among_collect p (c ∷ cs) found x y =
    let t = is_head (next_plane p c.x c.y) && not (is_cell_of c.x c.y found) in
    among_collect p cs (cond t (c ∷ found) found) x y
    ∙ ap (λ v. v || (is_cell_of x y cs && is_head (next_plane p x y))) (among_cond t c found x y)
    ∙ merges (int_eq x c.x && int_eq y c.y) (is_cell_of x y found) (is_cell_of x y cs) (is_head (next_plane p x y)) (is_head (next_plane p c.x c.y)) (is_cell_of c.x c.y found) (λ e. let s = same_place x y c.x c.y e in sym (ap₂ (λ u v. is_head (next_plane p u v)) s.0 s.1)) (λ e. let s = same_place x y c.x c.y e in sym (ap₂ (λ u v. is_cell_of u v found) s.0 s.1))

-- one generation of the lists is one generation of the plane
pub step_picture : (drawing : Drawing) (hs ts : List Cell) → next_plane (picture drawing hs ts) ≡ picture drawing (next_heads drawing hs ts) hs
step_picture drawing hs ts =
    fun_ext (λ x. fun_ext (λ y. rule_cases (drawing x y) (is_cell_of x y hs) (is_cell_of x y ts) (is_cell_of x y (all_around hs)) (is_cell_of x y (next_heads drawing hs ts)) (heads_around (picture drawing hs ts) x y) (among_collect (picture drawing hs ts) (all_around hs) [] x y) (none_around drawing hs ts x y)))

pub evolve-front : (n : ℕ) (p : Plane) → evolve (suc n) p ≡ evolve n (next_plane p)
evolve-front zero p = refl
evolve-front (suc n) p = ap next_plane (evolve-front n p)

-- the plane of generation g, which the lists of g - 1 and g show
pub evolve_picture : (drawing : Drawing) (n g : ℕ) (hs ts : List Cell) → g < n → evolve (suc g) (picture drawing hs ts) ≡ picture drawing (get_or (trace drawing n hs ts) (suc g) []) (get_or (trace drawing n hs ts) g [])
evolve_picture drawing zero g hs ts h = absurd (omega arith)
evolve_picture drawing (suc zero) zero hs ts h = step_picture drawing hs ts
evolve_picture drawing (suc (suc n)) zero hs ts h = step_picture drawing hs ts
evolve_picture drawing (suc n) (suc g) hs ts h =
    let h' : g < n = omega arith in
    evolve-front (suc g) (picture drawing hs ts) ∙ ap (evolve (suc g)) (step_picture drawing hs ts) ∙ evolve_picture drawing n g (next_heads drawing hs ts) hs h'
