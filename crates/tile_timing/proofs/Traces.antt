-- The timing law of a drawing, by a test of one trace of heads.
use Rattle.std.proofs.Common.{ℤ, ℕ, zero, suc, ◌+◌, ◌<◌, ◌≤◌, ◌≢◌, ◌≡◌, refl, sym, ap, ap₂, ◌∙◌, Bool, true, false, ◌&&◌, not, cond, List, [], ◌∷◌, get_or, arith, int_eq, inl, inr, lit<, lit≤}
use Rattle.std.proofs.lemmas.Bool.{and_parts, or_cases, not-true, both_ways, cases_lt}
use Rattle.ww_rule.specs.declared.pattern.State.TheVariants.{Empty, Head, Tail, Conductor}
use Rattle.ww_rule.specs.Wireworld.{evolve}
use Rattle.tile_core.specs.Drawing.{Cell, is_cell_of, Drawing, picture}
use Rattle.tile_core.specs.Interface.{Interface, entry_cells, exit_cells, lit_entries, lit_exits}
use Rattle.tile_core.specs.TimingLaw.{KeepsTime}
use Rattle.tile_timing.proofs.Heads.{trace}
use Rattle.tile_timing.proofs.Sound.{evolve_picture, same_place}
use Rattle.std.specs.Cmp.{both_ways as same_both_ways}

-- none of the cells is in the list
abbrev pub none_of : List Cell → List Cell → Bool
none_of [] hs = true
none_of (c ∷ cs) hs = not (is_cell_of c.x c.y hs) && none_of cs hs

-- each of the cells is in the list
abbrev pub within_list : List Cell → List Cell → Bool
within_list [] hs = true
within_list (c ∷ cs) hs = is_cell_of c.x c.y hs && within_list cs hs

abbrev pub is_nil : List Cell → Bool
is_nil [] = true
is_nil (c ∷ cs) = false

abbrev pub all_drawn : Drawing → List Cell → Bool
all_drawn drawing [] = true
all_drawn drawing (c ∷ cs) = drawing c.x c.y && all_drawn drawing cs

-- none of the cells is in any of the first n lists after the first k
abbrev pub dark_in : List Cell → ℕ → ℕ → List (List Cell) → Bool
dark_in cs k n [] = true
dark_in cs (suc k) n (hs ∷ tr) = dark_in cs k n tr
dark_in cs zero zero (hs ∷ tr) = true
dark_in cs zero (suc n) (hs ∷ tr) = none_of cs hs && dark_in cs zero n tr

-- the test of a run's heads
abbrev pub run_passes : Drawing → Interface → List Cell → List (List Cell) → Bool
run_passes drawing tile want tr =
    dark_in (entry_cells tile) 1 32 tr
    && dark_in (exit_cells tile) 0 31 tr
    && within_list (get_or tr 31 []) want
    && within_list want (get_or tr 31 [])
    && is_nil (get_or tr 32 [])
    && all_drawn drawing want

abbrev pub law_test : Drawing → Interface → Bool → Bool → Bool
law_test drawing tile a b =
    run_passes drawing tile (lit_exits tile a b) (trace drawing 32 (lit_entries tile a b) [])

pub none_of-says : (cs hs : List Cell) (x y : ℤ) → none_of cs hs ≡ true → is_cell_of x y cs ≡ true → is_cell_of x y hs ≡ false
none_of-says [] hs x y t e = cc
none_of-says (c ∷ cs) hs x y t e =
    let parts = and_parts _ _ t in
    elim (or_cases (int_eq x c.x && int_eq y c.y) (is_cell_of x y cs) e) [
      | inl here ↦ let s = same_place x y c.x c.y here in ap₂ (λ u v. is_cell_of u v hs) s.0 s.1 ∙ not-true _ parts.0
      | inr later ↦ none_of-says cs hs x y parts.1 later
    ]

within-says : (cs hs : List Cell) (x y : ℤ) → within_list cs hs ≡ true → is_cell_of x y cs ≡ true → is_cell_of x y hs ≡ true
within-says [] hs x y t e = cc
within-says (c ∷ cs) hs x y t e =
    let parts = and_parts _ _ t in
    elim (or_cases (int_eq x c.x && int_eq y c.y) (is_cell_of x y cs) e) [
      | inl here ↦ let s = same_place x y c.x c.y here in ap₂ (λ u v. is_cell_of u v hs) s.0 s.1 ∙ parts.0
      | inr later ↦ within-says cs hs x y parts.1 later
    ]

pub all_drawn-says : (drawing : Drawing) (cs : List Cell) (x y : ℤ) → all_drawn drawing cs ≡ true → is_cell_of x y cs ≡ true → drawing x y ≡ true
all_drawn-says drawing [] x y t e = cc
all_drawn-says drawing (c ∷ cs) x y t e =
    let parts = and_parts _ _ t in
    elim (or_cases (int_eq x c.x && int_eq y c.y) (is_cell_of x y cs) e) [
      | inl here ↦ let s = same_place x y c.x c.y here in ap₂ drawing s.0 s.1 ∙ parts.0
      | inr later ↦ all_drawn-says drawing cs x y parts.1 later
    ]

dark_in-says : (cs : List Cell) (k n : ℕ) (tr : List (List Cell)) (g : ℕ) (x y : ℤ) → dark_in cs k n tr ≡ true → k ≤ g → g < k + n → is_cell_of x y cs ≡ true → is_cell_of x y (get_or tr g []) ≡ false
dark_in-says cs k n [] g x y t lo hi e = refl
dark_in-says cs (suc k) n (hs ∷ tr) zero x y t lo hi e = absurd (omega arith)
dark_in-says cs (suc k) n (hs ∷ tr) (suc g) x y t lo hi e = dark_in-says cs k n tr g x y t (omega arith) (omega arith) e
dark_in-says cs zero zero (hs ∷ tr) g x y t lo hi e = absurd (omega arith)
dark_in-says cs zero (suc n) (hs ∷ tr) zero x y t lo hi e = none_of-says cs hs x y (and_parts _ _ t).0 e
dark_in-says cs zero (suc n) (hs ∷ tr) (suc g) x y t lo hi e =
    dark_in-says cs zero n tr g x y (and_parts _ _ t).1 (omega arith) (omega arith) e

head_cases : (w h t : Bool) → cond w (cond h Head (cond t Tail Conductor)) Empty ≡ Head → h ≡ true
head_cases false h t e = cc
head_cases true true t e = refl
head_cases true false true e = cc
head_cases true false false e = cc

pub head_listed : (drawing : Drawing) (n g : ℕ) (hs ts : List Cell) (x y : ℤ) → g ≤ n → evolve g (picture drawing hs ts) x y ≡ Head → is_cell_of x y (get_or (trace drawing n hs ts) g []) ≡ true
head_listed drawing zero zero hs ts x y le e = head_cases (drawing x y) (is_cell_of x y hs) (is_cell_of x y ts) e
head_listed drawing (suc n) zero hs ts x y le e = head_cases (drawing x y) (is_cell_of x y hs) (is_cell_of x y ts) e
head_listed drawing n (suc g) hs ts x y le e =
    let lt : g < n = omega arith in
    head_cases (drawing x y) (is_cell_of x y (get_or (trace drawing n hs ts) (suc g) [])) (is_cell_of x y (get_or (trace drawing n hs ts) g [])) (sym (ap (λ p. p x y) (evolve_picture drawing n g hs ts lt)) ∙ e)

lit_cases : (w h t : Bool) → w ≡ true → h ≡ true → cond w (cond h Head (cond t Tail Conductor)) Empty ≡ Head
lit_cases w h t p q = rw (p, q) refl

rest_cases : (w t t' : Bool) → t ≡ t' → cond w (cond false Head (cond t Tail Conductor)) Empty ≡ cond w (cond false Head (cond t' Tail Conductor)) Empty
rest_cases w t t' e = ap (λ v. cond w (cond v Tail Conductor) Empty) e

none_left : (hs : List Cell) → is_nil hs ≡ true → hs ≡ []
none_left [] e = refl
none_left (c ∷ cs) e = cc

-- what the test shows of a run
pub record Shown (drawing : Drawing) (tile : Interface) (want : List Cell) (tr : List (List Cell)) : Type 0 where
  pub entries : dark_in (entry_cells tile) 1 32 tr ≡ true
  pub exits : dark_in (exit_cells tile) 0 31 tr ≡ true
  pub only : within_list (get_or tr 31 []) want ≡ true
  pub every : within_list want (get_or tr 31 []) ≡ true
  pub last : is_nil (get_or tr 32 []) ≡ true
  pub drawn : all_drawn drawing want ≡ true

shown : (drawing : Drawing) (tile : Interface) (want : List Cell) (tr : List (List Cell)) → run_passes drawing tile want tr ≡ true → Shown drawing tile want tr
shown drawing tile want tr t =
    let p1 = and_parts _ _ t in
    let p2 = and_parts _ _ p1.0 in
    let p3 = and_parts _ _ p2.0 in
    let p4 = and_parts _ _ p3.0 in
    let p5 = and_parts _ _ p4.0 in
    record { entries = p5.0; exits = p5.1; only = p4.1; every = p3.1; last = p2.1; drawn = p1.1 }

rest : (drawing : Drawing) (want h31 h32 : List Cell) (x y : ℤ) → h32 ≡ [] → is_cell_of x y h31 ≡ is_cell_of x y want → picture drawing h32 h31 x y ≡ picture drawing [] want x y
rest drawing want h31 h32 x y e f =
    ap (λ hs. picture drawing hs h31 x y) e ∙ rest_cases (drawing x y) (is_cell_of x y h31) (is_cell_of x y want) f

dark_else : (cs : List Cell) (tr : List (List Cell)) (g : ℕ) (x y : ℤ) → dark_in cs 0 31 tr ≡ true → get_or tr 32 [] ≡ [] → g ≤ 32 → g ≢ 31 → is_cell_of x y cs ≡ true → is_cell_of x y (get_or tr g []) ≡ false
dark_else cs tr g x y t last le ne e =
    elim (cases_lt g 31) [
      | inl lt ↦ dark_in-says cs 0 31 tr g x y t (omega arith) (omega arith) e
      | inr ge ↦ let at_last : g ≡ 32 = omega arith in ap (λ k. is_cell_of x y (get_or tr k [])) at_last ∙ ap (is_cell_of x y) last
    ]

pub keeps_time : (drawing : Drawing) (tile : Interface) (a b : Bool) → law_test drawing tile a b ≡ true → KeepsTime tile drawing a b
keeps_time drawing tile a b t =
    let start = lit_entries tile a b in
    let want = lit_exits tile a b in
    let tr = trace drawing 32 start [] in
    let s = shown drawing tile want tr t in
    let same = λ (x y : ℤ). same_both_ways (is_cell_of x y (get_or tr 31 [])) (is_cell_of x y want) (within-says (get_or tr 31 []) want x y s.only) (within-says want (get_or tr 31 []) x y s.every) in
    record {
      entries_stay_dark = λ g x y lo hi e h. both_ways _ (dark_in-says (entry_cells tile) 1 32 tr g x y s.entries lo (omega arith) e) (head_listed drawing 32 g start [] x y hi h);
      exits_answer = λ x y e. (
        (λ h. sym (same x y) ∙ head_listed drawing 32 31 start [] x y (lit≤ tt) h),
        λ h. ap (λ p. p x y) (evolve_picture drawing 32 30 start [] (lit< tt)) ∙ lit_cases (drawing x y) _ _ (all_drawn-says drawing want x y s.drawn h) (same x y ∙ h),
      );
      exits_stay_dark = λ g x y le ne e h. both_ways _ (dark_else (exit_cells tile) tr g x y s.exits (none_left _ s.last) le ne e) (head_listed drawing 32 g start [] x y le h);
      ends_at_rest = λ x y. ap (λ p. p x y) (evolve_picture drawing 32 31 start [] (lit< tt)) ∙ rest drawing want (get_or tr 31 []) (get_or tr 32 []) x y (none_left _ s.last) (same x y);
    }
