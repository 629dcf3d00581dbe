-- The timing law of one choice of entries, as what a run of 32 generations shows.
use Rattle.std.proofs.Common.{ℕ, ◌+◌, ◌<◌, ◌≤◌, ◌≡◌, refl, sym, ap, ◌↔◌, subst, ◌∙◌, [], get_or, arith, inl, inr, add-one, Bool, true, false, lit≤, lit<}
use Rattle.std.proofs.lemmas.Bool.{cases_lt}
use Rattle.std.proofs.Math.Path.{fun_ext}
use Rattle.ww_rule.specs.declared.pattern.State.TheVariants.{Head}
use Rattle.ww_rule.specs.Wireworld.{Plane, next_plane, evolve}
use Rattle.tile_core.specs.Drawing.{is_cell_of, Drawing, picture}
use Rattle.tile_core.specs.Interface.{Interface, lit_exits}
use Rattle.tile_core.specs.TimingLaw.{started, KeepsTime}
use Rattle.tile_timing.specs.Law.{IsInTime}
use Rattle.tile_timing.specs.declared.law.TheConstants.{CHOICES}

pub evolve_more : (n : ℕ) (p q r : Plane) → q ≡ evolve n p → r ≡ next_plane q → r ≡ evolve (n + 1) p
evolve_more n p q r e f = f ∙ ap next_plane e ∙ ap (λ k. evolve k p) (sym (add-one n))

pub in_time_at : (tile : Interface) (a b : Bool) (n g : ℕ) (p q : Plane) → g ≡ n → p ≡ q → IsInTime tile a b n p → IsInTime tile a b g q
in_time_at tile a b n g p q e f h =
    subst (λ k. IsInTime tile a b k q) (sym e) (subst (λ r. IsInTime tile a b n r) f h)

-- a run that is in time at each generation and ends at rest keeps time
pub keeps_time_by_run : (tile : Interface) (drawing : Drawing) (a b : Bool) → ((g : ℕ) → g ≤ 32 → IsInTime tile a b g (evolve g (started tile drawing a b))) → evolve 32 (started tile drawing a b) ≡ picture drawing [] (lit_exits tile a b) → KeepsTime tile drawing a b
keeps_time_by_run tile drawing a b in_time rest =
    record {
      entries_stay_dark = λ g x y lo hi. (in_time g hi).entries lo x y;
      exits_answer = λ x y. (in_time 31 (lit≤ tt)).exits.answer refl x y;
      exits_stay_dark = λ g x y hi ne. (in_time g hi).exits.dark ne x y;
      ends_at_rest = λ x y. ap (λ p. p x y) rest;
    }

-- and the other way
pub in_time_by_law : (tile : Interface) (drawing : Drawing) (a b : Bool) → KeepsTime tile drawing a b → (g : ℕ) → g ≤ 32 → IsInTime tile a b g (evolve g (started tile drawing a b))
in_time_by_law tile drawing a b law g hi =
    record {
      entries = λ lo x y. law.entries_stay_dark g x y lo hi;
      exits =
          record {
            dark = λ ne x y. law.exits_stay_dark g x y hi ne;
            answer = λ e x y h. subst (λ k. (evolve k (started tile drawing a b) x y ≡ Head) ↔ (is_cell_of x y (lit_exits tile a b) ≡ true)) (sym e) (law.exits_answer x y h);
          };
    }

pub rests_by_law : (tile : Interface) (drawing : Drawing) (a b : Bool) → KeepsTime tile drawing a b → evolve 32 (started tile drawing a b) ≡ picture drawing [] (lit_exits tile a b)
rests_by_law tile drawing a b law = fun_ext (λ x. fun_ext (λ y. law.ends_at_rest x y))

-- the end of a run: the plane q after n generations, n being 32
pub run_ends : (tile : Interface) (drawing : Drawing) (a b : Bool) (n : ℕ) (q : Plane) → n ≡ 32 → q ≡ evolve n (started tile drawing a b) → ((g : ℕ) → g < n → IsInTime tile a b g (evolve g (started tile drawing a b))) → IsInTime tile a b 32 q → q ≡ picture drawing [] (lit_exits tile a b) → KeepsTime tile drawing a b
run_ends tile drawing a b n q e shows before last rest =
    let at_32 : q ≡ evolve 32 (started tile drawing a b) = shows ∙ ap (λ k. evolve k (started tile drawing a b)) e in
    keeps_time_by_run tile drawing a b
    (λ g le. elim (cases_lt g n) [
      | inl lt ↦ before g lt
      | inr ge ↦ let e' : g ≡ 32 = omega arith in in_time_at tile a b 32 g q (evolve g (started tile drawing a b)) e' (at_32 ∙ ap (λ k. evolve k (started tile drawing a b)) (sym e')) last
    ])
    (sym at_32 ∙ rest)

-- the law's word on a plane of the run
pub run_in_time : (tile : Interface) (drawing : Drawing) (a b : Bool) (n : ℕ) (q : Plane) → n ≤ 32 → q ≡ evolve n (started tile drawing a b) → KeepsTime tile drawing a b → IsInTime tile a b n q
run_in_time tile drawing a b n q le shows law =
    subst (IsInTime tile a b n) (sym shows) (in_time_by_law tile drawing a b law n le)

pub run_rests : (tile : Interface) (drawing : Drawing) (a b : Bool) (n : ℕ) (q : Plane) → n ≡ 32 → q ≡ evolve n (started tile drawing a b) → KeepsTime tile drawing a b → q ≡ picture drawing [] (lit_exits tile a b)
run_rests tile drawing a b n q e shows law =
    shows ∙ ap (λ k. evolve k (started tile drawing a b)) e ∙ rests_by_law tile drawing a b law

-- what holds at each of the four choices holds at any two bits
pub at_every_choice : (P : Bool → Bool → Type 0) → ((k : ℕ) → k < 4 → P (get_or (get_or CHOICES k []) 0 false) (get_or (get_or CHOICES k []) 1 false)) → (a b : Bool) → P a b
at_every_choice P each false false = each 0 (lit< tt)
at_every_choice P each false true = each 1 (lit< tt)
at_every_choice P each true false = each 2 (lit< tt)
at_every_choice P each true true = each 3 (lit< tt)
