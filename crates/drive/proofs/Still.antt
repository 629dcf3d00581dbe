-- A pattern that is dark, with no injection to come, stays as it is.
use Rattle.std.proofs.Common.{ℤ, pos, negsuc, ◌-ℤ◌, ℕ, ◌+◌, ◌-◌, ◌/◌, ◌<◌, ◌≤◌, ◌≡◌, refl, sym, ap, ◌∙◌, inl, inr, Bool, false, ◌&&◌, nat_lt, List, length, All, arith}
use Rattle.std.specs.Prelude.{◌≢◌, ◌⊎◌}
use Rattle.std.proofs.lemmas.Bool.{cases_Bool, and_parts, ltb-true, le-ltb}
use Rattle.std.proofs.lemmas.List.Elements.{All-contains}
use Rattle.std.proofs.Math.Bool.{and-false}
use Rattle.ww_rule.specs.declared.pattern.State.{State}
use Rattle.ww_rule.specs.declared.pattern.State.TheVariants.{Empty, Head, Tail}
use Rattle.ww_rule.specs.declared.pattern.Injection.{Injection}
use Rattle.ww_rule.specs.Wireworld.{count_head, driven}
use Rattle.ww_rule.specs.Grid.{in_box, plane_of}
use Rattle.ww_rule.specs.Injections.{due_of_list}
use Rattle.ww_rule.proofs.Lists.{lists_are_injected}
use Rattle.band_core.specs.Bands.{BandedPattern, IsBandedPattern, IsCellOf, IsLit, IsUnlit, generation_of}
use Rattle.band_core.specs.Bands.IsLit.{head, tail}
use Rattle.band_core.proofs.Cells.{is_cell, is_band}
use Rattle.band_core.proofs.Dark.{IsDark, stays_dark}
use Rattle.band_core.proofs.Evolution as bands
use Rattle.drive.specs.Runs.{AreAt, evolution}

-- where all injections are of earlier generations, none is due
none_due : (injections : List Injection) (last g : ℕ) (x y : ℤ) → All (λ i. i.generation < last) injections → last ≤ g → due_of_list injections g x y ≡ false
none_due injections last g x y all later =
    elim (cases_Bool (due_of_list injections g x y)) [
      | inr e ↦ e
      | inl e ↦
          let is = (lists_are_injected.exactly injections g x y).0 e in
          let at = is.in_time in
          let most = All-contains (λ (i : Injection). i.generation < last) injections is.injection all is.is_in in
          absurd (omega (arith, at, most, later))
    ]

-- beside the rows there is nothing
pub nothing_outside : (p : BandedPattern) (g : ℕ) (x y : ℤ) → IsBandedPattern p → in_box p.grid.width (length p.grid.rows) x y ≡ false → evolution p g x y ≡ Empty
nothing_outside p g x y whole out = (bands.evolution p.grid.width p.grid.height p.grid.rows p.injections whole.grid whole.inside).empty g x y out

-- where no cell of the bands is lit, the plane is dark
unlit_is_dark : (p : BandedPattern) (g : ℕ) → IsBandedPattern p → AreAt g p → IsUnlit p → IsDark (evolution p g)
unlit_is_dark p g whole at none x y = (unlit Head (λ e. cc) (λ b x y cell is. head cell is) x y, unlit Tail (λ e. cc) (λ b x y cell is. tail cell is) x y)
  where
    rows : ℕ
    rows = length p.grid.rows

    lights : State → Type 0
    lights s = (b x y : ℕ) → IsCellOf p b x y → driven (due_of_list p.injections) (plane_of p.grid.rows) (generation_of p b) (pos x) (pos y) ≡ s → IsLit p b x y

    outside : (s : State) → s ≢ Empty → (x y : ℤ) → in_box p.grid.width rows x y ≡ false → evolution p g x y ≢ s
    outside s lit x y out e = lit (sym e ∙ nothing_outside p g x y whole out)

    inside : (s : State) → lights s → (x y : ℕ) → x < p.grid.width → y < rows → evolution p g (pos x) (pos y) ≢ s
    inside s lights x y column row e =
        let b = y / p.height in
        let band = is_band p whole y row in
        none b x y (lights b x y (is_cell p whole y x column row) (ap (λ n. evolution p n (pos x) (pos y)) (at b band) ∙ e))

    unlit : (s : State) → s ≢ Empty → lights s → (x y : ℤ) → evolution p g x y ≢ s
    unlit s lit lights (pos x) (pos y) =
        elim (cases_Bool (in_box p.grid.width rows (pos x) (pos y))) [
          | inl e ↦ let parts = and_parts (nat_lt x p.grid.width) (nat_lt y rows) e in inside s lights x y (ltb-true x p.grid.width parts.0) (ltb-true y rows parts.1)
          | inr e ↦ outside s lit (pos x) (pos y) e
        ]
    unlit s lit lights (pos x) (negsuc y) = outside s lit (pos x) (negsuc y) refl
    unlit s lit lights (negsuc x) y = outside s lit (negsuc x) y refl

-- so not beyond the last column or row
pub empty_outside : (p : BandedPattern) (g x y : ℕ) → IsBandedPattern p → (p.grid.width ≤ x) ⊎ (length p.grid.rows ≤ y) → evolution p g (pos x) (pos y) ≡ Empty
empty_outside p g x y whole out = nothing_outside p g (pos x) (pos y) whole (outside out)
  where
    outside : (p.grid.width ≤ x) ⊎ (length p.grid.rows ≤ y) → in_box p.grid.width (length p.grid.rows) (pos x) (pos y) ≡ false
    outside (inl le) = ap (λ (t : Bool). t && nat_lt y (length p.grid.rows)) (le-ltb x p.grid.width le)
    outside (inr le) = ap (λ (t : Bool). nat_lt x p.grid.width && t) (le-ltb y (length p.grid.rows) le) ∙ and-false (nat_lt x p.grid.width)

-- where no cell is lit and no injection is to come, each later generation is this one
pub stays_still : (p : BandedPattern) (g : ℕ) → IsBandedPattern p → AreAt g p → IsUnlit p → All (λ i. i.generation < g + 1) p.injections → (h : ℕ) → g ≤ h → evolution p h ≡ evolution p g
stays_still p g whole at none all h le =
    let k : h ≡ g + (h - g) = omega (arith, le) in
    let evo = bands.evolution p.grid.width p.grid.height p.grid.rows p.injections whole.grid whole.inside in
    ap (evolution p) k
    ∙ stays_dark (evolution p) (due_of_list p.injections) p.grid.width (length p.grid.rows) g evo (unlit_is_dark p g whole at none) (h - g)
    (λ h x y later early lt. none_due p.injections (g + 1) h (pos x) (pos y) all (omega (arith, later))) (h - g) (omega arith)

-- before the first column and the first row there is no head
pub no_head_before : (p : BandedPattern) (g x y : ℕ) → IsBandedPattern p → (x ≡ 0) ⊎ (y ≡ 0) → count_head (evolution p g (pos x -ℤ pos 1) (pos y -ℤ pos 1)) ≡ 0
no_head_before p g x y whole (inl e) =
    ap (λ n. count_head (evolution p g (pos n -ℤ pos 1) (pos y -ℤ pos 1))) e
    ∙ ap count_head (nothing_outside p g (negsuc 0) (pos y -ℤ pos 1) whole refl)
no_head_before p g x y whole (inr e) =
    ap (λ n. count_head (evolution p g (pos x -ℤ pos 1) (pos n -ℤ pos 1))) e
    ∙ ap count_head (nothing_outside p g (pos x -ℤ pos 1) (negsuc 0) whole (no_row (pos x -ℤ pos 1)))
  where
    no_row : (x : ℤ) → in_box p.grid.width (length p.grid.rows) x (negsuc 0) ≡ false
    no_row (pos x) = refl
    no_row (negsuc x) = refl
