-- Which cells are lit, by the inputs one by one.
use Rattle.std.proofs.Common.{pos, ◌<◌, ◌≡◌, ◌∙◌, ℕ, zero, suc, refl, sym, ap, ap₂, Bool, true, false, ◌||◌, ◌&&◌, ◌==◌, int_eq, List, [], ◌∷◌, length, map, arith, true≢false}
use Rattle.std.specs.Cmp.{both_ways}
use Rattle.std.proofs.lemmas.Bool.{eqb-true, eq-eqb}
use Rattle.std.proofs.lemmas.Bool.Decides.{Decides-int_eq}
use Rattle.std.proofs.lemmas.Int.{ints}
use Rattle.lists.specs.Items.{flag_at}
use Rattle.gate_laws.specs.declared.window.InCell.{InCell}
use Rattle.gate_laws.specs.Gates.{is_lit_input}
use Rattle.gate_laws.specs.Drawings.{in_at, in_port_of}

-- an input is lit at this generation, and is the cell x, y
abbrev pub is_lit_there : InCell → Bool → (g x y : ℕ) → Bool
is_lit_there cell bit g x y = bit && g == cell.generation && cell.x == x && cell.y == y

same_int : (a b : ℕ) → (a == b) ≡ int_eq (pos a) (pos b)
same_int a b = both_ways _ _ (λ e. (Decides-int_eq (pos a) (pos b)).1 (ap pos (eqb-true a b e))) (λ e. eq-eqb a b (omega (arith, ints, (Decides-int_eq (pos a) (pos b)).0 e)))

same_cell : (cell : InCell) (bit : Bool) (g x y : ℕ) → (bit && g == cell.generation && int_eq (pos cell.x) (pos x) && int_eq (pos cell.y) (pos y)) ≡ is_lit_there cell bit g x y
same_cell cell bit g x y = ap₂ (λ a b. bit && g == cell.generation && a && b) (sym (same_int cell.x x)) (sym (same_int cell.y y))

or-true : (b : Bool) → (b || true) ≡ true
or-true true = refl
or-true false = refl

-- one input settles it
pub lit_from : (ins : List InCell) (bits : List Bool) (g x y k : ℕ) → k < length ins → is_lit_there (in_at ins k) (flag_at bits k) g x y ≡ true → is_lit_input (map in_port_of ins) bits g (pos x) (pos y) ≡ true
lit_from [] bits g x y k low e = absurd (omega (arith, low))
lit_from (a ∷ ins) [] g x y zero low e = absurd (true≢false (sym e))
lit_from (a ∷ ins) [] g x y (suc k) low e = absurd (true≢false (sym e))
lit_from (a ∷ ins) (p ∷ bits) g x y zero low e = ap (λ b. b || is_lit_input (map in_port_of ins) bits g (pos x) (pos y)) (same_cell a p g x y ∙ e)
lit_from (a ∷ ins) (p ∷ bits) g x y (suc k) low e = ap (λ b. (p && g == a.generation && int_eq (pos a.x) (pos x) && int_eq (pos a.y) (pos y)) || b) (lit_from ins bits g x y k (omega (arith, low)) e) ∙ or-true _

pub dark_from : (ins : List InCell) (bits : List Bool) (g x y : ℕ) → ((k : ℕ) → k < length ins → is_lit_there (in_at ins k) (flag_at bits k) g x y ≡ false) → is_lit_input (map in_port_of ins) bits g (pos x) (pos y) ≡ false
dark_from [] bits g x y none = refl
dark_from (a ∷ ins) [] g x y none = refl
dark_from (a ∷ ins) (p ∷ bits) g x y none = ap₂ (λ u v. u || v) (same_cell a p g x y ∙ none 0 (omega arith)) (dark_from ins bits g x y (λ k low. none (suc k) (omega (arith, low))))
