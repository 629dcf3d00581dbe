-- Tests of ports, port by port and cell by cell.
use Rattle.std.proofs.Common.{IsTrue, ℤ, pos, ℕ, ◌≤◌, ◌≡◌, ◌↔◌, refl, sym, ap, subst, ◌∙◌, Bool, true, false, ◌||◌, ◌&&◌, cond, List, [], ◌∷◌, All, map, take, drop, length, get_or, arith, inl, inr, int_eq}
use Rattle.std.specs.List.{list_any}
use Rattle.std.proofs.lemmas.Bool.{or_cases, true≢false}
use Rattle.std.proofs.lemmas.Bool.Decides.{Decides-int_eq}
use Rattle.std.proofs.lemmas.List.Elements.{All-nil, All-cons, All-head, All-tail}
use Rattle.ww_rule.specs.declared.pattern.State.TheVariants.{Head}
use Rattle.ww_rule.specs.Wireworld.{Plane}
use Rattle.tile_core.specs.Drawing.{Cell, is_cell_of}
use Rattle.tile_core.specs.Interface.{cell_at, chosen}
use Rattle.tile_timing.specs.Law.{is_at, AreLitAs}
use Rattle.tile_timing.proofs.Sound.{same_place}
use Rattle.std.proofs.lemmas.Bool.{or_right as later_true}

among_cond : (a : Bool) (c : Cell) (cs : List Cell) (x y : ℤ) → is_cell_of x y (cond a (c ∷ cs) cs) ≡ ((a && (int_eq x c.x && int_eq y c.y)) || is_cell_of x y cs)
among_cond true c cs x y = refl
among_cond false c cs x y = refl

both_bits : (a t b u : Bool) → ((a && t) || ((b && u) || false)) ≡ ((a && (t || false)) || (b && (u || false)))
both_bits false t false u = refl
both_bits false t true u = refl
both_bits true false false u = refl
both_bits true false true u = refl
both_bits true true b u = refl

no_bits : (a b : Bool) → false ≡ ((a && false) || (b && false))
no_bits false false = refl
no_bits false true = refl
no_bits true false = refl
no_bits true true = refl

-- which of two ports are lit, by one test for each of them
pub lit_of_two : (ports : List (ℕ × ℕ)) (bits : List Bool) (x y : ℕ) → length ports ≤ 2 → length bits ≡ 2 → is_cell_of (pos x) (pos y) (chosen (map cell_at ports) bits) ≡ ((get_or bits 0 false && list_any (λ port. is_at port x y) (take 1 (drop 0 ports))) || (get_or bits 1 false && list_any (λ port. is_at port x y) (take 1 (drop 1 ports))))
lit_of_two ports [] x y few two = absurd (omega (arith, two))
lit_of_two ports (a ∷ []) x y few two = absurd (omega (arith, two))
lit_of_two ports (a ∷ b ∷ c ∷ bits) x y few two = absurd (omega (arith, two))
lit_of_two [] (a ∷ b ∷ []) x y few two = no_bits a b
lit_of_two (p ∷ []) (a ∷ b ∷ []) x y few two =
    among_cond a (cell_at p) [] (pos x) (pos y) ∙ both_bits a (is_at p x y) false false ∙ ap (λ v. (a && (is_at p x y || false)) || v) (no_bit b)
  where
    no_bit : (b : Bool) → (false && false) ≡ (b && false)
    no_bit false = refl
    no_bit true = refl
lit_of_two (p ∷ q ∷ []) (a ∷ b ∷ []) x y few two =
    among_cond a (cell_at p) (chosen (cell_at q ∷ []) (b ∷ [])) (pos x) (pos y)
    ∙ ap (λ v. (a && is_at p x y) || v) (among_cond b (cell_at q) [] (pos x) (pos y))
    ∙ both_bits a (is_at p x y) b (is_at q x y)
lit_of_two (p ∷ q ∷ r ∷ ports) (a ∷ b ∷ []) x y few two = absurd (omega (arith, few))

-- what holds at each port holds at each cell that is a port
pub at_port_cells : (P : ℤ → ℤ → Type 0) (ports : List (ℕ × ℕ)) → All (λ port. P (pos port.0) (pos port.1)) ports → (x y : ℤ) → is_cell_of x y (map cell_at ports) ≡ true → P x y
at_port_cells P [] all x y e = absurd (true≢false (sym e))
at_port_cells P (p ∷ ps) all x y e =
    elim (or_cases _ _ e) [
      | inl here ↦ let s = same_place x y (pos p.0) (pos p.1) here in subst (λ u. P u y) (sym s.0) (subst (λ v. P (pos p.0) v) (sym s.1) (All-head (λ port. P (pos port.0) (pos port.1)) p ps all))
      | inr later ↦ at_port_cells P ps (All-tail (λ port. P (pos port.0) (pos port.1)) p ps all) x y later
    ]

here_true : (a b c : Bool) → a ≡ true → b ≡ true → ((a && b) || c) ≡ true
here_true a b c e f = cc

-- and the other way
pub at_ports : (P : ℤ → ℤ → Type 0) (ports : List (ℕ × ℕ)) → ((x y : ℤ) → is_cell_of x y (map cell_at ports) ≡ true → P x y) → All (λ port. P (pos port.0) (pos port.1)) ports
at_ports P [] each = All-nil (λ port. P (pos port.0) (pos port.1))
at_ports P (p ∷ ps) each =
    All-cons (λ port. P (pos port.0) (pos port.1)) p ps
    (each (pos p.0) (pos p.1) (here_true _ _ _ ((Decides-int_eq (pos p.0) (pos p.0)).1 refl) ((Decides-int_eq (pos p.1) (pos p.1)).1 refl)))
    (at_ports P ps (λ x y e. each x y (later_true _ _ e)))

-- a test of each port, as a test of each cell that is a port
pub each_port_cell : (P : ℤ → ℤ → Type 0) (ports listed : List (ℕ × ℕ)) (r : Bool) → listed ≡ ports → IsTrue r ↔ All (λ port. P (pos port.0) (pos port.1)) listed → IsTrue r ↔ ((x y : ℤ) → is_cell_of x y (map cell_at ports) ≡ true → P x y)
each_port_cell P ports listed r e says = (
  λ t. at_port_cells P ports (subst (λ ps. All (λ port. P (pos port.0) (pos port.1)) ps) e (says.0 t)),
  λ each. says.1 (at_ports P listed (λ x y h. each x y (ap (λ ps. is_cell_of x y (map cell_at ps)) (sym e) ∙ h))),
)

-- the same of the ports that are heads
pub each_port_lit : (p : Plane) (ports listed : List (ℕ × ℕ)) (bits wanted : List Bool) (r : Bool) → listed ≡ ports → wanted ≡ bits → IsTrue r ↔ All (λ port. (p (pos port.0) (pos port.1) ≡ Head) ↔ (is_cell_of (pos port.0) (pos port.1) (chosen (map cell_at listed) wanted) ≡ true)) listed → IsTrue r ↔ AreLitAs (map cell_at ports) (chosen (map cell_at ports) bits) p
each_port_lit p ports listed bits wanted r e f says =
    subst (λ bs. IsTrue r ↔ AreLitAs (map cell_at ports) (chosen (map cell_at ports) bs) p) f
    (subst (λ ps. IsTrue r ↔ AreLitAs (map cell_at ps) (chosen (map cell_at ps) wanted) p) e
    (each_port_cell (λ x y. (p x y ≡ Head) ↔ (is_cell_of x y (chosen (map cell_at listed) wanted) ≡ true)) listed listed r refl says))

pub two_bits : (bits : List Bool) → length bits ≡ 2 → bits ≡ get_or bits 0 false ∷ get_or bits 1 false ∷ []
two_bits [] e = absurd (omega (arith, e))
two_bits (a ∷ []) e = absurd (omega (arith, e))
two_bits (a ∷ b ∷ []) e = refl
two_bits (a ∷ b ∷ c ∷ bits) e = absurd (omega (arith, e))

pub same_planes : (r : Bool) (p q q' : Plane) → q ≡ q' → IsTrue r ↔ (p ≡ q) → IsTrue r ↔ (p ≡ q')
same_planes r p q q' e says = (λ t. says.0 t ∙ e, λ h. says.1 (h ∙ sym e))
