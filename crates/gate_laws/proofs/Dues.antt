-- What signals make due, and cells that are never due.
use Rattle.std.proofs.Common.{ℤ, ℕ, ◌≡◌, refl, sym, ap, ap₂, ◌∙◌, inl, inr, Bool, true, false, ◌&&◌, List, arith}
use Rattle.std.specs.Prelude.{Contains, ◌≢◌, ◌⊎◌, ◌↔◌}
use Rattle.std.specs.Cmp.{both_ways}
use Rattle.std.specs.Ordering.{int_eq}
use Rattle.std.proofs.lemmas.Bool.{and_parts, and_from, false_from_ne_true, cases_Bool, true≢false}
use Rattle.std.proofs.lemmas.Bool.Decides.{Decides-int_eq}
use Rattle.std.proofs.Math.Path.{fun_ext}
use Rattle.lists.proofs.Members.{passes_somewhere, passes_at, contains_from}
use Rattle.ww_rule.specs.declared.pattern.State.{State}
use Rattle.ww_rule.specs.declared.pattern.State.TheVariants.{Empty, Head, Tail, Conductor}
use Rattle.ww_rule.specs.Wireworld.{Plane, driven}
use Rattle.ww_rule.proofs.Boxes.{driven_empty}
use Rattle.gate_laws.specs.Signals.{Signal, is_lit, cell_state, due_of_signals}

-- is this the cell x, y of the signal, and is it lit?
abbrev pub lights : ℕ → ℕ → ℤ → ℤ → Signal → Bool
lights period g x y s = is_lit period s g && int_eq s.cell.0 x && int_eq s.cell.1 y

pub same_cell : (c d : ℤ × ℤ) → c.0 ≡ d.0 → c.1 ≡ d.1 → c ≡ d
same_cell c d e f = ap₂ (λ x y. (x, y)) e f

pub lights_at : (period g : ℕ) (c : ℤ × ℤ) (s : Signal) → lights period g c.0 c.1 s ≡ true → (is_lit period s g ≡ true) × (s.cell ≡ c)
lights_at period g c s e =
    let parts = and_parts (is_lit period s g && int_eq s.cell.0 c.0) (int_eq s.cell.1 c.1) e in
    let more = and_parts (is_lit period s g) (int_eq s.cell.0 c.0) parts.0 in
    (more.0, same_cell s.cell c ((Decides-int_eq s.cell.0 c.0).0 more.1) ((Decides-int_eq s.cell.1 c.1).0 parts.1))

pub at_lights : (period g : ℕ) (c : ℤ × ℤ) (s : Signal) → is_lit period s g ≡ true → s.cell ≡ c → lights period g c.0 c.1 s ≡ true
at_lights period g c s lit e =
    and_from (is_lit period s g && int_eq s.cell.0 c.0) (int_eq s.cell.1 c.1) (and_from (is_lit period s g) (int_eq s.cell.0 c.0) lit ((Decides-int_eq s.cell.0 c.0).1 (ap (λ d. d.0) e))) ((Decides-int_eq s.cell.1 c.1).1 (ap (λ d. d.1) e))

-- the signal that makes a cell due
pub due_by_signal : (period : ℕ) (signals : List Signal) (g : ℕ) (c : ℤ × ℤ) → due_of_signals period signals g c.0 c.1 ≡ true → (s : Signal) × Contains signals s × (is_lit period s g ≡ true) × (s.cell ≡ c)
due_by_signal period signals g c e =
    let found = passes_at (lights period g c.0 c.1) signals e in
    let at = lights_at period g c found.0 found.2 in
    (found.0, contains_from signals found.0 found.1, at.0, at.1)

pub signal_is_due : (period : ℕ) (signals : List Signal) (g : ℕ) (c : ℤ × ℤ) (s : Signal) → Contains signals s → is_lit period s g ≡ true → s.cell ≡ c → due_of_signals period signals g c.0 c.1 ≡ true
signal_is_due period signals g c s among lit e =
    passes_somewhere (lights period g c.0 c.1) signals s among (at_lights period g c s lit e)

-- the same signals, in any order, make the same due
pub same_dues : (period : ℕ) (signals others : List Signal) → ((s : Signal) → Contains signals s ↔ Contains others s) → due_of_signals period signals ≡ due_of_signals period others
same_dues period signals others same =
    fun_ext (λ g. fun_ext (λ x. fun_ext (λ y. both_ways _ _ (λ e. (let by = due_by_signal period signals g (x, y) e in signal_is_due period others g (x, y) by.0 ((same by.0).0 by.1) by.2 by.3)) (λ e. (let by = due_by_signal period others g (x, y) e in signal_is_due period signals g (x, y) by.0 ((same by.0).1 by.1) by.2 by.3)))))

-- no signal is in the cell
pub not_due : (period : ℕ) (signals : List Signal) (g : ℕ) (c : ℤ × ℤ) → ((s : Signal) → Contains signals s → s.cell ≢ c) → due_of_signals period signals g c.0 c.1 ≡ false
not_due period signals g c none =
    false_from_ne_true _ (λ e. let by = due_by_signal period signals g c e in none by.0 by.1 by.3)

-- all signals are in cells that are drawn, so an empty cell is never due, and stays empty
pub empty_not_due : (period : ℕ) (p : Plane) (signals : List Signal) (g : ℕ) (c : ℤ × ℤ) → ((s : Signal) → Contains signals s → cell_state p s.cell ≢ Empty) → cell_state p c ≡ Empty → due_of_signals period signals g c.0 c.1 ≡ false
empty_not_due period p signals g c drawn e =
    not_due period signals g c (λ s among same. drawn s among (ap (cell_state p) same ∙ e))

pub stays_empty : (period : ℕ) (p : Plane) (signals : List Signal) (c : ℤ × ℤ) → ((s : Signal) → Contains signals s → cell_state p s.cell ≢ Empty) → cell_state p c ≡ Empty → (g : ℕ) → cell_state (driven (due_of_signals period signals) p g) c ≡ Empty
stays_empty period p signals c drawn e g =
    driven_empty (due_of_signals period signals) p c.0 c.1 e (λ h. empty_not_due period p signals h c drawn e) g

pub never_due : (period : ℕ) (p : Plane) (signals : List Signal) (c : ℤ × ℤ) → cell_state p c ≡ Empty → ((s : Signal) → Contains signals s → s.cell ≢ c) → (g : ℕ) → cell_state (driven (due_of_signals period signals) p g) c ≡ Empty
never_due period p signals c e none g =
    driven_empty (due_of_signals period signals) p c.0 c.1 e (λ h. not_due period signals h c none) g

pub Head≢Empty : Head ≢ Empty
Head≢Empty e = true≢false (ap is_full e)
  where
    is_full : State → Bool
    is_full Empty = false
    is_full _ = true

-- a cell is empty, or it is not
pub cases_Empty : (s : State) → (s ≡ Empty) ⊎ (s ≢ Empty)
cases_Empty Empty = inl refl
cases_Empty Head = inr (λ e. absurd (Head≢Empty e))
cases_Empty Tail = inr (λ e. grind arith)
cases_Empty Conductor = inr (λ e. grind arith)

-- two cells are one, or they are not
pub cases_cell : (c d : ℤ × ℤ) → (c ≡ d) ⊎ (c ≢ d)
cases_cell c d =
    elim (cases_Bool (int_eq c.0 d.0 && int_eq c.1 d.1)) [
      | inl t ↦ let parts = and_parts (int_eq c.0 d.0) (int_eq c.1 d.1) t in inl (same_cell c d ((Decides-int_eq c.0 d.0).0 parts.0) ((Decides-int_eq c.1 d.1).0 parts.1))
      | inr f ↦ inr (λ e. true≢false (sym (and_from (int_eq c.0 d.0) (int_eq c.1 d.1) ((Decides-int_eq c.0 d.0).1 (ap (λ u. u.0) e)) ((Decides-int_eq c.1 d.1).1 (ap (λ u. u.1) e))) ∙ f))
    ]
