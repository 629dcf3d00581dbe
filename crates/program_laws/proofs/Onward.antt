-- What a text that carries a design in contexts shows after the given bits, and before later ones.
use Rattle.std.proofs.Common.{pos, ℕ, ◌≡◌, ◌≤◌, ◌<◌, ◌+◌, ◌*◌, sym, ap, ◌∙◌, subst, Bool, List, [], length, map, take, get_or, arith}
use Rattle.std.specs.Prelude.{◌↔◌, Some, slice_get}
use Rattle.std.proofs.Math.Nat.{lt_of_mul-lt-mul_right, mul-le-mul_right}
use Rattle.std.proofs.lemmas.List.{get_or-map, get_or-take, length-map, length-take-le}
use Rattle.std.proofs.lemmas.List.Elements.{All-map, All-take}
use Rattle.std.proofs.lemmas.Option.{get_or_from_slice_get, slice_get-get_or, slice_get_within}
use Rattle.ww_rule.specs.declared.pattern.State.TheVariants.{Head}
use Rattle.ww_rule.specs.Wireworld.{Due, Plane, driven}
use Rattle.ww_rule.specs.Grid.{plane_of}
use Rattle.ww_rule.proofs.Contexts.{contexts_are_injected}
use Rattle.pattern_reading.specs.declared.ports.NetLine.{NetLine}
use Rattle.pattern_reading.specs.declared.ports.Ports.{Ports}
use Rattle.pattern_reading.specs.Ports.{cells_of}
use Rattle.netlist_core.specs.declared.model.Design.{Design}
use Rattle.netlist_meaning.specs.Nets.{Net, net_at}
use Rattle.netlist_meaning.specs.Valuation.{Valuation, LatchState, AreInputRows, IsRunFrom, output_bit}
use Rattle.carries.specs.Contexts.{AreRunsFrom, ShowsBitsInContexts, context_drive}
use Rattle.carries.specs.DesignContexts.{AreInputContexts, CarriesContexts, CarriesNetsInContexts}
use Rattle.program_laws.proofs.NamedNets.{net_of_line}
use Rattle.program_laws.specs.Onward.{ContextsGoOn, ContextsShowEachFront, NetsGoOn, NetsShowEachFront, RunOnZeros, AreHeadsAlike, each_then}

-- ---- rows of 0 after the given ones

-- what is shown under rows with rows of 0 after them is shown without these
without_zeros : (design : Design) (starts : List LatchState) (cycles : ℕ) (contexts : List (List (List Bool))) (runs : ℕ → ℕ → Valuation) (r : RunOnZeros design starts cycles contexts runs)
    → (ports : Ports) (plane : Plane) (first : ℕ) (bit : ℕ → ℕ → Bool) (g x y : ℕ)
    → ShowsBitsInContexts first ports.p (length (each_then contexts r.zeros)) cycles bit g (driven (context_drive ports (each_then contexts r.zeros)) plane g) x y
    → ShowsBitsInContexts first ports.p (length starts) cycles bit g (driven (context_drive ports contexts) plane g) x y
without_zeros design starts cycles contexts runs r ports plane first bit g x y shown =
    subst (λ (due : Due). ShowsBitsInContexts first ports.p (length starts) cycles bit g (driven due plane g) x y)
    (contexts_are_injected.rest ports.p (cells_of ports.ins) contexts r.zeros r.are_zeros)
    (subst (λ (n : ℕ). ShowsBitsInContexts first ports.p n cycles bit g (driven (context_drive ports (each_then contexts r.zeros)) plane g) x y) r.are_rows.many shown)

pub contexts_go_on : ContextsGoOn
contexts_go_on text design starts k cycles contexts runs r output cell e g early =
    without_zeros design starts cycles contexts runs r k.ports (plane_of k.grid.rows) k.ports.l (λ c t. output_bit design (runs c t) output) g cell.x cell.y
    (k.shows.heads cycles (each_then contexts r.zeros) r.are_rows runs r.are_runs output cell e g early)

pub nets_go_on : NetsGoOn
nets_go_on text design starts k cycles contexts runs r number net line is_net at g early =
    without_zeros design starts cycles contexts runs r k.carried.ports (plane_of k.carried.grid.rows) line.offset (λ c t. runs c t net.place net.name) g line.x line.y
    (k.shows cycles (each_then contexts r.zeros) r.are_rows runs r.are_runs number net line is_net at g early)

-- ---- the first rows

-- a row of the first ones is a row of the whole
taken_from : {X : Type 0} (n : ℕ) (xs : List X) (t : ℕ) (x : X) → n ≤ length xs → slice_get (take n xs) t ≡ Some x → slice_get xs t ≡ Some x
taken_from n xs t x long at =
    let low : t < n = omega (arith, slice_get_within (take n xs) t x at, length-take-le n xs long) in
    slice_get-get_or xs t x (omega (arith, low, long)) ∙ ap Some (sym (get_or-take n xs t x low) ∙ get_or_from_slice_get (take n xs) t x x at)

module _ (design : Design) (starts : List LatchState) (cycles many : ℕ) (contexts : List (List (List Bool))) (are : AreInputContexts design (length starts) many contexts) (long : cycles ≤ many) where
  abbrev front : List (List (List Bool))
  front = map (take cycles) contexts

  front_rows : AreInputContexts design (length starts) cycles front
  front_rows = record {
    many = length-map contexts (take cycles) ∙ are.many;
    long = All-map (λ (rows : List (List Bool)). length rows ≡ cycles) (take cycles) contexts
        (λ k d low. length-take-le cycles (get_or contexts k d) (omega (arith, are.long k d low, long)));
    each = All-map (AreInputRows design) (take cycles) contexts
        (λ k d low. let fit = are.each k d low in (fit.0, fit.1, All-take (λ (row : List Bool). length row ≡ length fit.0) cycles (get_or contexts k d) fit.2));
  }

  -- runs on the whole are runs on the first rows
  front_runs : (runs : ℕ → ℕ → Valuation) → AreRunsFrom (IsRunFrom design) starts contexts runs → AreRunsFrom (IsRunFrom design) starts front runs
  front_runs runs are_runs c start is_start t row at =
      let low : c < length contexts = omega (arith, slice_get_within starts c start is_start, are.many) in
      let own : List (List Bool) = get_or contexts c [] in
      are_runs c start is_start t row
      (taken_from cycles own t row (omega (arith, are.long c [] low, long))
      (subst (λ (rows : List (List Bool)). slice_get rows t ≡ Some row) (get_or-map (take cycles) contexts c [] [] low) at))

  -- what shows the bits of all cycles, and what shows those of the first, are alike before the cycle after these
  cut : (first p g x y : ℕ) (bit : ℕ → ℕ → Bool) (whole part : Plane) → g < first + cycles * p
      → ShowsBitsInContexts first p (length contexts) many bit g whole x y → ShowsBitsInContexts first p (length front) cycles bit g part x y
      → (whole (pos x) (pos y) ≡ Head) ↔ (part (pos x) (pos y) ≡ Head)
  cut first p g x y bit whole part early shown cut_shown =
      let same : length front ≡ length contexts = length-map contexts (take cycles) in (
        λ head.
            let (c, t, low, less, at, one) = shown.0 head in
            let sooner : t < cycles = lt_of_mul-lt-mul_right p (omega (arith, at, early)) in
            cut_shown.1 (c, t, omega (arith, low, same), sooner, at, one),
        λ head.
            let (c, t, low, less, at, one) = cut_shown.0 head in
            shown.1 (c, t, omega (arith, low, same), omega (arith, less, long), at, one),
      )

  -- so the first rows show what the whole shows
  outputs_shown : (text : List ℕ) (k : CarriesContexts text design starts) (output : ℕ) → (cell : _) → slice_get k.ports.outs output ≡ Some cell → (g : ℕ) → g < k.ports.l + cycles * k.ports.p
      → AreHeadsAlike (context_drive k.ports contexts) (context_drive k.ports front) (plane_of k.grid.rows) g cell.x cell.y
  outputs_shown text k output cell e g early =
      let ran = k.shows.runs many contexts are in
      cut k.ports.l k.ports.p g cell.x cell.y (λ c t. output_bit design (ran.0 c t) output)
      (driven (context_drive k.ports contexts) (plane_of k.grid.rows) g) (driven (context_drive k.ports front) (plane_of k.grid.rows) g) early
      (k.shows.heads many contexts are ran.0 ran.1 output cell e g (omega (arith, early, mul-le-mul_right k.ports.p long)))
      (k.shows.heads cycles front front_rows ran.0 (front_runs ran.0 ran.1) output cell e g early)

  net_shown : (text : List ℕ) (k : CarriesNetsInContexts text design starts) (number : ℕ) (net : Net) (line : NetLine) → slice_get k.nets number ≡ Some net → slice_get k.carried.ports.nets number ≡ Some line
      → (g : ℕ) → g < line.offset + cycles * k.carried.ports.p
      → AreHeadsAlike (context_drive k.carried.ports contexts) (context_drive k.carried.ports front) (plane_of k.carried.grid.rows) g line.x line.y
  net_shown text k number net line is_net at g early =
      let ran = k.carried.shows.runs many contexts are in
      cut line.offset k.carried.ports.p g line.x line.y (λ c t. ran.0 c t net.place net.name)
      (driven (context_drive k.carried.ports contexts) (plane_of k.carried.grid.rows) g) (driven (context_drive k.carried.ports front) (plane_of k.carried.grid.rows) g) early
      (k.shows many contexts are ran.0 ran.1 number net line is_net at g (omega (arith, early, mul-le-mul_right k.carried.ports.p long)))
      (k.shows cycles front front_rows ran.0 (front_runs ran.0 ran.1) number net line is_net at g early)

-- one drive shows what a second one does if each shows what one third does
by_front : {X Y Z W : Type 0} → X ↔ Y → Z ↔ W → Y ≡ W → X ↔ Z
by_front a b same = (λ x. b.1 (subst (λ (T : Type 0). T) same (a.0 x)), λ z. a.1 (subst (λ (T : Type 0). T) (sym same) (b.0 z)))

-- the cell at x, y is a head under the first rows
abbrev is_head : Ports → Plane → (g x y : ℕ) → List (List (List Bool)) → Type 0
is_head ports plane g x y front = driven (context_drive ports front) plane g (pos x) (pos y) ≡ Head

pub contexts_show_each_front : ContextsShowEachFront
contexts_show_each_front text design starts k cycles contexts others f output cell e g early =
    by_front (outputs_shown design starts cycles f.many contexts f.are_rows f.long text k output cell e g early)
    (outputs_shown design starts cycles f.as_many others f.are_too f.as_long text k output cell e g early)
    (ap (is_head k.ports (plane_of k.grid.rows) g cell.x cell.y) f.same)

pub nets_show_each_front : NetsShowEachFront
nets_show_each_front text design starts k cycles contexts others f number line at g early =
    let net : Net = get_or k.nets number (net_at [] []) in
    let is_net : slice_get k.nets number ≡ Some net = net_of_line text design starts k number line at in
    by_front (net_shown design starts cycles f.many contexts f.are_rows f.long text k number net line is_net at g early)
    (net_shown design starts cycles f.as_many others f.are_too f.as_long text k number net line is_net at g early)
    (ap (is_head k.carried.ports (plane_of k.carried.grid.rows) g line.x line.y) f.same)
