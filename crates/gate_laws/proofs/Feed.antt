-- A wire takes the place of the drive of an input.
use Rattle.std.proofs.Common.{ℤ, ℕ, zero, suc, ◌+◌, ◌-◌, ◌<◌, ◌≤◌, ◌≡◌, refl, sym, ap, ap₂, ◌∙◌, subst, inl, inr, Bool, true, false, ◌||◌, cond, List, ◌∷◌, ◌++◌, arith}
use Rattle.std.specs.Prelude.{Contains, ◌≢◌, ◌⊎◌, ◌↔◌, if◌then◌else◌}
use Rattle.std.proofs.lemmas.Bool.{cases_Bool, cases_eq, cases_lt, true≢false, false_from_ne_true}
use Rattle.std.proofs.lemmas.List.Elements.{Contains-append_left}
use Rattle.lists.proofs.Members.{in_from, contains_from}
use Rattle.ww_rule.specs.declared.pattern.State.{State}
use Rattle.ww_rule.specs.declared.pattern.State.TheVariants.{Empty, Head, Tail}
use Rattle.ww_rule.specs.Wireworld.{Plane, next_plane, next_state, heads_around, count_head, driven}
use Rattle.ww_rule.proofs.Cells.{not_counted}
use Rattle.gate_laws.specs.Signals.{Signal, cell_state, is_lit, due_of_signals, IsReady, CarriesSignals}
use Rattle.gate_laws.specs.Wires.{IsNear, Wire, ComesByWire, IsWireDrawn, IsLaid, IsAwayFrom}
use Rattle.gate_laws.proofs.WireLit.{not_soon}
use Rattle.gate_laws.proofs.Dues.{lights, lights_at, empty_not_due, stays_empty, never_due, cases_Empty, cases_cell, Head≢Empty}
use Rattle.gate_laws.proofs.Around.{near_back, as_many, one_more}
use Rattle.gate_laws.proofs.Wire.{state_by, count_by, count_if, wire_rule, IsOff, on_or_off}

pub among_more : (to s : Signal) (ins outs : List Signal) → Contains (ins ++ outs) s → Contains ((to ∷ ins) ++ outs) s
among_more to s ins outs among = contains_from ((to ∷ ins) ++ outs) s (inr (in_from (ins ++ outs) s among))

pub input_more : (to s : Signal) (ins : List Signal) → Contains ins s → Contains (to ∷ ins) s
input_more to s ins among = contains_from (to ∷ ins) s (inr (in_from ins s among))

-- one wire that is laid
pub record IsFed (period : ℕ) (wire : Wire) (ins outs : List Signal) (before after : Plane) : Type 0 where
  pub long : 3 ≤ period
  pub run : CarriesSignals period before (wire.to ∷ ins) outs
  pub own : (s : Signal) → Contains ins s → s.cell ≢ wire.to.cell
  pub source : Contains (ins ++ outs) wire.from
  pub is : IsWireDrawn wire
  pub comes : ComesByWire period wire.size wire.from wire.to
  pub laid : IsLaid period wire before after
  pub others : (cell : ℤ × ℤ) → IsAwayFrom wire cell → cell_state after cell ≡ cell_state before cell

module _ (period : ℕ) (fed : Wire) (ins outs : List Signal) (before after : Plane) (h : IsFed period fed ins outs before after) where
  abbrev n : ℕ
  n = fed.size

  abbrev path : ℕ → ℤ × ℤ
  path = fed.path

  abbrev from : Signal
  from = fed.from

  abbrev to : Signal
  to = fed.to

  abbrev old : ℕ → Plane
  old g = driven (due_of_signals period (to ∷ ins)) before g

  abbrev new : ℕ → Plane
  new g = driven (due_of_signals period ins) after g

  abbrev lit : ℕ → Bool
  lit g = is_lit period to g

  abbrev wire : ℕ → ℤ × ℤ
  wire i = path (suc i)

  -- at a generation the wire's cells are as the signal at its end says, and all others as in the plane that is driven without the wire
  record IsAt (g : ℕ) : Type 0 where
    on : (i rest : ℕ) → i + suc rest ≡ n → cell_state (new g) (wire i) ≡ state_by (lit (g + suc rest)) (lit (g + rest))
    off : (c : ℤ × ℤ) → IsOff n wire c → cell_state (new g) c ≡ cell_state (old g) c

  all_drawn : (s : Signal) → Contains (to ∷ ins) s → cell_state before s.cell ≢ Empty
  all_drawn s among = h.run.drawn s (Contains-append_left (to ∷ ins) outs s among)

  to_drawn : cell_state before to.cell ≢ Empty
  to_drawn = all_drawn to (contains_from (to ∷ ins) to (inl refl))

  ins_drawn : (s : Signal) → Contains ins s → cell_state before s.cell ≢ Empty
  ins_drawn s among = all_drawn s (input_more to s ins among)

  from_drawn : cell_state before from.cell ≢ Empty
  from_drawn = h.run.drawn from (among_more to from ins outs h.source)

  from_shows : (g : ℕ) → (cell_state (old g) from.cell ≡ Head) ↔ (is_lit period from g ≡ true)
  from_shows g = h.run.shows from (among_more to from ins outs h.source) g

  to_shows : (g : ℕ) → (cell_state (old g) to.cell ≡ Head) ↔ (lit g ≡ true)
  to_shows g = h.run.shows to (Contains-append_left (to ∷ ins) outs to (contains_from (to ∷ ins) to (inl refl))) g

  -- what is drawn is not on the wire
  drawn_off : (c : ℤ × ℤ) → cell_state before c ≢ Empty → IsOff n wire c
  drawn_off c full i l e = full (ap (cell_state before) e ∙ h.laid.free i l)

  -- the other ends of the path
  apart : from.cell ≢ to.cell
  apart e =
      let same : 0 ≡ suc n = h.is.along.once 0 (suc n) (omega arith) (omega arith) (h.is.begins ∙ e ∙ sym h.is.ends) in omega arith

  -- a cell off the wire is drawn as before
  kept : (c : ℤ × ℤ) → IsOff n wire c → cell_state before c ≢ Empty → cell_state after c ≢ Empty
  kept c off full =
      elim (cases_cell c to.cell) [
        | inl e ↦ λ w. either (lit 0) (sym (ap (cell_state after) e ∙ h.laid.end) ∙ w)
        | inr d ↦ λ w. full (sym (h.others c (record { end = d; cells = off })) ∙ w)
      ]
    where
      either : (b : Bool) → (if b then Head else cell_state before to.cell) ≡ Empty → ⊥
      either true w = Head≢Empty w
      either false w = to_drawn w

  -- only the ends of the path are near the wire: that of the output near its first cell, that of the input near its last
  near_wire : (i : ℕ) → i < n → (c : ℤ × ℤ) → IsNear c (wire i) → IsOff n wire c → cell_state before c ≢ Empty → ((c ≡ from.cell) × (i ≡ 0)) ⊎ ((c ≡ to.cell) × (suc i ≡ n))
  near_wire i l c near off full = at (h.laid.alone i l c near (kept c off full))
    where
      at : (j : ℕ) × (i ≤ j) × (j ≤ i + 2) × (c ≡ path j) → ((c ≡ from.cell) × (i ≡ 0)) ⊎ ((c ≡ to.cell) × (suc i ≡ n))
      at (zero, low, high, e) = inl (e ∙ h.is.begins, omega arith)
      at (suc k, low, high, e) =
          elim (cases_lt k n) [
            | inl lt ↦ absurd (off k lt e)
            | inr ge ↦
                let last : suc k ≡ suc n = omega arith in
                inr (e ∙ ap path last ∙ h.is.ends, omega arith)
          ]

  -- no wire's cell is ever drawn or due in the old plane
  old_empty : (i : ℕ) → i < n → (g : ℕ) → cell_state (old g) (wire i) ≡ Empty
  old_empty i l g = stays_empty period before (to ∷ ins) (wire i) all_drawn (h.laid.free i l) g

  wire_not_due : (i : ℕ) → i < n → (g : ℕ) → due_of_signals period ins g (wire i).0 (wire i).1 ≡ false
  wire_not_due i l g = empty_not_due period before ins g (wire i) ins_drawn (h.laid.free i l)

  -- a cell other than the fed one is due as before
  due_kept : (c : ℤ × ℤ) → c ≢ to.cell → (g : ℕ) → due_of_signals period (to ∷ ins) g c.0 c.1 ≡ due_of_signals period ins g c.0 c.1
  due_kept c d g =
      ap (λ b. b || due_of_signals period ins g c.0 c.1) (false_from_ne_true (lights period g c.0 c.1 to) (λ e. d (sym (lights_at period g c to e).1)))

  -- and the fed one too, when its signal is not lit
  due_unlit : (g : ℕ) → lit g ≡ false → due_of_signals period (to ∷ ins) g to.cell.0 to.cell.1 ≡ due_of_signals period ins g to.cell.0 to.cell.1
  due_unlit g dark =
      ap (λ b. b || due_of_signals period ins g to.cell.0 to.cell.1) (false_from_ne_true (lights period g to.cell.0 to.cell.1 to) (λ e. true≢false (sym (lights_at period g to.cell to e).0 ∙ dark)))

  -- if the wire's first cell is a head, the output's was one just before
  first_lit : (g : ℕ) → lit (g + n) ≡ true → (k : ℕ) × (g ≡ suc k) × (is_lit period from k ≡ true)
  first_lit zero e =
      let same : zero + n ≡ n = omega arith in absurd (true≢false (sym e ∙ ap lit same ∙ h.comes.clear))
  first_lit (suc k) e =
      let same : suc k + n ≡ k + suc n = omega arith in
      (k, refl, sym (h.comes.later k) ∙ sym (ap lit same) ∙ e)

  -- the wire's cell i at a generation, as a head or not
  wire_count : (g : ℕ) → IsAt g → (i rest : ℕ) → i + suc rest ≡ n → count_head (cell_state (new g) (wire i)) ≡ cond (lit (g + suc rest)) 1 0
  wire_count g at i rest e = ap count_head (at.on i rest e) ∙ count_by (lit (g + suc rest)) (lit (g + rest))

  -- a cell that is drawn, and beside which no head is on the wire, has as many heads around as before
  module _ (g : ℕ) (at : IsAt g) (c : ℤ × ℤ) (full : cell_state before c ≢ Empty) where
    counts : (c ≡ from.cell → lit (g + n) ≡ false) → (c ≡ to.cell → lit (g + 1) ≡ false) → (d : ℤ × ℤ) → IsNear d c → count_head (cell_state (new g) d) ≡ count_head (cell_state (old g) d)
    counts first last d near =
        elim (on_or_off n wire d) [
          | inr off ↦ ap count_head (at.off d off)
          | inl on ↦ on_wire on.0 on.1 on.2 (near_wire on.0 on.1 c (subst (IsNear c) on.2 (near_back d c near)) (drawn_off c full) full)
        ]
      where
        dark : (i rest : ℕ) → i < n → d ≡ wire i → i + suc rest ≡ n → lit (g + suc rest) ≡ false → count_head (cell_state (new g) d) ≡ count_head (cell_state (old g) d)
        dark i rest l e place off =
            ap (λ c. count_head (cell_state (new g) c)) e
            ∙ wire_count g at i rest place
            ∙ ap (λ b. cond b 1 0) off
            ∙ sym (ap (λ c. count_head (cell_state (old g) c)) e ∙ ap count_head (old_empty i l g))

        on_wire : (i : ℕ) → i < n → d ≡ wire i → ((c ≡ from.cell) × (i ≡ 0)) ⊎ ((c ≡ to.cell) × (suc i ≡ n)) → count_head (cell_state (new g) d) ≡ count_head (cell_state (old g) d)
        on_wire i l e (inl (here, start)) =
            let some = h.is.some in
            let same : g + suc (n - 1) ≡ g + n = omega (arith, some) in
            dark i (n - 1) l e (omega (arith, some, start)) (ap lit same ∙ first here)
        on_wire i l e (inr (here, stop)) =
            dark i 0 l e (omega (arith, stop)) (last here)

    same_around : (c ≡ from.cell → lit (g + n) ≡ false) → (c ≡ to.cell → lit (g + 1) ≡ false) → heads_around (new g) c.0 c.1 ≡ heads_around (old g) c.0 c.1
    same_around first last = as_many (new g) (old g) c (counts first last)

    same_next : (c ≡ from.cell → lit (g + n) ≡ false) → (c ≡ to.cell → lit (g + 1) ≡ false) → next_plane (new g) c.0 c.1 ≡ next_plane (old g) c.0 c.1
    same_next first last = ap₂ next_state (at.off c (drawn_off c full)) (same_around first last)

  -- the output's cell, after which the wire begins
  from_next : (g : ℕ) → IsAt g → next_plane (new g) from.cell.0 from.cell.1 ≡ next_plane (old g) from.cell.0 from.cell.1
  from_next g at =
      elim (cases_Bool (lit (g + n))) [
        | inr dark ↦ same_next g at from.cell from_drawn (λ e. dark) (λ e. absurd (apart e))
        | inl bright ↦ let f = first_lit g bright in tailed f.0 f.1 f.2
      ]
    where
      tail_then : (k : ℕ) → is_lit period from k ≡ true → cell_state (old (suc k)) from.cell ≡ Tail
      tail_then k was =
          let long = h.long in
          let head : cell_state (old k) from.cell ≡ Head = (from_shows k).1 was in
          let not_due : due_of_signals period (to ∷ ins) (suc k) from.cell.0 from.cell.1 ≡ false = false_from_ne_true _ (λ e. (let soon : k + 1 ≡ suc k = omega arith in not_soon period from k 1 was (ap (is_lit period from) soon ∙ (from_shows (suc k)).0 (ap (λ b. cond b Head (next_plane (old k) from.cell.0 from.cell.1)) e)) (omega arith) (omega (arith, long)))) in
          ap₂ (λ b s. cond b Head s) not_due (ap (λ s. next_state s (heads_around (old k) from.cell.0 from.cell.1)) head)

      tailed : (k : ℕ) → g ≡ suc k → is_lit period from k ≡ true → next_plane (new g) from.cell.0 from.cell.1 ≡ next_plane (old g) from.cell.0 from.cell.1
      tailed k now was =
          let tail : cell_state (old g) from.cell ≡ Tail = ap (λ i. cell_state (old i) from.cell) now ∙ tail_then k was in
          ap (λ s. next_state s (heads_around (new g) from.cell.0 from.cell.1)) (at.off from.cell (drawn_off from.cell from_drawn) ∙ tail)
          ∙ sym (ap (λ s. next_state s (heads_around (old g) from.cell.0 from.cell.1)) tail)

  -- the input's cell is lit by the wire
  to_lit : (g : ℕ) → IsAt g → lit (suc g) ≡ true → next_plane (new g) to.cell.0 to.cell.1 ≡ Head
  to_lit g at bright =
      let some = h.is.some in
      let is = h.run.ready to (contains_from (to ∷ ins) to (inl refl)) g bright in
      let k = n - 1 in
      let place : k + 1 ≡ n = omega (arith, some) in
      let last : suc k ≡ n = omega (arith, some) in
      let l : k < n = omega (arith, some) in
      let beside : IsNear (wire k) to.cell = subst (λ i. IsNear (path i) to.cell) (sym last) (subst (IsNear (path n)) h.is.ends (h.is.along.goes_on n (omega arith))) in
      let other : wire k ≢ to.cell = λ e. drawn_off to.cell to_drawn k l (sym e) in
      let seen : count_head (cell_state (new g) (wire k)) ≡ 1 = wire_count g at k 0 place ∙ ap (λ b. cond b 1 0) (ap lit (let next : g + 1 ≡ suc g = omega arith in next) ∙ bright) in
      let around : heads_around (new g) to.cell.0 to.cell.1 ≡ 1 = one_more (new g) (old g) to.cell (wire k) beside other (ap count_head (old_empty k l g)) (λ d near away. rest d near away) ∙ ap₂ (λ a b. a + b) is.alone seen in
      ap₂ next_state (at.off to.cell (drawn_off to.cell to_drawn) ∙ is.conductor) around
    where
      rest : (d : ℤ × ℤ) → IsNear d to.cell → d ≢ wire (n - 1) → count_head (cell_state (new g) d) ≡ count_head (cell_state (old g) d)
      rest d near away =
          elim (on_or_off n wire d) [
            | inr off ↦ ap count_head (at.off d off)
            | inl on ↦
                elim (near_wire on.0 on.1 to.cell (subst (IsNear to.cell) on.2 (near_back d to.cell near)) (drawn_off to.cell to_drawn) to_drawn) [
                  | inl b ↦ absurd (apart (sym b.0))
                  | inr e ↦ let stop : suc on.0 ≡ n = e.1 in let same : on.0 ≡ n - 1 = omega arith in absurd (away (on.2 ∙ ap wire same))
                ]
          ]

  off_drawn : (g : ℕ) → IsAt g → (c : ℤ × ℤ) → cell_state before c ≢ Empty → cell_state (new (suc g)) c ≡ cell_state (old (suc g)) c
  off_drawn g at c full =
      elim (cases_cell c to.cell) [
        | inl e ↦ subst (λ d. cell_state (new (suc g)) d ≡ cell_state (old (suc g)) d) (sym e) (at_to (cases_Bool (lit (suc g))))
        | inr d ↦
            elim (cases_cell c from.cell) [
              | inl e ↦ subst (λ d. cell_state (new (suc g)) d ≡ cell_state (old (suc g)) d) (sym e) (ap₂ (λ b s. cond b Head s) (sym (due_kept from.cell apart (suc g))) (from_next g at))
              | inr f ↦ ap₂ (λ b s. cond b Head s) (sym (due_kept c d (suc g))) (same_next g at c full (λ e. absurd (f e)) (λ e. absurd (d e)))
            ]
      ]
    where
      head_anyway : (b : Bool) (s : State) → s ≡ Head → cond b Head s ≡ Head
      head_anyway true s e = refl
      head_anyway false s e = e

      at_to : (lit (suc g) ≡ true) ⊎ (lit (suc g) ≡ false) → cell_state (new (suc g)) to.cell ≡ cell_state (old (suc g)) to.cell
      at_to (inl bright) =
          head_anyway (due_of_signals period ins (suc g) to.cell.0 to.cell.1) (next_plane (new g) to.cell.0 to.cell.1) (to_lit g at bright)
          ∙ sym ((to_shows (suc g)).1 bright)
      at_to (inr dark) =
          let next : g + 1 ≡ suc g = omega arith in
          ap₂ (λ b s. cond b Head s) (sym (due_unlit (suc g) dark)) (same_next g at to.cell to_drawn (λ e. absurd (apart (sym e))) (λ e. ap lit next ∙ dark))

  off_empty : (g : ℕ) (c : ℤ × ℤ) → IsOff n wire c → cell_state before c ≡ Empty → cell_state (new g) c ≡ cell_state (old g) c
  off_empty g c off none =
      let d : c ≢ to.cell = λ e. to_drawn (ap (cell_state before) (sym e) ∙ none) in
      never_due period after ins c (h.others c (record { end = d; cells = off }) ∙ none) (λ s among e. ins_drawn s among (ap (cell_state before) e ∙ none)) g
      ∙ sym (stays_empty period before (to ∷ ins) c all_drawn none g)

  -- what is empty beside the wire is never a head
  void : (i : ℕ) → i < n → (c : ℤ × ℤ) → IsNear c (wire i) → cell_state after c ≡ Empty → (g : ℕ) → cell_state (new g) c ≡ Empty
  void i l c near none g =
      never_due period after ins c none (λ s among e. kept c (subst (IsOff n wire) e (drawn_off s.cell (ins_drawn s among))) (subst (λ d. cell_state before d ≢ Empty) e (ins_drawn s among)) none) g

  -- a wire's cell that is neither a head nor a tail sees the cell before it, and no other head
  module _ (g : ℕ) (at : IsAt g) (i rest : ℕ) (place : i + suc rest ≡ n) (no_head : lit (g + suc rest) ≡ false) (no_tail : lit (g + rest) ≡ false) where
    inside : i < n
    inside = omega (arith, place)

    after_it : (c : ℤ × ℤ) → c ≡ path (suc (suc i)) → (rest ≡ 0) ⊎ (rest ≢ 0) → count_head (cell_state (new g) c) ≡ 0
    after_it c e (inl end) =
        let last : suc (suc i) ≡ suc n = omega (arith, place, end) in
        let same : g + rest ≡ g = omega (arith, end) in
        let there : c ≡ to.cell = e ∙ ap path last ∙ h.is.ends in
        ap (λ d. count_head (cell_state (new g) d)) there
        ∙ ap count_head (at.off to.cell (drawn_off to.cell to_drawn))
        ∙ not_counted (cell_state (old g) to.cell) (λ w. true≢false (sym ((to_shows g).0 w) ∙ sym (ap lit same) ∙ no_tail))
    after_it c e (inr more) =
        let there : suc i + suc (rest - 1) ≡ n = omega (arith, place, more) in
        let same : g + suc (rest - 1) ≡ g + rest = omega (arith, more) in
        ap (λ d. count_head (cell_state (new g) d)) e
        ∙ wire_count g at (suc i) (rest - 1) there
        ∙ ap (λ b. cond b 1 0) (ap lit same ∙ no_tail)

    dark_at : (c : ℤ × ℤ) → c ≢ path i → (j : ℕ) → i ≤ j → j ≤ i + 2 → c ≡ path j → count_head (cell_state (new g) c) ≡ 0
    dark_at c away j low high e =
        elim (cases_eq j (suc i)) [
          | inl same ↦
              ap (λ d. count_head (cell_state (new g) d)) (e ∙ ap path same)
              ∙ wire_count g at i rest place
              ∙ ap (λ b. cond b 1 0) no_head
          | inr other ↦
              elim (cases_eq j i) [
                | inl same ↦ absurd (away (e ∙ ap path same))
                | inr further ↦ let beyond : j ≡ suc (suc i) = omega arith in after_it c (e ∙ ap path beyond) (cases_eq rest 0)
              ]
        ]

    dark : (c : ℤ × ℤ) → IsNear c (wire i) → c ≢ path i → count_head (cell_state (new g) c) ≡ 0
    dark c near away =
        elim (cases_Empty (cell_state after c)) [
          | inl none ↦ ap count_head (void i inside c near none g)
          | inr full ↦ let by = h.laid.alone i inside c near full in dark_at c away by.0 by.1 by.2 by.3
        ]

    before_it : (k : ℕ) → i ≡ k → count_head (cell_state (new g) (path i)) ≡ cond (lit (suc g + suc rest)) 1 0
    before_it zero e =
        let here : path i ≡ from.cell = ap path e ∙ h.is.begins in
        let time : g + suc n ≡ suc g + suc rest = omega (arith, place, e) in
        ap (λ c. count_head (cell_state (new g) c)) here
        ∙ ap count_head (at.off from.cell (drawn_off from.cell from_drawn))
        ∙ count_if (cell_state (old g) from.cell) (is_lit period from g) (from_shows g)
        ∙ ap (λ b. cond b 1 0) (sym (h.comes.later g) ∙ ap lit time)
    before_it (suc k) e =
        let there : k + suc (suc rest) ≡ n = omega (arith, place, e) in
        let time : g + suc (suc rest) ≡ suc g + suc rest = omega arith in
        ap (λ j. count_head (cell_state (new g) (path j))) e
        ∙ wire_count g at k (suc rest) there
        ∙ ap (λ b. cond b 1 0) (ap lit time)

    sees_one : heads_around (new g) (wire i).0 (wire i).1 ≡ cond (lit (suc g + suc rest)) 1 0
    sees_one =
        let apart : path i ≢ wire i = λ e. (let same : i ≡ suc i = h.is.along.once i (suc i) (omega (arith, inside)) (omega (arith, inside)) e in omega arith) in
        let around : heads_around (new g) (wire i).0 (wire i).1 ≡ 0 + count_head (cell_state (new g) (path i)) = one_more (new g) (λ x y. Empty) (wire i) (path i) (h.is.along.goes_on i (omega (arith, inside))) apart refl dark in
        let seen = before_it i refl in
        let alone : 0 + count_head (cell_state (new g) (path i)) ≡ count_head (cell_state (new g) (path i)) = omega arith in
        around ∙ alone ∙ seen

  wire_next : (g : ℕ) → IsAt g → (i rest : ℕ) → i + suc rest ≡ n → cell_state (new (suc g)) (wire i) ≡ state_by (lit (suc g + suc rest)) (lit (suc g + rest))
  wire_next g at i rest place =
      let long = h.long in
      let l : i < n = omega (arith, place) in
      let soon : (g + suc rest) + 1 ≡ suc g + suc rest = omega arith in
      let two : (g + rest) + 2 ≡ suc g + suc rest = omega arith in
      let same : g + suc rest ≡ suc g + rest = omega arith in
      ap₂ (λ b s. cond b Head s) (wire_not_due i l (suc g)) (ap (λ s. next_state s (heads_around (new g) (wire i).0 (wire i).1)) (at.on i rest place))
      ∙ wire_rule (lit (g + suc rest)) (lit (g + rest)) (lit (suc g + suc rest)) (heads_around (new g) (wire i).0 (wire i).1) (λ head. false_from_ne_true _ (λ e. not_soon period to (g + suc rest) 1 head (ap lit soon ∙ e) (omega arith) (omega (arith, long)))) (λ tail. false_from_ne_true _ (λ e. not_soon period to (g + rest) 2 tail (ap lit two ∙ e) (omega arith) (omega (arith, long)))) (λ no_head no_tail. sees_one g at i rest place no_head no_tail)
      ∙ ap (state_by (lit (suc g + suc rest))) (ap lit same)

  at_first : IsAt 0
  at_first =
      record {
        on = λ i rest place. (let l : i < n = omega (arith, place) in
            let head : suc rest ≡ 0 + suc rest = omega arith in
            let tail : rest ≡ 0 + rest = omega arith in
            ap₂ (λ b s. cond b Head s) (wire_not_due i l 0) (h.laid.states i rest place) ∙ ap₂ state_by (ap lit head) (ap lit tail));
        off = off_first;
      }
    where
      head_anyway : (b : Bool) (s : State) → s ≡ Head → cond b Head s ≡ Head
      head_anyway true s e = refl
      head_anyway false s e = e

      at_to : (lit 0 ≡ true) ⊎ (lit 0 ≡ false) → cell_state (new 0) to.cell ≡ cell_state (old 0) to.cell
      at_to (inl bright) =
          head_anyway (due_of_signals period ins 0 to.cell.0 to.cell.1) (cell_state after to.cell) (h.laid.end ∙ ap (λ b. if b then Head else cell_state before to.cell) bright)
          ∙ sym ((to_shows 0).1 bright)
      at_to (inr dark) =
          ap₂ (λ b s. cond b Head s) (sym (due_unlit 0 dark)) (h.laid.end ∙ ap (λ b. if b then Head else cell_state before to.cell) dark)

      off_first : (c : ℤ × ℤ) → IsOff n wire c → cell_state (new 0) c ≡ cell_state (old 0) c
      off_first c off =
          elim (cases_cell c to.cell) [
            | inl e ↦ subst (λ d. cell_state (new 0) d ≡ cell_state (old 0) d) (sym e) (at_to (cases_Bool (lit 0)))
            | inr d ↦ ap₂ (λ b s. cond b Head s) (sym (due_kept c d 0)) (h.others c (record { end = d; cells = off }))
          ]

  is_at : (g : ℕ) → IsAt g
  is_at zero = at_first
  is_at (suc g) =
      record {
        on = wire_next g (is_at g);
        off = λ c off. elim (cases_Empty (cell_state before c)) [
          | inl none ↦ off_empty (suc g) c off none
          | inr full ↦ off_drawn g (is_at g) c full
        ];
      }

  ready : (s : Signal) → Contains ins s → (g : ℕ) → is_lit period s (suc g) ≡ true → IsReady (new g) s.cell
  ready s among g bright =
      let full = ins_drawn s among in
      let is = h.run.ready s (input_more to s ins among) g bright in
      record {
        conductor = (is_at g).off s.cell (drawn_off s.cell full) ∙ is.conductor;
        alone = same_around g (is_at g) s.cell full (λ e. false_from_ne_true _ (λ on_way. (let f = first_lit g on_way in too_soon f.0 f.1 f.2 e))) (λ e. absurd (h.own s among e)) ∙ is.alone;
      }
    where
      too_soon : (k : ℕ) → g ≡ suc k → is_lit period from k ≡ true → s.cell ≡ from.cell → ⊥
      too_soon k now was e =
          let long = h.long in
          let time : suc g ≡ k + 2 = omega (arith, now) in
          let head : cell_state (old k) s.cell ≡ Head = ap (cell_state (old k)) e ∙ (from_shows k).1 was in
          not_soon period s k 2 ((h.run.shows s (Contains-append_left (to ∷ ins) outs s (input_more to s ins among)) k).0 head) (ap (is_lit period s) (sym time) ∙ bright) (omega arith) (omega (arith, long))

  pub carried : CarriesSignals period after ins outs
  carried =
      record {
        drawn = λ s among. (let full = h.run.drawn s (among_more to s ins outs among) in kept s.cell (drawn_off s.cell full) full);
        shows = λ s among g. (let full = h.run.drawn s (among_more to s ins outs among) in subst (λ t. (t ≡ Head) ↔ (is_lit period s g ≡ true)) (sym ((is_at g).off s.cell (drawn_off s.cell full))) (h.run.shows s (among_more to s ins outs among) g));
        ready = ready;
      }
