-- From a window of a gate's drawing to the plane.
use Rattle.std.proofs.Common.{ℤ, pos, negsuc, ℕ, zero, suc, ◌+◌, ◌-◌, ◌*◌, ◌/◌, ◌%◌, ◌<◌, ◌≤◌, ◌≡◌, refl, sym, ap, ap₂, ◌∙◌, subst, inl, inr, Bool, true, false, ◌&&◌, ◌==◌, List, [], ◌∷◌, length, map, get_or, take, lit<, arith, true≢false, cond}
use Rattle.std.specs.Prelude.{Contains, ◌≢◌, ◌⊎◌, ◌↔◌, Some, slice_get, All}
use Rattle.std.specs.List.{list_any}
use Rattle.std.proofs.lemmas.Bool.{cases_lt, and_parts, and_from, le-leb, eqb-true, eq-eqb, false_from_ne_true}
use Rattle.std.proofs.Math.Path.{fun_ext}
use Rattle.std.proofs.lemmas.Int.{ints}
use Rattle.std.proofs.lemmas.List.{length-map, get_or_past, get_or-map}
use Rattle.std.proofs.lemmas.List.Elements.{All-get_or}
use Rattle.std.proofs.lemmas.Nat.{mod-mul-add, div-mul-add}
use Rattle.std.proofs.lemmas.Option.{get_or_from_slice_get, slice_get_within}
use Rattle.lists.specs.Items.{flag_at, list_at}
use Rattle.lists.proofs.Members.{in_from, contains_from, in_mapped, got_from, passes_somewhere}
use Rattle.ww_rule.specs.declared.pattern.State.{State}
use Rattle.ww_rule.specs.declared.pattern.State.TheVariants.{Empty, Head, Conductor}
use Rattle.ww_rule.specs.Wireworld.{Plane, next_plane, injected}
use Rattle.ww_rule.proofs.Cells.{not_counted}
use Rattle.gate_laws.specs.Signals.{cell_state, IsReady}
use Rattle.gate_laws.specs.Wires.{IsNear}
use Rattle.gate_laws.specs.Rows.{Port}
use Rattle.gate_laws.proofs.Around.{as_many}
use Rattle.tile_timing.specs.Window.{shown}
use Rattle.tile_timing.proofs.Windows.{beside, at_place}
use Rattle.gate_laws.specs.declared.window.InCell.{InCell}
use Rattle.gate_laws.specs.declared.window.OutCell.{OutCell}
use Rattle.gate_laws.specs.declared.window.TheConstants.{CHOICES}
use Rattle.gate_laws.specs.Gates.{Gate, is_lit_input, used, IsCalmCell, AnswersInTime, IsGateDrawn, KeepsGateLaw}
use Rattle.gate_laws.specs.Drawings.{in_port_of, no_in, in_at, out_port_of, out_table, number_of_bits, window_gate, is_beside, IsCalmAt, IsDarkBeside, IsReadyInput, AreInputsReady, next_time, ArePortsInTime, IsInside, HasCells, IsSized}
use Rattle.gate_laws.proofs.Calm.{lit_in}
use Rattle.gate_laws.proofs.BitNumbers.{no_out}

-- a cell of the window: its column and its row
pub record InWindow (cells : List State) (width : ℕ) (c : ℤ × ℤ) : Type 0 where
  pub x : ℕ
  pub y : ℕ
  pub is : c ≡ (pos x, pos y)
  pub low : x < width
  pub within : y * width + x < length cells

-- a cell is in the window, or it is empty in all windows of this length
in_window : (cells : List State) (width : ℕ) (c : ℤ × ℤ) → InWindow cells width c ⊎ ((others : List State) → length others ≡ length cells → cell_state (shown others width) c ≡ Empty)
in_window cells width (pos x, pos y) =
    elim (cases_lt x width) [
      | inr off ↦ inr (λ others same. beside others width x y off)
      | inl low ↦
          elim (cases_lt (y * width + x) (length cells)) [
            | inl within ↦ inl (record { x = x; y = y; is = refl; low = low; within = within })
            | inr off ↦ inr (λ others same. at_place others width x y low ∙ get_or_past others (y * width + x) Empty (omega (arith, off, same)))
          ]
    ]
in_window cells width (pos x, negsuc y) = inr (λ others same. refl)
in_window cells width (negsuc x, y) = inr (λ others same. refl)

near_is_beside : (x y : ℕ) (cell : InCell) → IsNear (in_port_of cell).0 (pos x, pos y) → is_beside x y cell ≡ true
near_is_beside x y cell near =
    let west : x ≤ cell.x + 1 = omega (arith, ints, near.west) in
    let east : cell.x ≤ x + 1 = omega (arith, ints, near.east) in
    let north : y ≤ cell.y + 1 = omega (arith, ints, near.north) in
    let south : cell.y ≤ y + 1 = omega (arith, ints, near.south) in
    and_from _ _ (and_from _ _ (and_from _ _ (le-leb x (cell.x + 1) west) (le-leb cell.x (x + 1) east)) (le-leb y (cell.y + 1) north)) (le-leb cell.y (y + 1) south)

-- an input of the drawing, by its port
record IsEntry (ins : List InCell) (port : Port) : Type 0 where
  input : InCell
  number : ℕ
  has : slice_get ins number ≡ Some input
  within : number < length ins
  at : in_at ins number ≡ input
  is : port ≡ in_port_of input

entry_in : (ins : List InCell) (port : Port) → Contains (map in_port_of ins) port → IsEntry ins port
entry_in ins port among =
    let found = in_mapped in_port_of ins port (in_from (map in_port_of ins) port among) in
    let place = got_from ins found.0 found.1 in
    record {
      input = found.0;
      number = place.0;
      has = place.1;
      within = slice_get_within ins place.0 found.0 place.1;
      at = get_or_from_slice_get ins place.0 found.0 no_in place.1;
      is = found.2;
    }

each_entry : (P : InCell → Type 0) (ins : List InCell) → All P ins → (port : Port) (entry : IsEntry ins port) → P entry.input
each_entry P ins all port entry = subst P entry.at (All-get_or P ins entry.number no_in entry.within all)

pub early_from : (ins : List InCell) (time : ℕ) → All (λ (input : InCell). input.generation < time) ins → (port : Port) → Contains (map in_port_of ins) port → port.1 < time
early_from ins time all port among =
    let entry = entry_in ins port among in
    subst (λ (p : Port). p.1 < time) (sym entry.is) (each_entry (λ (input : InCell). input.generation < time) ins all port entry)

-- a lit cell is in the window
lit_inside : (from : List State) (width : ℕ) (ins : List InCell) (bits : List Bool) (g : ℕ) → All (IsInside (length from) width) ins → (c : ℤ × ℤ) → is_lit_input (map in_port_of ins) bits g c.0 c.1 ≡ true → InWindow from width c
lit_inside from width ins bits g inside c e =
    let found = lit_in (map in_port_of ins) bits g c e in
    let entry = entry_in ins found.0 (contains_from (map in_port_of ins) found.0 found.1) in
    let at = each_entry (IsInside (length from) width) ins inside found.0 entry in
    record { x = entry.input.x; y = entry.input.y; is = sym found.2 ∙ ap (λ (p : Port). p.0) entry.is; low = at.low; within = at.within }

module _ (from cells : List State) (width : ℕ) (ins : List InCell) (bits : List Bool) (g : ℕ) (same : length cells ≡ length from) (inside : All (IsInside (length from) width) ins) where
  abbrev lit : ℤ → ℤ → Bool
  lit = is_lit_input (map in_port_of ins) bits g

  abbrev IsLitAt : ℤ × ℤ → Type 0
  IsLitAt c = cell_state (shown cells width) c ≡ cond (lit c.0 c.1) Head (cell_state (shown from width) c)

  -- a window with inputs lit shows them in the plane
  pub shown_lit : ((k : ℕ) → k < length from → get_or cells k Empty ≡ cond (lit (pos (k % width)) (pos (k / width))) Head (get_or from k Empty)) → shown cells width ≡ injected (is_lit_input (map in_port_of ins) bits g) (shown from width)
  shown_lit each = fun_ext (λ x. fun_ext (λ y. at (x, y)))
    where
      placed : (c : ℤ × ℤ) → InWindow from width c → IsLitAt c
      placed c w =
          subst IsLitAt (sym w.is)
          (
          at_place cells width w.x w.y w.low
          ∙ each (w.y * width + w.x) w.within
          ∙ ap₂ (λ a b. cond (lit (pos a) (pos b)) Head (get_or from (w.y * width + w.x) Empty)) (mod-mul-add w.y width w.x w.low) (div-mul-add w.y width w.x w.low)
          ∙ ap (λ s. cond (lit (pos w.x) (pos w.y)) Head s) (sym (at_place from width w.x w.y w.low))
          )

      off : (c : ℤ × ℤ) → ((others : List State) → length others ≡ length from → cell_state (shown others width) c ≡ Empty) → (b : Bool) → lit c.0 c.1 ≡ b → IsLitAt c
      off c none true e = placed c (lit_inside from width ins bits g inside c e)
      off c none false e = none cells same ∙ sym (ap (λ b. cond b Head (cell_state (shown from width) c)) e ∙ none from refl)

      at : (c : ℤ × ℤ) → IsLitAt c
      at c = elim (in_window from width c) [ inl w ↦ placed c w | inr none ↦ off c none (lit c.0 c.1) refl ]

-- a ready input of the window is ready in the plane
is_ready : (now : List State) (width : ℕ) (input : InCell) → IsReadyInput now width input → IsReady (shown now width) (in_port_of input).0
is_ready now width input ready = record {
  conductor = ready.conduct;
  alone = as_many (shown now width) (λ x y. Empty) (in_port_of input).0 (λ d near. not_counted (cell_state (shown now width) d) (dark d near));
}
  where
    head_is_drawn : Head ≡ Empty → ⊥
    head_is_drawn e = grind arith

    near_back : (c d : ℤ × ℤ) → IsNear c d → IsNear d c
    near_back c d near = record { west = omega (arith, ints, near.west, near.east); east = omega (arith, ints, near.west, near.east); north = omega (arith, ints, near.north, near.south); south = omega (arith, ints, near.north, near.south) }

    from_place : (d : ℤ × ℤ) → IsNear d (in_port_of input).0 → (x y : ℕ) → x < width → d ≡ (pos x, pos y) → IsDarkBeside now width input (y * width + x) → cell_state (shown now width) d ≢ Head
    from_place d near x y low is (inl other) head = other (sym (ap (cell_state (shown now width)) is ∙ at_place now width x y low) ∙ head)
    from_place d near x y low is (inr none) head =
        let beside_it : is_beside x y input ≡ true = near_is_beside x y input (subst (IsNear (in_port_of input).0) is (near_back d (in_port_of input).0 near)) in
        true≢false (sym beside_it ∙ ap₂ (λ a b. is_beside a b input) (sym (mod-mul-add y width x low)) (sym (div-mul-add y width x low)) ∙ none)

    dark : (d : ℤ × ℤ) → IsNear d (in_port_of input).0 → cell_state (shown now width) d ≢ Head
    dark d near =
        elim (in_window now width d) [
          | inr none ↦ λ head. head_is_drawn (sym head ∙ none now refl)
          | inl at ↦ from_place d near at.x at.y at.low at.is (ready.alone (at.y * width + at.x) at.within)
        ]

module _ (width : ℕ) (ins : List InCell) where
  -- what is beside no input by the test is beside none
  none_beside : (x y : ℕ) → list_any (is_beside x y) ins ≡ false → (input : Port) → Contains (map in_port_of ins) input → IsNear input.0 (pos x, pos y) → ⊥
  none_beside x y none input among near =
      let found = in_mapped in_port_of ins input (in_from (map in_port_of ins) input among) in
      let beside_it : is_beside x y found.0 ≡ true = near_is_beside x y found.0 (subst (λ (p : Port). IsNear p.0 (pos x, pos y)) found.2 near) in
      true≢false (sym (passes_somewhere (is_beside x y) ins found.0 (contains_from ins found.0 found.1) beside_it) ∙ none)

  place_is : (x y : ℕ) → x < width → list_any (is_beside ((y * width + x) % width) ((y * width + x) / width)) ins ≡ false → list_any (is_beside x y) ins ≡ false
  place_is x y low none = ap₂ (λ a b. list_any (is_beside a b) ins) (sym (mod-mul-add y width x low)) (sym (div-mul-add y width x low)) ∙ none

  module _ (base now : List State) (same : length now ≡ length base) where
    pub calm_from : ((k : ℕ) → k < length base → IsCalmAt base now width ins k) → (outs : List OutCell) (time : ℕ) (c : ℤ × ℤ) → IsCalmCell (window_gate base width ins outs time) (shown now width) c
    calm_from calm outs time c =
        elim (in_window base width c) [
          | inr none ↦ inl (none now same ∙ sym (none base refl))
          | inl at ↦ from_place at.x at.y at.low at.is (calm (at.y * width + at.x) at.within)
        ]
      where
        from_place : (x y : ℕ) → x < width → c ≡ (pos x, pos y) → IsCalmAt base now width ins (y * width + x) → IsCalmCell (window_gate base width ins outs time) (shown now width) c
        from_place x y low is (inl e) =
            inl (ap (cell_state (shown now width)) is ∙ at_place now width x y low ∙ e ∙ sym (ap (cell_state (shown base width)) is ∙ at_place base width x y low))
        from_place x y low is (inr (tail, there, none)) =
            inr (
              ap (cell_state (shown now width)) is ∙ at_place now width x y low ∙ tail,
              ap (cell_state (shown base width)) is ∙ at_place base width x y low ∙ there,
              λ b. none_beside x y (place_is x y low none) b.0 b.1 (subst (IsNear b.0.0) is b.2),
            )

  pub ready_from : (now : List State) (generation : ℕ) → AreInputsReady now width ins generation → (port : Port) → Contains (map in_port_of ins) port → port.1 ≡ generation → IsReady (shown now width) port.0
  ready_from now generation ready port among at =
      let entry = entry_in ins port among in
      let time : (in_at ins entry.number).generation ≡ generation = ap (λ (input : InCell). input.generation) entry.at ∙ sym (ap (λ (p : Port). p.1) entry.is) ∙ at in
      subst (λ (p : Port). IsReady (shown now width) p.0) (sym entry.is) (is_ready now width entry.input (subst (IsReadyInput now width) entry.at (ready entry.number entry.within time)))

-- a port that is in time at each generation shows its bit once
once_from : (g delay : ℕ) (bit : Bool) (head : Type 0) → head ↔ ((g == delay && bit) ≡ true) → head ↔ ((g ≡ delay) × (bit ≡ true))
once_from g delay bit head is = (
  λ h. (let parts = and_parts (g == delay) bit (is.0 h) in (eqb-true g delay parts.0, parts.1)),
  λ at. is.1 (and_from (g == delay) bit (eq-eqb g delay at.0) at.1),
)

-- before the gate's time the next generation is one later, and then it is 0
next_before : (time g : ℕ) → suc g < time → next_time time g ≡ suc g
next_before time g low =
    let other : (g + 1 == time) ≡ false = false_from_ne_true _ (λ e. let same : g + 1 ≡ time = eqb-true (g + 1) time e in omega (arith, same, low)) in
    let more : g + 1 ≡ suc g = omega arith in
    ap (λ b. cond b 0 (g + 1)) other ∙ more

next_last : (time g : ℕ) → suc g ≡ time → next_time time g ≡ 0
next_last time g same = ap (λ b. cond b 0 (g + 1)) (eq-eqb (g + 1) time (omega (arith, same)))

module _ (base : List State) (width : ℕ) (ins : List InCell) (outs : List OutCell) (time : ℕ) (bits : List Bool) where
  abbrev gate : Gate
  gate = window_gate base width ins outs time

  -- what the run of a window shows is what the law asks
  pub answers_from : 3 ≤ time → ((port : Port) → Contains (map in_port_of ins) port → port.1 < time) → ((g : ℕ) → g < time → ArePortsInTime (used gate bits g) ins bits outs g) → ((g : ℕ) → g < time → (port : Port) → Contains (map in_port_of ins) port → port.1 ≡ next_time time g → IsReady (used gate bits g) port.0) → ((c : ℤ × ℤ) → IsCalmCell gate (used gate bits time) c) → AnswersInTime gate bits
  answers_from long early in_time ready calm = record {
    ins = λ i port bit has is g low. (let input = entry_at i port has in
        let bit_is : flag_at bits i ≡ bit = get_or_from_slice_get bits i bit false is in
        subst (λ (p : Port). (cell_state (used gate bits g) p.0 ≡ Head) ↔ ((g ≡ p.1) × (bit ≡ true))) input.1
        (subst (λ b. (cell_state (used gate bits g) (in_port_of (in_at ins i)).0 ≡ Head) ↔ ((g ≡ (in_at ins i).generation) × (b ≡ true))) bit_is
        (once_from g (in_at ins i).generation (flag_at bits i) _ ((in_time g low).ins_are i input.0))));
    outs = λ o port has g low. (let out = out_at o port has in
        let item = All-get_or (λ (out : OutCell). (used gate bits g (pos out.x) (pos out.y) ≡ Head) ↔ ((g == out.delay && flag_at out.table (number_of_bits bits)) ≡ true)) outs o no_out out.0 (in_time g low).outs_are in
        let table : list_at (map out_table outs) o ≡ out_table (get_or outs o no_out) = get_or-map out_table outs o no_out [] out.0 in
        subst (λ (p : Port). (cell_state (used gate bits g) p.0 ≡ Head) ↔ ((g ≡ p.1) × (flag_at (list_at (map out_table outs) o) (number_of_bits bits) ≡ true))) out.1
        (subst (λ t. (cell_state (used gate bits g) (out_port_of (get_or outs o no_out)).0 ≡ Head) ↔ ((g ≡ (out_port_of (get_or outs o no_out)).1) × (flag_at t (number_of_bits bits) ≡ true))) (sym table)
        (once_from g (get_or outs o no_out).delay (flag_at (get_or outs o no_out).table (number_of_bits bits)) _ item)));
    ready = λ port among g at. (let low : suc g < time = omega (arith, at, early port among) in ready g (omega (arith, low)) port among (at ∙ sym (next_before time g low)));
    ready_again = λ port among at. (let last : suc (time - 1) ≡ time = omega (arith, long) in ready (time - 1) (omega (arith, long)) port among (at ∙ sym (next_last time (time - 1) last)));
    calm = calm;
  }
    where
      entry_at : (i : ℕ) (port : Port) → slice_get (map in_port_of ins) i ≡ Some port → (i < length ins) × (in_port_of (in_at ins i) ≡ port)
      entry_at i port has =
          let low : i < length (map in_port_of ins) = slice_get_within (map in_port_of ins) i port has in
          let within : i < length ins = omega (arith, low, length-map ins in_port_of) in
          (within, sym (get_or-map in_port_of ins i no_in port within) ∙ get_or_from_slice_get (map in_port_of ins) i port port has)

      out_at : (o : ℕ) (port : Port) → slice_get (map out_port_of outs) o ≡ Some port → (o < length outs) × (out_port_of (get_or outs o no_out) ≡ port)
      out_at o port has =
          let low : o < length (map out_port_of outs) = slice_get_within (map out_port_of outs) o port has in
          let within : o < length outs = omega (arith, low, length-map outs out_port_of) in
          (within, sym (get_or-map out_port_of outs o no_out port within) ∙ get_or_from_slice_get (map out_port_of outs) o port port has)

pub used_more : (gate : Gate) (bits : List Bool) (n : ℕ) (p q r : Plane) → p ≡ used gate bits n → q ≡ next_plane p → r ≡ injected (is_lit_input gate.ins bits (n + 1)) q → r ≡ used gate bits (n + 1)
used_more gate bits n p q r e f h =
    let more : suc n ≡ n + 1 = omega arith in
    h
    ∙ ap (injected (is_lit_input gate.ins bits (n + 1))) (f ∙ ap next_plane e)
    ∙ subst (λ k. injected (is_lit_input gate.ins bits k) (next_plane (used gate bits n)) ≡ used gate bits k) more refl

-- bits of up to three inputs are one of eight choices
pub choice_of : (P : List Bool → Type 0) (n : ℕ) → n ≤ 3 → ((k : ℕ) → k < 8 → P (take n (get_or CHOICES k []))) → (bits : List Bool) → length bits ≡ n → P bits
choice_of P zero few each [] e = each 0 (lit< tt)
choice_of P zero few each (a ∷ bits) e = absurd (omega (arith, e))
choice_of P (suc zero) few each (false ∷ []) e = each 0 (lit< tt)
choice_of P (suc zero) few each (true ∷ []) e = each 1 (lit< tt)
choice_of P (suc zero) few each [] e = absurd (omega (arith, e))
choice_of P (suc zero) few each (a ∷ b ∷ bits) e = absurd (omega (arith, e))
choice_of P (suc (suc zero)) few each (false ∷ false ∷ []) e = each 0 (lit< tt)
choice_of P (suc (suc zero)) few each (true ∷ false ∷ []) e = each 1 (lit< tt)
choice_of P (suc (suc zero)) few each (false ∷ true ∷ []) e = each 2 (lit< tt)
choice_of P (suc (suc zero)) few each (true ∷ true ∷ []) e = each 3 (lit< tt)
choice_of P (suc (suc zero)) few each [] e = absurd (omega (arith, e))
choice_of P (suc (suc zero)) few each (a ∷ []) e = absurd (omega (arith, e))
choice_of P (suc (suc zero)) few each (a ∷ b ∷ c ∷ bits) e = absurd (omega (arith, e))
choice_of P (suc (suc (suc zero))) few each (false ∷ false ∷ false ∷ []) e = each 0 (lit< tt)
choice_of P (suc (suc (suc zero))) few each (true ∷ false ∷ false ∷ []) e = each 1 (lit< tt)
choice_of P (suc (suc (suc zero))) few each (false ∷ true ∷ false ∷ []) e = each 2 (lit< tt)
choice_of P (suc (suc (suc zero))) few each (true ∷ true ∷ false ∷ []) e = each 3 (lit< tt)
choice_of P (suc (suc (suc zero))) few each (false ∷ false ∷ true ∷ []) e = each 4 (lit< tt)
choice_of P (suc (suc (suc zero))) few each (true ∷ false ∷ true ∷ []) e = each 5 (lit< tt)
choice_of P (suc (suc (suc zero))) few each (false ∷ true ∷ true ∷ []) e = each 6 (lit< tt)
choice_of P (suc (suc (suc zero))) few each (true ∷ true ∷ true ∷ []) e = each 7 (lit< tt)
choice_of P (suc (suc (suc zero))) few each [] e = absurd (omega (arith, e))
choice_of P (suc (suc (suc zero))) few each (a ∷ []) e = absurd (omega (arith, e))
choice_of P (suc (suc (suc zero))) few each (a ∷ b ∷ []) e = absurd (omega (arith, e))
choice_of P (suc (suc (suc zero))) few each (a ∷ b ∷ c ∷ d ∷ bits) e = absurd (omega (arith, e))
choice_of P (suc (suc (suc (suc n)))) few each bits e = absurd (omega (arith, few))

-- a drawing with the law's cells is one of a gate
pub drawn_from : (cells : List State) (width : ℕ) (ins : List InCell) (outs : List OutCell) (time : ℕ) → IsSized cells width ins time → HasCells cells width ins outs time → IsGateDrawn (window_gate cells width ins outs time)
drawn_from cells width ins outs time sized has =
    record {
      long = sized.long;
      cells = λ c. elim (in_window cells width c) [
        | inr none ↦ inl (none cells refl)
        | inl at ↦
            subst (λ s. (s ≡ Empty) ⊎ (s ≡ Conductor)) (sym (ap (cell_state (shown cells width)) at.is ∙ at_place cells width at.x at.y at.low))
            (All-get_or (λ cell. (cell ≡ Empty) ⊎ (cell ≡ Conductor)) cells (at.y * width + at.x) Empty at.within has.unlit)
      ];
      ins = λ port among. (
          let entry = entry_in ins port among in
          let there = subst (λ (input : InCell). cell_state (shown cells width) (in_port_of input).0 ≡ Conductor) entry.at (has.inputs entry.number entry.within) in
          (subst (λ (p : Port). cell_state (shown cells width) p.0 ≡ Conductor) (sym entry.is) there, early_from ins time has.early port among));
      outs = λ port among. (
          let found = in_mapped out_port_of outs port (in_from (map out_port_of outs) port among) in
          let place = got_from outs found.0 found.1 in
          let item = All-get_or (λ (out : OutCell). (shown cells width (pos out.x) (pos out.y) ≡ Conductor) × (out.delay < time)) outs place.0 found.0 (slice_get_within outs place.0 found.0 place.1) has.outputs in
          let same : get_or outs place.0 found.0 ≡ found.0 = get_or_from_slice_get outs place.0 found.0 found.0 place.1 in
          subst (λ (p : Port). (cell_state (shown cells width) p.0 ≡ Conductor) × (p.1 < time)) (sym found.2)
          (subst (λ (out : OutCell). (shown cells width (pos out.x) (pos out.y) ≡ Conductor) × (out.delay < time)) same item));
    }

-- and if it answers all bits in time, it keeps the law
pub law_from : (cells : List State) (width : ℕ) (ins : List InCell) (outs : List OutCell) (time : ℕ) → IsSized cells width ins time → HasCells cells width ins outs time → ((bits : List Bool) → length bits ≡ length ins → AnswersInTime (window_gate cells width ins outs time) bits) → KeepsGateLaw (window_gate cells width ins outs time)
law_from cells width ins outs time sized has answers =
    record { drawn = drawn_from cells width ins outs time sized has; answers = λ bits long. answers bits (long ∙ length-map ins in_port_of) }
