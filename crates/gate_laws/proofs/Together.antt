-- Wires that are laid together.
use Rattle.std.proofs.Common.{ℤ, ℕ, suc, ◌<◌, ◌≤◌, ◌≡◌, refl, sym, ap, ◌∙◌, subst, inl, inr, Bool, true, false, List, [], ◌∷◌, ◌++◌, map, arith}
use Rattle.std.specs.Prelude.{Contains, ◌≢◌, ◌⊎◌, ◌↔◌, if◌then◌else◌}
use Rattle.std.proofs.Math.Path.{fun_ext}
use Rattle.std.proofs.lemmas.List.Elements.{Contains-append_left}
use Rattle.lists.proofs.Members.{In, in_from, contains_from, in_left, in_right, in_parts, in_map}
use Rattle.ww_rule.specs.declared.pattern.State.{State}
use Rattle.ww_rule.specs.declared.pattern.State.TheVariants.{Empty, Head}
use Rattle.ww_rule.specs.Wireworld.{Plane}
use Rattle.gate_laws.specs.Signals.{Signal, cell_state, is_lit, CarriesSignals}
use Rattle.gate_laws.specs.Wires.{Wire, IsLaid, ShareNoCell, IsAwayFrom, HasWires}
use Rattle.gate_laws.specs.Laws.{WiresFeed}
use Rattle.gate_laws.proofs.Dues.{cases_cell, Head≢Empty}
use Rattle.gate_laws.proofs.Wire.{IsOn, IsOff, on_or_off}
use Rattle.gate_laws.proofs.Order.{order_is_free}
use Rattle.gate_laws.proofs.Feed.{among_more, IsFed, carried}

at_head : {X : Type 0} (x : X) (xs : List X) → Contains (x ∷ xs) x
at_head x xs = contains_from (x ∷ xs) x (inl refl)

in_tail : {X : Type 0} (x : X) (xs : List X) (y : X) → Contains xs y → Contains (x ∷ xs) y
in_tail x xs y among = contains_from (x ∷ xs) y (inr (in_from xs y among))

-- the input that a wire feeds may stand before the other inputs
moved_input : (x : Signal) (xs ys : List Signal) (s : Signal) → In s ((x ∷ xs) ++ ys) → In s (xs ++ x ∷ ys)
moved_input x xs ys s (inl e) = in_right xs (x ∷ ys) s (inl e)
moved_input x xs ys s (inr i) = elim (in_parts xs ys s i) [ inl a ↦ in_left xs (x ∷ ys) s a | inr b ↦ in_right xs (x ∷ ys) s (inr b) ]

moved_back : (x : Signal) (xs ys : List Signal) (s : Signal) → In s (xs ++ x ∷ ys) → In s ((x ∷ xs) ++ ys)
moved_back x xs ys s i =
    elim (in_parts xs (x ∷ ys) s i) [
      | inl a ↦ inr (in_left xs ys s a)
      | inr b ↦ later b
    ]
  where
    later : In s (x ∷ ys) → In s ((x ∷ xs) ++ ys)
    later (inl e) = inl e
    later (inr j) = inr (in_right xs ys s j)

-- the plane with all wires but one
abbrev pick : {A B C D : Type 0} → State → State → A ⊎ B → C ⊎ D → State
pick before after (inl on) end = Empty
pick before after (inr off) (inl here) = before
pick before after (inr off) (inr other) = after

abbrev wire_cells : Wire → ℕ → ℤ × ℤ
wire_cells wire i = wire.path (suc i)

abbrev without : Wire → Plane → Plane → Plane
without wire before after x y =
    pick (before x y) (after x y) (on_or_off wire.size (wire_cells wire) (x, y)) (cases_cell (x, y) wire.to.cell)

module _ (wire : Wire) (before after : Plane) (c : ℤ × ℤ) where
  on_it : IsOn wire.size (wire_cells wire) c → cell_state (without wire before after) c ≡ Empty
  on_it on = go (on_or_off wire.size (wire_cells wire) c) (cases_cell c wire.to.cell)
    where
      go : (d : IsOn wire.size (wire_cells wire) c ⊎ IsOff wire.size (wire_cells wire) c) (e : (c ≡ wire.to.cell) ⊎ (c ≢ wire.to.cell)) → pick (cell_state before c) (cell_state after c) d e ≡ Empty
      go (inl also) e = refl
      go (inr off) e = absurd (off on.0 on.1 on.2)

  at_end : IsOff wire.size (wire_cells wire) c → c ≡ wire.to.cell → cell_state (without wire before after) c ≡ cell_state before c
  at_end off here = go (on_or_off wire.size (wire_cells wire) c) (cases_cell c wire.to.cell)
    where
      go : (d : IsOn wire.size (wire_cells wire) c ⊎ IsOff wire.size (wire_cells wire) c) (e : (c ≡ wire.to.cell) ⊎ (c ≢ wire.to.cell)) → pick (cell_state before c) (cell_state after c) d e ≡ cell_state before c
      go (inl on) e = absurd (off on.0 on.1 on.2)
      go (inr also) (inl e) = refl
      go (inr also) (inr e) = absurd (e here)

  elsewhere : IsOff wire.size (wire_cells wire) c → c ≢ wire.to.cell → cell_state (without wire before after) c ≡ cell_state after c
  elsewhere off away = go (on_or_off wire.size (wire_cells wire) c) (cases_cell c wire.to.cell)
    where
      go : (d : IsOn wire.size (wire_cells wire) c ⊎ IsOff wire.size (wire_cells wire) c) (e : (c ≡ wire.to.cell) ⊎ (c ≢ wire.to.cell)) → pick (cell_state before c) (cell_state after c) d e ≡ cell_state after c
      go (inl on) e = absurd (off on.0 on.1 on.2)
      go (inr also) (inl e) = absurd (away e)
      go (inr also) (inr e) = refl

module _ (period : ℕ) (wire : Wire) (wires : List Wire) (ins outs : List Signal) (before after : Plane) (h : HasWires period (wire ∷ wires) ins outs before after) (run : CarriesSignals period before (map (λ w. w.to) (wire ∷ wires) ++ ins) outs) where
  abbrev mid : Plane
  mid = without wire before after

  laid : (w : Wire) → Contains (wire ∷ wires) w → IsLaid period w before after
  laid w among = h.drawn.laid w among

  -- the inputs that are fed are drawn
  fed_drawn : (w : Wire) → Contains (wire ∷ wires) w → cell_state before w.to.cell ≢ Empty
  fed_drawn w among =
      run.drawn w.to (Contains-append_left (map (λ w. w.to) (wire ∷ wires) ++ ins) outs w.to (Contains-append_left (map (λ w. w.to) (wire ∷ wires)) ins w.to (contains_from (map (λ w. w.to) (wire ∷ wires)) w.to (in_map (λ w. w.to) (wire ∷ wires) w (in_from (wire ∷ wires) w among)))))

  -- what is drawn is not on the wire
  drawn_off : (c : ℤ × ℤ) → cell_state before c ≢ Empty → IsOff wire.size (wire_cells wire) c
  drawn_off c full i l e = full (ap (cell_state before) e ∙ (laid wire (at_head wire wires)).free i l)

  end_kept : cell_state after wire.to.cell ≢ Empty
  end_kept w = either (is_lit period wire.to 0) (sym (laid wire (at_head wire wires)).end ∙ w)
    where
      either : (b : Bool) → (if b then Head else cell_state before wire.to.cell) ≡ Empty → ⊥
      either true w = Head≢Empty w
      either false w = fed_drawn wire (at_head wire wires) w

  -- what is drawn without the wire is drawn with it
  drawn_after : (c : ℤ × ℤ) → cell_state mid c ≢ Empty → cell_state after c ≢ Empty
  drawn_after c full none =
      elim (on_or_off wire.size (wire_cells wire) c) [
        | inl on ↦ full (on_it wire before after c on)
        | inr off ↦
            elim (cases_cell c wire.to.cell) [
              | inl e ↦ end_kept (sym (ap (cell_state after) e) ∙ none)
              | inr d ↦ full (elsewhere wire before after c off d ∙ none)
            ]
      ]

  module _ (w : Wire) (among : Contains wires w) where
    its : IsLaid period w before after
    its = laid w (in_tail wire wires w among)

    apart : ShareNoCell wire w
    apart = h.drawn.apart.0 w among

    its_cell : (i : ℕ) → i < w.size → cell_state mid (w.path (suc i)) ≡ cell_state after (w.path (suc i))
    its_cell i l =
        elsewhere wire before after (w.path (suc i)) (λ j k e. apart.cells j i k l (sym e)) (λ e. fed_drawn wire (at_head wire wires) (ap (cell_state before) (sym e) ∙ its.free i l))

    its_end : cell_state mid w.to.cell ≡ cell_state after w.to.cell
    its_end =
        elsewhere wire before after w.to.cell (drawn_off w.to.cell (fed_drawn w (in_tail wire wires w among))) (λ e. apart.ends (sym e))

    still_laid : IsLaid period w before mid
    still_laid =
        record {
          free = its.free;
          states = λ i rest place. its_cell i (omega (arith, place)) ∙ its.states i rest place;
          alone = λ i l cell near full. its.alone i l cell near (drawn_after cell full);
          end = its_end ∙ its.end;
        }

  others : (c : ℤ × ℤ) → ((w : Wire) → Contains wires w → IsAwayFrom w c) → cell_state mid c ≡ cell_state before c
  others c away =
      elim (on_or_off wire.size (wire_cells wire) c) [
        | inl on ↦ on_it wire before after c on ∙ sym (ap (cell_state before) on.2 ∙ (laid wire (at_head wire wires)).free on.0 on.1)
        | inr off ↦
            elim (cases_cell c wire.to.cell) [
              | inl e ↦ at_end wire before after c off e
              | inr d ↦ elsewhere wire before after c off d ∙ h.drawn.others c (λ w among. from_all w (in_from (wire ∷ wires) w among) off d)
            ]
      ]
    where
      from_all : (w : Wire) → In w (wire ∷ wires) → IsOff wire.size (wire_cells wire) c → c ≢ wire.to.cell → IsAwayFrom w c
      from_all w (inl e) off d = subst (λ w. IsAwayFrom w c) (sym e) (record { end = d; cells = off })
      from_all w (inr i) off d = away w (contains_from wires w i)

  owned : (w : Wire) (s : Signal) → Contains wires w → In s (wire.to ∷ ins) → s.cell ≢ w.to.cell
  owned w s among (inl e) = λ same. (h.drawn.apart.0 w among).ends (ap (λ s. s.cell) (sym e) ∙ same)
  owned w s among (inr i) = h.drawn.own w s (in_tail wire wires w among) (contains_from ins s i)

  rest : HasWires period wires (wire.to ∷ ins) outs before mid
  rest =
      record {
        drawn = record {
          each = λ w among. h.drawn.each w (in_tail wire wires w among);
          own = λ w s among is. owned w s among (in_from (wire.to ∷ ins) s is);
          apart = h.drawn.apart.1;
          laid = still_laid;
          others = others;
        };
        sources = λ w among. among_more wire.to w.from ins outs (h.sources w (in_tail wire wires w among));
        come = λ w among. h.come w (in_tail wire wires w among);
      }

  abbrev all_ins : List Signal
  all_ins = map (λ w. w.to) (wire ∷ wires) ++ ins

  abbrev moved_ins : List Signal
  moved_ins = map (λ w. w.to) wires ++ wire.to ∷ ins

  -- the wire's input stands with those that are left
  reordered : CarriesSignals period before moved_ins outs
  reordered = order_is_free period before all_ins outs moved_ins outs same all_outs run
    where
      same : (s : Signal) → Contains all_ins s ↔ Contains moved_ins s
      same s = (
        λ among. contains_from moved_ins s (moved_input wire.to (map (λ w. w.to) wires) ins s (in_from all_ins s among)),
        λ among. contains_from all_ins s (moved_back wire.to (map (λ w. w.to) wires) ins s (in_from moved_ins s among)),
      )

      all_outs : (s : Signal) → Contains outs s → Contains (all_ins ++ outs) s
      all_outs s among = contains_from (all_ins ++ outs) s (in_right all_ins outs s (in_from outs s among))

  one : 3 ≤ period → CarriesSignals period mid (wire.to ∷ ins) outs → IsFed period wire ins outs mid after
  one long carries =
      record {
        long = long;
        run = carries;
        own = λ s among. h.drawn.own wire s (at_head wire wires) among;
        source = h.sources wire (at_head wire wires);
        is = h.drawn.each wire (at_head wire wires);
        comes = h.come wire (at_head wire wires);
        laid = record {
          free = λ i l. on_it wire before after (wire.path (suc i)) (i, l, refl);
          states = (laid wire (at_head wire wires)).states;
          alone = (laid wire (at_head wire wires)).alone;
          end = (laid wire (at_head wire wires)).end ∙ ap (λ s. if is_lit period wire.to 0 then Head else s) (sym (at_end wire before after wire.to.cell (drawn_off wire.to.cell (fed_drawn wire (at_head wire wires))) refl));
        };
        others = λ c away. sym (elsewhere wire before after c away.cells away.end);
      }

pub wires_feed : WiresFeed
wires_feed period long [] ins outs before after h run =
    let same : before ≡ after = fun_ext (λ x. fun_ext (λ y. sym (h.drawn.others (x, y) (λ w among. absurd (in_from [] w among))))) in
    subst (λ p. CarriesSignals period p ins outs) same run
wires_feed period long (wire ∷ wires) ins outs before after h run =
    carried period wire ins outs (without wire before after) after (one period wire wires ins outs before after h run long (wires_feed period long wires (wire.to ∷ ins) outs before (without wire before after) (rest period wire wires ins outs before after h run) (reordered period wire wires ins outs before after h run)))
