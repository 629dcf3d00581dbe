-- Two latches whose controls a pin joins.
use Rattle.std.proofs.Common.{ℕ, zero, suc, ◌≡◌, [], ◌∷◌, ◌++◌, Some, slice_get, Contains, codes, refl, sym, ap, ◌∙◌, subst, arith}
use Rattle.std.proofs.lemmas.Option.{none-some, same_Some}
use Rattle.netlist_core.specs.declared.model.Model.{Model}
use Rattle.netlist_core.specs.declared.model.LatchRow.{LatchRow}
use Rattle.netlist_core.specs.declared.model.Subckt.{Subckt}
use Rattle.netlist_core.specs.declared.model.Pin.{Pin}
use Rattle.netlist_core.specs.Names.{Name}
use Rattle.netlist_meaning.specs.Places.{Place, model_at, latch_at}
use Rattle.netlist_meaning.specs.Nets.{Net, net_at, IsPinned, Joined, by_pin, itself, reversed, followed, IsControl, none, kept, left_out}
use Rattle.netlist_meaning.specs.Roots.{root}
use Rattle.netlist_rules.specs.Clocks.{PlacedLatch, IsPlacedLatch, HasSameControl, HasSameClock}
use Rattle.netlist_core.specs.declared.model.Trigger.TheVariants.{Rise}
use Rattle.netlist_examples.specs.Parts.{pin_with}
use Rattle.netlist_examples.specs.Designs.{shared_line, shared_main, shared_inner, shared_design}
use Rattle.netlist_examples.specs.Instances.{HasSharedClock}
use Rattle.lists.proofs.Names.{apart_by}
use Rattle.netlist_meaning.proofs.Names.{and_then-from}
use Rattle.netlist_examples.proofs.Adder.{each-contains}
use Rattle.netlist_meaning.proofs.Joined.{joined_gives}

-- the design's places
data IsAt : Place → Model → Type 0 where
  at_main : IsAt [] shared_main
  at_inner : IsAt (0 ∷ []) shared_inner

is_at : (place : Place) (model : Model) → model_at shared_design place ≡ Some model → IsAt place model
is_at [] model h = subst (IsAt []) (same_Some _ _ h) at_main
is_at (zero ∷ []) model h = subst (IsAt (0 ∷ [])) (same_Some _ _ h) at_inner
is_at (zero ∷ (number ∷ place)) model h = absurd (none-some model h)
is_at (suc n ∷ place) model h = absurd (none-some model h)

-- the two controls are joined
clock_pin : Joined shared_design (net_at [] (codes "clk")) (net_at (0 ∷ []) (codes "k"))
clock_pin =
    by_pin (record {
      model = shared_main;
      line = shared_line;
      pin = pin_with (codes "k") (codes "clk");
      number = 0;
      has_model = refl;
      has_line = refl;
      has_pin = (1, omega arith, refl);
      is_actual = refl;
      is_deeper = refl;
      is_formal = refl;
    })

-- each latch has the type and a control that is joined with the main model's
latch_is : (place : Place) (number : ℕ) (latch : LatchRow) → latch_at shared_design place number ≡ Some latch
    → (control : Name) × (latch.kind ≡ Some Rise) × (latch.control ≡ Some control) × Joined shared_design (net_at [] (codes "clk")) (net_at place control)
latch_is place number latch h =
    let (model, is_model, is_latch) = and_then-from (λ m. slice_get m.latches number) (model_at shared_design place) latch h in
    there place model number (is_at place model is_model) is_latch
  where
    there : (place : Place) (model : Model) (number : ℕ) → IsAt place model → slice_get model.latches number ≡ Some latch
        → (control : Name) × (latch.kind ≡ Some Rise) × (latch.control ≡ Some control) × Joined shared_design (net_at [] (codes "clk")) (net_at place control)
    there place model zero at_main e = let same = same_Some _ latch e in (codes "clk", ap (λ l. l.kind) (sym same), ap (λ l. l.control) (sym same), itself)
    there place model (suc number) at_main e = absurd (none-some latch e)
    there place model zero at_inner e = let same = same_Some _ latch e in (codes "k", ap (λ l. l.kind) (sym same), ap (λ l. l.control) (sym same), clock_pin)
    there place model (suc number) at_inner e = absurd (none-some latch e)

same_clock : (a b : PlacedLatch) → IsPlacedLatch shared_design a → IsPlacedLatch shared_design b → HasSameClock shared_design a b
same_clock a b has_a has_b =
    let (c, kind, control, joined) = latch_is a.place a.number a.latch has_a in
    let (c', kind', control', joined') = latch_is b.place b.number b.latch has_b in
    record {
      same_type = kind ∙ sym kind';
      same_control = subst (λ o. HasSameControl shared_design a.place o b.place b.latch.control) (sym control)
          (subst (λ o. HasSameControl shared_design a.place (Some c) b.place o) (sym control') (followed (reversed joined) joined'));
    }

-- joined nets have one root here
same_root : (outer inner : Net) → IsPinned shared_design outer inner → root shared_design outer ≡ root shared_design inner
same_root outer inner h =
    ap (λ name. root shared_design (net_at outer.place name)) h.is_actual
    ∙ there outer.place h.model h.number h.line h.pin (is_at outer.place h.model h.has_model) h.has_line h.has_pin
    ∙ sym (ap (λ place. root shared_design (net_at place inner.name)) h.is_deeper ∙ ap (λ name. root shared_design (net_at (outer.place ++ h.number ∷ []) name)) h.is_formal)
  where
    Same : Pin → Type 0
    Same pin = root shared_design (net_at [] pin.actual) ≡ root shared_design (net_at (0 ∷ []) pin.formal)

    there : (place : Place) (model : Model) (number : ℕ) (line : Subckt) (pin : Pin) → IsAt place model → slice_get model.subckts number ≡ Some line → Contains line.pins pin
        → root shared_design (net_at place pin.actual) ≡ root shared_design (net_at (place ++ number ∷ []) pin.formal)
    there place model zero line pin at_main e has_pin =
        each-contains Same shared_line.pins pin (refl, (refl, (refl, tt))) (subst (λ l. Contains l.pins pin) (sym (same_Some _ _ e)) has_pin)
    there place model (suc number) line pin at_main e has_pin = absurd (none-some line e)
    there place model number line pin at_inner e has_pin = absurd (none-some line e)

joined_root : (a b : Net) → Joined shared_design a b → root shared_design a ≡ root shared_design b
joined_root a b = joined_gives shared_design (λ x y. root shared_design x ≡ root shared_design y) (λ x. refl) (λ x y e. sym e) (λ x y z e f. e ∙ f) same_root

pub has_shared_clock : HasSharedClock
has_shared_clock =
    record {
      one_clock = λ line word h. h.differs (same_clock h.first h.found h.has_first h.has_found);
      in_names = kept d_is_no_control (left_out (net_at [] (codes "clk"), record { number = 0; latch = _; has_latch = refl; has_control = refl }, itself) none);
    }
  where
    d_is_no_control : ¬ IsControl shared_design (net_at [] (codes "d"))
    d_is_no_control (source, h, joined) =
        let (control, _, is_control, from_clock) = latch_is source.place h.number h.latch h.has_latch in
        let named : control ≡ source.name = same_Some _ _ (sym is_control ∙ h.has_control) in
        let whole : Joined shared_design (net_at [] (codes "clk")) (net_at [] (codes "d")) = followed (subst (λ n. Joined shared_design (net_at [] (codes "clk")) (net_at source.place n)) named from_clock) joined in
        apart_by (codes "clk") (codes "d") refl (ap (λ n. n.name) (joined_root _ _ whole))
