-- Controls of single designs.
use Rattle.std.proofs.Common.{ℕ, zero, suc, ◌≡◌, ◌≢◌, ◌<◌, ◌≤◌, ◌⊎◌, [], ◌∷◌, ◌++◌, Option, Some, None, length, option_and_then, option_map, slice_get, codes, refl, sym, ap, ◌∙◌, subst, arith, inl, inr}
use Rattle.std.proofs.lemmas.Option.{none-some, same_Some, slice_get-map}
use Rattle.netlist_core.specs.declared.model.Design.{Design}
use Rattle.netlist_core.specs.declared.model.Model.{Model}
use Rattle.netlist_core.specs.declared.model.LatchRow.{LatchRow}
use Rattle.netlist_core.specs.Names.{Name}
use Rattle.netlist_meaning.specs.Places.{Place, latch_at, IsBefore}
use Rattle.netlist_meaning.specs.Nets.{Net, net_at, itself, IsControl, IsClockNet, none, kept, left_out}
use Rattle.netlist_rules.specs.Clocks.{IsUse, by_cover, by_latch, by_main_output, PlacedLatch, IsPlacedLatch, HasSameControl, HasSameClock, IsTwoClocks, control_word}
use Rattle.netlist_examples.specs.Designs.{clocked_main, clocked_design, read_clock_main, read_clock_design, two_clocks_main, two_clocks_design, half_clocked_main, half_clocked_design, read_main_clock_main, read_main_clock_design}
use Rattle.netlist_examples.specs.Instances.{ControlIsNoInput, CoverReadsClock, LatchHasOtherClock, LatchHasNoClock, CoverReadsMainClock}
use Rattle.lists.proofs.Names.{apart_by}
use Rattle.netlist_meaning.proofs.Names.{contains-one}
use Rattle.netlist_meaning.proofs.SingleModel.{IsFlat, model_at-main, no_latch-flat, model_at-flat, joined-flat, latch_at-flat}

-- a control of a flat design is the control of one of its main model's latches
pub control_is : (design : Design) (main : Model) → IsFlat design main → (net : Net) → IsControl design net → (number : ℕ) × (latch : LatchRow) × (slice_get main.latches number ≡ Some latch) × (latch.control ≡ Some net.name)
control_is design main flat net (source, is_source, joined) =
    let same : source ≡ net = joined-flat design main flat joined in (
      is_source.number,
      is_source.latch,
      (latch_at-flat design main flat source.place is_source.number is_source.latch is_source.has_latch).1,
      is_source.has_control ∙ ap (λ n. Some n.name) same,
    )

clocked : IsFlat clocked_design clocked_main
clocked = record { models = refl; subckts = refl }

pub control_is_no_input : ControlIsNoInput
control_is_no_input =
    kept (λ h. let (number, latch, is_latch, is_control) = control_is clocked_design clocked_main clocked (net_at [] (codes "d")) h in d_is_no_control number latch is_latch is_control)
    (left_out (net_at [] (codes "clk"), record { number = 0; latch = _; has_latch = refl; has_control = refl }, itself) none)
  where
    d_is_no_control : (number : ℕ) (latch : LatchRow) → slice_get clocked_main.latches number ≡ Some latch → latch.control ≡ Some (codes "d") → ⊥
    d_is_no_control zero latch is_latch is_control =
        apart_by (codes "clk") (codes "d") refl (same_Some _ _ (ap (λ l. l.control) (same_Some _ latch is_latch) ∙ is_control))
    d_is_no_control (suc number) latch is_latch is_control = none-some latch is_latch

-- one of two
one_of_two : {X : Type 0} (a b x : X) (k : ℕ) → slice_get (a ∷ b ∷ []) k ≡ Some x → (x ≡ a) ⊎ (x ≡ b)
one_of_two a b x zero e = inl (same_Some _ _ (sym e))
one_of_two a b x (suc zero) e = inr (same_Some _ _ (sym e))
one_of_two a b x (suc (suc k)) e = absurd (none-some x e)

-- neither is a third
not_of_two : (a b c x : Name) (k : ℕ) → slice_get (a ∷ b ∷ []) k ≡ Some x → a ≢ c → b ≢ c → x ≢ c
not_of_two a b c x k e ac bc xc =
    elim (one_of_two a b x k e) [
      | inl is_a ↦ ac (sym is_a ∙ xc)
      | inr is_b ↦ bc (sym is_b ∙ xc)
    ]

read_clock : IsFlat read_clock_design read_clock_main
read_clock = record { models = refl; subckts = refl }

-- the control is the one clock net
clock_is : (net : Net) → IsClockNet read_clock_design net → net.name ≡ codes "clk"
clock_is net (source, inl is_control, joined) =
    let (number, latch, is_latch, named) = control_is read_clock_design read_clock_main read_clock net (source, is_control, joined) in
    only number latch is_latch named
  where
    only : (number : ℕ) (latch : LatchRow) → slice_get read_clock_main.latches number ≡ Some latch → latch.control ≡ Some net.name → net.name ≡ codes "clk"
    only zero latch is_latch named = same_Some _ _ (sym (ap (λ l. l.control) (same_Some _ latch is_latch) ∙ named))
    only (suc number) latch is_latch named = absurd (none-some latch is_latch)
clock_is net (source, inr is_clock, joined) = let (k, lt, is_it) = is_clock.is_clock in absurd (omega arith)

earliest : (line position : ℕ) (net : Net) → IsUse read_clock_design line position net → IsClockNet read_clock_design net → (5 < line) ⊎ ((5 ≡ line) × (0 ≤ position))
earliest line position net (by_cover {place = place} {model = model} {cover = cover} is_model has_cover at) clock =
    let is_main = (model_at-flat read_clock_design read_clock_main read_clock place model is_model).1 in
    let is_cover = contains-one model.covers _ cover (ap (λ m. m.covers) is_main) has_cover in
    inr (sym (ap (λ c. c.line) is_cover), omega arith)
earliest line position net (by_latch {place = place} {model = model} {latch = latch} {name = name} is_model has_latch at) clock =
    let is_main = (model_at-flat read_clock_design read_clock_main read_clock place model is_model).1 in
    let is_latch = contains-one model.latches _ latch (ap (λ m. m.latches) is_main) has_latch in
    absurd (not_of_two (codes "d") (codes "q") (codes "clk") name position (ap (λ l. slice_get (l.input ∷ l.output ∷ []) position) (sym is_latch) ∙ at) (apart_by _ _ refl) (apart_by _ _ refl) (clock_is _ clock))
earliest line position net (by_main_output {port = port} at) clock =
    absurd (not_of_two (codes "q") (codes "y") (codes "clk") port.name position
    (slice_get-map (λ p. p.name) read_clock_main.outs position ∙ ap (option_map (λ p. p.name)) at) (apart_by _ _ refl) (apart_by _ _ refl) (clock_is _ clock))

pub cover_reads_clock : CoverReadsClock
cover_reads_clock =
    record {
      position = 0;
      net = net_at [] (codes "clk");
      is_use = (by_cover refl (0, omega arith, refl) refl, (net_at [] (codes "clk"), inl (record { number = 0; latch = _; has_latch = refl; has_control = refl }), itself));
      is_earliest = λ line position net h. earliest line position net h.0 h.1;
      is_word = refl;
    }

-- a control is the same as itself
itself_control : (design : Design) (place : Place) (control : Option Name) → HasSameControl design place control place control
itself_control design place None = tt
itself_control design place (Some name) = itself

-- two latches of a main model alone that differ in type or control: the second is the fault
two_latches_differ : (design : Design) (main : Model) → IsFlat design main → (l m : LatchRow) → main.latches ≡ l ∷ m ∷ [] → ((l.kind ≡ m.kind) × HasSameControl design [] l.control [] m.control → ⊥) → IsTwoClocks design m.line (control_word m.control)
two_latches_differ design main flat l m latches apart =
    record {
      first = first;
      has_first = at 0 ∙ ap (λ ls. slice_get ls 0) latches;
      is_first = λ other has h. let lt = (before_is other has 0 h).1 in absurd (omega arith);
      found = record { place = []; number = 1; latch = m };
      has_found = at 1 ∙ ap (λ ls. slice_get ls 1) latches;
      differs = λ same. apart (same.same_type, same.same_control);
      agree_before = λ other has h. agrees other has (before_is other has 1 h);
      is_line = refl;
      is_word = refl;
    }
  where
    at : (number : ℕ) → latch_at design [] number ≡ slice_get main.latches number
    at number = ap (option_and_then (λ model. slice_get model.latches number)) (model_at-main design main flat)

    first : PlacedLatch
    first = record { place = []; number = 0; latch = l }

    before_is : (other : PlacedLatch) → IsPlacedLatch design other → (number : ℕ) → IsBefore other.place [] ⊎ ((other.place ≡ []) × (other.number < number)) → (other.place ≡ []) × (other.number < number)
    before_is other has number (inr h) = h
    before_is other has number (inl h) =
        let is_top = (latch_at-flat design main flat other.place other.number other.latch has).0 in
        absurd (subst (λ place. IsBefore place [] → ⊥) (sym is_top) (λ h. h) h)

    agrees : (other : PlacedLatch) → IsPlacedLatch design other → (other.place ≡ []) × (other.number < 1) → HasSameClock design first other
    agrees other has (is_top, lt) =
        let at_0 : other.number ≡ 0 = omega arith in
        let is_latch = (latch_at-flat design main flat other.place other.number other.latch has).1 in
        let same : l ≡ other.latch = same_Some _ _ (sym (ap (slice_get main.latches) at_0 ∙ ap (λ ls. slice_get ls 0) latches) ∙ is_latch) in
        record {
          same_type = ap (λ x. x.kind) same;
          same_control = subst (λ x. HasSameControl design [] l.control other.place x.control) same
              (subst (λ place. HasSameControl design [] l.control place l.control) (sym is_top) (itself_control design [] l.control));
        }

two_clocks : IsFlat two_clocks_design two_clocks_main
two_clocks = record { models = refl; subckts = refl }

pub latch_has_other_clock : LatchHasOtherClock
latch_has_other_clock =
    two_latches_differ two_clocks_design two_clocks_main two_clocks _ _ refl
    (λ same. apart_by (codes "c") (codes "e") refl (ap (λ net. net.name) (joined-flat two_clocks_design two_clocks_main two_clocks same.1)))

pub latch_has_no_clock : LatchHasNoClock
latch_has_no_clock = two_latches_differ half_clocked_design half_clocked_main (record { models = refl; subckts = refl }) _ _ refl (λ same. same.1)

-- a `.clock` name of the main model without a latch
main_clock : IsFlat read_main_clock_design read_main_clock_main
main_clock = record { models = refl; subckts = refl }

main_clock_is : (net : Net) → IsClockNet read_main_clock_design net → net.name ≡ codes "e"
main_clock_is net (source, inl h, joined) = absurd (no_latch-flat read_main_clock_design read_main_clock_main main_clock refl source.place h.number h.latch h.has_latch)
main_clock_is net (source, inr h, joined) =
    ap (λ n. n.name) (sym (joined-flat read_main_clock_design read_main_clock_main main_clock joined)) ∙ contains-one _ (codes "e") source.name refl h.is_clock

first_read : (line position : ℕ) (net : Net) → IsUse read_main_clock_design line position net → IsClockNet read_main_clock_design net → (5 < line) ⊎ ((5 ≡ line) × (1 ≤ position))
first_read line position net (by_cover {place = place} {model = model} {cover = cover} {name = name} is_model has_cover at) clock =
    let is_main = (model_at-flat read_main_clock_design read_main_clock_main main_clock place model is_model).1 in
    let is_cover = contains-one model.covers _ cover (ap (λ m. m.covers) is_main) has_cover in
    inr (sym (ap (λ c. c.line) is_cover), later position (sym (ap (λ c. slice_get (c.ins ++ c.out ∷ []) position) is_cover) ∙ at))
  where
    later : (position : ℕ) → slice_get (codes "a" ∷ codes "e" ∷ codes "y" ∷ []) position ≡ Some name → 1 ≤ position
    later zero e = absurd (apart_by (codes "a") (codes "e") refl (same_Some _ _ e ∙ main_clock_is _ clock))
    later (suc position) e = omega arith
first_read line position net (by_latch {place = place} {model = model} {latch = latch} is_model has_latch at) clock =
    let is_main = (model_at-flat read_main_clock_design read_main_clock_main main_clock place model is_model).1 in
    let none : length model.latches ≡ 0 = ap (λ m. length m.latches) is_main in
    let (k, lt, is) = has_latch in
    absurd (omega arith)
first_read line position net (by_main_output {port = port} at) clock =
    absurd (apart_by (codes "y") (codes "e") refl (only position (slice_get-map (λ p. p.name) read_main_clock_main.outs position ∙ ap (option_map (λ p. p.name)) at) ∙ main_clock_is _ clock))
  where
    only : (position : ℕ) → slice_get (codes "y" ∷ []) position ≡ Some port.name → codes "y" ≡ port.name
    only zero e = same_Some _ _ e
    only (suc position) e = absurd (none-some _ e)

pub cover_reads_main_clock : CoverReadsMainClock
cover_reads_main_clock =
    record {
      position = 1;
      net = net_at [] (codes "e");
      is_use = (by_cover refl (0, omega arith, refl) refl, (net_at [] (codes "e"), inr (record { is_main = refl; is_clock = (0, omega arith, refl); is_no_input = λ h. apart_by (codes "e") (codes "a") refl (contains-one _ (codes "a") (codes "e") refl h) }), itself));
      is_earliest = λ line position net h. first_read line position net h.0 h.1;
      is_word = refl;
    }
