-- Planes that run at a multiple of their period.
use Rattle.std.proofs.Common.{ℤ, ℕ, zero, suc, ◌+◌, ◌*◌, ◌/◌, ◌%◌, ◌<◌, ◌≤◌, ◌≡◌, refl, sym, ap, ap₂, ◌∙◌, subst, inl, inr, Bool, true, false, ◌&&◌, ◌||◌, ◌==◌, cond, List, [], ◌∷◌, ◌++◌, length, map, get_or, arith}
use Rattle.std.specs.Prelude.{Contains, ◌≢◌, ◌↔◌}
use Rattle.std.specs.Cmp.{both_ways}
use Rattle.std.specs.Ordering.{int_eq}
use Rattle.std.proofs.Math.Path.{fun_ext}
use Rattle.std.proofs.lemmas.Bool.{and_parts, and_from, eqb-true, eq-eqb, true≢false, false_from_ne_true}
use Rattle.std.proofs.lemmas.Nat.{div-add-mod'}
use Rattle.std.proofs.Math.Nat.{mul-mod_left, mul-div_cancel, mul-le-mul, mul_assoc}
use Rattle.lists.proofs.Members.{in_from, contains_from, in_left, in_right, in_parts, in_map}
use Rattle.ww_rule.specs.declared.pattern.State.{State}
use Rattle.ww_rule.specs.declared.pattern.State.TheVariants.{Empty, Head, Tail, Conductor}
use Rattle.ww_rule.specs.Wireworld.{Plane, next_plane, next_state, heads_around, driven}
use Rattle.ww_rule.proofs.Cells.{not_counted, sum_none}
use Rattle.gate_laws.specs.Signals.{Signal, cell_state, is_lit, due_of_signals, IsReady, CarriesSignals}
use Rattle.gate_laws.specs.Rows.{signals_at, stretched, HasNoElectrons, AnswersEachRow}
use Rattle.gate_laws.specs.Laws.{AnswersGoSlower}
use Rattle.gate_laws.proofs.WireLit.{lit_in, in_lit}
use Rattle.gate_laws.proofs.Dues.{due_by_signal}
use Rattle.gate_laws.proofs.Rows.{port_signal, no_port, port_of_signal, signal_of_port, same_signals}

module _ (period times : ℕ) (some : 0 < period) (more : 0 < times) where
  long : 0 < times * period
  long = let one : 1 * 1 ≤ times * period = mul-le-mul more some in omega (arith, one)

  to_slower : (s : Signal) (g : ℕ) → is_lit period (stretched times s) g ≡ true → is_lit (times * period) s g ≡ true
  to_slower s g lit =
      let cycle = lit_in period (stretched times s) g lit in
      let t = cycle.0 in
      let time : g ≡ s.first + t * period = cycle.1 in
      let parts = and_parts (t % times == 0) (s.bit (t / times)) cycle.2 in
      let whole : t % times ≡ 0 = eqb-true (t % times) 0 parts.0 in
      let split : t ≡ t / times * times = omega (arith, div-add-mod' t times, whole) in
      let product : t * period ≡ t / times * (times * period) = ap (λ k. k * period) split ∙ mul_assoc (t / times) times period in
      in_lit (times * period) s g (t / times) long (time ∙ ap (λ k. s.first + k) product) parts.1

  from_slower : (s : Signal) (g : ℕ) → is_lit (times * period) s g ≡ true → is_lit period (stretched times s) g ≡ true
  from_slower s g lit =
      let cycle = lit_in (times * period) s g lit in
      let t = cycle.0 in
      let time : g ≡ s.first + t * (times * period) = cycle.1 in
      let whole : t * times % times ≡ 0 = mul-mod_left t times in
      let quotient : t * times / times ≡ t = mul-div_cancel t more in
      in_lit period (stretched times s) g (t * times) some (time ∙ ap (λ k. s.first + k) (sym (mul_assoc t times period))) (and_from (t * times % times == 0) (s.bit (t * times / times)) (eq-eqb (t * times % times) 0 whole) (ap s.bit quotient ∙ cycle.2))

  lit_slower : (s : Signal) (g : ℕ) → is_lit period (stretched times s) g ≡ is_lit (times * period) s g
  lit_slower s g = both_ways _ _ (to_slower s g) (from_slower s g)

  due_at : (signals : List Signal) (g : ℕ) (x y : ℤ) → due_of_signals period (map (stretched times) signals) g x y ≡ due_of_signals (times * period) signals g x y
  due_at [] g x y = refl
  due_at (s ∷ signals) g x y =
      ap₂ (λ a b. a && int_eq s.cell.0 x && int_eq s.cell.1 y || b) (lit_slower s g) (due_at signals g x y)

  dues : (signals : List Signal) → due_of_signals period (map (stretched times) signals) ≡ due_of_signals (times * period) signals
  dues signals = fun_ext (λ g. fun_ext (λ x. fun_ext (λ y. due_at signals g x y)))

  mapped : (ins : List Signal) (s : Signal) → Contains ins s → Contains (map (stretched times) ins) (stretched times s)
  mapped ins s among = contains_from (map (stretched times) ins) (stretched times s) (in_map (stretched times) ins s (in_from ins s among))

  mapped_both : (ins outs : List Signal) (s : Signal) → Contains (ins ++ outs) s → Contains (map (stretched times) ins ++ map (stretched times) outs) (stretched times s)
  mapped_both ins outs s among =
      elim (in_parts ins outs s (in_from (ins ++ outs) s among)) [
        | inl i ↦ contains_from _ (stretched times s) (in_left (map (stretched times) ins) (map (stretched times) outs) (stretched times s) (in_map (stretched times) ins s i))
        | inr o ↦ contains_from _ (stretched times s) (in_right (map (stretched times) ins) (map (stretched times) outs) (stretched times s) (in_map (stretched times) outs s o))
      ]

  slower : (p : Plane) (ins outs : List Signal) → CarriesSignals period p (map (stretched times) ins) (map (stretched times) outs) → CarriesSignals (times * period) p ins outs
  slower p ins outs run =
      record {
        drawn = λ s among. run.drawn (stretched times s) (mapped_both ins outs s among);
        shows = λ s among g. subst (λ due. (cell_state (driven due p g) s.cell ≡ Head) ↔ (is_lit (times * period) s g ≡ true)) (dues ins) (subst (λ b. (cell_state (driven (due_of_signals period (map (stretched times) ins)) p g) s.cell ≡ Head) ↔ (b ≡ true)) (lit_slower s g) (run.shows (stretched times s) (mapped_both ins outs s among) g));
        ready = λ s among g lit. subst (λ due. IsReady (driven due p g) s.cell) (dues ins) (run.ready (stretched times s) (mapped ins s among) g (lit_slower s (suc g) ∙ lit));
      }

-- the signals of stretched bits
stretched_bits : (times : ℕ) (ports : List ((ℤ × ℤ) × ℕ)) (bits : ℕ → ℕ → Bool) → map (stretched times) (signals_at ports bits) ≡ signals_at ports (λ t i. t % times == 0 && bits (t / times) i)
stretched_bits times [] bits = refl
stretched_bits times (port ∷ ports) bits =
    ap (λ rest. stretched times (port_signal port bits 0) ∷ rest) (stretched_bits times ports (λ t i. bits t (suc i)))

-- in a plane without electrons no cell sees a head
pub none_lit : (p : Plane) → HasNoElectrons p → (x y : ℤ) → heads_around p x y ≡ 0
none_lit p none x y = sum_none _ _ _ _ _ _ _ _ (not_counted _ (none.heads _ _)) (not_counted _ (none.heads _ _)) (not_counted _ (none.heads _ _)) (not_counted _ (none.heads _ _)) (not_counted _ (none.heads _ _)) (not_counted _ (none.heads _ _)) (not_counted _ (none.heads _ _)) (not_counted _ (none.heads _ _))

-- nothing moves in a plane without electrons that is not driven
pub rests : (p : Plane) → HasNoElectrons p → next_plane p ≡ p
rests p none = fun_ext (λ x. fun_ext (λ y. stays (p x y) (heads_around p x y) (none.heads x y) (none.tails x y) (none_lit p none x y)))
  where
    stays : (s : State) (n : ℕ) → s ≢ Head → s ≢ Tail → n ≡ 0 → next_state s n ≡ s
    stays Empty n a b e = refl
    stays Head n a b e = absurd (a refl)
    stays Tail n a b e = absurd (b refl)
    stays Conductor n a b e = ap (λ k. cond (k == 1 || k == 2) Head Conductor) e

rests_driven : (period : ℕ) (p : Plane) → HasNoElectrons p → (signals : List Signal) → ((g : ℕ) (x y : ℤ) → due_of_signals period signals g x y ≡ false) → (g : ℕ) → driven (due_of_signals period signals) p g ≡ p
rests_driven period p none signals undriven zero = fun_ext (λ x. fun_ext (λ y. ap (λ b. cond b Head (p x y)) (undriven zero x y)))
rests_driven period p none signals undriven (suc g) =
    fun_ext (λ x. fun_ext (λ y. ap₂ (λ b s. cond b Head s) (undriven (suc g) x y) (ap (λ q. next_plane q x y) (rests_driven period p none signals undriven g) ∙ ap (λ q. q x y) (rests p none))))

module _ (period times : ℕ) (some : 0 < period) (more : 0 < times) (p : Plane) (none : HasNoElectrons p) (ins outs : List ((ℤ × ℤ) × ℕ)) (answer : (ℕ → Bool) → ℕ → Bool) (answers : AnswersEachRow period p ins outs answer) where
  abbrev zeros : ℕ → Bool
  zeros i = false

  -- a row of zeros is answered by zeros
  undriven : (g : ℕ) (x y : ℤ) → due_of_signals period (signals_at ins (λ t. zeros)) g x y ≡ false
  undriven g x y =
      false_from_ne_true _ (λ e. (let by = due_by_signal period (signals_at ins (λ t. zeros)) g (x, y) e in
      let of = port_of_signal ins (λ t. zeros) by.0 (in_from (signals_at ins (λ t. zeros)) by.0 by.1) in
      let cycle = lit_in period by.0 g by.2 in
      true≢false (sym cycle.2 ∙ ap (λ s. s.bit cycle.0) of.is)))

  answer_dark : (i : ℕ) → i < length outs → answer zeros i ≡ false
  answer_dark i l =
      false_from_ne_true _ (λ e. (let s = port_signal (get_or outs i no_port) (λ t. answer zeros) i in
      let among : Contains (signals_at ins (λ t. zeros) ++ signals_at outs (λ t. answer zeros)) s = contains_from _ s (in_right (signals_at ins (λ t. zeros)) (signals_at outs (λ t. answer zeros)) s (signal_of_port outs (λ t. answer zeros) i l)) in
      let time : s.first ≡ s.first + 0 * period = omega arith in
      let lit : is_lit period s s.first ≡ true = in_lit period s s.first 0 some time e in
      none.heads s.cell.0 s.cell.1 (ap (λ q. cell_state q s.cell) (sym (rests_driven period p none (signals_at ins (λ t. zeros)) undriven s.first)) ∙ ((answers (λ t. zeros)).shows s among s.first).1 lit)))

  abbrev slow : (ℕ → ℕ → Bool) → ℕ → ℕ → Bool
  slow bits t = cond (t % times == 0) (bits (t / times)) zeros

  in_bits : (b : Bool) (bits : ℕ → Bool) (i : ℕ) → cond b bits zeros i ≡ (b && bits i)
  in_bits true bits i = refl
  in_bits false bits i = refl

  out_bits : (b : Bool) (bits : ℕ → Bool) (i : ℕ) → i < length outs → answer (cond b bits zeros) i ≡ (b && answer bits i)
  out_bits true bits i l = refl
  out_bits false bits i l = answer_dark i l

  goes_slower : AnswersEachRow (times * period) p ins outs answer
  goes_slower bits =
      let ins_are : signals_at ins (slow bits) ≡ map (stretched times) (signals_at ins bits) = same_signals ins (slow bits) (λ t i. t % times == 0 && bits (t / times) i) (λ t i l. in_bits (t % times == 0) (bits (t / times)) i) ∙ sym (stretched_bits times ins bits) in
      let outs_are : signals_at outs (λ t. answer (slow bits t)) ≡ map (stretched times) (signals_at outs (λ t. answer (bits t))) = same_signals outs (λ t. answer (slow bits t)) (λ t i. t % times == 0 && answer (bits (t / times)) i) (λ t i l. out_bits (t % times == 0) (bits (t / times)) i l) ∙ sym (stretched_bits times outs (λ t. answer (bits t))) in
      slower period times some more p (signals_at ins bits) (signals_at outs (λ t. answer (bits t))) (subst (λ signals. CarriesSignals period p signals (map (stretched times) (signals_at outs (λ t. answer (bits t))))) ins_are (subst (λ signals. CarriesSignals period p (signals_at ins (slow bits)) signals) outs_are (answers (slow bits))))

pub answers_go_slower : AnswersGoSlower
answers_go_slower period times some more p none ins outs answer answers =
    goes_slower period times some more p none ins outs answer answers
