-- A plane without electrons may begin later.
use Rattle.std.proofs.Common.{ℤ, ℕ, zero, suc, ◌+◌, ◌*◌, ◌<◌, ◌≡◌, refl, sym, ap, ap₂, ◌∙◌, subst, inl, inr, Bool, true, false, ◌&&◌, ◌||◌, cond, List, [], ◌∷◌, ◌++◌, map, arith}
use Rattle.std.specs.Prelude.{Contains, ◌≢◌, ◌↔◌}
use Rattle.std.specs.Cmp.{both_ways}
use Rattle.std.specs.Ordering.{int_eq}
use Rattle.std.proofs.Math.Path.{fun_ext}
use Rattle.std.proofs.lemmas.Bool.{true≢false, false_from_ne_true}
use Rattle.lists.proofs.Members.{in_from, contains_from, in_left, in_right, in_parts, in_mapped}
use Rattle.ww_rule.specs.declared.pattern.State.{State}
use Rattle.ww_rule.specs.declared.pattern.State.TheVariants.{Empty, Head, Tail, Conductor}
use Rattle.ww_rule.specs.Wireworld.{Plane, Due, next_plane, driven}
use Rattle.gate_laws.specs.Signals.{Signal, cell_state, is_lit, due_of_signals, IsReady, CarriesSignals}
use Rattle.gate_laws.specs.Rows.{Port, signals_at, HasNoElectrons}
use Rattle.gate_laws.specs.Laws.{begun_later, PlanesStartLater}
use Rattle.gate_laws.specs.PartLaws.{PartsStartLater}
use Rattle.gate_laws.proofs.WireLit.{lit_in, in_lit}
use Rattle.gate_laws.proofs.Slower.{none_lit, rests}

-- the signal one generation later
abbrev next_of : Signal → Signal
next_of s = record { cell = s.cell; first = suc s.first; bit = s.bit }

only_conductor : (s : State) → s ≢ Empty → s ≢ Head → s ≢ Tail → s ≡ Conductor
only_conductor Empty a b c = absurd (a refl)
only_conductor Head a b c = absurd (b refl)
only_conductor Tail a b c = absurd (c refl)
only_conductor Conductor a b c = refl

unmapped : (ins outs : List Signal) (s : Signal) → Contains (map next_of ins ++ map next_of outs) s → (r : Signal) × Contains (ins ++ outs) r × (s ≡ next_of r)
unmapped ins outs s among =
    elim (in_parts (map next_of ins) (map next_of outs) s (in_from (map next_of ins ++ map next_of outs) s among)) [
      | inl i ↦ let r = in_mapped next_of ins s i in (r.0, contains_from (ins ++ outs) r.0 (in_left ins outs r.0 r.1), r.2)
      | inr o ↦ let r = in_mapped next_of outs s o in (r.0, contains_from (ins ++ outs) r.0 (in_right ins outs r.0 r.1), r.2)
    ]

module _ (period : ℕ) (some : 0 < period) where
  dark_first : (s : Signal) → is_lit period (next_of s) 0 ≡ false
  dark_first s =
      false_from_ne_true _ (λ e. (let c = lit_in period (next_of s) 0 e in
      let at : 0 ≡ suc s.first + c.0 * period = c.1 in omega (arith, at)))

  lit_next : (s : Signal) (g : ℕ) → is_lit period (next_of s) (suc g) ≡ is_lit period s g
  lit_next s g =
      both_ways _ _ (λ e. (let c = lit_in period (next_of s) (suc g) e in
      let at : suc g ≡ suc s.first + c.0 * period = c.1 in in_lit period s g c.0 some (omega (arith, at)) c.2)) (λ e. (let c = lit_in period s g e in
      let at : g ≡ s.first + c.0 * period = c.1 in in_lit period (next_of s) (suc g) c.0 some (omega (arith, at)) c.2))

  due_first : (ins : List Signal) (x y : ℤ) → due_of_signals period (map next_of ins) 0 x y ≡ false
  due_first [] x y = refl
  due_first (s ∷ ins) x y = ap₂ (λ b c. b && int_eq s.cell.0 x && int_eq s.cell.1 y || c) (dark_first s) (due_first ins x y)

  due_next : (ins : List Signal) (g : ℕ) (x y : ℤ) → due_of_signals period (map next_of ins) (suc g) x y ≡ due_of_signals period ins g x y
  due_next [] g x y = refl
  due_next (s ∷ ins) g x y = ap₂ (λ b c. b && int_eq s.cell.0 x && int_eq s.cell.1 y || c) (lit_next s g) (due_next ins g x y)

  module _ (p : Plane) (none : HasNoElectrons p) (ins outs : List Signal) (run : CarriesSignals period p ins outs) where
    abbrev due : Due
    due = due_of_signals period ins

    abbrev due_later : Due
    due_later = due_of_signals period (map next_of ins)

    plane_first : driven due_later p 0 ≡ p
    plane_first = fun_ext (λ x. fun_ext (λ y. ap (λ b. cond b Head (p x y)) (due_first ins x y)))

    plane_next : (g : ℕ) → driven due_later p (suc g) ≡ driven due p g
    plane_next zero =
        fun_ext (λ x. fun_ext (λ y. ap₂ (λ b s. cond b Head s) (due_next ins 0 x y) (ap (λ q. next_plane q x y) plane_first ∙ ap (λ q. q x y) (rests p none))))
    plane_next (suc g) =
        fun_ext (λ x. fun_ext (λ y. ap₂ (λ b s. cond b Head s) (due_next ins (suc g) x y) (ap (λ q. next_plane q x y) (plane_next g))))

    shows : (r : Signal) → Contains (ins ++ outs) r → (g : ℕ) → (cell_state (driven due_later p g) r.cell ≡ Head) ↔ (is_lit period (next_of r) g ≡ true)
    shows r among zero = (
      λ head. absurd (none.heads r.cell.0 r.cell.1 (ap (λ q. cell_state q r.cell) (sym plane_first) ∙ head)),
      λ lit. absurd (true≢false (sym lit ∙ dark_first r)),
    )
    shows r among (suc g) =
        subst (λ q. (cell_state q r.cell ≡ Head) ↔ (is_lit period (next_of r) (suc g) ≡ true)) (sym (plane_next g)) (subst (λ b. (cell_state (driven due p g) r.cell ≡ Head) ↔ (b ≡ true)) (sym (lit_next r g)) (run.shows r among g))

    ready : (r : Signal) → Contains ins r → (g : ℕ) → is_lit period (next_of r) (suc g) ≡ true → IsReady (driven due_later p g) r.cell
    ready r among zero lit =
        let full = run.drawn r (contains_from (ins ++ outs) r (in_left ins outs r (in_from ins r among))) in
        subst (λ q. IsReady q r.cell) (sym plane_first) (record {
          conductor = only_conductor (cell_state p r.cell) full (none.heads r.cell.0 r.cell.1) (none.tails r.cell.0 r.cell.1);
          alone = none_lit p none r.cell.0 r.cell.1;
        })
    ready r among (suc g) lit =
        subst (λ q. IsReady q r.cell) (sym (plane_next g)) (run.ready r among g (sym (lit_next r (suc g)) ∙ lit))

    one_later : CarriesSignals period p (map next_of ins) (map next_of outs)
    one_later =
        record {
          drawn = λ s among. (let r = unmapped ins outs s among in subst (λ s. cell_state p s.cell ≢ Empty) (sym r.2) (run.drawn r.0 r.1));
          shows = λ s among g. (let r = unmapped ins outs s among in subst (λ s. (cell_state (driven due_later p g) s.cell ≡ Head) ↔ (is_lit period s g ≡ true)) (sym r.2) (shows r.0 r.1 g));
          ready = λ s among g lit. (let r = in_mapped next_of ins s (in_from (map next_of ins) s among) in
              subst (λ s. IsReady (driven due_later p g) s.cell) (sym r.2) (ready r.0 (contains_from ins r.0 r.1) g (ap (λ s. is_lit period s (suc g)) (sym r.2) ∙ lit)));
        }

not_later : (signals : List Signal) → map (begun_later 0) signals ≡ signals
not_later [] = refl
not_later (s ∷ signals) =
    let e : 0 + s.first ≡ s.first = omega arith in
    ap₂ (λ n rest. record { cell = s.cell; first = n; bit = s.bit } ∷ rest) e (not_later signals)

next_later : (d : ℕ) (signals : List Signal) → map (begun_later (suc d)) signals ≡ map next_of (map (begun_later d) signals)
next_later d [] = refl
next_later d (s ∷ signals) =
    let e : suc d + s.first ≡ suc (d + s.first) = omega arith in
    ap₂ (λ n rest. record { cell = s.cell; first = n; bit = s.bit } ∷ rest) e (next_later d signals)

pub planes_start_later : PlanesStartLater
planes_start_later period zero some p ins outs none run =
    subst (λ signals. CarriesSignals period p signals (map (begun_later 0) outs)) (sym (not_later ins)) (subst (CarriesSignals period p ins) (sym (not_later outs)) run)
planes_start_later period (suc d) some p ins outs none run =
    subst (λ signals. CarriesSignals period p signals (map (begun_later (suc d)) outs)) (sym (next_later d ins)) (subst (CarriesSignals period p (map next_of (map (begun_later d) ins))) (sym (next_later d outs)) (one_later period some p none (map (begun_later d) ins) (map (begun_later d) outs) (planes_start_later period d some p ins outs none run)))

abbrev later_port : ℕ → Port → Port
later_port d port = (port.0, d + port.1)

ports_later : (d : ℕ) (ports : List Port) (bits : ℕ → ℕ → Bool) → signals_at (map (later_port d) ports) bits ≡ map (begun_later d) (signals_at ports bits)
ports_later d [] bits = refl
ports_later d (port ∷ ports) bits = ap (λ rest. begun_later d (record { cell = port.0; first = port.1; bit = λ t. bits t 0 }) ∷ rest) (ports_later d ports (λ t i. bits t (suc i)))

pub parts_start_later : PartsStartLater
parts_start_later period d some p ins outs meaning none part bits =
    subst (λ signals. CarriesSignals period p signals (signals_at (map (later_port d) outs) (meaning bits))) (sym (ports_later d ins bits)) (subst (CarriesSignals period p (map (begun_later d) (signals_at ins bits))) (sym (ports_later d outs (meaning bits))) (planes_start_later period d some p (signals_at ins bits) (signals_at outs (meaning bits)) none (part bits)))
