-- A gate that keeps its law answers each row of bits, period after period.
use Rattle.std.proofs.Common.{ℤ, ℕ, zero, suc, ◌+◌, ◌-◌, ◌*◌, ◌/◌, ◌%◌, ◌<◌, ◌≤◌, ◌≡◌, refl, sym, ap, ap₂, ◌∙◌, subst, inl, inr, Bool, true, ◌||◌, ◌&&◌, ◌==◌, int_eq, List, [], ◌∷◌, ◌++◌, length, get_or, arith, mod-lt}
use Rattle.std.specs.Prelude.{Contains, ◌≢◌, ◌↔◌, Some, slice_get}
use Rattle.std.specs.Cmp.{both_ways}
use Rattle.std.proofs.lemmas.Bool.{cases_lt, cases_eq, and_parts, and_from, eqb-true, eq-eqb}
use Rattle.std.proofs.lemmas.Nat.{div-add-mod'}
use Rattle.std.proofs.lemmas.Option.{slice_get-get_or}
use Rattle.std.proofs.Math.Nat.{mul-le-mul_right}
use Rattle.std.proofs.Math.Path.{fun_ext}
use Rattle.lists.proofs.Members.{In, in_from, contains_from, in_parts, in_got}
use Rattle.ww_rule.specs.declared.pattern.State.TheVariants.{Empty, Head, Conductor}
use Rattle.ww_rule.specs.Wireworld.{Plane, next_plane, injected, driven}
use Rattle.gate_laws.specs.Signals.{Signal, cell_state, is_lit, due_of_signals, IsReady, CarriesSignals}
use Rattle.gate_laws.specs.Rows.{Port, signal_of, signals_at}
use Rattle.gate_laws.proofs.WireLit.{lit_in, in_lit}
use Rattle.gate_laws.proofs.Rows.{no_port, port_of_signal}
use Rattle.gate_laws.specs.Gates.{Gate, is_lit_input, used, ShowsOnce, IsCalmCell, AnswersInTime, KeepsGateLaw, front_bits, gate_answer, GatesAnswerEachRow, LawfulAreGates}
use Rattle.gate_laws.proofs.Calm.{calm_dark, same_head, head_same, calm_next, unlit_late, calm_after, ready_calm, ready_same}

length-front_bits : (n : ℕ) (row : ℕ → Bool) → length (front_bits n row) ≡ n
length-front_bits zero row = refl
length-front_bits (suc n) row = ap suc (length-front_bits n (λ i. row (suc i)))

front_bits-at : (n : ℕ) (row : ℕ → Bool) (i : ℕ) → i < n → slice_get (front_bits n row) i ≡ Some (row i)
front_bits-at zero row i l = absurd (omega arith)
front_bits-at (suc n) row zero l = refl
front_bits-at (suc n) row (suc i) l = front_bits-at n (λ i. row (suc i)) i (omega arith)

module _ (period : ℕ) where
  -- a generation has one place in one cycle
  one_place : (t u r d : ℕ) → t * period + r ≡ u * period + d → r < period → d < period → (t ≡ u) × (r ≡ d)
  one_place t u r d e low early =
      elim (cases_lt t u) [
        | inl lt ↦ let more : suc t * period ≤ u * period = mul-le-mul_right period lt in absurd (omega arith)
        | inr ge ↦
            elim (cases_lt u t) [
              | inl lt ↦ let more : suc u * period ≤ t * period = mul-le-mul_right period lt in absurd (omega arith)
              | inr le ↦ let same : t ≡ u = omega arith in let times : t * period ≡ u * period = ap (λ n. n * period) same in (same, omega arith)
            ]
      ]

  lit_place : (port : Port) (bit : ℕ → Bool) (t r : ℕ) → r < period → port.1 < period → is_lit period (signal_of port bit) (t * period + r) ≡ true → (r ≡ port.1) × (bit t ≡ true)
  lit_place port bit t r low early lit =
      let cycle = lit_in period (signal_of port bit) (t * period + r) lit in
      let time : t * period + r ≡ port.1 + cycle.0 * period = cycle.1 in
      let places = one_place t cycle.0 r port.1 (omega (arith, time)) low early in
      (places.1, ap bit places.0 ∙ cycle.2)

  place_lit : (port : Port) (bit : ℕ → Bool) (t r : ℕ) → r < period → (r ≡ port.1) → bit t ≡ true → is_lit period (signal_of port bit) (t * period + r) ≡ true
  place_lit port bit t r low at one =
      in_lit period (signal_of port bit) (t * period + r) t (omega (arith, low)) (omega (arith, at)) one

  -- what is due in a cycle is what one use lights
  due_at : (some : 0 < period) (t r g : ℕ) → g ≡ t * period + r → r < period → (ports : List Port) → ((port : Port) → In port ports → port.1 < period) → (bits : ℕ → ℕ → Bool) (x y : ℤ) → due_of_signals period (signals_at ports bits) g x y ≡ is_lit_input ports (front_bits (length ports) (bits t)) r x y
  due_at some t r g e low [] early bits x y = refl
  due_at some t r g e low (port ∷ ports) early bits x y =
      let bit = λ (t : ℕ). bits t 0 in
      let lit : is_lit period (signal_of port bit) g ≡ (bit t && r == port.1) = ap (is_lit period (signal_of port bit)) e
      ∙ both_ways _ _
      (λ lit. let at = lit_place port bit t r low (early port (inl refl)) lit in and_from (bit t) (r == port.1) at.1 (eq-eqb r port.1 at.0))
      (λ both. let parts = and_parts (bit t) (r == port.1) both in place_lit port bit t r low (eqb-true r port.1 parts.1) parts.0) in
      ap₂ (λ a b. a && int_eq port.0.0 x && int_eq port.0.1 y || b) lit (due_at some t r g e low ports (λ p among. early p (inr among)) (λ t i. bits t (suc i)) x y)

module _ (gate : Gate) (law : KeepsGateLaw gate) (period : ℕ) (long : gate.time ≤ period) (bits : ℕ → ℕ → Bool) where
  abbrev due : ℕ → ℤ → ℤ → Bool
  due = due_of_signals period (signals_at gate.ins bits)

  abbrev run : ℕ → Plane
  run g = driven due gate.plane g

  abbrev row : ℕ → List Bool
  row t = front_bits (length gate.ins) (bits t)

  abbrev lit_row : ℕ → ℕ → ℤ → ℤ → Bool
  lit_row t = is_lit_input gate.ins (row t)

  some : 0 < period
  some = let more : 3 ≤ gate.time = law.drawn.long in omega (arith, long, more)

  answers : (t : ℕ) → AnswersInTime gate (row t)
  answers t = law.answers (row t) (length-front_bits (length gate.ins) (bits t))

  due_is : (t r g : ℕ) → g ≡ t * period + r → r < period → due g ≡ lit_row t r
  due_is t r g e low =
      fun_ext (λ x. fun_ext (λ y. due_at period some t r g e low gate.ins (λ port among. let early : port.1 < gate.time = (law.drawn.ins port (contains_from gate.ins port among)).1 in omega (arith, early, long)) bits x y))

  -- at the first generation of a cycle the inputs of generation 0 are lit in a calm plane
  record Begins (t : ℕ) : Type 0 where
    before : Plane
    calm : (c : ℤ × ℤ) → IsCalmCell gate before c
    is : (g : ℕ) → g ≡ t * period + 0 → run g ≡ injected (lit_row t 0) before

  -- then it goes on as one use does
  within : (t : ℕ) → Begins t → (r g : ℕ) → g ≡ t * period + suc r → suc r < period → run g ≡ used gate (row t) (suc r)
  within t b r zero e l = absurd (omega arith)
  within t b zero (suc g) e l =
      ap₂ injected (due_is t 1 (suc g) e l) (ap next_plane (b.is g (omega (arith, e))) ∙ calm_next gate law.drawn (row t) b.before b.calm)
  within t b (suc r) (suc g) e l =
      ap₂ injected (due_is t (suc (suc r)) (suc g) e l) (ap next_plane (within t b r g (omega (arith, e)) (omega (arith, l))))

  least : 3 ≤ period
  least = let more : 3 ≤ gate.time = law.drawn.long in omega (arith, long, more)

  -- after a period one use is the rule on the generation before
  one_more : (t n : ℕ) → suc n ≡ period → next_plane (used gate (row t) n) ≡ used gate (row t) period
  one_more t n e =
      sym (ap (λ d. injected d (next_plane (used gate (row t) n))) (unlit_late gate law.drawn (row t) (suc n) (omega (arith, e, long)))) ∙ ap (used gate (row t)) e

  next_begins : (t : ℕ) → Begins t → (g : ℕ) → g ≡ suc t * period + 0 → run g ≡ injected (lit_row (suc t) 0) (used gate (row t) period)
  next_begins t b zero e = let times : suc t * period ≡ t * period + period = omega arith in let more = least in absurd (omega (arith, e, more, times))
  next_begins t b (suc g) e =
      let more = least in
      let r = period - 2 in
      let times : suc t * period ≡ t * period + period = omega arith in
      let last : g ≡ t * period + suc r = omega (arith, e, more, times) in
      ap₂ injected (due_is (suc t) 0 (suc g) e some) (ap next_plane (within t b r g last (omega (arith, more))) ∙ one_more t (suc r) (omega (arith, more)))

  again : (t : ℕ) → Begins t → Begins (suc t)
  again t b = record {
    before = used gate (row t) period;
    calm = λ c. calm_after gate law.drawn (row t) (answers t).calm period long c;
    is = λ g e. next_begins t b g e;
  }

  begins : (t : ℕ) → Begins t
  begins zero = record {
    before = gate.plane;
    calm = λ c. inl refl;
    is = λ g e. (let none : g ≡ 0 = omega (arith, e) in ap run none ∙ ap (λ d. injected d gate.plane) (due_is 0 0 0 (omega arith) some));
  }
  begins (suc t) = again t (begins t)

  -- a port shows its bit in each cycle
  shows_at : (port : Port) (bit : ℕ → Bool) → port.1 < gate.time → ((t : ℕ) → ShowsOnce gate (row t) port (bit t)) → (t r : ℕ) → r < period → (cell_state (run (t * period + r)) port.0 ≡ Head) ↔ (is_lit period (signal_of port bit) (t * period + r) ≡ true)
  shows_at port bit early once t zero low =
      let b = begins t in
      let more : 3 ≤ gate.time = law.drawn.long in
      let now = once t 0 (omega (arith, more)) in (
        λ head. (let at = now.0 (same_head gate law.drawn (row t) b.before b.calm port.0 (sym (ap (λ p. cell_state p port.0) (b.is (t * period + 0) refl)) ∙ head)) in
            place_lit period port bit t 0 low at.0 at.1),
        λ lit. (let at = lit_place period port bit t 0 low (omega (arith, early, long)) lit in
            ap (λ p. cell_state p port.0) (b.is (t * period + 0) refl) ∙ head_same gate law.drawn (row t) b.before b.calm port.0 (now.1 at)),
      )
  shows_at port bit early once t (suc r) low =
      let is = within t (begins t) r (t * period + suc r) refl low in
      elim (cases_lt (suc r) gate.time) [
        | inl lt ↦ let now = once t (suc r) lt in (
          λ head. (let at = now.0 (sym (ap (λ p. cell_state p port.0) is) ∙ head) in place_lit period port bit t (suc r) low at.0 at.1),
          λ lit. ap (λ p. cell_state p port.0) is ∙ now.1 (lit_place period port bit t (suc r) low (omega (arith, early, long)) lit),
        )
        | inr ge ↦ (
          λ head. absurd (calm_dark gate law.drawn (used gate (row t) (suc r)) port.0 (calm_after gate law.drawn (row t) (answers t).calm (suc r) ge port.0) (sym (ap (λ p. cell_state p port.0) is) ∙ head)),
          λ lit. (let at : suc r ≡ port.1 = (lit_place period port bit t (suc r) low (omega (arith, early, long)) lit).0 in absurd (omega (arith, at, early, ge))),
        )
      ]

  shows : (port : Port) (bit : ℕ → Bool) → port.1 < gate.time → ((t : ℕ) → ShowsOnce gate (row t) port (bit t)) → (g : ℕ) → (cell_state (run g) port.0 ≡ Head) ↔ (is_lit period (signal_of port bit) g ≡ true)
  shows port bit early once g =
      subst (λ n. (cell_state (run n) port.0 ≡ Head) ↔ (is_lit period (signal_of port bit) n ≡ true)) (div-add-mod' g period) (shows_at port bit early once (g / period) (g % period) (mod-lt g some))

  -- within a cycle an input is ready as in one use
  ready_within : (port : Port) → Contains gate.ins port → (t r g : ℕ) → port.1 ≡ suc r → g ≡ t * period + r → IsReady (run g) port.0
  ready_within port among t zero g at e =
      let b = begins t in
      subst (λ p. IsReady p port.0) (sym (b.is g e)) (ready_same gate law.drawn (row t) b.before b.calm port among ((answers t).ready port among 0 at))
  ready_within port among t (suc r) g at e =
      let early : port.1 < gate.time = (law.drawn.ins port among).1 in
      subst (λ p. IsReady p port.0) (sym (within t (begins t) r g e (omega (arith, early, at, long)))) ((answers t).ready port among (suc r) at)

  -- and at the end of one if it is lit at generation 0
  ready_at_end : (port : Port) → Contains gate.ins port → port.1 ≡ 0 → (t g : ℕ) → suc g ≡ suc t * period → IsReady (run g) port.0
  ready_at_end port among at t g e =
      let more = least in
      let r = period - 2 in
      let times : suc t * period ≡ t * period + period = omega arith in
      let last : g ≡ t * period + suc r = omega (arith, e, more, times) in
      let is : run g ≡ used gate (row t) (suc r) = within t (begins t) r g last (omega (arith, more)) in
      subst (λ p. IsReady p port.0) (sym is)
      (elim (cases_eq period gate.time) [
        | inl same ↦ let stop : gate.time - 1 ≡ suc r = omega (arith, more, same) in subst (λ n. IsReady (used gate (row t) n) port.0) stop ((answers t).ready_again port among at)
        | inr other ↦ ready_calm gate law.drawn (used gate (row t) (suc r)) (λ c. calm_after gate law.drawn (row t) (answers t).calm (suc r) (omega (arith, more, other, long)) c) port among
      ])

  -- an input is ready one generation before it is lit
  ready : (port : Port) → Contains gate.ins port → (bit : ℕ → Bool) (g : ℕ) → is_lit period (signal_of port bit) (suc g) ≡ true → IsReady (run g) port.0
  ready port among bit g lit =
      let cycle = lit_in period (signal_of port bit) (suc g) lit in
      at port.1 cycle.0 refl cycle.1
    where
      at : (first u : ℕ) → port.1 ≡ first → suc g ≡ port.1 + u * period → IsReady (run g) port.0
      at (suc r) u is e = ready_within port among u r g is (omega (arith, e, is))
      at zero zero is e = absurd (omega (arith, e, is))
      at zero (suc t) is e = ready_at_end port among is t g (omega (arith, e, is))

  -- the ports, one by one
  record IsIn (s : Signal) : Type 0 where
    number : ℕ
    port : Port
    within_ins : number < length gate.ins
    has : slice_get gate.ins number ≡ Some port
    is : s ≡ signal_of port (λ t. bits t number)

  is_in : (s : Signal) → In s (signals_at gate.ins bits) → IsIn s
  is_in s i =
      let of = port_of_signal gate.ins bits s i in
      record { number = of.port; port = get_or gate.ins of.port no_port; within_ins = of.within; has = slice_get-get_or gate.ins of.port no_port of.within; is = of.is }

  record IsOut (s : Signal) : Type 0 where
    number : ℕ
    port : Port
    has : slice_get gate.outs number ≡ Some port
    is : s ≡ signal_of port (λ t. gate.answer (row t) number)

  is_out : (s : Signal) → In s (signals_at gate.outs (λ t. gate_answer gate (bits t))) → IsOut s
  is_out s i =
      let of = port_of_signal gate.outs (λ t. gate_answer gate (bits t)) s i in
      record { number = of.port; port = get_or gate.outs of.port no_port; has = slice_get-get_or gate.outs of.port no_port of.within; is = of.is }

  in_once : (i : ℕ) (port : Port) → i < length gate.ins → slice_get gate.ins i ≡ Some port → (t : ℕ) → ShowsOnce gate (row t) port (bits t i)
  in_once i port l has t = (answers t).ins i port (bits t i) has (front_bits-at (length gate.ins) (bits t) i l)

  got : {X : Type 0} (xs : List X) (k : ℕ) (x : X) → slice_get xs k ≡ Some x → Contains xs x
  got xs k x e = contains_from xs x (in_got xs k x e)

  Conductor≢Empty : Conductor ≢ Empty
  Conductor≢Empty e = grind arith

  abbrev ins : List Signal
  ins = signals_at gate.ins bits

  abbrev outs : List Signal
  outs = signals_at gate.outs (λ t. gate_answer gate (bits t))

  carried : CarriesSignals period gate.plane ins outs
  carried = record {
    drawn = λ s among. elim (in_parts ins outs s (in_from (ins ++ outs) s among)) [
      | inl i ↦ let k = is_in s i in λ e. Conductor≢Empty (sym (law.drawn.ins k.port (got gate.ins k.number k.port k.has)).0 ∙ sym (ap (λ (s : Signal). cell_state gate.plane s.cell) k.is) ∙ e)
      | inr o ↦ let k = is_out s o in λ e. Conductor≢Empty (sym (law.drawn.outs k.port (got gate.outs k.number k.port k.has)).0 ∙ sym (ap (λ (s : Signal). cell_state gate.plane s.cell) k.is) ∙ e)
    ];
    shows = λ s among g. elim (in_parts ins outs s (in_from (ins ++ outs) s among)) [
      | inl i ↦ let k = is_in s i in subst (λ (s : Signal). (cell_state (run g) s.cell ≡ Head) ↔ (is_lit period s g ≡ true)) (sym k.is) (shows k.port (λ t. bits t k.number) (law.drawn.ins k.port (got gate.ins k.number k.port k.has)).1 (in_once k.number k.port k.within_ins k.has) g)
      | inr o ↦ let k = is_out s o in subst (λ (s : Signal). (cell_state (run g) s.cell ≡ Head) ↔ (is_lit period s g ≡ true)) (sym k.is) (shows k.port (λ t. gate.answer (row t) k.number) (law.drawn.outs k.port (got gate.outs k.number k.port k.has)).1 (λ t. (answers t).outs k.number k.port k.has) g)
    ];
    ready = λ s among g lit. (let k = is_in s (in_from ins s among) in
        subst (λ (s : Signal). IsReady (run g) s.cell) (sym k.is) (ready k.port (got gate.ins k.number k.port k.has) (λ t. bits t k.number) g (ap (λ s. is_lit period s (suc g)) (sym k.is) ∙ lit)));
  }

pub gates_answer_each_row : GatesAnswerEachRow
gates_answer_each_row gate law period long bits = carried gate law period long bits

pub lawful_are_gates : LawfulAreGates
lawful_are_gates gate law period long = record { cells = law.drawn.cells; answers = gates_answer_each_row gate law period long }
