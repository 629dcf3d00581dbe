-- Parts for whose ports others stand, which are lit alike or begin cycles later.
use Rattle.std.proofs.Common.{ℕ, zero, suc, ◌+◌, ◌-◌, ◌*◌, ◌<◌, ◌≤◌, ◌≡◌, refl, sym, ap, ◌∙◌, subst, inl, inr, Bool, true, false, List, [], ◌∷◌, length, get_or, arith}
use Rattle.std.specs.Prelude.{Contains}
use Rattle.std.specs.Cmp.{both_ways}
use Rattle.std.proofs.Math.Path.{fun_ext}
use Rattle.std.proofs.lemmas.Bool.{cases_lt, true≢false}
use Rattle.std.proofs.lemmas.List.Elements.{Contains-append_right}
use Rattle.lists.proofs.Members.{in_from, contains_from}
use Rattle.gate_laws.specs.Signals.{Signal, is_lit}
use Rattle.gate_laws.specs.Rows.{Port, signal_of, signals_at, PartMeaning, IsCausalMeaning, row_of_both}
use Rattle.gate_laws.specs.Laws.{AreLitAlike, HasLitAlike}
use Rattle.gate_laws.specs.PortWires.{nth_port}
use Rattle.gate_laws.specs.PartTimes.{ArePortsLitAlike, PartsLitAlike, cycles_later, held_back, meaning_later, PartsBeginLater}
use Rattle.gate_laws.proofs.WireLit.{lit_in, in_lit}
use Rattle.gate_laws.proofs.Rows.{port_signal, no_port, port_of_signal, signal_of_port}
use Rattle.gate_laws.proofs.Alike.{signals_lit_alike}
use Rattle.gate_laws.proofs.Early.{both_first, both_rest, lit_same}

-- bits are the first of them, and those that follow
pub by_parts : (count : ℕ) (bit first : ℕ → Bool) (t : ℕ) → (t < count → bit t ≡ first t) → bit t ≡ row_of_both count first (λ u. bit (count + u)) t
by_parts count bit first t early =
    elim (cases_lt t count) [
      | inl lt ↦ early lt ∙ sym (both_first count first (λ u. bit (count + u)) t lt)
      | inr ge ↦
          let place : t ≡ count + (t - count) = omega arith in
          ap bit place ∙ sym (ap (row_of_both count first (λ u. bit (count + u))) place ∙ both_rest count first (λ u. bit (count + u)) (t - count))
    ]

-- what follows so many bits depends on what was so many cycles before
pub both_same : (count : ℕ) (first rest other : ℕ → Bool) (t : ℕ) → ((s : ℕ) → count + s ≤ t → rest s ≡ other s) → row_of_both count first rest t ≡ row_of_both count first other t
both_same zero first rest other t same = same t (omega arith)
both_same (suc count) first rest other zero same = refl
both_same (suc count) first rest other (suc t) same =
    both_same count (λ j. first (suc j)) rest other t (λ s le. same s (omega (arith, le)))

flipped : (period : ℕ) (ports others : List Port) (bits other_bits : ℕ → ℕ → Bool) → ArePortsLitAlike period ports others bits other_bits → ArePortsLitAlike period others ports other_bits bits
flipped period ports others bits other_bits same =
    record {
      count = sym same.count;
      alike = λ i l. (let a = same.alike i (omega (arith, l, same.count)) in record { cell = sym a.cell; lit = λ g. sym (a.lit g) });
    }

there : (period : ℕ) (ports others : List Port) (bits other_bits : ℕ → ℕ → Bool) → ArePortsLitAlike period ports others bits other_bits → (s : Signal) → Contains (signals_at ports bits) s → HasLitAlike period (signals_at others other_bits) s
there period ports others bits other_bits same s among =
    let of = port_of_signal ports bits s (in_from (signals_at ports bits) s among) in
    let l : of.port < length others = omega (arith, of.within, same.count) in
    let other = port_signal (get_or others of.port no_port) other_bits of.port in
    (other, contains_from (signals_at others other_bits) other (signal_of_port others other_bits of.port l), subst (λ r. AreLitAlike period r other) (sym of.is) (same.alike of.port of.within))

pub parts_lit_alike : PartsLitAlike
parts_lit_alike period p ins outs inputs outputs meaning second taken same_ins same_outs part bits =
    let old_ins = signals_at ins (taken bits) in
    let old_outs = signals_at outs (meaning (taken bits)) in
    signals_lit_alike period p old_ins old_outs (signals_at inputs bits) (signals_at outputs (second bits)) (there period ins inputs (taken bits) bits (same_ins bits)) (there period inputs ins bits (taken bits) (flipped period ins inputs (taken bits) bits (same_ins bits))) (λ s among. (let r = there period outputs outs (second bits) (meaning (taken bits)) (flipped period outs outputs (meaning (taken bits)) (second bits) (same_outs bits)) s among in (r.0, Contains-append_right old_ins old_outs r.0 r.1, r.2))) (part (taken bits))

module _ (period : ℕ) (some : 0 < period) (port : Port) (later : ℕ) (bit : ℕ → Bool) (g : ℕ) where
  abbrev held : Signal
  held = signal_of port (row_of_both later (λ u. false) bit)

  abbrev late : Signal
  late = signal_of (port.0, port.1 + later * period) bit

  to_held : is_lit period late g ≡ true → is_lit period held g ≡ true
  to_held lit =
      let c = lit_in period late g lit in
      let at : g ≡ port.1 + later * period + c.0 * period = c.1 in
      let time : g ≡ port.1 + (later + c.0) * period = omega (arith, at) in
      in_lit period held g (later + c.0) some time (both_rest later (λ u. false) bit c.0 ∙ c.2)

  to_late : is_lit period held g ≡ true → is_lit period late g ≡ true
  to_late lit =
      let c = lit_in period held g lit in
      elim (cases_lt c.0 later) [
        | inl lt ↦ absurd (true≢false (sym c.2 ∙ both_first later (λ u. false) bit c.0 lt))
        | inr ge ↦
            let s = c.0 - later in
            let cycle : later + s ≡ c.0 = omega arith in
            let at : g ≡ port.1 + (later + s) * period = c.1 ∙ ap (λ n. port.1 + n * period) (sym cycle) in
            let time : g ≡ port.1 + later * period + s * period = omega (arith, at) in
            in_lit period late g s some time (sym (both_rest later (λ u. false) bit s) ∙ ap (row_of_both later (λ u. false) bit) cycle ∙ c.2)
      ]

  -- a signal that begins later is lit as one whose bits are held back
  lit_held : is_lit period held g ≡ is_lit period late g
  lit_held = both_ways _ _ to_late to_held

length_later : (period : ℕ) (later : ℕ → ℕ) (ports : List Port) → length ports ≡ length (cycles_later period later ports)
length_later period later [] = refl
length_later period later (port ∷ ports) = ap suc (length_later period (λ i. later (suc i)) ports)

nth_later : (period : ℕ) (later : ℕ → ℕ) (ports : List Port) (i : ℕ) → i < length ports → nth_port (cycles_later period later ports) i ≡ ((nth_port ports i).0, (nth_port ports i).1 + later i * period)
nth_later period later [] i l = absurd (omega arith)
nth_later period later (port ∷ ports) zero l = refl
nth_later period later (port ∷ ports) (suc i) l = nth_later period (λ i. later (suc i)) ports i (omega arith)

module _ (period : ℕ) (some : 0 < period) where
  -- ports that begin later, and the same ports with bits that are held back
  alike_later : (later : ℕ → ℕ) (ports : List Port) (bits : ℕ → ℕ → Bool) → ArePortsLitAlike period ports (cycles_later period later ports) (held_back later bits) bits
  alike_later later ports bits =
      record {
        count = length_later period later ports;
        alike = λ i l. subst (λ port. AreLitAlike period (signal_of (nth_port ports i) (λ t. held_back later bits t i)) (signal_of port (λ t. bits t i))) (sym (nth_later period later ports i l)) (record { cell = refl; lit = lit_held period some (nth_port ports i) (later i) (λ t. bits t i) });
      }

  -- the bits that are left out are 0
  alike_without : (later : ℕ → ℕ) (ports : List Port) (bits : ℕ → ℕ → Bool) → ((t i : ℕ) → i < length ports → t < later i → bits t i ≡ false) → ArePortsLitAlike period ports (cycles_later period later ports) bits (λ t i. bits (later i + t) i)
  alike_without later ports bits dark =
      let held = alike_later later ports (λ t i. bits (later i + t) i) in
      record {
        count = held.count;
        alike = λ i l. (let a = held.alike i l in
            record {
              cell = a.cell;
              lit = λ g. lit_same period (nth_port ports i) (λ t. bits t i) (λ t. held_back later (λ t i. bits (later i + t) i) t i) g some (λ t when. by_parts (later i) (λ t. bits t i) (λ u. false) t (dark t i l)) ∙ a.lit g;
            });
      }

causal_later : (later outs_later : ℕ → ℕ) (meaning : PartMeaning) → ((i o : ℕ) → outs_later o ≤ later i) → IsCausalMeaning meaning → IsCausalMeaning (meaning_later later outs_later meaning)
causal_later later outs_later meaning less causal bits others t same =
    fun_ext (λ o. ap (λ row. row o) (causal (held_back later bits) (held_back later others) (outs_later o + t) (λ u le. fun_ext (λ i. both_same (later i) (λ v. false) (λ v. bits v i) (λ v. others v i) u (λ s early. ap (λ row. row i) (same s (omega (arith, less i o, le, early))))))))

pub parts_begin_later : PartsBeginLater
parts_begin_later period some p ins outs meaning later outs_later dark part = (
  parts_lit_alike period p ins outs (cycles_later period later ins) (cycles_later period outs_later outs) meaning (meaning_later later outs_later meaning) (held_back later) (alike_later period some later ins) (λ bits. alike_without period some outs_later outs (meaning (held_back later bits)) (dark bits)) part,
  causal_later later outs_later meaning,
)
