-- Signals of rows of bits.
use Rattle.std.proofs.Common.{ℤ, pos, ℕ, zero, suc, ◌+◌, ◌*◌, ◌<◌, ◌≡◌, refl, sym, ap, ap₂, ◌∙◌, inl, inr, Bool, true, List, [], ◌∷◌, length, map, get_or, arith}
use Rattle.std.specs.Cmp.{both_ways}
use Rattle.std.proofs.Math.Path.{fun_ext}
use Rattle.std.proofs.lemmas.List.{length-map, get_or-map}
use Rattle.lists.proofs.Members.{In, in_from, contains_from}
use Rattle.lists.specs.Items.{flag_at, list_at}
use Rattle.ww_rule.specs.Injections.{due_of_streams}
use Rattle.ww_rule.proofs.Streams.{streams_injected}
use Rattle.gate_laws.specs.Signals.{Signal, is_lit, due_of_signals}
use Rattle.gate_laws.specs.Rows.{signals_at, signals_of_rows}
use Rattle.gate_laws.specs.Laws.{RowsAreSignals}
use Rattle.gate_laws.proofs.WireLit.{lit_in, in_lit}
use Rattle.gate_laws.proofs.Dues.{due_by_signal, signal_is_due, same_cell}

abbrev pub port_signal : (ℤ × ℤ) × ℕ → (ℕ → ℕ → Bool) → ℕ → Signal
port_signal port bits i = record { cell = port.0; first = port.1; bit = λ t. bits t i }

abbrev pub no_port : (ℤ × ℤ) × ℕ
no_port = ((pos 0, pos 0), 0)

pub record IsPortSignal (ports : List ((ℤ × ℤ) × ℕ)) (bits : ℕ → ℕ → Bool) (s : Signal) : Type 0 where
  pub port : ℕ
  pub within : port < length ports
  pub is : s ≡ port_signal (get_or ports port no_port) bits port

-- the signals of ports are those of each port
pub port_of_signal : (ports : List ((ℤ × ℤ) × ℕ)) (bits : ℕ → ℕ → Bool) (s : Signal) → In s (signals_at ports bits) → IsPortSignal ports bits s
port_of_signal [] bits s i = absurd i
port_of_signal (port ∷ ports) bits s (inl e) = record { port = 0; within = omega arith; is = e }
port_of_signal (port ∷ ports) bits s (inr i) =
    let rest = port_of_signal ports (λ t k. bits t (suc k)) s i in
    let l : rest.port < length ports = rest.within in
    record { port = suc rest.port; within = omega arith; is = rest.is }

pub signal_of_port : (ports : List ((ℤ × ℤ) × ℕ)) (bits : ℕ → ℕ → Bool) (i : ℕ) → i < length ports → In (port_signal (get_or ports i no_port) bits i) (signals_at ports bits)
signal_of_port [] bits i l = absurd (omega arith)
signal_of_port (port ∷ ports) bits zero l = inl refl
signal_of_port (port ∷ ports) bits (suc i) l = inr (signal_of_port ports (λ t k. bits t (suc k)) i (omega arith))

-- bits that are the same at the ports make the same signals
pub same_signals : (ports : List ((ℤ × ℤ) × ℕ)) (bits others : ℕ → ℕ → Bool) → ((t i : ℕ) → i < length ports → bits t i ≡ others t i) → signals_at ports bits ≡ signals_at ports others
same_signals [] bits others same = refl
same_signals (port ∷ ports) bits others same =
    ap₂ (λ bit rest. signal bit ∷ rest) (fun_ext here) (same_signals ports (λ t i. bits t (suc i)) (λ t i. others t (suc i)) (λ t i l. same t (suc i) (omega arith)))
  where
    here : (t : ℕ) → bits t 0 ≡ others t 0
    here t = same t 0 (omega arith)

    signal : (ℕ → Bool) → Signal
    signal bit = record { cell = port.0; first = port.1; bit = bit }

module _ (period : ℕ) (some : 0 < period) (cells : List (ℕ × ℕ)) (rows : List (List Bool)) where
  abbrev port_at : ℕ × ℕ → (ℤ × ℤ) × ℕ
  port_at cell = ((pos cell.0, pos cell.1), 0)

  abbrev row_bits : ℕ → ℕ → Bool
  row_bits t i = flag_at (list_at rows t) i

  port_is : (i : ℕ) → i < length cells → get_or (map port_at cells) i no_port ≡ port_at (get_or cells i (0, 0))
  port_is i l = get_or-map port_at cells i (0, 0) no_port l

  to_streams : (g : ℕ) (c : ℤ × ℤ) → due_of_signals period (signals_of_rows cells rows) g c.0 c.1 ≡ true → due_of_streams period cells rows g c.0 c.1 ≡ true
  to_streams g c e =
      let by = due_by_signal period (signals_of_rows cells rows) g c e in
      let of = port_of_signal (map port_at cells) row_bits by.0 (in_from (signals_of_rows cells rows) by.0 by.1) in
      let l : of.port < length cells = omega (arith, of.within, length-map cells port_at) in
      let is : by.0 ≡ port_signal (port_at (get_or cells of.port (0, 0))) row_bits of.port = of.is ∙ ap (λ p. port_signal p row_bits of.port) (port_is of.port l) in
      let lit : is_lit period (port_signal (port_at (get_or cells of.port (0, 0))) row_bits of.port) g ≡ true = ap (λ s. is_lit period s g) (sym is) ∙ by.2 in
      let cycle = lit_in period (port_signal (port_at (get_or cells of.port (0, 0))) row_bits of.port) g lit in
      let time : g ≡ 0 + cycle.0 * period = cycle.1 in
      let place : (pos (get_or cells of.port (0, 0)).0, pos (get_or cells of.port (0, 0)).1) ≡ c = ap (λ s. s.cell) (sym is) ∙ by.3 in
      (streams_injected period cells rows g c.0 c.1).1 (record { cycle = cycle.0; input = of.port; in_time = omega (arith, time); in_cells = l; one = cycle.2; column = ap (λ d. d.0) place; line = ap (λ d. d.1) place })

  from_streams : (g : ℕ) (c : ℤ × ℤ) → due_of_streams period cells rows g c.0 c.1 ≡ true → due_of_signals period (signals_of_rows cells rows) g c.0 c.1 ≡ true
  from_streams g c e =
      let bit = (streams_injected period cells rows g c.0 c.1).0 e in
      let l : bit.input < length (map port_at cells) = omega (arith, bit.in_cells, length-map cells port_at) in
      let s = port_signal (get_or (map port_at cells) bit.input no_port) row_bits bit.input in
      let is : s ≡ port_signal (port_at (get_or cells bit.input (0, 0))) row_bits bit.input = ap (λ p. port_signal p row_bits bit.input) (port_is bit.input bit.in_cells) in
      let time : g ≡ 0 + bit.cycle * period = omega (arith, bit.in_time) in
      let lit : is_lit period s g ≡ true = ap (λ s. is_lit period s g) is ∙ in_lit period (port_signal (port_at (get_or cells bit.input (0, 0))) row_bits bit.input) g bit.cycle some time bit.one in
      signal_is_due period (signals_of_rows cells rows) g c s (contains_from (signals_of_rows cells rows) s (signal_of_port (map port_at cells) row_bits bit.input l)) lit (ap (λ s. s.cell) is ∙ same_cell (pos (get_or cells bit.input (0, 0)).0, pos (get_or cells bit.input (0, 0)).1) c bit.column bit.line)

pub rows_are_signals : RowsAreSignals
rows_are_signals period some cells rows =
    fun_ext (λ g. fun_ext (λ x. fun_ext (λ y. both_ways _ _ (to_streams period some cells rows g (x, y)) (from_streams period some cells rows g (x, y)))))
