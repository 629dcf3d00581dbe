-- A run, cycle by cycle.
use Rattle.std.proofs.Common.{ℕ, zero, suc, ◌≡◌, ◌<◌, ◌≤◌, ◌+◌, ◌==◌, ◌⊎◌, inl, inr, refl, sym, ap, ap₂, ◌∙◌, subst, Bool, true, false, List, [], ◌∷◌, ◌++◌, length, map, arith}
use Rattle.std.specs.Prelude.{if◌then◌else◌, All}
use Rattle.std.specs.List.{range_with_len}
use Rattle.std.proofs.lemmas.List.{ext_get_or, length-map}
use Rattle.std.proofs.lemmas.List.FromFn.{map-range_with_len_more, length-map-range_with_len, get_or-map-range_with_len}
use Rattle.std.proofs.lemmas.Option.{slice_get_within, get_or_from_slice_get}
use Rattle.std.proofs.Math.Numerals.{add-one}
use Rattle.lists.proofs.Numbers.{less_or_last}
use Rattle.netlist_core.specs.declared.model.Design.{Design}
use Rattle.netlist_core.specs.declared.flat.Flat.{Flat}
use Rattle.netlist_meaning.specs.Valuation.{Valuation, LatchState, IsValuation, IsRun, start_state, latches_after, latches_in, output_bits}
use Rattle.netlist_meaning.specs.FlatValuation.{IsCycle, start_bits}
use Rattle.flat_designs.specs.Laws.{state_in_order}
use Rattle.flat_designs.proofs.Whole.{cycles_are_flat, ports_are_flat}
use Rattle.flat_designs.proofs.Valuations.{valuations_are_flat}
use Rattle.netlist_core.specs.Names.{Name}
use Rattle.netlist_meaning.specs.Places.{main_outputs}
use Rattle.netlist_meaning.specs.Flat.{name_of_net}
use Rattle.streams.proofs.Across.{columns_are, rows_long}
use Rattle.streams.specs.declared.streams.Streams.{Streams}
use Rattle.streams.specs.Rows.{bits_across, stream_row, rows_of}
use Rattle.netlist_text.specs.Parts.{AreParts}
use Rattle.netlist_run.specs.Runs.{bits_in_run, output_rows, Ran, ShowsRun}

pub same_on_range : {X : Type 0} (f g : ℕ → X) (n : ℕ) → ((t : ℕ) → t < n → f t ≡ g t) → map f (range_with_len 0 n) ≡ map g (range_with_len 0 n)
same_on_range f g n same =
    ext_get_or (f 0) _ _ (length-map-range_with_len f 0 n ∙ sym (length-map-range_with_len g 0 n))
    (λ i lt.
    let less : i < n = subst (λ (m : ℕ). i < m) (length-map-range_with_len f 0 n) lt in
    get_or-map-range_with_len f 0 n i i (f 0) less (omega arith) ∙ same i less ∙ sym (get_or-map-range_with_len g 0 n i i (f 0) less (omega arith)))

-- one more cycle
abbrev with_cycle : (ℕ → Valuation) → ℕ → Valuation → ℕ → Valuation
with_cycle run n bits t = if t == n then bits else run t

at_cycle : (run : ℕ → Valuation) (n : ℕ) (bits : Valuation) → with_cycle run n bits n ≡ bits
at_cycle run n bits = let e : (n == n) ≡ true = grind arith in rw (e) refl

before_cycle : (run : ℕ → Valuation) (n : ℕ) (bits : Valuation) (t : ℕ) → t < n → with_cycle run n bits t ≡ run t
before_cycle run n bits t less = let e : (t == n) ≡ false = grind (arith, less) in rw (e) refl

same_state : (design : Design) (start : LatchState) (run : ℕ → Valuation) (n : ℕ) (bits : Valuation) (t : ℕ) → t ≤ n → latches_in design start (with_cycle run n bits) t ≡ latches_in design start run t
same_state design start run n bits zero less = refl
same_state design start run n bits (suc t) less = ap (latches_after design) (before_cycle run n bits t (omega (arith, less)))

-- the state after the last cycle
next_state : (design : Design) (start : LatchState) (run : ℕ → Valuation) (n : ℕ) → latches_in design start run (n + 1) ≡ latches_after design (run n)
next_state design start run n = ap (latches_in design start run) (add-one n)

module _ (design : Design) (streams : Streams) (n : ℕ) (run : ℕ → Valuation) (bits : Valuation) where
  abbrev start : LatchState
  start = start_state design

  abbrev longer : ℕ → Valuation
  longer = with_cycle run n bits

  abbrev Holds : (ℕ → Valuation) → ℕ → Type 0
  Holds r t = IsValuation design (stream_row streams t) (latches_in design start r t) (r t)

  earlier : (t : ℕ) → t < n → Holds run t → Holds longer t
  earlier t less h =
      subst (λ (v : Valuation). IsValuation design (stream_row streams t) (latches_in design start longer t) v) (sym (before_cycle run n bits t less))
      (subst (λ (s : LatchState). IsValuation design (stream_row streams t) s (run t)) (sym (same_state design start run n bits t (omega (arith, less)))) h)

  last : IsValuation design (stream_row streams n) (latches_in design start run n) bits → Holds longer n
  last h =
      subst (λ (v : Valuation). IsValuation design (stream_row streams n) (latches_in design start longer n) v) (sym (at_cycle run n bits))
      (subst (λ (s : LatchState). IsValuation design (stream_row streams n) s bits) (sym (same_state design start run n bits n (omega arith))) h)

  all_hold : ((t : ℕ) → t < n → Holds run t) → IsValuation design (stream_row streams n) (latches_in design start run n) bits → (t : ℕ) → t < n + 1 → Holds longer t
  all_hold before h t less = by (less_or_last t n less)
    where
      by : (t < n) ⊎ (t ≡ n) → Holds longer t
      by (inl earlier_t) = earlier t earlier_t (before t earlier_t)
      by (inr e) = subst (Holds longer) (sym e) (last h)

pub one_more : (design : Design) (flat : Flat) (order : List ℕ) (streams : Streams) (n : ℕ) (rows : List (List Bool)) (inputs state outputs next : List Bool) → AreParts design flat order
    → inputs ≡ stream_row streams n → IsCycle flat inputs state outputs next → Ran design streams n rows state → Ran design streams (n + 1) (rows ++ outputs ∷ []) next
one_more design flat order streams n rows inputs state outputs next p is_row cycle ran =
    let start = start_state design in
    let found = cycles_are_flat design flat p.faultless p.clocks p.is_flat inputs outputs next (latches_in design start ran.run n) (subst (λ (s : List Bool). IsCycle flat inputs s outputs next) ran.state_is cycle) in
    let bits = found.0 in
    let run = with_cycle ran.run n bits in
    let here : IsValuation design (stream_row streams n) (latches_in design start ran.run n) bits = subst (λ (row : List Bool). IsValuation design row (latches_in design start ran.run n) bits) is_row found.1 in
    record {
      run = run;
      holds = all_hold design streams n ran.run bits ran.holds here;
      are_rows = ap₂ (λ (rs : List (List Bool)) (os : List Bool). rs ++ os ∷ []) (ran.are_rows ∙ same_on_range _ _ n (λ t less. ap (output_bits design) (sym (before_cycle ran.run n bits t less))))
          (found.2 ∙ ap (output_bits design) (sym (at_cycle ran.run n bits)))
          ∙ sym (map-range_with_len_more (λ t. output_bits design (run t)) 0 n n (omega arith));
      state_is = found.3 ∙ ap (state_in_order design) (ap (latches_after design) (sym (at_cycle ran.run n bits)) ∙ sym (next_state design start run n));
    }

-- no cycle
pub none_yet : (design : Design) (flat : Flat) (order : List ℕ) (streams : Streams) (state : List Bool) → AreParts design flat order → state ≡ start_bits flat → Ran design streams 0 [] state
none_yet design flat order streams state p is = record {
  run = λ t place name. false;
  holds = λ t less. absurd (omega (arith, less));
  are_rows = refl;
  state_is = is ∙ (valuations_are_flat design flat p.faultless p.clocks p.is_flat).starts;
}

-- all rows have a bit for each output
pub rows_are_long : (design : Design) (flat : Flat) (order : List ℕ) (streams : Streams) (cycles : ℕ) (rows : List (List Bool)) (state : List Bool) → AreParts design flat order
    → Ran design streams cycles rows state → All (λ row. length row ≡ length flat.outs) rows
rows_are_long design flat order streams cycles rows state p ran =
    let outs : length flat.outs ≡ length (main_outputs design) = sym (length-map flat.outs (λ port. name_of_net flat port.net)) ∙ ap (λ (names : List Name). length names) (ports_are_flat design flat p.faultless p.is_flat).outs in
    subst (λ (rs : List (List Bool)). All (λ row. length row ≡ length flat.outs) rs) (sym ran.are_rows)
    (λ k d lt. rows_long (λ name t. ran.run t [] name) (main_outputs design) (range_with_len 0 cycles) k d lt ∙ sym outs)

-- all cycles
pub all_run : (design : Design) (flat : Flat) (order : List ℕ) (streams : Streams) (rows shown : List (List Bool)) (state : List Bool) (n : ℕ) → AreParts design flat order
    → Ran design streams streams.cycles rows state → n ≡ length flat.outs → shown ≡ map (bits_across rows) (range_with_len 0 n) → ShowsRun design streams shown
all_run design flat order streams rows shown state n p ran many columns = record { run = ran.run; is_run = is_run; bits = bits }
  where
    bits : shown ≡ map (bits_in_run ran.run streams.cycles) (main_outputs design)
    bits =
        let outs : n ≡ length (main_outputs design) = many ∙ sym (length-map flat.outs (λ port. name_of_net flat port.net)) ∙ ap (λ (names : List Name). length names) (ports_are_flat design flat p.faultless p.is_flat).outs in
        columns
        ∙ ap₂ (λ (rs : List (List Bool)) (m : ℕ). map (bits_across rs) (range_with_len 0 m)) ran.are_rows outs
        ∙ columns_are (λ name t. ran.run t [] name) (main_outputs design) (range_with_len 0 streams.cycles)

    is_run : IsRun design (rows_of streams) ran.run
    is_run t row found =
        let given = rows_of streams in
        let less : t < streams.cycles = subst (λ (m : ℕ). t < m) (length-map-range_with_len (stream_row streams) 0 streams.cycles) (slice_get_within given t row found) in
        let same : stream_row streams t ≡ row = sym (get_or-map-range_with_len (stream_row streams) 0 streams.cycles t t [] less (omega arith)) ∙ get_or_from_slice_get given t row [] found in
        subst (λ (r : List Bool). IsValuation design r (latches_in design (start_state design) ran.run t) (ran.run t)) same (ran.holds t less)
