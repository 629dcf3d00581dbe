-- The injections of contexts are exactly their bits that are 1.
use Rattle.std.proofs.Common.{pos, ℕ, ◌≡◌, ◌<◌, ◌+◌, ◌*◌, refl, sym, ap, subst, ◌∙◌, Bool, true, false, List, [], ◌∷◌, ◌++◌, map, length, get_or, ⊎_elim, arith}
use Rattle.std.specs.List.{range_with_len}
use Rattle.std.proofs.lemmas.Bool.{true≢false, cases_lt}
use Rattle.std.proofs.lemmas.List.{map-append, get_or_past}
use Rattle.std.proofs.lemmas.List.FromFn.{get_or-range_with_len, length-range_with_len}
use Rattle.std.proofs.Math.ListN.{get_or-map}
use Rattle.lists.proofs.Members.{In, in_from, contains_from, in_map, in_mapped, in_flat, in_flattened}
use Rattle.ww_rule.specs.declared.pattern.Injection.{Injection}
use Rattle.ww_rule.specs.Injections.{due_of_list, injections_of_row, injections_from}
use Rattle.ww_rule.specs.Contexts.{context_row, IsBitOfContexts}
use Rattle.ww_rule.specs.Laws.{IsBitOfStreams}
use Rattle.ww_rule.proofs.Streams.{streams_injected}
use Rattle.ww_rule.proofs.Lists.{lists_are_injected}
use Rattle.ww_rule.proofs.Contexts.{contexts_are_injected}
use Rattle.pattern_reading.specs.declared.ports.Ports.{Ports}
use Rattle.pattern_reading.specs.Ports.{cells_of}
use Rattle.streams.specs.declared.streams.Streams.{Streams}
use Rattle.streams.specs.Rows.{contexts_of}
use Rattle.streams.proofs.Contexts.{contexts_long}
use Rattle.drive.specs.Driving.{cycle_rows, injections_of, due_by}

-- an injection so many generations later
abbrev later : ℕ → Injection → Injection
later h i = record { generation = h + i.generation; x = i.x; y = i.y }

row_later : (h k : ℕ) (cells : List (ℕ × ℕ)) (bits : List Bool) → injections_of_row (h + k) cells bits ≡ map (later h) (injections_of_row k cells bits)
row_later h k [] bits = refl
row_later h k (cell ∷ cells) [] = refl
row_later h k (cell ∷ cells) (false ∷ bits) = row_later h k cells bits
row_later h k (cell ∷ cells) (true ∷ bits) = ap (λ (is : List Injection). record { generation = h + k; x = cell.0; y = cell.1 } ∷ is) (row_later h k cells bits)

rows_later : (h k period : ℕ) (cells : List (ℕ × ℕ)) (rows : List (List Bool)) → injections_from (h + k) period cells rows ≡ map (later h) (injections_from k period cells rows)
rows_later h k period cells [] = refl
rows_later h k period cells (row ∷ rows) =
    let sum : h + k + period ≡ h + (k + period) = omega arith in
    ap (λ (is : List Injection). is ++ injections_from (h + k + period) period cells rows) (row_later h k cells row)
    ∙ ap (λ n. map (later h) (injections_of_row k cells row) ++ injections_from n period cells rows) sum
    ∙ ap (λ (is : List Injection). map (later h) (injections_of_row k cells row) ++ is) (rows_later h (k + period) period cells rows)
    ∙ sym (map-append (later h) (injections_of_row k cells row) (injections_from (k + period) period cells rows))

from_zero : (h period : ℕ) (cells : List (ℕ × ℕ)) (rows : List (List Bool)) → injections_from h period cells rows ≡ map (later h) (injections_from 0 period cells rows)
from_zero h period cells rows = ap (λ n. injections_from n period cells rows) (let e : h ≡ h + 0 = omega arith in e) ∙ rows_later h 0 period cells rows

-- a bit of rows, and the injection that it is at a generation
pub record IsBitAt (h : ℕ) (cells : List (ℕ × ℕ)) (rows : List (List Bool)) (i : Injection) : Type 0 where
  pub row : ℕ
  pub input : ℕ
  pub in_time : 32 * row + h ≡ i.generation
  pub in_cells : input < length cells
  pub one : get_or (get_or rows row []) input false ≡ true
  pub column : pos (get_or cells input (0, 0)).0 ≡ pos i.x
  pub line : pos (get_or cells input (0, 0)).1 ≡ pos i.y

bit_of : (h : ℕ) (cells : List (ℕ × ℕ)) (rows : List (List Bool)) (i : Injection) → In i (injections_from h 32 cells rows) → IsBitAt h cells rows i
bit_of h cells rows i is =
    let found = in_mapped (later h) (injections_from 0 32 cells rows) i (subst (In i) (from_zero h 32 cells rows) is) in
    let j = found.0 in
    let due = (lists_are_injected.exactly (injections_from 0 32 cells rows) j.generation (pos j.x) (pos j.y)).1
    (record { injection = j; is_in = contains_from (injections_from 0 32 cells rows) j found.1; in_time = refl; column = refl; row = refl }) in
    let bit : IsBitOfStreams 32 cells rows j.generation (pos j.x) (pos j.y) = (streams_injected 32 cells rows j.generation (pos j.x) (pos j.y)).0 due in
    let time = bit.in_time in
    let same : i.generation ≡ h + j.generation = ap (λ (i : Injection). i.generation) found.2 in
    record {
      row = bit.cycle;
      input = bit.input;
      in_time = omega (arith, time, same);
      in_cells = bit.in_cells;
      one = bit.one;
      column = bit.column ∙ sym (ap (λ (i : Injection). pos i.x) found.2);
      line = bit.line ∙ sym (ap (λ (i : Injection). pos i.y) found.2);
    }

abbrev injection_at : ℕ → ℕ → ℕ → Injection
injection_at g x y = record { generation = g; x = x; y = y }

same_injection : (g g' x x' y y' : ℕ) → g ≡ g' → pos x ≡ pos x' → pos y ≡ pos y' → injection_at g x y ≡ injection_at g' x' y'
same_injection g g' x x' y y' e f k =
    let f' : x ≡ x' = cc in
    let k' : y ≡ y' = cc in
    ap (λ n. injection_at n x y) e ∙ ap (λ n. injection_at g' n y) f' ∙ ap (λ n. injection_at g' x' n) k'

of_bit : (h : ℕ) (cells : List (ℕ × ℕ)) (rows : List (List Bool)) (i : Injection) → IsBitAt h cells rows i → In i (injections_from h 32 cells rows)
of_bit h cells rows i b =
    let g = b.row * 32 in
    let bit : IsBitOfStreams 32 cells rows g (pos i.x) (pos i.y) =
    record { cycle = b.row; input = b.input; in_time = refl; in_cells = b.in_cells; one = b.one; column = b.column; line = b.line } in
    let from = injections_from 0 32 cells rows in
    let found = (lists_are_injected.exactly from g (pos i.x) (pos i.y)).0 ((streams_injected 32 cells rows g (pos i.x) (pos i.y)).1 bit) in
    let j = found.injection in
    let time = b.in_time in
    let when = found.in_time in
    let same : later h j ≡ i = same_injection (h + j.generation) i.generation j.x i.x j.y i.y (omega (arith, time, when)) found.column found.row in
    subst (In i) (sym (from_zero h 32 cells rows)) (subst (λ (k : Injection). In k (map (later h) from)) same (in_map (later h) from j (in_from from j found.is_in)))

module _ (ports : Ports) (streams : Streams) where
  row_in : (context cycle : ℕ) → get_or (cycle_rows streams cycle) context [] ≡ context_row (contexts_of streams) context cycle
  row_in context cycle = get_or-map (λ (rows : List (List Bool)). get_or rows cycle []) (contexts_of streams) context []

  to : (i : Injection) → In i (injections_of ports streams) → IsBitOfContexts ports.p (cells_of ports.ins) (contexts_of streams) i.generation (pos i.x) (pos i.y)
  to i is =
      let found = in_flattened (λ (t : ℕ). injections_from (t * ports.p) 32 (cells_of ports.ins) (cycle_rows streams t)) (range_with_len 0 streams.cycles) i is in
      let bit = bit_of (found.0 * ports.p) (cells_of ports.ins) (cycle_rows streams found.0) i found.2 in
      let among : bit.row < length (contexts_of streams) =
      ⊎_elim (λ lt. lt) (λ ge. absurd (true≢false (sym bit.one ∙ ap (λ (row : List Bool). get_or row bit.input false) (row_in bit.row found.0 ∙ ap (λ (rows : List (List Bool)). get_or rows found.0 []) (get_or_past (contexts_of streams) bit.row [] ge)))))
      (cases_lt bit.row (length (contexts_of streams))) in
      record {
        context = bit.row;
        cycle = found.0;
        input = bit.input;
        in_contexts = among;
        in_time = bit.in_time;
        in_cells = bit.in_cells;
        one = ap (λ (row : List Bool). get_or row bit.input false) (sym (row_in bit.row found.0)) ∙ bit.one;
        column = bit.column;
        line = bit.line;
      }

  -- a bit is of one of the cycles
  in_cycles : (context cycle input : ℕ) → context < length (contexts_of streams) → get_or (context_row (contexts_of streams) context cycle) input false ≡ true → cycle < streams.cycles
  in_cycles context cycle input among one =
      let rows = get_or (contexts_of streams) context [] in
      let long : length rows ≡ streams.cycles = contexts_long streams context [] among in
      ⊎_elim (λ lt. lt) (λ ge. absurd (true≢false (sym one ∙ ap (λ (row : List Bool). get_or row input false) (get_or_past rows cycle [] (omega (arith, ge, long))))))
      (cases_lt cycle streams.cycles)

  from : (i : Injection) → IsBitOfContexts ports.p (cells_of ports.ins) (contexts_of streams) i.generation (pos i.x) (pos i.y) → In i (injections_of ports streams)
  from i b =
      let early = in_cycles b.context b.cycle b.input b.in_contexts b.one in
      let in_range : In b.cycle (range_with_len 0 streams.cycles) = in_from (range_with_len 0 streams.cycles) b.cycle
      (b.cycle, (let n = length-range_with_len 0 streams.cycles in omega (arith, early, n)), get_or-range_with_len 0 streams.cycles b.cycle b.cycle early ∙ (let e : 0 + b.cycle ≡ b.cycle = omega arith in e)) in
      in_flat (λ (t : ℕ). injections_from (t * ports.p) 32 (cells_of ports.ins) (cycle_rows streams t)) (range_with_len 0 streams.cycles) b.cycle i in_range
      (of_bit (b.cycle * ports.p) (cells_of ports.ins) (cycle_rows streams b.cycle) i
      (record {
        row = b.context;
        input = b.input;
        in_time = b.in_time;
        in_cells = b.in_cells;
        one = ap (λ (row : List Bool). get_or row b.input false) (row_in b.context b.cycle) ∙ b.one;
        column = b.column;
        line = b.line;
      }))

  -- so the list makes due what the contexts do
  pub list_is_due : due_of_list (injections_of ports streams) ≡ due_by ports streams
  list_is_due =
      let list = injections_of ports streams in
      contexts_are_injected.listed ports.p (cells_of ports.ins) (contexts_of streams) list
      (λ i. (λ (c : _). to i (in_from list i c), λ (b : _). contains_from list i (from i b)))
