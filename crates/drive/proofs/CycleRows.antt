-- The rows of bits of a cycle, one for each context.
use Rattle.std.proofs.Common.{ℕ, ◌≡◌, ◌<◌, ◌*◌, sym, ap, ◌∙◌, Bool, false, List, [], map, take, drop, length, get_or, arith}
use Rattle.std.specs.Prelude.{slice_get, unwrap_or}
use Rattle.std.specs.List.{range_with_len}
use Rattle.std.proofs.Math.Path.{fun_ext}
use Rattle.std.proofs.lemmas.List.{take-map, drop-map, length-map}
use Rattle.std.proofs.lemmas.List.FromFn.{get_or-map-range_with_len}
use Rattle.std.proofs.lemmas.Simd.{map-map}
use Rattle.pattern_reading.specs.declared.ports.Ports.{Ports}
use Rattle.streams.specs.declared.streams.Streams.{Streams}
use Rattle.streams.specs.Rows.{bits_across, rows_of, stream_row, in_context, inputs_each, contexts_of}
use Rattle.streams.proofs.Contexts.{inputs_are, contexts_many}
use Rattle.drive.specs.Driving.{AreFor, cycle_rows}

module _ (ports : Ports) (streams : Streams) (are : AreFor ports streams) where
  -- each context has the inputs of the table
  each_has : inputs_each streams ≡ length ports.ins
  each_has = inputs_are streams (length ports.ins) (omega (arith, are.same, are.contexts)) (are.many ∙ ap (λ c. c * length ports.ins) (sym are.same))

  -- the rows of a cycle stand behind one another in its bits
  pub cycle_rows_are : (cycle : ℕ) → cycle < streams.cycles
      → cycle_rows streams cycle ≡ map (λ context. take (length ports.ins) (drop (context * length ports.ins) (bits_across streams.bits cycle))) (range_with_len 0 ports.c)
  cycle_rows_are cycle early =
      map-map (λ (rows : List (List Bool)). get_or rows cycle []) (λ (context : ℕ). rows_of (in_context streams context)) (range_with_len 0 streams.c)
      ∙ ap (λ (row : ℕ → List Bool). map row (range_with_len 0 streams.c)) (fun_ext row)
      ∙ ap (λ n. map (λ context. take (length ports.ins) (drop (context * length ports.ins) (bits_across streams.bits cycle))) (range_with_len 0 n)) are.same
    where
      bit : List Bool → Bool
      bit bits = unwrap_or (slice_get bits cycle) false

      row : (context : ℕ) → get_or (rows_of (in_context streams context)) cycle [] ≡ take (length ports.ins) (drop (context * length ports.ins) (bits_across streams.bits cycle))
      row context =
          get_or-map-range_with_len (stream_row (in_context streams context)) 0 streams.cycles cycle cycle [] early (omega arith)
          ∙ sym (take-map bit (inputs_each streams) (drop (context * inputs_each streams) streams.bits))
          ∙ ap (take (inputs_each streams)) (sym (drop-map bit (context * inputs_each streams) streams.bits))
          ∙ ap (λ n. take n (drop (context * n) (bits_across streams.bits cycle))) each_has

  -- as many as there are contexts
  pub many_rows : (cycle : ℕ) → length (cycle_rows streams cycle) ≡ ports.c
  many_rows cycle =
      length-map (contexts_of streams) (λ (rows : List (List Bool)). get_or rows cycle [])
      ∙ contexts_many streams
      ∙ are.same
